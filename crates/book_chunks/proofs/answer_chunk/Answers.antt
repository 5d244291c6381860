-- From the first place on each line is answered, and the place goes on. Assumes nothing.
use Rattle.book_chunks.proofs.Passing.{going_none, going_turn, turn_ready, chunk_ends, chunk_full}
use Rattle.book_chunks.proofs.answer_chunk.Goals as goal

pub loop-p-init : goal.loop-p-init
loop-p-init c = going_none _ c.requires

pub answer_next-p-requires : goal.answer_next-p-requires
answer_next-p-requires c = turn_ready c.loop-p.invariant c.loop-p-test.true c.if-out-p-ge-ROOM.true

pub loop-p-preserved : goal.loop-p-preserved
loop-p-preserved c = going_turn c.loop-p.invariant c.answer_next-p.ensures

pub returns-else-out-p-ge-ROOM : goal.returns-else-out-p-ge-ROOM
returns-else-out-p-ge-ROOM c = chunk_full c.loop-p.invariant c.if-out-p-ge-ROOM.false

pub returns-after-loop-p : goal.returns-after-loop-p
returns-after-loop-p c = chunk_ends c.loop-p.invariant c.loop-p-test.false
