-- From piece to piece, and at the end of the chunk. Assumes nothing.
use Rattle.std.proofs.Common.{refl}
use Rattle.book_output.proofs.Pieces.{through_none, through_piece, pieces_end}
use Rattle.book_output.proofs.answer_pieces.Goals as goal

pub loop-p-init : goal.loop-p-init
loop-p-init g c = rw c.from-p.ensures (through_none c.requires, refl)

pub loop-p-preserved : goal.loop-p-preserved
loop-p-preserved g c = (through_piece c.loop-p.invariant.0 c.answer_chunk-p.ensures, c.into.ensures)

pub returns : goal.returns
returns g c = rw c.loop-p.invariant.1 (pieces_end c.loop-p.invariant.0 c.loop-p-test.false)
