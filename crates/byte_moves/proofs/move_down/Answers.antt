-- The loop's invariant: the first i bytes are moved. Assumes nothing.
use native.Mathlib.Omega.{arith}
use Rattle.byte_moves.proofs.MovedBytes.{lowered_none, lowered_more, lowered_all}
use Rattle.byte_moves.proofs.move_down.Goals as goal

pub loop-i-init : goal.loop-i-init
loop-i-init c = lowered_none _ _ _ _ (omega arith)

pub loop-i-preserved : goal.loop-i-preserved
loop-i-preserved c =
    lowered_more c.args.index.now c.args.at c.args.from c.args.n c.requires.1 c.requires.0 32 c.loop-i.invariant (omega arith) c.move_part.ensures

pub returns : goal.returns
returns c =
    lowered_all c.args.index.now c.args.at c.args.from c.args.n c.requires.1 32 c.loop-i.invariant (omega arith) (omega arith) c.load-last_bytes.ensures c.store.ensures
