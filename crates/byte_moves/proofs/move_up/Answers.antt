-- The loop's invariant: the bytes from place i on are moved. Assumes nothing.
use native.Mathlib.Omega.{arith}
use Rattle.byte_moves.proofs.MovedBytes.{raised_none, raised_more, raised_all}
use Rattle.byte_moves.proofs.move_up.Goals as goal

pub loop-i-init : goal.loop-i-init
loop-i-init c = raised_none _ _ _ _ (omega arith)

pub loop-i-preserved : goal.loop-i-preserved
loop-i-preserved c =
    raised_more c.args.index.now _ c.args.from c.args.n (omega arith) (omega arith) 32 c.loop-i.invariant (omega arith) c.move_part.ensures

pub returns : goal.returns
returns c =
    raised_all c.args.index.now _ c.args.from c.args.n (omega arith) 32 c.loop-i.invariant (omega arith) (omega arith) c.load-first_bytes.ensures c.store.ensures
