-- The loop's invariant: the first i bytes are moved. Assumes nothing.
use Prim.Native.Nat.{◌-◌}
use Rattle.byte_moves.proofs.MovedBytes.{Lowered}
use Rattle.byte_moves.proofs.move_down.Given as goal

abbrev pub invariant-loop-i : goal.invariant-loop-i
invariant-loop-i l = Lowered l.initial.index l.at l.from l.n l.i l.index

abbrev pub decreases-loop-i : goal.decreases-loop-i
decreases-loop-i l = l.n - l.i
