-- The loop's invariant: the bytes from place i on are moved. Assumes nothing.
use Rattle.byte_moves.proofs.MovedBytes.{Raised}
use Rattle.byte_moves.proofs.move_up.Given as goal

abbrev pub invariant-loop-i : goal.invariant-loop-i
invariant-loop-i l = Raised l.initial.index l.to l.from l.n l.i l.index

abbrev pub decreases-loop-i : goal.decreases-loop-i
decreases-loop-i l = l.i
