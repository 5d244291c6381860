-- Rank by rank: an entry is passed with the row of the page below it, and a row entry by entry. Assumes nothing.
use Rattle.tree_delete.proofs.SweepTurns.{Sweeping}
use Prim.Native.Nat.{◌+◌, ◌*◌}
use Rattle.tree_delete.proofs.unwinding.+back_sweep.Given as goal

abbrev pub decreases-back : goal.decreases-back
decreases-back l = 2 * l.rank

abbrev pub decreases-sweep : goal.decreases-sweep
decreases-sweep l = 2 * l.rank + 1

abbrev pub invariant-sweep-loop-i : goal.invariant-sweep-loop-i
invariant-sweep-loop-i l = Sweeping l.e l.pages l.rank l.initial.index l.initial.row l.left l.right l.initial.state l.index l.row l.i l.at l.state
