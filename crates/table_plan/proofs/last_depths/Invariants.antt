-- Each turn takes the depth before the end of one part. Assumes nothing.
use Rattle.std.proofs.Common.{◌≡◌}
use Rattle.table_plan.proofs.PartDepths.{Gathered}
use Rattle.table_plan.proofs.last_depths.Given as goal

abbrev pub invariant-loop-to : goal.invariant-loop-to
invariant-loop-to l = (l.r.count ≡ l.to-index) × Gathered l.e l.row l.to-index l.r.depths l.r.pointers
