-- Level by level: each has fewer parts than the one below it. Assumes nothing.
use Rattle.table_plan.proofs.+plan_roots.Given as goal

abbrev pub decreases-plan_roots : goal.decreases-plan_roots
decreases-plan_roots l = l.parts.count
