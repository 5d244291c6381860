-- From the root down, with the key's first position and no depth before, and then up. Assumes nothing.
use native.Mathlib.Omega.{arith}
use Rattle.table_plan.proofs.InsertionPlans.{root_plan, roots_plan, pages_small, outcome_end}
use Rattle.table_plan.proofs.plan_insertion.Goals as goal

pub plan_page-part-requires : goal.plan_page-part-requires
plan_page-part-requires c = root_plan c.requires _ c.next_position-position.ensures

pub plan_roots-above-requires : goal.plan_roots-above-requires
plan_roots-above-requires c =
    roots_plan c.requires _ c.next_position-position.ensures _ c.plan_page-part.ensures _ c.from.ensures

pub overflow_add-result : goal.overflow_add-result
overflow_add-result c =
    let small = pages_small c.requires _ c.next_position-position.ensures _ c.plan_page-part.ensures _ c.from.ensures _ c.plan_roots-above.ensures in
    omega (arith, small)

pub returns : goal.returns
returns c =
    outcome_end c.requires _ c.next_position-position.ensures _ c.plan_page-part.ensures _ c.from.ensures _ c.plan_roots-above.ensures
