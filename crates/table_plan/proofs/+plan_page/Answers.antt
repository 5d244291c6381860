-- Level by level: the page is searched, and what will stand in the place of the entry found is planned first. Assumes nothing.
use native.Mathlib.Omega.{arith}
use Rattle.table_search.proofs.Descents.{descend_within, descend_seek, descend_inside}
use Rattle.table_plan.proofs.PlannedPages.{plan_parts_pre, plan_parts_post, below_leaf, plan_down, below_page}
use Rattle.table_plan.proofs.+plan_page.Goals as goal

pub seek-s-requires : goal.seek-s-requires
seek-s-requires t c = descend_seek c.requires.place

pub plan_parts-requires : goal.plan_parts-requires
plan_parts-requires t c =
    plan_parts_pre c.requires _ c.seek-s.ensures _ _ (below_leaf _ c.if-level-eq0.true c.requires _) (omega arith)

pub returns-then-level-eq0 : goal.returns-then-level-eq0
returns-then-level-eq0 t c =
    plan_parts_post c.requires _ c.seek-s.ensures _ _ (below_leaf _ c.if-level-eq0.true c.requires _) _ c.plan_parts.ensures

pub child-below-requires : goal.child-below-requires
child-below-requires t c =
    (descend_within c.requires.place, descend_inside c.requires.place _ c.seek-s.ensures)

pub plan_page-part-requires : goal.plan_page-part-requires
plan_page-part-requires t c =
    (omega (arith, c.decreases), plan_down _ c.if-level-eq0.false c.requires _ c.seek-s.ensures _ c.child-below.ensures)

pub plan_parts-requires-2 : goal.plan_parts-requires-2
plan_parts-requires-2 t c =
    plan_parts_pre c.requires _ c.seek-s.ensures _ _
    (below_page _ c.if-level-eq0.false c.requires _ c.seek-s.ensures _ c.child-below.ensures _ c.plan_page-part.ensures) (omega (arith, c.ranges.level))

pub returns : goal.returns
returns t c =
    plan_parts_post c.requires _ c.seek-s.ensures _ _
    (below_page _ c.if-level-eq0.false c.requires _ c.seek-s.ensures _ c.child-below.ensures _ c.plan_page-part.ensures) _ c.plan_parts-2.ensures
