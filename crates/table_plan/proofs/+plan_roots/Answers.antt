-- Level by level: each has fewer parts than the one below it. Assumes nothing.
use borrow.Author.Rules.{rules}
use native.Mathlib.Omega.{arith}
use Rattle.table_plan.proofs.GrowingRoots.{roots_end, roots_fewer, roots_next, roots_small, roots_more}
use Rattle.table_plan.proofs.+plan_roots.Goals as goal

pub returns-then-parts-le1 : goal.returns-then-parts-le1
returns-then-parts-le1 t c = roots_end (search rules, search rules) c.requires c.if-parts-le1.true

pub plan_roots-above-requires : goal.plan_roots-above-requires
plan_roots-above-requires t c =
    let fewer = roots_fewer (search rules, search rules) c.requires c.if-parts-le1.false _ c.last_depths-up.ensures in
    (omega (arith, c.decreases), roots_next (search rules, search rules) c.requires c.if-parts-le1.false _ c.last_depths-up.ensures)

pub overflow_add-result : goal.overflow_add-result
overflow_add-result t c =
    let small = roots_small (search rules, search rules) c.requires c.if-parts-le1.false _ c.last_depths-up.ensures _ c.plan_roots-above.ensures in
    omega (arith, small)

pub returns : goal.returns
returns t c =
    roots_more (search rules, search rules) c.requires c.if-parts-le1.false _ c.last_depths-up.ensures _ c.plan_roots-above.ensures
