-- Each turn takes the depth before the end of one part. Assumes nothing.
use Rattle.std.proofs.Common.{refl, sym, arith, rules}
use Rattle.table_plan.proofs.PartDepths.{end_inside, gathered_more, gathered_all}
use Rattle.table_plan.proofs.last_depths.Goals as goal

pub loop-to-init : goal.loop-to-init
loop-to-init c = (c.new-r.ensures.count, record { full = (search rules, search rules); depths = refl })

pub overflow_sub-r : goal.overflow_sub-r
overflow_sub-r c =
    (end_inside (search rules, search rules) c.requires.0 c.requires.1 (omega (arith, c.requires, c.ranges.e)) c.cuts-cuts.ensures _ c.loop-to-test.true).0

pub bounds-row-to : goal.bounds-row-to
bounds-row-to c =
    let inside = end_inside (search rules, search rules) c.requires.0 c.requires.1 (omega (arith, c.requires, c.ranges.e)) c.cuts-cuts.ensures _ c.loop-to-test.true in
    omega arith

pub loop-to-preserved : goal.loop-to-preserved
loop-to-preserved c =
    rw c.loop-to.invariant.0
    (refl, gathered_more (search rules, search rules) c.requires.0 c.requires.1 (omega (arith, c.requires, c.ranges.e)) c.cuts-cuts.ensures _ c.loop-to-test.true _ _ c.loop-to.invariant.1)

pub returns : goal.returns
returns c =
    gathered_all (search rules, search rules) c.requires.0 c.requires.1 (omega (arith, c.requires, c.ranges.e)) c.cuts-cuts.ensures _ (omega arith)
    (rw (sym c.loop-to.invariant.0) at c.loop-to.invariant.1)
