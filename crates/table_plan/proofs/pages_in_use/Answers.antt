-- Each turn counts one page where it is in use. Assumes nothing.
use Rattle.std.proofs.Common.{arith}
use Rattle.table_plan.proofs.CountedPages.{used_none, used_more, used_same}
use Rattle.table_plan.proofs.pages_in_use.Goals as goal
use Rattle.table_plan.proofs.pages_in_use.Goals.{then-count-ne0, else-count-ne0}

pub loop-i-init : goal.loop-i-init
loop-i-init c = (omega arith, used_none _ _)

pub loop-i-preserved : goal.loop-i-preserved
loop-i-preserved c =
    elim c.if-count-ne0.branch [
      | then-count-ne0 w ↦ (omega arith, used_more _ _ _ _ _ _ c.loop-i.invariant.1 c.count.ensures w.if-count-ne0.true w.used-is)
      | else-count-ne0 w ↦ (omega arith, used_same _ _ _ _ _ _ c.loop-i.invariant.1 c.count.ensures w.if-count-ne0.false w.used-is)
    ]
