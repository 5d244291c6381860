-- Rows 8 and 7, in this order, before any byte is changed. Assumes nothing.
use native.Mathlib.Omega.{arith}
use Rattle.index_change.proofs.Repaged.{root_inside, pages_inside, pages_counted, pages_fit, outcome_pre, row_eight_lem, row_seven_lem, row_neither}
use Rattle.index_change.proofs.late_row.Goals as goal

pub level-level-requires : goal.level-level-requires
level-level-requires c = root_inside c.requires.changeable _ c.read-h.ensures

pub plan_insertion-after-requires : goal.plan_insertion-after-requires
plan_insertion-after-requires c =
    outcome_pre c.requires.changeable _ c.read-h.ensures _ _ c.from.ensures c.level-level.ensures _ c.requires

pub returns-then-after-from : goal.returns-then-after-from
returns-then-after-from c =
    let read = c.read-h.ensures in
    row_eight_lem c.requires.changeable _ read _ _ c.from.ensures c.level-level.ensures _ c.requires _ c.plan_insertion-after.ensures (omega arith)

pub returns-then-after-eq0 : goal.returns-then-after-eq0
returns-then-after-eq0 c =
    let read = c.read-h.ensures in
    row_neither c.requires.changeable _ read _ _ c.from.ensures c.level-level.ensures _ c.requires _ c.plan_insertion-after.ensures (omega arith) (omega (arith, pages_fit c.requires.changeable _ read))

pub pages_in_use-n-requires : goal.pages_in_use-n-requires
pages_in_use-n-requires c =
    pages_inside c.requires.changeable _ c.read-h.ensures

pub overflow_add-n : goal.overflow_add-n
overflow_add-n c =
    omega (arith, c.pages_in_use-n.ensures, pages_counted c.requires.changeable _ c.read-h.ensures, pages_fit c.requires.changeable _ c.read-h.ensures, c.plan_insertion-after.ensures.small)

pub returns-then-n-after : goal.returns-then-n-after
returns-then-n-after c =
    let read = c.read-h.ensures in
    row_seven_lem c.requires.changeable _ read _ _ c.from.ensures c.level-level.ensures _ c.requires _ c.plan_insertion-after.ensures (omega arith) (omega (arith, c.pages_in_use-n.ensures, pages_counted c.requires.changeable _ read))

pub returns : goal.returns
returns c =
    let read = c.read-h.ensures in
    row_neither c.requires.changeable _ read _ _ c.from.ensures c.level-level.ensures _ c.requires _ c.plan_insertion-after.ensures (omega arith) (omega (arith, c.pages_in_use-n.ensures, pages_counted c.requires.changeable _ read))
