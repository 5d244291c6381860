-- One part where all fit, else the parts of the row with others in the place of an entry. Assumes nothing.
use borrow.Author.Rules.{rules}
use native.Mathlib.Omega.{arith}
use Rattle.table_plan.proofs.SplicedRows.{entry_some, one_part, can_cut, some_parts}
use Rattle.table_plan.proofs.plan_parts.Goals as goal

pub overflow_sub-n : goal.overflow_sub-n
overflow_sub-n c =
    entry_some (search rules, search rules) c.requires c.from-n.ensures c.count.ensures

pub returns-then-n-parts : goal.returns-then-n-parts
returns-then-n-parts c =
    one_part (search rules, search rules) c.requires c.from-n.ensures c.count.ensures
    (omega (arith, c.if-n-parts.true, c.from.ensures)) _ _ c.new.ensures _ c.depth-d.ensures c.push.ensures

pub last_depths-row-requires : goal.last_depths-row-requires
last_depths-row-requires c =
    can_cut (search rules, search rules) c.requires _ c.splice_page.ensures

pub returns : goal.returns
returns c =
    some_parts (search rules, search rules) c.requires _ c.splice_page.ensures _ c.last_depths-row.ensures
