-- `page_tree::Row::append` meets its contract. Assumes nothing.
use borrow.Author.Rules.{rules}
use native.Mathlib.Omega.{arith}
use Rattle.page_tree.proofs.RowLaws.{appended_none, appended_more, appended_all}
use Rattle.page_tree.proofs.Row.append.Goals as goal

pub loop-i-init : goal.loop-i-init
loop-i-init c = (c.requires.0, c.requires.1, c.requires.2, appended_none _ _ _ _ _ (search rules, search rules))

pub loop-i-preserved : goal.loop-i-preserved
loop-i-preserved c =
    let more = appended_more _ _ (search rules, search rules) (omega arith) (omega arith) c.loop-i.invariant.3 in
    (omega arith, omega arith, omega arith, more)

pub returns : goal.returns
returns c =
    let all = appended_all c.loop-i.invariant.0 (omega arith) c.loop-i.invariant.3 in
    record { count = all.0; entries = all.1 }
