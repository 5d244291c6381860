-- `page_tree::Row::depth` meets its contract. Assumes nothing.
use mathlib.Core.Path.{sym, ap}
use borrow.Author.Rules.{rules}
use native.Mathlib.Omega.{arith}
use Rattle.page_tree.specs.Row.{Pair}
use Rattle.page_tree.proofs.RowLaws.{entry_at}
use Rattle.page_tree.proofs.Row.depth.Goals as goal

pub returns : goal.returns
returns c = sym (ap (λ (x : Pair). x.0) (entry_at _ _ (search rules, search rules) _ (omega arith) _ c.requires.0))
