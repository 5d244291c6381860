-- `page_tree::Row::push` meets its contract. Assumes nothing.
use mathlib.Core.Path.{refl}
use borrow.Author.Rules.{rules}
use Rattle.page_tree.proofs.RowLaws.{stored_behind}
use Rattle.page_tree.proofs.Row.push.Goals as goal

pub returns : goal.returns
returns c = record { count = refl; entries = stored_behind _ _ (search rules, search rules) _ _ _ c.requires }
