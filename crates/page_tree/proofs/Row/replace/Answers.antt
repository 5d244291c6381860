-- `page_tree::Row::replace` meets its contract. Assumes nothing.
use mathlib.Core.Path.{refl}
use Rattle.page_tree.proofs.RowLaws.{stored_in}
use Rattle.page_tree.proofs.Row.replace.Goals as goal

pub returns : goal.returns
returns c = record { count = refl; entries = stored_in _ _ _ _ _ _ c.requires.0 }
