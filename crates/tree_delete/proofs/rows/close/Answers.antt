-- The entries from w on are copied to the place i. Assumes nothing.
use borrow.Author.Rules.{rules}
use Rattle.tree_delete.proofs.RowChanges.{close_row}
use Rattle.tree_delete.proofs.rows.close.Goals as goal

pub returns : goal.returns
returns c = close_row _ _ _ c.requires.0 c.requires.1 c.requires.2 (search rules) c.copy_within.ensures.after c.copy_within-2.ensures.after
