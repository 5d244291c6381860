-- The entry is kept in the place before the entries that are done. Assumes nothing.
use borrow.Author.Rules.{rules}
use Rattle.tree_delete.proofs.RowChanges.{put_one}
use Rattle.tree_delete.proofs.rows.put.Goals as goal

pub returns : goal.returns
returns c = put_one _ _ _ c.in-Some.is c.requires.0 c.requires.1 c.requires.2 (search rules)
