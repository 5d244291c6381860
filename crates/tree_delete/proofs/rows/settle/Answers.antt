-- A row with entries is stored. Assumes nothing.
use borrow.Author.Rules.{rules}
use native.Mathlib.Omega.{arith}
use Rattle.page_tree.proofs.RowLaws.{length_row}
use Rattle.tree_delete.proofs.RowChanges.{settle_some}
use Rattle.tree_delete.proofs.rows.settle.Goals as goal

pub returns : goal.returns
returns c =
    settle_some _ _ _ _ _ _ _ c.if-n-eq0.false (length_row _ (search rules) (omega (arith, c.requires.few, c.ranges.e))) c.store_page.ensures c.depth.ensures c.from.ensures.0
