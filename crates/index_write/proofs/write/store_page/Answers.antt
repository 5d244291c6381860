-- The page's head, its row, and zeros behind it. Assumes nothing.
use mathlib.Core.Path.{◌∙◌}
use native.Mathlib.Omega.{arith}
use lib.ListN.{length-set}
use Rattle.index_write.proofs.RowWriting.{length_part, page_over}
use borrow.Author.Rules.{rules}
use Rattle.index_write.proofs.write.store_page.Goals as goal

pub bounds-index-at-2 : goal.bounds-index-at-2
bounds-index-at-2 c = simp length-set (omega arith)

pub write_row-requires : goal.write_row-requires
write_row-requires c = simp length-set (omega arith, c.requires.order, c.requires.places, c.requires.fitting)

pub clear-requires : goal.clear-requires
clear-requires c = omega (arith, simp length-set at c.write_row.auto.index)

pub shape_of-index : goal.shape_of-index
shape_of-index c = c.clear.auto.index ∙ c.write_row.auto.index ∙ simp length-set

pub returns : goal.returns
returns c = rw (← c.page_start-at.ensures) (page_over _ _ _ _ _ _ _ _ (length_part _ _ (search rules, search rules) _ _ c.requires.places) c.requires.few c.write_row.ensures (rw c.from.ensures at c.clear.ensures))
