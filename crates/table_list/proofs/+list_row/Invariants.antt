-- All below each entry, one entry a turn; a page of level 0 has only its entries. Assumes nothing.
use Rattle.table_list.specs.Listings.{going}
use Rattle.table_list.proofs.RowWalks.{Walking}
use Rattle.table_list.proofs.+list_row.Given as goal

abbrev pub decreases-list_row : goal.decreases-list_row
decreases-list_row l = l.level

abbrev pub invariant-loop-i : goal.invariant-loop-i
invariant-loop-i l = Walking l.index l.keys l.e l.level l.page.0 l.from l.a l.b (l.initial.out, going l.begun) (l.out, going l.written) l.i
