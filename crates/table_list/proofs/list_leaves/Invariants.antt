-- Each turn visits one entry; a list that is over stops at once. Assumes nothing.
use Rattle.table_list.specs.Listings.{going}
use Rattle.table_list.proofs.RowWalks.{Walking}
use Rattle.table_list.proofs.list_leaves.Given as goal

abbrev pub invariant-loop-i : goal.invariant-loop-i
invariant-loop-i l = Walking l.index l.keys l.e 0 l.page.0 l.from l.a l.b (l.initial.out, going l.begun) (l.out, going l.written) l.i
