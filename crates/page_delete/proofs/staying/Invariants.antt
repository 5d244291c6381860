-- The loop's invariant: the entries from i on go. Assumes nothing.
use Rattle.index_table.specs.Layout.{layout_of}
use Rattle.index_table.specs.Pages.{pages_at}
use Rattle.page_delete.proofs.StayingEntries.{Going}
use Rattle.page_delete.proofs.staying.Given as goal

abbrev pub invariant-loop-i : goal.invariant-loop-i
invariant-loop-i l = Going (pages_at (layout_of l.e) l.index l.page.0) l.n l.than l.i
