-- The loop's invariant: all pages before page i are in use. Assumes nothing.
use Rattle.std.proofs.Common.{◌≤◌}
use Rattle.index_table.specs.Layout.{layout_of}
use Rattle.index_table.specs.Pages.{pages_at, used_pages}
use Rattle.index_write.proofs.write.find_free.Given as goal

abbrev pub invariant-loop-i : goal.invariant-loop-i
invariant-loop-i l = (l.i ≤ l.pages) × (l.i ≤ used_pages l.i (pages_at (layout_of l.e) l.index))
