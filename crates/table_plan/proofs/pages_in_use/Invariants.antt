-- Each turn counts one page where it is in use. Assumes nothing.
use Rattle.std.proofs.Common.{◌≡◌, ◌≤◌}
use Rattle.index_table.specs.Layout.{layout_of}
use Rattle.index_table.specs.Pages.{pages_at, used_pages}
use Rattle.table_plan.proofs.pages_in_use.Given as goal

abbrev pub invariant-loop-i : goal.invariant-loop-i
invariant-loop-i l = (l.used ≤ l.i) × (l.used ≡ used_pages l.i (pages_at (layout_of l.e) l.index))
