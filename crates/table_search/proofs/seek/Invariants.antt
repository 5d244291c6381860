-- Two entries a turn; then one more, where it is not the last and is passed. Assumes nothing.
use mathlib.Core.Path.{◌≡◌}
use Prim.Native.Nat.{◌-◌}
use lib.ListN.{length}
use Rattle.index_table.specs.Layout.{layout_of}
use Rattle.index_table.specs.Pages.{pages_at}
use Rattle.table_search.proofs.PageSearches.{SeekingBy}
use Rattle.table_search.proofs.seek.Given as goal

abbrev pub invariant-loop-i : goal.invariant-loop-i
invariant-loop-i l = (l.n ≡ length (pages_at (layout_of l.e) l.index l.page.0)) × SeekingBy l.w l.key l.position (pages_at (layout_of l.e) l.index l.page.0) l.bits l.disc l.i

abbrev pub decreases-loop-i : goal.decreases-loop-i
decreases-loop-i l = l.n - l.i
