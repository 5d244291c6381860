-- The page check and the child check: measures 2 * level + 1 and 2 * level. Assumes nothing.
use mathlib.Core.Path.{◌≡◌}
use Prim.Native.Nat.{◌+◌, ◌*◌}
use lib.ListN.{length}
use Rattle.leaf_check.proofs.RowTurns.{RowTurn}
use Rattle.table_check.proofs.pages.+child_ok_page_ok.Given as goal

abbrev pub decreases-child_ok : goal.decreases-child_ok
decreases-child_ok l = 2 * l.level

abbrev pub decreases-page_ok : goal.decreases-page_ok
decreases-page_ok l = 2 * l.level + 1

abbrev pub invariant-page_ok-loop-i : goal.invariant-page_ok-loop-i
invariant-page_ok-loop-i l = RowTurn l.h l.index.now l.keys.now l.used.now l.page.0 l.c l.level l.n l.initial.map l.initial.scan l.map l.scan l.i × (length l.map ≡ length l.initial.map)
