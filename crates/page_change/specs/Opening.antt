-- When room can be made in a page for more entries, and what it is then. Assumes nothing.
use Rattle.std.specs.Prelude.{◌≡◌, List, ℕ, suc, ◌+◌, ◌*◌, ◌≤◌, ◌<◌, length}
use Rattle.byte_moves.specs.Over.{over}
use Rattle.index_table.specs.Layout.{Within, layout_of, page_bytes, level_of, Ref, row_bytes, row_page, store}
use Rattle.index_table.specs.Pages.{pages_at}
use Rattle.index_table.specs.Soundness.{Cleared}
use Rattle.index_write.specs.Storing.{spliced_at}

-- A page whose unused entries are zero, with room for c entries in the place of one of its own.
pub record Openable (e : ℕ) (b : List ℕ) (p at c : ℕ) : Type 0 where
  pub within : Within (layout_of e) b p
  pub inside : at < length (pages_at (layout_of e) b p)
  pub some : 1 ≤ c
  pub room : length (pages_at (layout_of e) b p) + c ≤ suc e
  pub cleared : Cleared (layout_of e) (page_bytes (layout_of e) b p)

-- The page with room for them: once c entries are written there, it is the page with these in the place of entry `at`.
pub record Opened (e : ℕ) (b : List ℕ) (p at c : ℕ) (b' : List ℕ) (place : ℕ) : Type 0 where
  pub long : length b' ≡ length b
  pub inside : place + 3 * c ≤ length b
  pub filled : (row : List Ref) → length row ≡ c
      → over b' place (row_bytes 2 row) ≡ store (layout_of e) b p (row_page e (level_of (page_bytes (layout_of e) b p)) (spliced_at at row (pages_at (layout_of e) b p)))
