-- A page changed within its own bytes. Assumes nothing.
use Rattle.std.specs.Prelude.{◌≡◌, List, ◌++◌, ℕ, ◌≤◌, length, take, drop}
use Rattle.index_table.specs.Layout.{layout_of, Within, Ref, page_bytes, level_of, row_page, store}
use Rattle.index_table.specs.Pages.{pages_at}

-- A page whose bytes are its head, its entries and zeros.
pub record WholePage (e : ℕ) (b : List ℕ) (p : ℕ) : Type 0 where
  pub within : Within (layout_of e) b p
  pub few : length (pages_at (layout_of e) b p) ≤ e
  pub bytes : page_bytes (layout_of e) b p ≡ row_page e (level_of (page_bytes (layout_of e) b p)) (pages_at (layout_of e) b p)

-- The table with another row in page p, whose level stays.
abbrev pub with_row : ℕ → List ℕ → ℕ → List Ref → List ℕ
with_row e b p row = store (layout_of e) b p (row_page e (level_of (page_bytes (layout_of e) b p)) row)

-- A row without its entries from one place up to another.
abbrev pub without : {A : Type 0} → ℕ → ℕ → List A → List A
without from to xs = take from xs ++ drop to xs
