-- Rows that are shortened from the right, and pages that are stored or freed. Assumes nothing.
use Rattle.std.specs.Prelude.{◌≡◌, List, [], ◌∷◌, ◌++◌, ℕ, ◌+◌, ◌≤◌, ◌<◌, length, take, drop, replicate, Option}
use Rattle.page_tree.specs.Rows.{last_depth}
use Rattle.page_tree.specs.Row.{depth_of, row_of}
use Rattle.page_tree.specs.declared.Row.{Row}
use Rattle.index_table.specs.Layout.{Within, layout_of, page_size, Ref, Fitting, row_page, store}
use Rattle.page_tree.specs.declared.Entry.{Entry}
use Rattle.entry_delete.specs.Entries.{entries_of}

-- The entries before i and those from w on.
abbrev pub around : Row → ℕ → ℕ → List Ref
around row i w = take i (row_of row) ++ drop w (row_of row)

-- What is left of an entry stands before the entries from w on, now those from at on, and the entries before i are as they were.
pub record PutPost (row : Row) (w : ℕ) (x : Option Entry) (row' : Row) (at : ℕ) : Type 0 where
  pub count : row'.count ≡ row.count
  pub full : length (row_of row') ≡ length (row_of row)
  pub right : drop at (row_of row') ≡ entries_of x ++ drop w (row_of row)
  pub left : (i : ℕ) → i < w → take i (row_of row') ≡ take i (row_of row)
  pub least : w ≤ at + 1
  pub most : at ≤ w

-- The bytes of a page with a row, or of a free page.
abbrev pub settled_page : ℕ → ℕ → List Ref → List ℕ
settled_page e level [] = replicate (page_size (layout_of e)) 0
settled_page e level (x ∷ xs) = row_page e level (x ∷ xs)

-- The table with the page stored, or freed where nothing is left.
abbrev pub settled : ℕ → ℕ → List ℕ → ℕ → List Ref → List ℕ
settled e level b p row = store (layout_of e) b p (settled_page e level row)

-- The parent's entry: "an emptied page is freed and its parent entry removed; parent depths follow".
abbrev pub entry_for : ℕ → List Ref → List Ref
entry_for p [] = []
entry_for p (x ∷ xs) = (last_depth depth_of 0 (x ∷ xs), p) ∷ []

-- A row that a page can hold.
pub record SettlePre (e : ℕ) (b : List ℕ) (p : ℕ) (row : Row) : Type 0 where
  pub within : Within (layout_of e) b p
  pub few : row.count ≤ e
  pub fitting : Fitting 2 (row_of row)

-- What is left of the entry that points at the page.
pub record SettlePost (e level : ℕ) (b : List ℕ) (p : ℕ) (row : Row) (b' : List ℕ) (r : Option Entry) : Type 0 where
  pub bytes : b' ≡ settled e level b p (row_of row)
  pub entries : entries_of r ≡ entry_for p (row_of row)
