-- When a part of a row can be stored as a page, and a part of a page loaded into a row. Assumes nothing.
use Rattle.std.specs.Prelude.{List, ◌++◌, map, ℕ, suc, ◌+◌, ◌-◌, ◌≤◌, ◌<◌, length, take, drop}
use Rattle.page_tree.specs.Row.{row_of, part_of}
use Rattle.page_tree.specs.OnPages.{Replacement}
use Rattle.page_tree.specs.declared.Row.{Row}
use Rattle.index_table.specs.Layout.{Within, layout_of, Ref, Fitting}
use Rattle.index_table.specs.Pages.{pages_at, leaf_of}

pub record Storable (e : ℕ) (b : List ℕ) (p : ℕ) (row : Row) (from to : ℕ) : Type 0 where
  pub within : Within (layout_of e) b p
  pub order : from ≤ to
  pub places : to ≤ 319
  pub few : to - from ≤ e
  pub fitting : Fitting 2 (part_of row from to)

pub record Loadable (e : ℕ) (b : List ℕ) (p : ℕ) (row : Row) (from to : ℕ) : Type 0 where
  pub within : Within (layout_of e) b p
  pub few : length (pages_at (layout_of e) b p) ≤ e
  pub order : from ≤ to
  pub inside : to ≤ length (pages_at (layout_of e) b p)
  pub room : row.count + (to - from) ≤ 319

-- A list with others in the place of its element i.
abbrev pub spliced_at : {A : Type 0} → ℕ → List A → List A → List A
spliced_at i ys xs = take i xs ++ ys ++ drop (suc i) xs

pub record Spliceable (e : ℕ) (b : List ℕ) (p at : ℕ) (parts : Row) : Type 0 where
  pub within : Within (layout_of e) b p
  pub few : length (pages_at (layout_of e) b p) ≤ e
  pub inside : at < length (pages_at (layout_of e) b p)
  pub room : parts.count ≤ 65

-- A row of given entries.
abbrev pub row_with : List Ref → Row
row_with l = record { depths = map (λ (x : Ref). x.0) l; pointers = map (λ (x : Ref). x.1) l; count = length l }

-- The entries of a row in the place of the entry found, whichever it is.
abbrev pub new_leaves : Row → Replacement
new_leaves news bs τ x = map (leaf_of 65535) (row_of news)
