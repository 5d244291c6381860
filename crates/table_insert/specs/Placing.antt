-- The parts of a row stored in pages: the first in a page of one's own, the others in free pages. Assumes nothing.
use Rattle.std.specs.Prelude.{◌≡◌, List, [], ◌∷◌, map, ℕ, ◌+◌, ◌≤◌, ◌<◌, min, length, take}
use Rattle.page_tree.specs.Rows.{All, sum, last_depth, LastBelow}
use Rattle.page_tree.specs.Cutting.{parts}
use Rattle.page_tree.specs.Row.{depth_of, row_of, part_of}
use Rattle.page_tree.specs.declared.Row.{Row}
use Rattle.index_table.specs.Layout.{Layout, layout_of, Ref, page_start, page_bytes, level_of, Fitting, row_page, store}
use Rattle.index_table.specs.Pages.{pages_at, same, in_use, used_pages}
use Rattle.index_table.specs.Soundness.{Cleared}

-- Two lists, element by element.
abbrev pub Each : {A B : Type 0} → (A → B → Type 0) → List A → List B → Type 0
Each R [] [] = Unit {0}
Each R [] (y ∷ ys) = ⊥
Each R (x ∷ xs) [] = ⊥
Each R (x ∷ xs) (y ∷ ys) = R x y × Each R xs ys

-- The page that an entry points at is of level n, its row is the given one, and the entry has that row's last depth.
pub record Holding (L : Layout) (P n : ℕ) (b : List ℕ) (x : Ref) (row : List Ref) : Type 0 where
  pub number : x.1 < P
  pub level : level_of (page_bytes L b x.1) ≡ n
  pub refs : pages_at L b x.1 ≡ row
  pub some : 1 ≤ length row
  pub depth : x.0 ≡ last_depth depth_of 0 row

-- The own page, where it is in use.
abbrev pub owned : Layout → List ℕ → ℕ → ℕ → ℕ
owned L b own q = min (same own q) (in_use (pages_at L b q))

-- The rows stand in pages of level n, the first in the page own, the others in pages that were free.
pub record Placed (L : Layout) (P n : ℕ) (b : List ℕ) (own : ℕ) (b' : List ℕ) (refs : List Ref) (rows : List (List Ref)) : Type 0 where
  pub long : length b' ≡ length b
  pub front : take L.front b' ≡ take L.front b
  pub pages : (q : ℕ) → sum (λ (x : Ref). same x.1 q) refs + in_use (pages_at L b q) ≡ owned L b own q + in_use (pages_at L b' q)
  pub more : (q : ℕ) → in_use (pages_at L b q) ≤ in_use (pages_at L b' q)
  -- Every other page keeps its bytes.
  pub kept : (q : ℕ) → owned L b own q ≡ 0 → in_use (pages_at L b q) ≡ in_use (pages_at L b' q) → page_bytes L b' q ≡ page_bytes L b q
  pub cleared : (q : ℕ) → Cleared L (page_bytes L b q) → Cleared L (page_bytes L b' q)
  pub holds : Each (Holding L P n b') refs rows
  -- The numbers of the new pages.
  pub fresh : List ℕ
  pub numbers : map (λ (x : Ref). x.1) refs ≡ own ∷ fresh
  pub free : All (λ q. pages_at L b q ≡ []) fresh
  pub total : used_pages P (pages_at L b') + in_use (pages_at L b own) ≡ used_pages P (pages_at L b) + length rows

-- What placing a row asks: its last depth is below all others, the own page is among the P, and there are free pages for all parts but one.
pub record PlacePre (e P : ℕ) (b : List ℕ) (own : ℕ) (row : Row) : Type 0 where
  pub entries_low : 2 ≤ e
  pub table : page_start (layout_of e) P ≤ length b
  pub number : own < P
  pub some : 1 ≤ row.count
  pub small : row.count ≤ e + 64
  pub fitting : Fitting 2 (row_of row)
  pub closed : LastBelow depth_of (row_of row)
  pub enough : used_pages P (pages_at (layout_of e) b) + length (parts depth_of e (row_of row)) ≤ P + in_use (pages_at (layout_of e) b own)

-- The entries of the pages in which the parts of the row stand.
pub record PlacePost (e P n : ℕ) (b : List ℕ) (own : ℕ) (row : Row) (b' : List ℕ) (r : Row) : Type 0 where
  pub count : r.count ≡ length (parts depth_of e (row_of row))
  pub few : r.count ≤ 65
  pub placed : Placed (layout_of e) P n b own b' (row_of r) (parts depth_of e (row_of row))

-- One part is to be stored in a free page.
pub record PartPre (e P : ℕ) (b : List ℕ) (row : Row) (from to : ℕ) : Type 0 where
  pub table : page_start (layout_of e) P ≤ length b
  pub enough : used_pages P (pages_at (layout_of e) b) < P
  pub order : from < to
  pub places : to ≤ 319
  pub few : to ≤ from + e
  pub fitting : Fitting 2 (part_of row from to)

pub record PartPost (e P n : ℕ) (b : List ℕ) (row : Row) (from to : ℕ) (b' : List ℕ) (p : ℕ) : Type 0 where
  pub number : p < P
  pub free : length (pages_at (layout_of e) b p) ≡ 0
  pub stored : b' ≡ store (layout_of e) b p (row_page e n (part_of row from to))
