-- Entries that are kept while pages below them are shortened: what the bytes alone say of them, and what stands in their place. Assumes nothing.
use Rattle.std.specs.Prelude.{◌≡◌, List, map, ℕ, zero, suc, ◌+◌, ◌≤◌, ◌<◌, length, take}
use Rattle.page_tree.specs.Rows.{All, last_depth}
use Rattle.page_tree.specs.Row.{depth_of}
use Rattle.page_tree.specs.Numbered.{Numbered}
use Rattle.index_table.specs.Layout.{Layout, layout_of, Ref, page_start, page_bytes}
use Rattle.index_table.specs.Pages.{Pages, pages_at, numbered_at, met_all, in_use}
use Rattle.index_table.specs.Soundness.{SizedPage, Cleared}

-- What a row of entries of rank n stands for.
abbrev pub numbers_at : (n : ℕ) → Pages → List Ref → List (Numbered n)
numbers_at n pages row = map (numbered_at 65535 n pages) row

-- The pages below an entry have the right levels and sizes, and "for every parent entry the depth equals the last depth of its child";
-- nothing is said of the order of depths in a page. A pointer on level 0 fits its two bytes.
abbrev pub Linked : Layout → ℕ → (n : ℕ) → List ℕ → Ref → Type 0
Linked L P zero b x = x.1 < 65536
Linked L P (suc n) b x = SizedPage L P n b x.1 × (x.0 ≡ last_depth depth_of 0 (pages_at L b x.1)) × All (Linked L P n b) (pages_at L b x.1)

-- The bytes are a header and P pages of e entries.
pub record Paged (e P : ℕ) (b : List ℕ) : Type 0 where
  pub table : length b ≡ page_start (layout_of e) P
  pub high : P ≤ 65534

-- In the table b' the row of entries of rank n stands for the pages that old counts in b: only these are changed, and none is taken.
pub record Kept (L : Layout) (P n : ℕ) (b : List ℕ) (old : ℕ → ℕ) (b' : List ℕ) (row : List Ref) : Type 0 where
  pub long : length b' ≡ length b
  pub front : take L.front b' ≡ take L.front b
  -- A page of old that is met no more is free.
  pub pages : (q : ℕ) → met_all n (pages_at L b') row q + in_use (pages_at L b q) ≡ old q + in_use (pages_at L b' q)
  pub same : (q : ℕ) → old q ≡ 0 → page_bytes L b' q ≡ page_bytes L b q
  pub cleared : (q : ℕ) → Cleared L (page_bytes L b q) → Cleared L (page_bytes L b' q)
  pub linked : All (Linked L P n b') row
