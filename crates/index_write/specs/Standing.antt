-- A tree of pages that may be changed, and entries that stand in the place of others after a change. Assumes nothing.
use Rattle.std.specs.Prelude.{◌≡◌, List, ℕ, ◌+◌, ◌≤◌, length, take}
use Rattle.leaf_list.specs.Depths.{LeafDepths}
use Rattle.page_tree.specs.Rows.{All}
use Rattle.page_tree.specs.Tree.{leaves_of}
use Rattle.index_table.specs.Layout.{Layout, layout_of, Ref, page_start, page_bytes}
use Rattle.index_table.specs.Pages.{pages_at, met_all, in_use, tree_at}
use Rattle.index_table.specs.Soundness.{SoundBelow, Cleared, SoundPages}

-- Sound pages of e entries, in a table of P pages, for keys of w bits.
pub record TreeTable (b : List ℕ) (e P level root w : ℕ) : Type 0 where
  pub entries_low : 2 ≤ e
  pub pages_high : P ≤ 65534
  pub table : length b ≡ page_start (layout_of e) P
  pub pages : SoundPages (layout_of e) P b level root
  pub depths : LeafDepths w (leaves_of (tree_at 65535 (pages_at (layout_of e) b) level root))
  pub width : w ≤ 64

-- The pages that f counts are in use, and f counts none twice.
abbrev pub Owned : Layout → List ℕ → (ℕ → ℕ) → Type 0
Owned L b f = (q : ℕ) → f q ≤ in_use (pages_at L b q)

-- In the table b' the row of entries of rank n stands in the place of the pages that old counts in b.
pub record Stands (L : Layout) (P n : ℕ) (b : List ℕ) (old : ℕ → ℕ) (b' : List ℕ) (row : List Ref) : Type 0 where
  pub long : length b' ≡ length b
  pub front : take L.front b' ≡ take L.front b
  -- Below the row stand pages of old and pages that were free; a page of old that is met no more is free.
  pub pages : (q : ℕ) → met_all n (pages_at L b') row q + in_use (pages_at L b q) ≡ old q + in_use (pages_at L b' q)
  -- Every other page keeps its bytes.
  pub same : (q : ℕ) → old q ≡ 0 → in_use (pages_at L b q) ≡ in_use (pages_at L b' q) → page_bytes L b' q ≡ page_bytes L b q
  pub cleared : (q : ℕ) → Cleared L (page_bytes L b q) → Cleared L (page_bytes L b' q)
  pub sound : All (SoundBelow L P n b') row
