-- New roots above the parts of a cut root (01, "above a cut root comes a new root, itself cut while too long"). Assumes nothing.
use Rattle.std.specs.Prelude.{◌≡◌, List, [], ◌∷◌, map, ℕ, suc, ◌+◌, ◌≤◌, length}
use Rattle.page_tree.specs.Rows.{All, sum, last_depth, LastBelow}
use Rattle.page_tree.specs.Tree.{Node, page_count, pages_of}
use Rattle.page_tree.specs.OnPages.{grown}
use Rattle.page_tree.specs.Numbered.{grown_numbered}
use Rattle.page_tree.specs.Row.{depth_of, row_of}
use Rattle.page_tree.specs.declared.Row.{Row}
use Rattle.index_table.specs.Layout.{layout_of, Ref, page_start, Fitting}
use Rattle.index_table.specs.Pages.{Pages, pages_at, node_at, numbered_at, numbered_tree_at, met_all, in_use, used_pages}
use Rattle.index_table.specs.Soundness.{SoundBelow}
use Rattle.index_table.specs.declared.layout.Root.{Root}
use Rattle.index_write.specs.Standing.{Owned, Stands}

-- The pages that entries above level n point at.
abbrev pub roots_at : (n : ℕ) → Pages → List Ref → List (Node (suc n))
roots_at n pages row = map (node_at 65535 (suc n) pages) row

-- Sound pages of level n that stand for a root, and pages enough for what grows above them.
pub record GrowPre (e P n : ℕ) (b : List ℕ) (row : Row) : Type 0 where
  pub entries_low : 2 ≤ e
  pub table : page_start (layout_of e) P ≤ length b
  pub long : length (row_of row) ≡ row.count
  pub few : row.count ≤ 65
  pub fitting : Fitting 2 (row_of row)
  pub closed : LastBelow depth_of (row_of row)
  pub sound : All (SoundBelow (layout_of e) P (suc n) b) (row_of row)
  pub own : Owned (layout_of e) b (met_all (suc n) (pages_at (layout_of e) b) (row_of row))
  pub enough :
      used_pages P (pages_at (layout_of e) b) + pages_of (grown e n (roots_at n (pages_at (layout_of e) b) (row_of row)))
      ≤ P + sum (page_count (suc n)) (roots_at n (pages_at (layout_of e) b) (row_of row))
  pub low : (grown e n (roots_at n (pages_at (layout_of e) b) (row_of row))).0 ≤ 15

-- The root that stands above them.
pub record GrowPost (e P n : ℕ) (b : List ℕ) (row : List Ref) (b' : List ℕ) (r : Root) : Type 0 where
  pub stands : Stands (layout_of e) P (suc r.level) b (met_all (suc n) (pages_at (layout_of e) b) row) b' ((last_depth depth_of 0 row, r.page.0) ∷ [])
  pub more : (q : ℕ) → in_use (pages_at (layout_of e) b q) ≤ in_use (pages_at (layout_of e) b' q)
  pub fresh : ℕ → List ℕ
  pub free : (k : ℕ) → All (λ q. pages_at (layout_of e) b q ≡ []) (fresh k)
  pub tree :
      numbered_tree_at 65535 (pages_at (layout_of e) b') r.level r.page.0
      ≡ grown_numbered e fresh n (map (numbered_at 65535 (suc n) (pages_at (layout_of e) b)) row)
