-- New entries in the place of the entry that figure 6 finds: what stands in the place of an entry then. Assumes nothing.
use Rattle.std.specs.Prelude.{◌≡◌, List, [], map, ℕ, suc, ◌+◌, ◌≤◌, length}
use Rattle.leaf_list.specs.Entries.{depth_of as entry_depth}
use Rattle.page_tree.specs.Rows.{All, Closed, last_depth}
use Rattle.page_tree.specs.Finding.{find_below}
use Rattle.page_tree.specs.OnPages.{Replacement, pages_below}
use Rattle.page_tree.specs.Numbered.{insert_numbered}
use Rattle.page_tree.specs.Row.{depth_of, row_of}
use Rattle.page_tree.specs.declared.Row.{Row}
use Rattle.index_table.specs.Layout.{layout_of, Ref, Within, Fitting}
use Rattle.index_table.specs.Pages.{pages_at, node_at, numbered_at, met, in_use, used_pages}
use Rattle.index_write.specs.Standing.{Owned, Stands}
use Rattle.index_write.specs.Storing.{new_leaves}
use Rattle.table_search.specs.Places.{left_from, DescendPre}

-- The page as an entry, with the depth that closes it.
abbrev pub page_ref : ℕ → List ℕ → ℕ → Ref
page_ref e b page = (last_depth depth_of 0 (pages_at (layout_of e) b page), page)

-- The entries r stand in the place of the entry x of rank n, where the search came with the positions bs and the depth τ before.
pub record Replaced (e P : ℕ) (new : Replacement) (n : ℕ) (bs : List ℕ) (τ : ℕ) (b : List ℕ) (x : Ref) (b' : List ℕ) (r : Row) : Type 0 where
  pub stands : Stands (layout_of e) P n b (met n (pages_at (layout_of e) b) x) b' (row_of r)
  pub closed : Closed depth_of x.0 (row_of r)
  pub fitting : Fitting 2 (row_of r)
  pub long : length (row_of r) ≡ r.count
  pub few : r.count ≤ 65
  -- No page is freed.
  pub more : (q : ℕ) → in_use (pages_at (layout_of e) b q) ≤ in_use (pages_at (layout_of e) b' q)
  pub total : used_pages P (pages_at (layout_of e) b') ≡ used_pages P (pages_at (layout_of e) b) + pages_below e new n bs τ (node_at 65535 n (pages_at (layout_of e) b) x)
  -- The numbers of the new pages, by level.
  pub fresh : ℕ → List ℕ
  pub free : (k : ℕ) → All (λ q. pages_at (layout_of e) b q ≡ []) (fresh k)
  pub numbers : map (numbered_at 65535 n (pages_at (layout_of e) b')) (row_of r) ≡ insert_numbered e fresh new n bs τ (numbered_at 65535 n (pages_at (layout_of e) b) x)

-- A page in use within the bytes.
pub record AlonePre (e : ℕ) (b : List ℕ) (page : ℕ) : Type 0 where
  pub within : Within (layout_of e) b page
  pub some : 1 ≤ length (pages_at (layout_of e) b page)
  pub few : length (pages_at (layout_of e) b page) ≤ e

-- A page of level n of a sound tree, new entries that close as the entry found does, and pages enough.
pub record InsertPre (b : List ℕ) (e P n page w key position τ : ℕ) (news : Row) : Type 0 where
  pub entries_low : 2 ≤ e
  pub descend : DescendPre b e P n page w key position
  pub own : Owned (layout_of e) b (met (suc n) (pages_at (layout_of e) b) (0, page))
  pub long : length (row_of news) ≡ news.count
  pub few : news.count ≤ 65
  pub fitting : Fitting 2 (row_of news)
  pub closed : Closed depth_of (entry_depth (find_below (suc n) (left_from w key position) τ (node_at 65535 (suc n) (pages_at (layout_of e) b) (0, page))).2) (row_of news)
  pub enough : used_pages P (pages_at (layout_of e) b) + pages_below e (new_leaves news) (suc n) (left_from w key position) τ (node_at 65535 (suc n) (pages_at (layout_of e) b) (0, page)) ≤ P
