-- The dry run below a page: the depths of what will stand in its place, and how many pages that takes (01, rows 7 and 8). Assumes nothing.
use Rattle.std.specs.Prelude.{◌≡◌, List, map, ℕ, suc, ◌+◌, ◌*◌, ◌-◌, ◌≤◌, ◌<◌, length, get_or}
use Rattle.leaf_list.specs.Entries.{depth_of as entry_depth}
use Rattle.page_tree.specs.Row.{depth_of, row_of}
use Rattle.page_tree.specs.Rows.{Closed, last_depth, LastBelow}
use Rattle.page_tree.specs.Cutting.{parts}
use Rattle.page_tree.specs.Tree.{Node, depth}
use Rattle.page_tree.specs.Finding.{find_below}
use Rattle.page_tree.specs.OnPages.{insert_below, pages_below}
use Rattle.page_tree.specs.declared.Row.{Row}
use Rattle.index_table.specs.Layout.{Ref, Within, layout_of}
use Rattle.index_table.specs.Pages.{pages_at, node_at}
use Rattle.index_write.specs.Storing.{new_leaves}
use Rattle.table_search.specs.Places.{left_from, DescendPre}
use Rattle.table_plan.specs.declared.Plan.{Plan}

-- The row r has the last depth of each part of a row, 1 to 65 of them.
pub record LastDepths (e : ℕ) (row r : Row) : Type 0 where
  pub count : r.count ≡ length (parts depth_of e (row_of row))
  pub depths : map depth_of (row_of r) ≡ map (last_depth depth_of 0) (parts depth_of e (row_of row))
  pub some : 1 ≤ r.count
  pub few : r.count ≤ 65

-- A row that may stand in the place of entry at of a page: it ends in that entry's depth, which is below all its others. Its pages take below pages
-- more.
pub record PartsPre (b : List ℕ) (e page at : ℕ) (row : Row) (below : ℕ) : Type 0 where
  pub two : 2 ≤ e
  pub within : Within (layout_of e) b page
  pub few : length (pages_at (layout_of e) b page) ≤ e
  pub inside : at < length (pages_at (layout_of e) b page)
  pub some : 1 ≤ row.count
  pub room : row.count ≤ 65
  pub closed : Closed depth_of (get_or (pages_at (layout_of e) b page) at (0, 0)).0 (row_of row)
  pub page_closed : LastBelow depth_of (pages_at (layout_of e) b page)
  pub small : below ≤ 16384

-- The plan of a page whose row was: the last depths of its parts, and one page more for each part but the first.
pub record PartsPost (e : ℕ) (row : List Ref) (below : ℕ) (r : Plan) : Type 0 where
  pub count : r.row.count ≡ length (parts depth_of e row)
  pub depths : map depth_of (row_of r.row) ≡ map (last_depth depth_of 0) (parts depth_of e row)
  pub fresh : r.fresh ≡ below + (length (parts depth_of e row) - 1)

-- A page of the way down to the entry that the new entries replace; they end in its depth, which is below all their others.
pub record PlanPre (b : List ℕ) (e P n page w key position trail : ℕ) (news : Row) : Type 0 where
  pub place : DescendPre b e P n page w key position
  pub two : 2 ≤ e
  pub some : 1 ≤ news.count
  pub few : news.count ≤ suc w
  pub closed :
      Closed depth_of
      (entry_depth (find_below (suc n) (left_from w key position) trail (node_at 65535 (suc n) (pages_at (layout_of e) b) (0, page))).2)
      (row_of news)

module _ (b : List ℕ) (e n page w key position trail : ℕ) (news : Row) where
  -- What will stand in the place of the page,
  abbrev pub page_parts : List (Node (suc n))
  page_parts = insert_below e (new_leaves news) (suc n) (left_from w key position) trail (node_at 65535 (suc n) (pages_at (layout_of e) b) (0, page))

  -- and how many pages more that takes.
  abbrev pub fresh_pages : ℕ
  fresh_pages = pages_below e (new_leaves news) (suc n) (left_from w key position) trail (node_at 65535 (suc n) (pages_at (layout_of e) b) (0, page))

-- The plan of the page: the depths of what will stand in its place, 1 to 65 parts, and the pages more.
pub record PlanPost (b : List ℕ) (e n page w key position trail : ℕ) (news : Row) (r : Plan) : Type 0 where
  pub count : r.row.count ≡ length (page_parts b e n page w key position trail news)
  pub depths : map depth_of (row_of r.row) ≡ map (depth (suc n)) (page_parts b e n page w key position trail news)
  pub fresh : r.fresh ≡ fresh_pages b e n page w key position trail news
  pub some : 1 ≤ r.row.count
  pub few : r.row.count ≤ 65
  pub small : r.fresh ≤ 64 * suc n
