-- What an insertion will leave: the level of the root and the pages in use, which decide rows 8 and 7 of 01. Assumes nothing.
use Rattle.std.specs.Prelude.{◌≡◌, List, map, ℕ, suc, ◌+◌, ◌*◌, ◌^◌, ◌≤◌, ◌<◌}
use Rattle.leaf_list.specs.Keys.{bits}
use Rattle.leaf_list.specs.Entries.{depth_of as entry_depth}
use Rattle.leaf_list.specs.Search.{positions}
use Rattle.page_tree.specs.Row.{depth_of, row_of}
use Rattle.page_tree.specs.Rows.{Closed, LastBelow, sum}
use Rattle.page_tree.specs.Tree.{Node, depth, page_count, Tree, pages_of}
use Rattle.page_tree.specs.Finding.{find_in}
use Rattle.page_tree.specs.OnPages.{grown, insert_tree}
use Rattle.page_tree.specs.declared.Row.{Row}
use Rattle.index_table.specs.Layout.{layout_of}
use Rattle.index_table.specs.Pages.{pages_at, tree_at}
use Rattle.index_write.specs.Standing.{TreeTable}
use Rattle.index_write.specs.Storing.{new_leaves}
use Rattle.table_plan.specs.declared.Outcome.{Outcome}

-- The parts of a root of a level; their last depth is below all others.
pub record RootsPre (e level : ℕ) (row : Row) : Type 0 where
  pub two : 2 ≤ e
  pub some : 1 ≤ row.count
  pub few : row.count ≤ 65
  pub low : level + row.count ≤ 1000
  pub closed : LastBelow depth_of (row_of row)

-- The tree that grows above parts xs of a root, whichever they are.
pub record Grown (e level : ℕ) (xs : List (Node (suc level))) (r : Outcome) : Type 0 where
  pub level_is : r.level ≡ (grown e level xs).0
  pub pages : pages_of (grown e level xs) ≡ sum (page_count (suc level)) xs + r.fresh

-- So it is of all parts with the depths of the row.
pub record RootsPost (e level : ℕ) (row : Row) (r : Outcome) : Type 0 where
  pub grows : (xs : List (Node (suc level))) → map (depth (suc level)) xs ≡ map depth_of (row_of row) → Grown e level xs r
  pub high : r.level ≤ level + row.count
  pub small : r.fresh ≤ 65 * row.count

-- The tree of a table, below its root.
abbrev pub table_tree : List ℕ → ℕ → ℕ → ℕ → Tree
table_tree b e level root = tree_at 65535 (pages_at (layout_of e) b) level root

-- The tree after the insertion of the new entries.
abbrev pub tree_with : List ℕ → ℕ → ℕ → ℕ → ℕ → ℕ → Row → Tree
tree_with b e level root w key news = insert_tree e (new_leaves news) (positions 0 (bits w key)) (table_tree b e level root)

-- A key, and entries that may stand in the place of the one that figure 6 finds: they end in its depth, which is below all their others.
pub record OutcomePre (b : List ℕ) (e P level root w key : ℕ) (news : Row) : Type 0 where
  pub tree : TreeTable b e P level root w
  pub narrow : key < 2 ^ w
  pub some : 1 ≤ news.count
  pub few : news.count ≤ suc w
  pub closed : Closed depth_of (entry_depth (find_in (positions 0 (bits w key)) (table_tree b e level root)).2) (row_of news)

-- The level and the pages of the tree after the insertion.
pub record OutcomePost (b : List ℕ) (e level root w key : ℕ) (news : Row) (r : Outcome) : Type 0 where
  pub level_is : r.level ≡ (tree_with b e level root w key news).0
  pub pages : pages_of (table_tree b e level root) + r.fresh ≡ pages_of (tree_with b e level root w key news)
  pub high : r.level ≤ level + 65
  pub small : r.fresh ≤ 6000
