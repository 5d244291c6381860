-- New entries put into the pages of a sound tree (01, "Insertion changes the page of entry i"). Assumes nothing.
use Rattle.std.specs.Prelude.{◌≡◌, List, [], ℕ, suc, ◌^◌, ◌≤◌, ◌<◌, length, take}
use Rattle.leaf_list.specs.Keys.{bits}
use Rattle.leaf_list.specs.Entries.{depth_of as entry_depth}
use Rattle.leaf_list.specs.Search.{positions}
use Rattle.page_tree.specs.Rows.{All, Closed}
use Rattle.page_tree.specs.Tree.{pages_of}
use Rattle.page_tree.specs.Finding.{find_in}
use Rattle.page_tree.specs.OnPages.{insert_tree}
use Rattle.page_tree.specs.Numbered.{insert_numbered_tree}
use Rattle.page_tree.specs.Row.{row_of}
use Rattle.page_tree.specs.declared.Row.{Row}
use Rattle.index_table.specs.Layout.{layout_of, Ref, Fitting}
use Rattle.index_table.specs.Pages.{pages_at, tree_at, numbered_tree_at}
use Rattle.index_table.specs.Soundness.{SoundPages}
use Rattle.index_table.specs.declared.layout.Root.{Root}
use Rattle.index_write.specs.Standing.{TreeTable}
use Rattle.index_write.specs.Storing.{new_leaves}

-- New entries for a key, closed by the depth of the entry found; the tree with them stands at most on level 15, and its pages are there.
pub record PutPre (b : List ℕ) (e P level root w key : ℕ) (news : Row) : Type 0 where
  pub tree : TreeTable b e P level root w
  pub narrow : key < 2 ^ w
  pub some : 1 ≤ news.count
  pub few : news.count ≤ suc w
  pub fitting : Fitting 2 (row_of news)
  pub closed :
      Closed (λ (y : Ref). y.0) (entry_depth (find_in (positions 0 (bits w key)) (tree_at 65535 (pages_at (layout_of e) b) level root)).2) (row_of news)
  pub level_after : (insert_tree e (new_leaves news) (positions 0 (bits w key)) (tree_at 65535 (pages_at (layout_of e) b) level root)).0 ≤ 15
  pub pages_after : pages_of (insert_tree e (new_leaves news) (positions 0 (bits w key)) (tree_at 65535 (pages_at (layout_of e) b) level root)) ≤ P

-- The tree with the new entries; the first part of each page keeps the page's number, every other page was free.
pub record PutPost (b : List ℕ) (e P level root w key : ℕ) (news : Row) (b' : List ℕ) (r : Root) : Type 0 where
  pub long : length b' ≡ length b
  pub front : take 16 b' ≡ take 16 b
  pub pages : SoundPages (layout_of e) P b' r.level r.page.0
  pub fresh : ℕ → List ℕ
  pub free : (n : ℕ) → All (λ q. pages_at (layout_of e) b q ≡ []) (fresh n)
  pub tree :
      numbered_tree_at 65535 (pages_at (layout_of e) b') r.level r.page.0
      ≡ insert_numbered_tree e fresh (new_leaves news) (positions 0 (bits w key)) (numbered_tree_at 65535 (pages_at (layout_of e) b) level root)
