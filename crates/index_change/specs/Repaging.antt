-- The pages of sound tables changed, and the header's root and records held with them. Assumes nothing.
use Rattle.std.specs.Prelude.{◌≡◌, Bool, false, cond, List, [], ℕ, suc, ◌+◌, ◌^◌, ◌≤◌, ◌<◌, leb, ltb, length, take}
use Rattle.leaf_list.specs.Keys.{bits}
use Rattle.leaf_list.specs.Search.{positions}
use Rattle.leaf_list.specs.Depths.{LeafDepths}
use Rattle.leaf_list.proofs.Depths.{Neighbours}
use Rattle.leaf_list.specs.Entries.{depth_of}
use Rattle.page_tree.specs.Row.{row_of}
use Rattle.page_tree.specs.Rows.{All, Closed}
use Rattle.page_tree.specs.Finding.{Found, find_in}
use Rattle.page_tree.specs.Tree.{Tree, leaves_of, pages_of as tree_pages}
use Rattle.page_tree.specs.OnPages.{insert_tree}
use Rattle.page_tree.specs.OffPages.{off_tree}
use Rattle.page_tree.specs.Numbered.{NumberedTree, insert_numbered_tree}
use Rattle.page_tree.specs.declared.Row.{Row}
use Rattle.index_table.specs.Layout.{layout_of, page_bytes, level_of, Ref, Fitting, row_page, store}
use Rattle.index_table.specs.Header.{width_of, entries_of, pages_of, root_of, held_of, with_root, with_held}
use Rattle.index_table.specs.Pages.{pages_at, numbered_tree_at}
use Rattle.index_table.specs.Soundness.{SoundPages, root_level, tree_of, numbered_tree_of, leaf_entries}
use Rattle.index_write.specs.Standing.{TreeTable}
use Rattle.index_write.specs.Storing.{new_leaves, spliced_at}
use Rattle.page_change.specs.Opening.{Openable}
use Rattle.table_search.specs.declared.Leaf.{Leaf}
use Rattle.table_search.specs.Places.{NextPosition, Way}
use Rattle.new_entries.specs.declared.entries.News.{News}
use Rattle.new_entries.specs.Entries.{count_in, Newly}

-- The index table as the change of pages needs it: its tree is sound, and a record more may be held.
pub record Changeable (index : List ℕ) (key : ℕ) : Type 0 where
  pub tree : TreeTable index (entries_of index) (pages_of index) (root_level index) (root_of index) (width_of index)
  pub narrow : key < 2 ^ width_of index
  pub held : held_of index ≤ 65534

-- The pages of b are sound and read as the tree t; the header has their root, and the records held; else it is the index table's.
pub record Repaged (index : List ℕ) (t : NumberedTree) (held : ℕ) (index₁ : List ℕ) : Type 0 where
  pub bytes : List ℕ
  pub level : ℕ
  pub root : ℕ
  pub long : length bytes ≡ length index
  pub front : take 16 bytes ≡ take 16 index
  pub pages : SoundPages (layout_of (entries_of index)) (pages_of index) bytes level root
  pub tree : numbered_tree_at 65535 (pages_at (layout_of (entries_of index)) bytes) level root ≡ t
  pub written : index₁ ≡ with_held (with_root bytes root) held

-- ---- off

pub record OffPagesPre (index : List ℕ) (key : ℕ) (leaf : Leaf) : Type 0 where
  pub changeable : Changeable index key
  pub beside : Neighbours (leaf_entries index)
  -- Without the key the depths are still those of a leaf list.
  pub later : LeafDepths (width_of index) (leaves_of (off_tree (width_of index) (entries_of index) key (tree_of index)))
  pub some : 1 ≤ held_of index
  -- The way from the root to the entry found, begun at the key's first position.
  pub first : ℕ
  pub begins : NextPosition (width_of index) key 0 first
  pub way : Way (width_of index) key (entries_of index) (pages_at (layout_of (entries_of index)) index) (root_level index) (root_of index) first 0 false leaf

-- ---- on

-- The entry that figure 6 finds for a key.
abbrev pub found_for : List ℕ → ℕ → Found
found_for index key = find_in (positions 0 (bits (width_of index) key)) (tree_of index)

-- The tree with the entries of a row in the place of the entry that figure 6 finds for a key.
abbrev pub tree_with : List ℕ → ℕ → Row → Tree
tree_with index key news = insert_tree (entries_of index) (new_leaves news) (positions 0 (bits (width_of index) key)) (tree_of index)

abbrev pub numbered_with : (ℕ → List ℕ) → List ℕ → ℕ → Row → NumberedTree
numbered_with fresh index key news = insert_numbered_tree (entries_of index) fresh (new_leaves news) (positions 0 (bits (width_of index) key)) (numbered_tree_of index)

-- Row 8, then row 7, of the tree with them; 0 if neither applies.
abbrev pub late_row_with : List ℕ → ℕ → Row → ℕ
late_row_with index key news = cond (ltb 15 (tree_with index key news).0) 8 (cond (ltb (pages_of index) (tree_pages (tree_with index key news))) 7 0)

-- Entries that may stand in the place of the one found.
pub record OnPagesPre (index : List ℕ) (key : ℕ) (news : Row) : Type 0 where
  pub changeable : Changeable index key
  pub some : 1 ≤ news.count
  pub few : news.count ≤ suc (width_of index)
  pub fitting : Fitting 2 (row_of news)
  pub closed : Closed (λ (y : Ref). y.0) (depth_of (found_for index key).2) (row_of news)

-- Row 8 and row 7 let them pass.
pub record Roomy (index : List ℕ) (key : ℕ) (news : Row) : Type 0 where
  pub low : (tree_with index key news).0 ≤ 15
  pub pages : tree_pages (tree_with index key news) ≤ pages_of index

pub record OnPages (index : List ℕ) (key : ℕ) (news : Row) (index₁ : List ℕ) : Type 0 where
  pub fresh : ℕ → List ℕ
  pub free : (n : ℕ) → All (λ q. pages_at (layout_of (entries_of index)) index q ≡ []) (fresh n)
  pub repaged : Repaged index (numbered_with fresh index key news) (suc (held_of index)) index₁

-- ---- on, where the page found has room

-- Whether page p has room for n entries in the place of one of its own.
abbrev pub room_for : List ℕ → ℕ → ℕ → Bool
room_for index p n = leb (length (pages_at (layout_of (entries_of index)) index p) + n) (suc (entries_of index))

pub record OpenPre (index : List ℕ) (p at key : ℕ) (n : News) : Type 0 where
  pub header : 16 ≤ length index
  pub held : held_of index ≤ 65534
  pub openable : Openable (entries_of index) index p at (count_in n)
  pub newly : Newly (width_of index) key n

-- The index table with entries in the place of entry `at` of page p, and one record more held.
abbrev pub opened_with : List ℕ → ℕ → ℕ → List Ref → List ℕ
opened_with index p at refs =
    (let L = layout_of (entries_of index) in
    with_held (store L index p (row_page (entries_of index) (level_of (page_bytes L index p)) (spliced_at at refs (pages_at L index p)))) (suc (held_of index)))
