-- Where a key's search ends in sound tables. Assumes nothing.
use Rattle.std.specs.Prelude.{◌≡◌, false, List, [], ◌∷◌, ℕ}
use Rattle.leaf_list.specs.Keys.{bits}
use Rattle.leaf_list.specs.Entries.{Entry, entry}
use Rattle.leaf_list.specs.Search.{positions, search}
use Rattle.leaf_list.specs.Insertion.{trailing}
use Rattle.leaf_list.specs.LeafList.{leaf_list}
use Rattle.leaf_list.specs.Register.{herd_of}
use Rattle.index_table.specs.Layout.{layout_of}
use Rattle.index_table.specs.Header.{width_of, entries_of, root_of}
use Rattle.index_table.specs.Pages.{pages_at, record_of}
use Rattle.index_table.specs.Soundness.{root_level}
use Rattle.table_search.specs.declared.Leaf.{Leaf}
use Rattle.table_search.specs.Places.{NextPosition, Way, number_leaf}

-- The entry that a number means in an index table.
abbrev pub numbered_leaf : List ℕ → ℕ → Leaf
numbered_leaf index r = number_leaf (pages_at (layout_of (entries_of index)) index) r

-- The entry that figure 6 finds on the leaf list of the register, and the depth before it.
pub record FoundLeaf (index keys used : List ℕ) (key : ℕ) (r : Leaf) : Type 0 where
  pub after : List Entry
  pub entry_found :
      (search [] (positions 0 (bits (width_of index) key)) (leaf_list (width_of index) (herd_of keys used))).1 ≡ entry r.depth (record_of 65535 r.pointer) ∷ after
  pub depth_before : r.trail ≡ trailing (search [] (positions 0 (bits (width_of index) key)) (leaf_list (width_of index) (herd_of keys used))).0
  -- The way to it from the root, begun at the key's first position.
  pub first : ℕ
  pub begins : NextPosition (width_of index) key 0 first
  pub way : Way (width_of index) key (entries_of index) (pages_at (layout_of (entries_of index)) index) (root_level index) (root_of index) first 0 false r
