-- A key and the entry found for it in sound tables: it is held there, or it is new and has its entries. Assumes nothing.
use Rattle.std.specs.Prelude.{◌≡◌, true, List, ℕ, ◌^◌, ◌<◌}
use Rattle.std.proofs.Math.Option.{some}
use Rattle.leaf_list.specs.Herd.{lookup}
use Rattle.leaf_list.specs.Register.{herd_of}
use Rattle.page_tree.specs.declared.Row.{Row}
use Rattle.index_table.specs.Header.{width_of}
use Rattle.index_table.specs.Soundness.{Sound}
use Rattle.index_write.specs.Storing.{row_with}
use Rattle.table_search.specs.declared.Leaf.{Leaf}
use Rattle.table_find.specs.Places.{FoundLeaf}
use Rattle.new_entries.specs.declared.entries.News.{News}
use Rattle.new_entries.specs.Entries.{count_in, refs_for, Newly}
use Rattle.index_change.specs.Repaging.{room_for}
use Rattle.table_change.specs.News.{NewKey}

-- A held key and the entry on level 0 that points at its record, in sound tables.
pub record HeldKey (index keys used : List ℕ) (key : ℕ) (leaf : Leaf) : Type 0 where
  pub sound : Sound index keys used
  pub narrow : key < 2 ^ width_of index
  pub place : FoundLeaf index keys used key leaf
  pub found : lookup key (herd_of keys used) ≡ some leaf.pointer

-- The row of new entries.
abbrev pub row_for : List ℕ → ℕ → News → Row
row_for index key n = row_with (refs_for (width_of index) key n)

-- A new key with its entries, and the page found.
pub record FoundKey (index keys used : List ℕ) (key r : ℕ) (leaf : Leaf) (n : News) : Type 0 where
  pub new_key : NewKey index keys used key r (row_for index key n)
  pub newly : Newly (width_of index) key n
  pub found : FoundLeaf index keys used key leaf

-- They fit into the page found.
pub record FittingKey (index keys used : List ℕ) (key r : ℕ) (leaf : Leaf) (n : News) : Type 0 where
  pub found_key : FoundKey index keys used key r leaf n
  pub room : room_for index leaf.page.0 (count_in n) ≡ true
