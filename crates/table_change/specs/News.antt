-- The entries that a new key brings, and the place where they belong in sound tables. Assumes nothing.
use Rattle.std.specs.Prelude.{◌≡◌, Bool, false, cond, List, ℕ, suc, ◌^◌, ◌≤◌, ◌<◌, eqb, length}
use Rattle.std.proofs.Math.Option.{none}
use Rattle.leaf_list.specs.Keys.{bits}
use Rattle.leaf_list.specs.Entries.{depth_of}
use Rattle.leaf_list.specs.Herd.{lookup}
use Rattle.leaf_list.specs.Register.{key_at, in_use, herd_of}
use Rattle.page_tree.specs.Row.{row_of}
use Rattle.page_tree.specs.Rows.{Closed}
use Rattle.page_tree.specs.OnPages.{new_entries}
use Rattle.page_tree.specs.declared.Row.{Row}
use Rattle.index_table.specs.Layout.{Ref, Fitting}
use Rattle.index_table.specs.Header.{width_of}
use Rattle.index_table.specs.Soundness.{Sound}
use Rattle.new_entries.specs.Entries.{entries_in}
use Rattle.index_change.specs.Repaging.{found_for}

-- The key of the record that a pointer of level 0 means is key.
abbrev pub key_is : List ℕ → ℕ → ℕ → Bool
key_is keys pointer key = cond (eqb pointer 65535) false (eqb (key_at keys pointer) key)

-- The rows' entries stand for the entry found once the key is put in with the record r.
pub record NewsFor (index keys : List ℕ) (key r : ℕ) (news : Row) : Type 0 where
  pub entries :
      entries_in news ≡ new_entries (λ x. bits (width_of index) (key_at keys x)) (bits (width_of index) key) r (found_for index key).0 (found_for index key).1 (found_for index key).2
  pub fitting : Fitting 2 (row_of news)
  pub some : 1 ≤ news.count
  pub few : news.count ≤ suc (width_of index)
  pub closed : Closed (λ (y : Ref). y.0) (depth_of (found_for index key).2) (row_of news)

-- A key and a record that rows 2 to 4 let pass.
pub record FreeRecord (index keys used : List ℕ) (key r : ℕ) : Type 0 where
  pub sound : Sound index keys used
  pub narrow : key < 2 ^ width_of index
  pub inside : r < length used
  pub free : in_use used r ≡ false

-- A key that rows 2 to 5 let pass, with its entries.
pub record NewKey (index keys used : List ℕ) (key r : ℕ) (news : Row) : Type 0 where
  pub free_record : FreeRecord index keys used key r
  pub absent : lookup key (herd_of keys used) ≡ none
  pub news_for : NewsFor index keys key r news
