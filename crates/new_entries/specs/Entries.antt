-- What stands in the place of the entry found once a key is put in (01, "Insertion (5.1)"), as the code makes it. Assumes nothing.
use Rattle.std.specs.Prelude.{◌≡◌, ◌≢◌, List, [], ◌∷◌, map, ℕ, suc, ◌^◌, ◌≤◌, ◌<◌, length}
use Rattle.std.proofs.Math.Option.{none, some}
use Rattle.leaf_list.specs.Keys.{Key, bits}
use Rattle.leaf_list.specs.Entries.{Entry, entry}
use Rattle.leaf_list.specs.Search.{positions}
use Rattle.leaf_list.specs.Insertion.{dummies, insert_at}
use Rattle.leaf_list.specs.Register.{key_at}
use Rattle.page_tree.specs.Row.{row_of}
use Rattle.page_tree.specs.declared.Row.{Row}
use Rattle.index_table.specs.Layout.{Ref}
use Rattle.index_table.specs.Pages.{record_of, leaf_of}
use Rattle.table_search.specs.Places.{left_from}
use Rattle.table_search.specs.declared.Leaf.{Leaf}
use Rattle.new_entries.specs.declared.dummy.Dummies.{Dummies}
use Rattle.new_entries.specs.declared.entries.News.{News}
use Rattle.new_entries.specs.declared.entries.News.TheVariants.{Alone, Beside}

-- A row as entries of a leaf list.
abbrev pub entries_in : Row → List Entry
entries_in r = map (leaf_of 65535) (row_of r)

-- An entry as it is stored.
abbrev pub ref_of : Entry → Ref
ref_of (entry d none) = (d, 65535)
ref_of (entry d (some r)) = (d, r)

-- The entries that news says,
abbrev pub entries_for : ℕ → ℕ → News → List Entry
entries_for w key (Alone last) = entry last.depth (some last.pointer) ∷ []
entries_for w key (Beside low first last n) =
    dummies low first.depth (positions 0 (bits w key)) (entry first.depth (some first.pointer) ∷ entry last.depth (some last.pointer) ∷ [])

-- and as they are stored.
abbrev pub refs_for : ℕ → ℕ → News → List Ref
refs_for w key n = map ref_of (entries_for w key n)

-- The dummies that an iterator has left, as they are stored.
abbrev pub dummies_left : Dummies → List Ref
dummies_left s = map ref_of (dummies 0 s.high (left_from s.w s.key s.position) [])

-- A dummy, as it is stored.
abbrev pub dummy_at : ℕ → Ref
dummy_at d = (d, 65535)

-- The one-bits of a key between two depths are asked for.
pub record DummiesPre (w key low high : ℕ) : Type 0 where
  pub width : w ≤ 64
  pub narrow : key < 2 ^ w
  pub low_inside : low ≤ w
  pub high_inside : high ≤ suc w

-- How many entries news says there are,
abbrev pub count_in : News → ℕ
count_in (Alone last) = 1
count_in (Beside low first last n) = n

-- the depths between which the dummies stand, which are none for a leaf alone,
abbrev pub low_in : News → ℕ
low_in (Alone last) = 0
low_in (Beside low first last n) = low

abbrev pub high_in : News → ℕ
high_in (Alone last) = 0
high_in (Beside low first last n) = first.depth

-- and the pointers of the first of two leaves and of the last, and its depth.
abbrev pub first_in : News → ℕ
first_in (Alone last) = 0
first_in (Beside low first last n) = first.pointer

abbrev pub second_in : News → ℕ
second_in (Alone last) = last.pointer
second_in (Beside low first last n) = last.pointer

abbrev pub depth_in : News → ℕ
depth_in (Alone last) = last.depth
depth_in (Beside low first last n) = last.depth

-- News that can be stored, with its count.
pub record Newly (w key : ℕ) (n : News) : Type 0 where
  pub between : DummiesPre w key (low_in n) (high_in n)
  pub closing : depth_in n ≤ w
  pub first_fits : first_in n < 65535
  pub second_fits : second_in n < 65535
  pub counted : count_in n ≡ length (entries_for w key n)

-- The entry found, a key of at most w bits and a free record.
pub record FoundPre (keys : List ℕ) (w key r : ℕ) (leaf : Leaf) : Type 0 where
  pub width : w ≤ 64
  pub narrow : key < 2 ^ w
  pub free_record : r < 65535
  pub depth_inside : leaf.depth ≤ w
  pub trail_inside : leaf.trail ≤ w
  pub pointer_inside : leaf.pointer ≤ 65535
  -- A live entry's record has another key.
  pub inside : leaf.pointer ≢ 65535 → leaf.pointer < length keys
  pub other_narrow : leaf.pointer ≢ 65535 → key_at keys leaf.pointer < 2 ^ w
  pub other : leaf.pointer ≢ 65535 → key ≢ key_at keys leaf.pointer

-- The entry found is the leaf of another key.
pub record NewPre (w key r old : ℕ) (leaf : Leaf) : Type 0 where
  pub width : w ≤ 64
  pub narrow : key < 2 ^ w
  pub free_record : r < 65535
  pub depth_inside : leaf.depth ≤ w
  pub trail_inside : leaf.trail ≤ w
  pub live : leaf.pointer < 65535
  pub other_narrow : old < 2 ^ w
  pub other : key ≢ old

-- The leaf's entry on the leaf list.
abbrev pub entry_of : Leaf → Entry
entry_of leaf = entry leaf.depth (record_of 65535 leaf.pointer)

pub record NewPost (w key r old : ℕ) (leaf : Leaf) (n : News) : Type 0 where
  pub entries : (key_of : ℕ → Key) → key_of leaf.pointer ≡ bits w old → entries_for w key n ≡ insert_at key_of (bits w key) r leaf.trail (entry_of leaf ∷ [])
  pub newly : Newly w key n

-- 5.1 at the entry found.
pub record NewEntries (keys : List ℕ) (w key r : ℕ) (leaf : Leaf) (n : News) : Type 0 where
  pub entries : entries_for w key n ≡ insert_at (λ x. bits w (key_at keys x)) (bits w key) r leaf.trail (entry_of leaf ∷ [])
  pub newly : Newly w key n
