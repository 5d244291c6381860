-- P1 to P9 of 01, "Small herds, W 8", of both definitions of the leaf list, and by insertion and deletion. Assumes nothing.
use mathlib.Core.Path.{◌≡◌, refl}
use mathlib.Core.Option.{some, none}
use mathlib.Core.List.{[], List, ◌∷◌}
use Prim.Native.Nat.{ℕ}
use Rattle.leaf_list.specs.Keys.{Key, bits}
use Rattle.leaf_list.specs.Entries.{Entry, entry}
use Rattle.leaf_list.specs.Herd.{Herd, add, remove}
use Rattle.leaf_list.specs.LeafList.{leaf_list}
use Rattle.leaf_list.specs.Trie.{trie_list}
use Rattle.leaf_list.specs.Insertion.{insertion}
use Rattle.leaf_list.specs.Deletion.{deletion}
use Rattle.leaf_list.specs.Register.{key_at}

-- The herds, by what 01 adds and takes away.
abbrev pub herd2 : Herd
herd2 = add 0b10101010 1 []

abbrev pub herd3 : Herd
herd3 = add 0b10101100 2 herd2

abbrev pub herd4 : Herd
herd4 = add 0b00000000 3 herd3

abbrev pub herd5 : Herd
herd5 = remove 0b10101100 herd4

abbrev pub herd6 : Herd
herd6 = remove 0b00000000 herd4

abbrev pub herd7 : Herd
herd7 = add 0b00000001 2 (add 0b00000000 1 [])

abbrev pub herd8 : Herd
herd8 = add 0b01000110 3 (add 0b00100000 2 (add 0b00000000 1 []))

abbrev pub herd9 : Herd
herd9 = add 0b11111111 2 (add 0b11111110 1 [])

-- The lists that 01 gives more than once.
abbrev pub list2 : List Entry
list2 = entry 0 (some 1) ∷ []

abbrev pub list3 : List Entry
list3 = entry 1 none ∷ entry 3 none ∷ entry 5 none ∷ entry 6 (some 1) ∷ entry 0 (some 2) ∷ []

abbrev pub list4 : List Entry
list4 = entry 1 (some 3) ∷ entry 3 none ∷ entry 5 none ∷ entry 6 (some 1) ∷ entry 0 (some 2) ∷ []

abbrev pub list5 : List Entry
list5 = entry 1 (some 3) ∷ entry 0 (some 1) ∷ []

-- The keys of the records 1 to 3 of P4.
abbrev pub key_of4 : ℕ → Key
key_of4 r = bits 8 (key_at (0 ∷ 0b10101010 ∷ 0b10101100 ∷ 0b00000000 ∷ []) r)

-- The list of a herd, by 01's definition and by the trie.
abbrev pub Both : Herd → List Entry → Type 0
Both s es = (leaf_list 8 s ≡ es) × (trie_list 8 s ≡ es)

pub record SmallHerds : Type 0 where
  pub p1 : Both [] (entry 0 none ∷ [])
  pub p2 : Both herd2 list2
  pub p3 : Both herd3 list3
  pub p3_inserted : insertion key_of4 (bits 8 0b10101100) 2 list2 ≡ list3
  pub p4 : Both herd4 list4
  pub p4_inserted : insertion key_of4 (bits 8 0b00000000) 3 list3 ≡ list4
  pub p5 : Both herd5 list5
  pub p5_deleted : deletion (bits 8 0b10101100) list4 ≡ list5
  pub p6 : Both herd6 list3
  pub p6_deleted : deletion (bits 8 0b00000000) list4 ≡ list3
  pub p7 : Both herd7 (entry 8 (some 1) ∷ entry 0 (some 2) ∷ [])
  pub p8 : Both herd8 (entry 3 (some 1) ∷ entry 2 (some 2) ∷ entry 0 (some 3) ∷ [])
  pub p9 :
      Both herd9
      (entry 1 none ∷ entry 2 none ∷ entry 3 none ∷ entry 4 none ∷ entry 5 none ∷ entry 6 none ∷ entry 7 none ∷ entry 8 (some 1) ∷ entry 0 (some 2) ∷ [])

pub small_herds : SmallHerds
unfolding leaf_list
small_herds =
    record {
      p1 = (refl, refl);
      p2 = (refl, refl);
      p3 = (refl, refl);
      p3_inserted = refl;
      p4 = (refl, refl);
      p4_inserted = refl;
      p5 = (refl, refl);
      p5_deleted = refl;
      p6 = (refl, refl);
      p6_deleted = refl;
      p7 = (refl, refl);
      p8 = (refl, refl);
      p9 = (refl, refl);
    }
