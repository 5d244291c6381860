-- The list of keys of a herd, and the trie's entries of it. Assumes nothing.
use mathlib.Core.Path.{ap, ◌≡◌, refl, ◌∙◌}
use mathlib.Core.Bool.{Bool, cond, true, false}
use mathlib.Core.Option.{some, none, Option}
use mathlib.Core.List.{[], ◌∷◌, List}
use Prim.Native.Nat.{ℕ, ◌<◌, ◌^◌}
use native.Mathlib.Omega.{arith}
use lib.Dec.{ltb, eqb}
use borrow.Author.Tests.{eqb-true, lt-ltb}
use Rattle.leaf_list.specs.Keys.{bits}
use Rattle.leaf_list.specs.Entries.{live_records}
use Rattle.leaf_list.specs.Herd.{Herd, Narrow, Absent, KeysOf, add, lookup, remove, Above, Sorted, records_of}
use Rattle.leaf_list.specs.LeafList.{items, item}
use Rattle.leaf_list.specs.Trie.{trie_list}
use Rattle.leaf_list.specs.Search.{find}
use Rattle.leaf_list.specs.Insertion.{insertion}
use Rattle.leaf_list.specs.Deletion.{deletion}
use Rattle.leaf_list.proofs.Bits.{bits_length, same_key_bits, below_bits}
use Rattle.leaf_list.proofs.Items.{Lengths, NoKey, ItemKeys, Least, Ordered, Distinct}
use Rattle.leaf_list.proofs.TrieChange.{With, here, there}
use Rattle.leaf_list.proofs.ItemLaws.{insertion_items, deletion_items, find_missing, find_held}
use Rattle.leaf_list.proofs.HerdLaws.{above_absent, lookup_absent, narrow_remove, absent_remove, lookup_key}
use Rattle.leaf_list.proofs.LiveRecords.{item_records, live_records_items}

-- Each key has w bits.
pub items_lengths : (w : ℕ) (s : Herd) → Lengths w (items w s)
items_lengths w [] = tt
items_lengths w (x ∷ s) = (bits_length w x.0, items_lengths w s)

-- A key that the herd does not hold is not in the list.
pub items_no_key : (w k : ℕ) (s : Herd) → k < 2 ^ w → Narrow w s → Absent k s → NoKey (bits w k) (items w s)
items_no_key w k [] h q a = tt
items_no_key w k (x ∷ s) h q a = (same_key_bits w k x.0 h q.0 a.0, items_no_key w k s h q.1 a.1)

-- key_of gives the keys.
pub items_keys : (w : ℕ) (key_of : ℕ → ℕ) (s : Herd) → KeysOf key_of s → ItemKeys (λ r. bits w (key_of r)) [] (items w s)
items_keys w key_of [] h = tt
items_keys w key_of (x ∷ s) h = (ap (bits w) h.0, items_keys w key_of s h.1)

-- The list after adding.
pub items_add : (w k r : ℕ) (s : Herd) → With (item (bits w k) r) (items w s) (items w (add k r s))
items_add w k r [] = here
items_add w k r (x ∷ s) = go (ltb k x.0) (items_add w k r s)
  where
    go : (t : Bool) → With (item (bits w k) r) (items w s) (items w (add k r s))
        → With (item (bits w k) r) (items w (x ∷ s)) (items w (cond t ((k, r) ∷ x ∷ s) (x ∷ add k r s)))
    go true i = here
    go false i = there i

-- The list before removing.
pub items_remove : (w k r : ℕ) (s : Herd) → lookup k s ≡ some r → With (item (bits w k) r) (items w (remove k s)) (items w s)
items_remove w k r [] e = absurd (let z : ◌≡◌ {A = ℕ} 0 1 = cc in omega arith)
items_remove w k r (x ∷ s) e = go (eqb k x.0) refl e (λ e'. items_remove w k r s e')
  where
    go : (t : Bool) → eqb k x.0 ≡ t → cond t (some x.1) (lookup k s) ≡ some r
        → (lookup k s ≡ some r → With (item (bits w k) r) (items w (remove k s)) (items w s))
        → With (item (bits w k) r) (items w (cond t s (x ∷ remove k s))) (items w (x ∷ s))
    go true q e ih =
        let z : x.1 ≡ r = cc in
        rw (eqb-true k x.0 q, ← z) here
    go false q e ih = there (ih e)

-- A key below all of a herd's is so as bits.
pub items_least : (w k : ℕ) (s : Herd) → k < 2 ^ w → Narrow w s → Above k s → Least (bits w k) (items w s)
items_least w k [] h q a = tt
items_least w k (x ∷ s) h q a = (below_bits w k x.0 h q.0 ∙ lt-ltb k x.0 a.0, items_least w k s h q.1 a.1)

-- The keys of a sorted herd rise.
pub items_ordered : (w : ℕ) (s : Herd) → Narrow w s → Sorted s → Ordered (items w s)
items_ordered w [] q o = tt
items_ordered w (x ∷ s) q o = (items_least w x.0 s q.0 q.1 o.0, items_ordered w s q.1 o.1)

-- No key of a sorted herd stands twice.
pub items_distinct : (w : ℕ) (s : Herd) → Narrow w s → Sorted s → Distinct (items w s)
items_distinct w [] q o = tt
items_distinct w (x ∷ s) q o = (items_no_key w x.0 s q.0 q.1 (above_absent x.0 x.0 s (omega arith) o.0), items_distinct w s q.1 o.1)

-- Insertion gives the entries of the herd with the key.
pub insertion_trie_list : (key_of : ℕ → ℕ) (w k r : ℕ) (s : Herd) → k < 2 ^ w → Narrow w s → KeysOf key_of s → lookup k s ≡ none
    → insertion (λ x. bits w (key_of x)) (bits w k) r (trie_list w s) ≡ trie_list w (add k r s)
insertion_trie_list key_of w k r s h q g e =
    insertion_items (λ x. bits w (key_of x)) w (bits w k) r (items w s) (items w (add k r s)) (items_add w k r s) (bits_length w k) (items_lengths w s)
    (items_no_key w k s h q (lookup_absent k s e)) (items_keys w key_of s g)

-- Deletion gives the entries of the herd without the key.
pub deletion_trie_list : (w k r : ℕ) (s : Herd) → k < 2 ^ w → Narrow w s → Sorted s → lookup k s ≡ some r
    → deletion (bits w k) (trie_list w s) ≡ trie_list w (remove k s)
deletion_trie_list w k r s h q o e =
    deletion_items w (bits w k) r (items w (remove k s)) (items w s) (items_remove w k r s e) (bits_length w k) (items_lengths w (remove k s))
    (items_lengths w s)
    (items_no_key w k (remove k s) h (narrow_remove w k s q) (absent_remove k s o))

-- Search finds what the herd holds.
pub find_trie_list : (key_of : ℕ → ℕ) (w k : ℕ) (s : Herd) → k < 2 ^ w → Narrow w s → Sorted s → KeysOf key_of s
    → find (λ x. bits w (key_of x)) (bits w k) (trie_list w s) ≡ lookup k s
find_trie_list key_of w k s h q o g = go (lookup k s) refl
  where
    go : (a : Option ℕ) → lookup k s ≡ a → find (λ x. bits w (key_of x)) (bits w k) (trie_list w s) ≡ a
    go none e =
        find_missing (λ x. bits w (key_of x)) w (bits w k) (items w s) (bits_length w k) (items_lengths w s)
        (items_no_key w k s h q (lookup_absent k s e)) (items_keys w key_of s g)
    go (some r) e =
        find_held (λ x. bits w (key_of x)) w (bits w k) r (items w (remove k s)) (items w s) (items_remove w k r s e) (bits_length w k)
        (items_lengths w (remove k s)) (items_lengths w s)
        (items_no_key w k (remove k s) h (narrow_remove w k s q) (absent_remove k s o)) (ap (bits w) (lookup_key key_of k r s e g))

-- The records of a herd's list are the herd's.
pub records_herd : (w : ℕ) (s : Herd) → item_records (items w s) [] ≡ records_of s
records_herd w [] = refl
records_herd w (x ∷ s) = ap (λ (y : List ℕ). x.1 ∷ y) (records_herd w s)

-- The live entries of a herd's trie have its records in key order.
pub live_records_trie_list : (w : ℕ) (s : Herd) → Narrow w s → Sorted s → live_records (trie_list w s) ≡ records_of s
live_records_trie_list w s q o = live_records_items w (items w s) (items_lengths w s) (items_ordered w s q o) ∙ records_herd w s
