-- The laws of the leaf list, over herds of keys of w bits. Assumes nothing.
use mathlib.Core.Path.{◌≡◌, subst, ap, ◌∙◌}
use mathlib.Core.Logic.{◌≢◌}
use mathlib.Core.Option.{none, some}
use mathlib.Core.List.{[], List, ◌∷◌}
use Prim.Native.Nat.{ℕ, ◌<◌, ◌^◌, ◌≤◌, ◌+◌}
use native.Mathlib.Omega.{arith}
use lib.ListN.{length, take}
use Rattle.leaf_list.specs.Keys.{bits, first_difference}
use Rattle.leaf_list.specs.Entries.{Entry, entry, live_records, depth_of}
use Rattle.leaf_list.specs.Herd.{Herd, Narrow, Sorted, KeysOf, lookup, add, remove, records_of}
use Rattle.leaf_list.specs.LeafList.{leaf_list, items}
use Rattle.leaf_list.specs.Depths.{LeafDepths}
use Rattle.leaf_list.specs.Trie.{write_all, trie_of}
use Rattle.leaf_list.specs.Search.{search, positions, first_exceeding, find, Place}
use Rattle.leaf_list.specs.Insertion.{insertion, trailing, leaf_depth}
use Rattle.leaf_list.specs.Deletion.{deletion}
use Rattle.leaf_list.proofs.Lists.{All}
use Rattle.leaf_list.proofs.Bits.{bits_length}
use Rattle.leaf_list.proofs.TrieOf.{trie_of_nil, trie_of_sized, trie_of_pruned}
use Rattle.leaf_list.proofs.HerdLaws.{narrow_add, sorted_add, lookup_absent, narrow_remove, sorted_remove}
use Rattle.leaf_list.proofs.HerdItems.{find_trie_list, insertion_trie_list, deletion_trie_list, live_records_trie_list, items_lengths}
use Rattle.leaf_list.proofs.FoundEntry.{FoundOther, found_trie_list, OtherLeaf}
use Rattle.leaf_list.proofs.InsertionCount.{insertion_length}
use Rattle.leaf_list.proofs.Depths.{Closed, closed_write_all, depths_within_write_all, Neighbours, neighbours_write_all}
use Rattle.leaf_list.proofs.Unrepeated.{unrepeated_write_all}
use Rattle.leaf_list.proofs.Discriminators.{search_trie_list}
use Rattle.leaf_list.proofs.Indexed.{found_index, found_index_trie_list}
use Rattle.leaf_list.proofs.PassedEntries.{passed_trie_list}
use Rattle.leaf_list.proofs.Literal.{twin}

-- "it stops at the first entry whose discriminator exceeds the key"
pub search_law : (w x : ℕ) (s : Herd) → x < 2 ^ w → Narrow w s → Sorted s
    → search [] (positions 0 (bits w x)) (leaf_list w s) ≡ first_exceeding w x [] 0 (leaf_list w s)
search_law w x s h q o = rw (twin w s q o) (search_trie_list w x s h)

-- "Only a live leaf yields a record, and its key is then compared whole": search finds what the herd holds.
pub find_law : (key_of : ℕ → ℕ) (w x : ℕ) (s : Herd) → x < 2 ^ w → Narrow w s → Sorted s → KeysOf key_of s
    → find (λ r. bits w (key_of r)) (bits w x) (leaf_list w s) ≡ lookup x s
find_law key_of w x s h q o g = rw (twin w s q o) (find_trie_list key_of w x s h q o g)

-- Insertion (5.1) makes the leaf list of the herd with the key.
pub insertion_law : (key_of : ℕ → ℕ) (w k r : ℕ) (s : Herd) → k < 2 ^ w → Narrow w s → Sorted s → KeysOf key_of s → lookup k s ≡ none
    → insertion (λ x. bits w (key_of x)) (bits w k) r (leaf_list w s) ≡ leaf_list w (add k r s)
insertion_law key_of w k r s h q o g e =
    rw (twin w s q o, twin w (add k r s) (narrow_add w k r s h q) (sorted_add k r s o (lookup_absent k s e))) (insertion_trie_list key_of w k r s h q g e)

-- The entry that insertion meets is a dummy, or a leaf whose key differs past the entry's depth and not at the leaf's depth.
pub found_law : (key_of : ℕ → ℕ) (w k : ℕ) (s : Herd) → k < 2 ^ w → Narrow w s → Sorted s → KeysOf key_of s → lookup k s ≡ none
    → FoundOther (λ r. bits w (key_of r)) (bits w k) (trailing (search [] (positions 0 (bits w k)) (leaf_list w s)).0) (search [] (positions 0 (bits w k)) (leaf_list w s)).1
found_law key_of w k s h q o g e = rw (twin w s q o) (found_trie_list key_of w k s h q g e)

-- "b = l cannot occur"
pub uneven_law : (key_of : ℕ → ℕ) (w k : ℕ) (s : Herd) → k < 2 ^ w → Narrow w s → Sorted s → KeysOf key_of s → lookup k s ≡ none
    → (before rest : List Entry) (d old : ℕ) → search [] (positions 0 (bits w k)) (leaf_list w s) ≡ (before, entry d (some old) ∷ rest)
    → first_difference 0 (bits w k) (bits w (key_of old)) ≢ leaf_depth (trailing before) d
uneven_law key_of w k s h q o g e before rest d old z =
    let found : OtherLeaf (λ r. bits w (key_of r)) (bits w k) (trailing before) d old =
    subst (λ (place : Place). FoundOther (λ r. bits w (key_of r)) (bits w k) (trailing place.0) place.1) z (found_law key_of w k s h q o g e) in
    found.uneven

-- "One call adds at most 64 entries": at most as many as a key has bits.
pub count_law : (key_of : ℕ → ℕ) (w k r : ℕ) (s : Herd) → k < 2 ^ w → Narrow w s → Sorted s → KeysOf key_of s → lookup k s ≡ none
    → length (leaf_list w (add k r s)) ≤ length (leaf_list w s) + w
count_law key_of w k r s h q o g e =
    omega (
      arith,
      insertion_length (λ x. bits w (key_of x)) (bits w k) r (leaf_list w s) (found_law key_of w k s h q o g e),
      ap length (insertion_law key_of w k r s h q o g e),
      bits_length w k,
    )

-- Deletion (figure 11) makes the leaf list of the herd without the key.
pub deletion_law : (w k r : ℕ) (s : Herd) → k < 2 ^ w → Narrow w s → Sorted s → lookup k s ≡ some r
    → deletion (bits w k) (leaf_list w s) ≡ leaf_list w (remove k s)
deletion_law w k r s h q o e =
    rw (twin w s q o, twin w (remove k s) (narrow_remove w k s q) (sorted_remove k s o)) (deletion_trie_list w k r s h q o e)

-- "The empty herd has the one entry (0, NIL)."
pub empty_law : (w : ℕ) → leaf_list w [] ≡ entry 0 none ∷ []
empty_law w = twin w [] tt tt ∙ ap write_all (trie_of_nil w)

-- The live entries, left to right, have the records in key order.
pub live_records_law : (w : ℕ) (s : Herd) → Narrow w s → Sorted s → live_records (leaf_list w s) ≡ records_of s
live_records_law w s q o = rw (twin w s q o) (live_records_trie_list w s q o)

-- "a last depth 0 closes the list": the last depth is 0, and all others are above 0.
pub closed_law : (w : ℕ) (s : Herd) → Narrow w s → Sorted s → Closed depth_of 0 (leaf_list w s)
closed_law w s q o = rw (twin w s q o) (closed_write_all (trie_of w (items w s)))

-- No depth is above w, and none comes again before a shallower one has come.
pub depths_law : (w : ℕ) (s : Herd) → Narrow w s → Sorted s → LeafDepths w (leaf_list w s)
depths_law w s q o =
    rw (twin w s q o)
    (record {
      within = depths_within_write_all w (trie_of w (items w s)) (trie_of_sized w (items w s) (items_lengths w s));
      unrepeated = unrepeated_write_all (trie_of w (items w s));
    })

-- Depths side by side differ; a dummy is deeper than the entry before it and shallower than the next.
pub neighbours_law : (w : ℕ) (s : Herd) → Narrow w s → Sorted s → Neighbours (leaf_list w s)
neighbours_law w s q o = rw (twin w s q o) (neighbours_write_all (trie_of w (items w s)) (trie_of_pruned w (items w s)))

-- The found entry stands in the list.
pub inside_law : (w x : ℕ) (s : Herd) → Narrow w s → Sorted s → found_index (positions 0 (bits w x)) (leaf_list w s) < length (leaf_list w s)
inside_law w x s q o = rw (twin w s q o) (found_index_trie_list w x s)

-- The live entries before the found one have smaller keys: "from a" starts at the entry found for a.
pub passed_law : (key_of : ℕ → ℕ) (w x : ℕ) (s : Herd) → x < 2 ^ w → ((r : ℕ) → key_of r < 2 ^ w) → Narrow w s → Sorted s → KeysOf key_of s
    → All (λ r. key_of r < x) (live_records (take (found_index (positions 0 (bits w x)) (leaf_list w s)) (leaf_list w s)))
passed_law key_of w x s h n q o g = rw (twin w s q o) (passed_trie_list key_of w x s h n g)
