-- 01's definition of the leaf list by bounding nodes, and its computable twin by the trie, are the same. Assumes nothing.
use mathlib.Core.Path.{◌≡◌, refl, ap, ◌∙◌}
use mathlib.Core.Bool.{true, false}
use mathlib.Core.List.{◌++◌, ◌∷◌, [], map, map-append, map-map, List}
use Prim.Native.Nat.{ℕ, zero, suc}
use native.Mathlib.Omega.{arith}
use lib.ListN.{length, length-append}
use Rattle.leaf_list.specs.Keys.{Key, set_bit, zero_bits}
use Rattle.leaf_list.specs.Herd.{Herd, Narrow, Sorted}
use Rattle.leaf_list.specs.LeafList.{strings, sibling, Item, bounding_nodes, is_bounding, entries_from, discriminator, leaf_list, items}
use Rattle.leaf_list.specs.Trie.{trie_list, trie_of}
use Rattle.leaf_list.proofs.HerdItems.{items_lengths, items_distinct}
use Rattle.leaf_list.proofs.Stems.{stems, bounding_stems, filter_map, bounding_stem}
use Rattle.leaf_list.proofs.Intervals.{entries_at, stem_depth, stem_depth_length}
use Rattle.leaf_list.proofs.Twin.{twin_node, write_option_whole}
use Rattle.leaf_list.proofs.Chain.{StemChain, chain_stems}

-- The string of a stem.
abbrev pub string : Key → Key
string p = p ++ (true ∷ [])

-- The strings are those of the stems.
pub strings_stems : (n : ℕ) → strings n ≡ map string (stems n)
strings_stems zero = refl
strings_stems (suc n) =
    rw (strings_stems n, map-append string (map (λ v. false ∷ v) (stems n)) ([] ∷ map (λ v. true ∷ v) (stems n))) (simp map-map)

-- The sibling of a string has its stem.
pub sibling_string : (p : Key) → sibling (string p) ≡ p ++ (false ∷ [])
sibling_string [] = refl
sibling_string (x ∷ []) = refl
sibling_string (x ∷ y ∷ p) = ap (λ (v : Key). x ∷ v) (sibling_string (y ∷ p))

-- The bounding nodes are the strings of the bounding stems.
pub bounding_nodes_stems : (n : ℕ) (s : List Item) → bounding_nodes n s ≡ map string (bounding_stems n s)
bounding_nodes_stems n s = rw (strings_stems n) (filter_map (is_bounding s) (bounding_stem s) string (stems n) (λ p. rw (sibling_string p)))

-- A string is one longer than its stem.
pub string_length : (p : Key) → length (string p) ≡ suc (length p)
string_length p = length-append p (true ∷ []) ∙ omega arith

-- The entries at strings are those at their stems.
pub entries_from_stems : (s : List Item) (D : Key) (ps : List Key) → entries_from s D (map string ps) ≡ entries_at 0 s D ps 0 []
entries_from_stems s D [] = refl
entries_from_stems s D (p ∷ ps) =
    let e : stem_depth 0 p ≡ suc (length p) = stem_depth_length p 0 ∙ omega arith in
    rw (string_length p, e, entries_from_stems s (set_bit (suc (length p)) D) ps)

-- D(i) is set bit by bit from D(i-1); it is the discriminator of the i-th string.
abbrev pub Chain : ℕ → Key → List Key → Type 0
Chain w D [] = Unit {0}
Chain w D (v ∷ vs) = (set_bit (length v) D ≡ discriminator w v) × Chain w (set_bit (length v) D) vs

pub chain_strings : (w : ℕ) (D : Key) (ps : List Key) → StemChain w D ps → Chain w D (map string ps)
chain_strings w D [] h = tt
chain_strings w D (p ∷ ps) h = rw (string_length p) (h.0, chain_strings w (set_bit (suc (length p)) D) ps h.1)

-- "D0 is 0; D(i) sets bit d(i) of D(i-1) and clears all later bits": that is the discriminator of the i-th bounding node.
pub bounding_nodes_chain : (w : ℕ) (s : List Item) → Chain w (zero_bits w) (bounding_nodes w s)
bounding_nodes_chain w s = rw (bounding_nodes_stems w s) (chain_strings w (zero_bits w) (bounding_stems w s) (chain_stems w s))

-- The leaf list of a herd, as 01 words it, is the one written from its trie.
pub twin : (w : ℕ) (s : Herd) → Narrow w s → Sorted s → leaf_list w s ≡ trie_list w s
unfolding leaf_list
twin w s q o =
    rw (bounding_nodes_stems w (items w s))
    (entries_from_stems (items w s) (zero_bits w) (bounding_stems w (items w s))
    ∙ twin_node w 0 0 (items w s) [] (items_lengths w s) (items_distinct w s q o)
    ∙ write_option_whole (trie_of w (items w s)))
