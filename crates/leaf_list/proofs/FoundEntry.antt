-- The live entry that a search finds for a key that is not held. Assumes nothing.
use mathlib.Core.Path.{◌≡◌, ◌∙◌, refl}
use mathlib.Core.Logic.{◌≢◌}
use mathlib.Core.Bool.{false, true}
use mathlib.Core.Option.{none, some, Option}
use mathlib.Core.List.{reverse_aux, [], ◌∷◌, List}
use Prim.Native.Nat.{ℕ, ◌<◌, max, ◌≤◌, suc, ◌^◌}
use native.Mathlib.Omega.{arith}
use lib.ListN.{length}
use Rattle.leaf_list.specs.Keys.{Key, first_difference, bits}
use Rattle.leaf_list.specs.Entries.{Entry, entry}
use Rattle.leaf_list.specs.Herd.{Herd, Narrow, KeysOf, lookup}
use Rattle.leaf_list.specs.LeafList.{items}
use Rattle.leaf_list.specs.Trie.{Trie, leaf, zero_only, one_only, fork, write, write_all, trie_list, trie_of}
use Rattle.leaf_list.specs.Search.{search, positions}
use Rattle.leaf_list.specs.Insertion.{leaf_depth, trailing}
use Rattle.leaf_list.proofs.Bits.{bits_length}
use Rattle.leaf_list.proofs.Paths.{Differ, first_difference_path, first_difference_above}
use Rattle.leaf_list.proofs.Tries.{Branching, Pruned, KeysIn, last_record, last_bits, key_of_last, NotHeld, AtLeaf, at_branching, at_leaf, Given, Reaches}
use Rattle.leaf_list.proofs.Places.{pass_front, trailing_front, passed, remaining, stops_shallow, search_node}
use Rattle.leaf_list.proofs.TrieInsertion.{leaf_depth_max}
use Rattle.leaf_list.proofs.TrieOf.{trie_of_reaches, trie_of_not_held, trie_of_pruned, trie_of_keys}
use Rattle.leaf_list.proofs.HerdLaws.{lookup_absent}
use Rattle.leaf_list.proofs.HerdItems.{items_lengths, items_no_key, items_keys}

-- Keys that differ do so after a common path.
pub differ_path : (u k k' : Key) → Differ k k' → Differ (reverse_aux u k) (reverse_aux u k')
differ_path [] k k' a = a
differ_path (false ∷ u) k k' a = differ_path u (false ∷ k) (false ∷ k') a
differ_path (true ∷ u) k k' a = differ_path u (true ∷ k) (true ∷ k') a

-- What a found live entry (d, old) has, after an entry of depth τ.
pub record OtherLeaf (key_of : ℕ → Key) (K : Key) (τ d old : ℕ) : Type 0 where
  -- its key differs,
  pub differs : Differ K (key_of old)
  -- in a bit past the entry's depth
  pub deeper : d < first_difference 0 K (key_of old)
  -- that is not the leaf's depth: "b = l cannot occur"
  pub uneven : first_difference 0 K (key_of old) ≢ leaf_depth τ d

-- The found entry, the first of those given, is a dummy or such a leaf.
abbrev pub FoundOther : (ℕ → Key) → Key → ℕ → List Entry → Type 0
FoundOther key_of K τ [] = Unit {0}
FoundOther key_of K τ (entry d none ∷ rest) = Unit {0}
FoundOther key_of K τ (entry d (some old) ∷ rest) = OtherLeaf key_of K τ d old

module _ (key_of : ℕ → Key) where
  -- At a leaf, b is above l.
  other_at_leaf : (u k k' : Key) (r c τ : ℕ) → Differ k k' → key_of r ≡ reverse_aux u k' → max τ c ≡ length u → OtherLeaf key_of (reverse_aux u k) τ c r
  other_at_leaf u k k' r c τ a g e =
      let b : first_difference 0 (reverse_aux u k) (key_of r) ≡ first_difference (length u) k k' = rw g (first_difference_path u k k') in
      record {
        differs = rw g (differ_path u k k' a);
        deeper = omega (arith, b, first_difference_above (length u) k k');
        uneven = λ q. omega (arith, b, first_difference_above (length u) k k', q ∙ leaf_depth_max τ c);
      }

  -- At the last leaf of a node whose keys all go on with 0, b is below l.
  other_after_zeros : (u k : Key) (t : Trie) (c : ℕ) (before : List Entry) → Branching t → Pruned t → KeysIn key_of (false ∷ u) t → c ≤ length u
      → OtherLeaf key_of (reverse_aux u (true ∷ k)) (trailing (pass_front (suc (length u)) t before)) c (last_record t)
  other_after_zeros u k t c before m g q h =
      let e : key_of (last_record t) ≡ reverse_aux u (false ∷ last_bits t) = key_of_last key_of t (false ∷ u) q in
      let b : first_difference 0 (reverse_aux u (true ∷ k)) (key_of (last_record t)) ≡ suc (length u) = rw e (first_difference_path u (true ∷ k) (false ∷ last_bits t)) in
      record {
        differs = rw e (differ_path u (true ∷ k) (false ∷ last_bits t) tt);
        deeper = omega (arith, b);
        uneven = λ q. omega (arith, b, trailing_front t (suc (length u)) before m g, q ∙ leaf_depth_max (trailing (pass_front (suc (length u)) t before)) c);
      }

  -- The entry found in a node.
  pub other_node : (t : Trie) (u k : Key) (c : ℕ) (before rest : List Entry)
      → NotHeld k t → Pruned t → KeysIn key_of u t → c ≤ length u → trailing before ≤ length u → AtLeaf (max (trailing before) c ≡ length u) t
      → FoundOther key_of (reverse_aux u k) (trailing (passed (length u) t k before)) (remaining (length u) t k c rest)
  other_node (leaf k' r) u k c before rest f g q hc hτ e = other_at_leaf u k k' r c (trailing before) f q e
  other_node (zero_only t) u [] c before rest f g q hc hτ e = absurd f
  other_node (zero_only t) u (false ∷ k) c before rest f g q hc hτ e =
      other_node t (false ∷ u) k c before rest f g.1 q (omega arith) (omega arith) (at_branching _ t g.0)
  other_node (zero_only t) u (true ∷ k) c before rest f g q hc hτ e = other_after_zeros u k t c before g.0 g.1 q hc
  other_node (one_only t) u [] c before rest f g q hc hτ e = absurd f
  other_node (one_only t) u (false ∷ k) c before rest f g q hc hτ e = tt
  other_node (one_only t) u (true ∷ k) c before rest f g q hc hτ e =
      other_node t (true ∷ u) k c (entry (suc (length u)) none ∷ before) rest f g.1 q (omega arith) (omega arith) (at_branching _ t g.0)
  other_node (fork a b) u [] c before rest f g q hc hτ e = absurd f
  other_node (fork a b) u (false ∷ k) c before rest f g q hc hτ e =
      other_node a (false ∷ u) k (suc (length u)) before (write (suc (length u)) b c rest) f g.0 q.0 (omega arith) (omega arith)
      (at_leaf _ a (omega arith))
  other_node (fork a b) u (true ∷ k) c before rest f g q hc hτ e =
      other_node b (true ∷ u) k c (entry (suc (length u)) (some (last_record a)) ∷ pass_front (suc (length u)) a before) rest f g.1 q.1
      (omega arith) (omega arith)
      (at_leaf _ b (omega arith))

  -- The entry found in a whole trie.
  pub other_trie : (o : Option Trie) (k : Key) → Given (Reaches k) o → Given (NotHeld k) o → Given Pruned o → Given (KeysIn key_of []) o
      → FoundOther key_of k (trailing (search [] (positions 0 k) (write_all o)).0) (search [] (positions 0 k) (write_all o)).1
  other_trie none k y f g q = rw (stops_shallow k 0 0 none [] [] (omega arith)) tt
  other_trie (some t) k y f g q =
      rw (search_node t k 0 0 [] [] y (omega arith))
      (other_node t [] k 0 [] [] f g q (omega arith) (omega arith) (at_leaf _ t refl))

-- The entry found in the entries of a herd, for a key that it does not hold.
pub found_trie_list : (key_of : ℕ → ℕ) (w k : ℕ) (s : Herd) → k < 2 ^ w → Narrow w s → KeysOf key_of s → lookup k s ≡ none
    → FoundOther (λ r. bits w (key_of r)) (bits w k) (trailing (search [] (positions 0 (bits w k)) (trie_list w s)).0) (search [] (positions 0 (bits w k)) (trie_list w s)).1
found_trie_list key_of w k s h q g e =
    other_trie (λ r. bits w (key_of r)) (trie_of w (items w s)) (bits w k) (trie_of_reaches w (bits w k) (items w s) (bits_length w k) (items_lengths w s))
    (trie_of_not_held w (bits w k) (items w s) (bits_length w k) (items_lengths w s) (items_no_key w k s h q (lookup_absent k s e))) (trie_of_pruned w (items w s))
    (trie_of_keys (λ r. bits w (key_of r)) w [] (items w s) (items_keys w key_of s g))
