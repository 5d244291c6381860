-- Insertion at the found entry writes the trie with the key. Assumes nothing.
use mathlib.Core.Path.{◌≡◌, refl, ◌∙◌, ap}
use mathlib.Core.Bool.{Bool, cond, true, false, and-false}
use mathlib.Core.Option.{none, some}
use mathlib.Core.List.{[], ◌∷◌, List, reverse_aux}
use Prim.Native.Nat.{ℕ, max, ◌≤◌, suc}
use native.Mathlib.Omega.{arith}
use lib.Dec.{ltb}
use lib.ListN.{length}
use borrow.Author.Tests.{ltb-true, ltb-false, le-ltb, lt-ltb}
use Rattle.leaf_list.specs.Keys.{Key, first_difference, below}
use Rattle.leaf_list.specs.Entries.{Entry, entry}
use Rattle.leaf_list.specs.Trie.{Trie, leaf, zero_only, fork, one_only, write}
use Rattle.leaf_list.specs.Search.{positions}
use Rattle.leaf_list.specs.Insertion.{leaf_depth, dummies, both_leaves, trailing, insert_into}
use Rattle.leaf_list.proofs.Paths.{Differ, first_difference_above, first_difference_path, below_path}
use Rattle.leaf_list.proofs.Tries.{Branching, Pruned, KeysIn, last_record, key_of_last, last_bits, NotHeld, AtLeaf, at_branching, at_leaf}
use Rattle.leaf_list.proofs.Places.{pass_front, trailing_front, rewind, passed, remaining}

-- 01's rule for the leaf's depth is the larger of the two depths, with 0 before the first entry.
pub leaf_depth_max : (τ d : ℕ) → leaf_depth τ d ≡ max τ d
leaf_depth_max τ d = go (ltb τ d) refl
  where
    go : (t : Bool) → ltb τ d ≡ t → cond t d τ ≡ max τ d
    go true e = omega (arith, ltb-true τ d e)
    go false e = omega (arith, ltb-false τ d e)

-- The trie of two keys, k new.
abbrev pub two_leaves : Key → ℕ → Key → ℕ → Trie
two_leaves [] r k' r' = leaf k' r'
two_leaves (false ∷ k) r [] r' = leaf [] r'
two_leaves (false ∷ k) r (false ∷ k') r' = zero_only (two_leaves k r k' r')
two_leaves (false ∷ k) r (true ∷ k') r' = fork (leaf k r) (leaf k' r')
two_leaves (true ∷ k) r [] r' = leaf [] r'
two_leaves (true ∷ k) r (false ∷ k') r' = fork (leaf k' r') (leaf k r)
two_leaves (true ∷ k) r (true ∷ k') r' = one_only (two_leaves k r k' r')

-- The trie with one key more.
abbrev pub insert_trie : Key → ℕ → Trie → Trie
insert_trie k r (leaf k' r') = two_leaves k r k' r'
insert_trie [] r (zero_only t) = zero_only t
insert_trie (false ∷ k) r (zero_only t) = zero_only (insert_trie k r t)
insert_trie (true ∷ k) r (zero_only t) = fork t (leaf k r)
insert_trie [] r (one_only t) = one_only t
insert_trie (false ∷ k) r (one_only t) = fork (leaf k r) t
insert_trie (true ∷ k) r (one_only t) = one_only (insert_trie k r t)
insert_trie [] r (fork a b) = fork a b
insert_trie (false ∷ k) r (fork a b) = fork (insert_trie k r a) b
insert_trie (true ∷ k) r (fork a b) = fork a (insert_trie k r b)

-- No dummy is made for a one-bit of the path.
pub dummies_path : (u k : Key) (m b : ℕ) (rest : List Entry) → length u ≤ m
    → dummies m b (positions 0 (reverse_aux u k)) rest ≡ dummies m b (positions (length u) k) rest
dummies_path [] k m b rest h = refl
dummies_path (false ∷ u) k m b rest h = dummies_path u (false ∷ k) m b rest (omega arith)
dummies_path (true ∷ u) k m b rest h = dummies_path u (true ∷ k) m b rest (omega arith) ∙ rw (le-ltb m (suc (length u)) h)

-- No dummy is made past the first difference.
pub dummies_none : (k : Key) (l m b : ℕ) (rest : List Entry) → b ≤ suc l → dummies m b (positions l k) rest ≡ rest
dummies_none [] l m b rest h = rw (le-ltb (suc l) b h, and-false)
dummies_none (false ∷ k) l m b rest h = dummies_none k (suc l) m b rest (omega arith)
dummies_none (true ∷ k) l m b rest h = rw (le-ltb (suc l) b h, and-false) (dummies_none k (suc l) m b rest (omega arith))

-- The dummies and the two leaves are the entries of the trie of two keys.
pub write_two_leaves : (k k' : Key) (r r' l m c : ℕ) (rest : List Entry) → Differ k k' → m ≤ l
    → dummies m (first_difference l k k') (positions l k) (both_leaves (below k k') (first_difference l k k') c r r' rest) ≡ write l (two_leaves k r k' r') c rest
write_two_leaves [] k' r r' l m c rest a h = absurd a
write_two_leaves (false ∷ k) [] r r' l m c rest a h = absurd a
write_two_leaves (false ∷ k) (false ∷ k') r r' l m c rest a h = write_two_leaves k k' r r' (suc l) m c rest a (omega arith)
write_two_leaves (false ∷ k) (true ∷ k') r r' l m c rest a h = dummies_none k (suc l) m (suc l) (both_leaves true (suc l) c r r' rest) (omega arith)
write_two_leaves (true ∷ k) [] r r' l m c rest a h = absurd a
write_two_leaves (true ∷ k) (false ∷ k') r r' l m c rest a h = dummies_none (true ∷ k) l m (suc l) (both_leaves false (suc l) c r r' rest) (omega arith)
write_two_leaves (true ∷ k) (true ∷ k') r r' l m c rest a h =
    rw (lt-ltb m (suc l) (omega arith), lt-ltb (suc l) (first_difference (suc l) k k') (first_difference_above (suc l) k k'))
    (ap (λ (x : List Entry). entry (suc l) none ∷ x) (write_two_leaves k k' r r' (suc l) m c rest a (omega arith)))

-- Insertion into the entries of a node.
module _ (key_of : ℕ → Key) where
  -- At a leaf, b is above l.
  insert_at_leaf : (u k k' : Key) (r r' c : ℕ) (before rest : List Entry) → Differ k k' → key_of r' ≡ reverse_aux u k' → max (trailing before) c ≡ length u
      → insert_into key_of (reverse_aux u k) r (before, entry c (some r') ∷ rest) ≡ reverse_aux before (write (length u) (two_leaves k r k' r') c rest)
  insert_at_leaf u k k' r r' c before rest a g e =
      rw (
        g,
        first_difference_path u k k',
        below_path u k k',
        leaf_depth_max (trailing before) c,
        e,
        le-ltb (first_difference (length u) k k') (length u) (omega (arith, first_difference_above (length u) k k')),
      )
      (ap (reverse_aux before) (dummies_path u k (length u) _ _ (omega arith) ∙ write_two_leaves k k' r r' (length u) (length u) c rest a (omega arith)))

  -- After a node whose keys all go on with 0, b is below l.
  insert_after_zeros : (u k : Key) (t : Trie) (r c : ℕ) (before rest : List Entry) → Branching t → Pruned t → KeysIn key_of (false ∷ u) t
      → insert_into key_of (reverse_aux u (true ∷ k)) r (pass_front (suc (length u)) t before, entry c (some (last_record t)) ∷ rest)
      ≡ reverse_aux before (write (suc (length u)) t (suc (length u)) (entry c (some r) ∷ rest))
  insert_after_zeros u k t r c before rest m g q =
      rw (
        key_of_last key_of t (false ∷ u) q,
        first_difference_path u (true ∷ k) (false ∷ last_bits t),
        leaf_depth_max (trailing (pass_front (suc (length u)) t before)) c,
        lt-ltb (suc (length u)) (max (trailing (pass_front (suc (length u)) t before)) c) (omega (arith, trailing_front t (suc (length u)) before m g)),
      )
      (rewind t (suc (length u)) (suc (length u)) before (entry c (some r) ∷ rest))

  -- At the place that a search finds in a node.
  pub insert_node : (t : Trie) (u k : Key) (r c : ℕ) (before rest : List Entry)
      → NotHeld k t → Pruned t → KeysIn key_of u t → c ≤ length u → trailing before ≤ length u → AtLeaf (max (trailing before) c ≡ length u) t
      → insert_into key_of (reverse_aux u k) r (passed (length u) t k before, remaining (length u) t k c rest)
      ≡ reverse_aux before (write (length u) (insert_trie k r t) c rest)
  insert_node (leaf k' r') u k r c before rest f g q hc hτ e = insert_at_leaf u k k' r r' c before rest f q e
  insert_node (zero_only t) u [] r c before rest f g q hc hτ e = absurd f
  insert_node (zero_only t) u (false ∷ k) r c before rest f g q hc hτ e =
      insert_node t (false ∷ u) k r c before rest f g.1 q (omega arith) (omega arith) (at_branching _ t g.0)
  insert_node (zero_only t) u (true ∷ k) r c before rest f g q hc hτ e = insert_after_zeros u k t r c before rest g.0 g.1 q
  insert_node (one_only t) u [] r c before rest f g q hc hτ e = absurd f
  insert_node (one_only t) u (false ∷ k) r c before rest f g q hc hτ e = refl
  insert_node (one_only t) u (true ∷ k) r c before rest f g q hc hτ e =
      insert_node t (true ∷ u) k r c (entry (suc (length u)) none ∷ before) rest f g.1 q (omega arith) (omega arith) (at_branching _ t g.0)
  insert_node (fork a b) u [] r c before rest f g q hc hτ e = absurd f
  insert_node (fork a b) u (false ∷ k) r c before rest f g q hc hτ e =
      insert_node a (false ∷ u) k r (suc (length u)) before (write (suc (length u)) b c rest) f g.0 q.0 (omega arith) (omega arith)
      (at_leaf _ a (omega arith))
  insert_node (fork a b) u (true ∷ k) r c before rest f g q hc hτ e =
      insert_node b (true ∷ u) k r c (entry (suc (length u)) (some (last_record a)) ∷ pass_front (suc (length u)) a before) rest f g.1 q.1
      (omega arith) (omega arith)
      (at_leaf _ b (omega arith))
      ∙ rewind a (suc (length u)) (suc (length u)) before (write (suc (length u)) (insert_trie k r b) c rest)
