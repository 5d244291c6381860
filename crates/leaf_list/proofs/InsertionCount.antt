-- One insertion adds at most as many entries as a key has bits. Assumes nothing.
use mathlib.Core.Path.{◌≡◌, refl, ◌∙◌}
use mathlib.Core.Bool.{Bool, cond, ◌&&◌, true, false}
use mathlib.Core.Option.{none, some}
use mathlib.Core.List.{List, ◌∷◌, []}
use Prim.Native.Nat.{ℕ, ◌≤◌, ◌+◌, ◌-◌, suc}
use native.Mathlib.Omega.{arith}
use lib.Dec.{ltb, eqb}
use lib.ListN.{length, length-reverse_aux}
use borrow.Author.Tests.{ltb-true}
use Rattle.leaf_list.specs.Keys.{Key, first_difference, below}
use Rattle.leaf_list.specs.Entries.{Entry, entry}
use Rattle.leaf_list.specs.Search.{positions, search, Place}
use Rattle.leaf_list.specs.Insertion.{dummies, both_leaves, insert_at, leaf_depth, trailing, insertion}
use Rattle.leaf_list.proofs.Paths.{Differ, first_difference_within, first_difference_above}
use Rattle.leaf_list.proofs.FoundEntry.{FoundOther}

-- A dummy or none.
pub one_dummy : (t u : Bool) (p b n : ℕ) (r : List Entry) → ltb p b ≡ u → length r ≤ n + (b - suc p) → length (cond (t && u) (entry p none ∷ r) r) ≤ n + (b - p)
one_dummy true true p b n r e h = omega (arith, ltb-true p b e)
one_dummy true false p b n r e h = omega arith
one_dummy false u p b n r e h = omega arith

-- The dummies lie between l and b.
pub dummies_count : (k : Key) (l m b : ℕ) (rest : List Entry) → length (dummies m b (positions l k) rest) ≤ length rest + (b - suc l)
dummies_count [] l m b rest = one_dummy (ltb m (suc l)) (ltb (suc l) b) (suc l) b (length rest) rest refl (omega arith)
dummies_count (false ∷ k) l m b rest = omega (arith, dummies_count k (suc l) m b rest)
dummies_count (true ∷ k) l m b rest =
    one_dummy (ltb m (suc l)) (ltb (suc l) b) (suc l) b (length rest) (dummies m b (positions (suc l) k) rest) refl (dummies_count k (suc l) m b rest)

-- Two entries.
pub both_leaves_length : (t : Bool) (b c r r' : ℕ) (rest : List Entry) → length (both_leaves t b c r r' rest) ≡ suc (suc (length rest))
both_leaves_length true b c r r' rest = refl
both_leaves_length false b c r r' rest = refl

-- What stands for a live entry with another key.
pub insert_at_count : (key_of : ℕ → Key) (K : Key) (r τ d r' : ℕ) (rest : List Entry) → Differ K (key_of r')
    → length (insert_at key_of K r τ (entry d (some r') ∷ rest)) ≤ suc (length rest) + length K
insert_at_count key_of K r τ d r' rest a = go (ltb (first_difference 0 K (key_of r')) (leaf_depth τ d))
  where
    go : (t : Bool)
        → length
        (cond t (entry (first_difference 0 K (key_of r')) (some r') ∷ entry d (some r) ∷ rest)
        (dummies (leaf_depth τ d) (first_difference 0 K (key_of r')) (positions 0 K) (both_leaves (below K (key_of r')) (first_difference 0 K (key_of r')) d r r' rest)))
        ≤ suc (length rest) + length K
    go true = omega (arith, first_difference_within 0 K (key_of r') a, first_difference_above 0 K (key_of r'))
    go false =
        omega (
          arith,
          dummies_count K 0 (leaf_depth τ d) (first_difference 0 K (key_of r')) (both_leaves (below K (key_of r')) (first_difference 0 K (key_of r')) d r r' rest),
          both_leaves_length (below K (key_of r')) (first_difference 0 K (key_of r')) d r r' rest,
          first_difference_within 0 K (key_of r') a,
          first_difference_above 0 K (key_of r'),
        )

-- What stands for the found entry and those after it, in any case.
pub insert_at_length : (key_of : ℕ → Key) (K : Key) (r τ : ℕ) (es : List Entry) → FoundOther key_of K τ es
    → length (insert_at key_of K r τ es) ≤ length es + length K
insert_at_length key_of K r τ [] h = omega arith
insert_at_length key_of K r τ (entry d none ∷ rest) h = omega arith
insert_at_length key_of K r τ (entry d (some old) ∷ rest) h = insert_at_count key_of K r τ d old rest h.differs

-- A search loses no entry.
pub search_length : (es before : List Entry) (bs : List ℕ) → length (search before bs es).0 + length (search before bs es).1 ≡ length before + length es
search_length [] before bs = refl
search_length (e ∷ es) before [] = refl
search_length (entry d p ∷ es) before (b ∷ bs) = go (ltb d b) (search_length es (entry d p ∷ before) (cond (eqb d b) bs (b ∷ bs)))
  where
    next : Place
    next = search (entry d p ∷ before) (cond (eqb d b) bs (b ∷ bs)) es

    place : Bool → Place
    place t = cond t (before, entry d p ∷ es) next

    go : (t : Bool) → length next.0 + length next.1 ≡ suc (length before) + length es
        → length (place t).0 + length (place t).1 ≡ length before + suc (length es)
    go true i = refl
    go false i = i ∙ omega arith

-- A whole insertion, where the found entry is a dummy or has another key.
pub insertion_length : (key_of : ℕ → Key) (k : Key) (r : ℕ) (es : List Entry)
    → FoundOther key_of k (trailing (search [] (positions 0 k) es).0) (search [] (positions 0 k) es).1 → length (insertion key_of k r es) ≤ length es + length k
insertion_length key_of k r es h =
    let place : Place = search [] (positions 0 k) es in
    omega (
      arith,
      length-reverse_aux place.0 (insert_at key_of k r (trailing place.0) place.1),
      insert_at_length key_of k r (trailing place.0) place.1 h,
      search_length es [] (positions 0 k),
    )
