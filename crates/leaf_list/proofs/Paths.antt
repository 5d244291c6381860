-- Keys that begin with a common path, which is given last bit first. Assumes nothing.
use mathlib.Core.Path.{◌≡◌, refl, ◌∙◌, ap, sym}
use mathlib.Core.Bool.{false, true, Bool}
use mathlib.Core.List.{[], ◌∷◌, reverse_aux, ◌++◌, append_assoc}
use Prim.Native.Nat.{ℕ, ◌<◌, suc, ◌≤◌, ◌+◌, zero}
use native.Mathlib.Omega.{arith}
use native.Mathlib.Nat.{zero-add, add-zero}
use lib.ListN.{length, length-reverse_aux, take, drop, take-append-drop}
use Rattle.leaf_list.specs.Keys.{Key, same_key, first_difference, below, set_bit, zero_bits, bit_of}

-- The two keys differ in a bit that both have.
abbrev pub Differ : Key → Key → Type 0
Differ [] k' = ⊥
Differ (false ∷ k) [] = ⊥
Differ (false ∷ k) (false ∷ k') = Differ k k'
Differ (false ∷ k) (true ∷ k') = Unit {0}
Differ (true ∷ k) [] = ⊥
Differ (true ∷ k) (false ∷ k') = Unit {0}
Differ (true ∷ k) (true ∷ k') = Differ k k'

-- Keys that differ are not the same.
pub differ_same_key : (k k' : Key) → Differ k k' → same_key k k' ≡ false
differ_same_key [] k' a = absurd a
differ_same_key (false ∷ k) [] a = refl
differ_same_key (false ∷ k) (false ∷ k') a = differ_same_key k k' a
differ_same_key (false ∷ k) (true ∷ k') a = refl
differ_same_key (true ∷ k) [] a = refl
differ_same_key (true ∷ k) (false ∷ k') a = refl
differ_same_key (true ∷ k) (true ∷ k') a = differ_same_key k k' a

-- A common path is counted by its length.
pub first_difference_path : (u k k' : Key) → first_difference 0 (reverse_aux u k) (reverse_aux u k') ≡ first_difference (length u) k k'
first_difference_path [] k k' = refl
first_difference_path (false ∷ u) k k' = first_difference_path u (false ∷ k) (false ∷ k')
first_difference_path (true ∷ u) k k' = first_difference_path u (true ∷ k) (true ∷ k')

-- A common path does not count in the order.
pub below_path : (u k k' : Key) → below (reverse_aux u k) (reverse_aux u k') ≡ below k k'
below_path [] k k' = refl
below_path (false ∷ u) k k' = below_path u (false ∷ k) (false ∷ k')
below_path (true ∷ u) k k' = below_path u (true ∷ k) (true ∷ k')

-- A common path does not count in the comparison.
pub same_key_path : (u k k' : Key) → same_key (reverse_aux u k) (reverse_aux u k') ≡ same_key k k'
same_key_path [] k k' = refl
same_key_path (false ∷ u) k k' = same_key_path u (false ∷ k) (false ∷ k')
same_key_path (true ∷ u) k k' = same_key_path u (true ∷ k) (true ∷ k')

-- The first difference lies past the bits that went before.
pub first_difference_above : (l : ℕ) (k k' : Key) → l < first_difference l k k'
first_difference_above l [] k' = omega arith
first_difference_above l (false ∷ k) [] = omega arith
first_difference_above l (false ∷ k) (false ∷ k') = omega (arith, first_difference_above (suc l) k k')
first_difference_above l (false ∷ k) (true ∷ k') = omega arith
first_difference_above l (true ∷ k) [] = omega arith
first_difference_above l (true ∷ k) (false ∷ k') = omega arith
first_difference_above l (true ∷ k) (true ∷ k') = omega (arith, first_difference_above (suc l) k k')

-- Keys that differ do so inside the key.
pub first_difference_within : (l : ℕ) (k k' : Key) → Differ k k' → first_difference l k k' ≤ l + length k
first_difference_within l [] k' a = absurd a
first_difference_within l (false ∷ k) [] a = absurd a
first_difference_within l (false ∷ k) (false ∷ k') a = omega (arith, first_difference_within (suc l) k k' a)
first_difference_within l (false ∷ k) (true ∷ k') a = omega arith
first_difference_within l (true ∷ k) [] a = absurd a
first_difference_within l (true ∷ k) (false ∷ k') a = omega arith
first_difference_within l (true ∷ k) (true ∷ k') a = omega (arith, first_difference_within (suc l) k k' a)

-- Setting a bit past the path leaves the path.
pub set_bit_path : (u : Key) (x : Bool) (e : Key) (d : ℕ) → set_bit (suc (length u + d)) (reverse_aux u (x ∷ e)) ≡ reverse_aux u (set_bit (suc d) (x ∷ e))
set_bit_path [] x e d = rw zero-add
set_bit_path (y ∷ u) x e d =
    let q : suc (length u) + d ≡ length u + suc d = omega arith in
    rw q (set_bit_path u y (x ∷ e) (suc d))

-- The first bit after the path set, and all later ones cleared.
pub set_bit_here : (u : Key) (x : Bool) (e : Key) (n : ℕ) → length e ≡ n → set_bit (suc (length u)) (reverse_aux u (x ∷ e)) ≡ reverse_aux (true ∷ u) (zero_bits n)
set_bit_here u x e n h = (rw (add-zero (length u)) at (set_bit_path u x e 0)) ∙ rw h

-- A bit past the path.
pub bit_of_path : (u : Key) (x : Bool) (e : Key) (d : ℕ) → bit_of (suc (length u + d)) (reverse_aux u (x ∷ e)) ≡ bit_of (suc d) (x ∷ e)
bit_of_path [] x e d = rw zero-add
bit_of_path (y ∷ u) x e d =
    let q : suc (length u) + d ≡ length u + suc d = omega arith in
    rw q (bit_of_path u y (x ∷ e) (suc d))

-- The first bit after the path.
pub bit_of_here : (u : Key) (x : Bool) (e : Key) → bit_of (suc (length u)) (reverse_aux u (x ∷ e)) ≡ x
bit_of_here u x e = rw (add-zero (length u)) at (bit_of_path u x e 0)

-- The path before what follows it.
pub path_append : (u e : Key) → reverse_aux u e ≡ reverse_aux u [] ++ e
path_append [] e = refl
path_append (x ∷ u) e = path_append u (x ∷ e) ∙ rw (path_append u (x ∷ []), append_assoc)

-- The path keeps its length.
pub path_length : (u : Key) → length (reverse_aux u []) ≡ length u
path_length u = length-reverse_aux u [] ∙ add-zero (length u)

-- A bit of the front set: what followed does not count.
pub set_bit_front : (v e e' : Key) (d : ℕ) → length e ≡ length e' → suc d ≤ length v → set_bit (suc d) (v ++ e) ≡ set_bit (suc d) (v ++ e')
set_bit_front [] e e' d h q = absurd (omega arith)
set_bit_front (x ∷ v) e e' zero h q = ap (λ (n : ℕ). true ∷ zero_bits n) (go v)
  where
    go : (v : Key) → length (v ++ e) ≡ length (v ++ e')
    go [] = h
    go (x ∷ v) = ap suc (go v)
set_bit_front (x ∷ v) e e' (suc d) h q = ap (λ (k : Key). x ∷ k) (set_bit_front v e e' d h (omega arith))

-- A bit of the front: what follows does not count.
pub bit_of_front : (v e e' : Key) (d : ℕ) → suc d ≤ length v → bit_of (suc d) (v ++ e) ≡ bit_of (suc d) (v ++ e')
bit_of_front [] e e' d q = absurd (omega arith)
bit_of_front (x ∷ v) e e' zero q = refl
bit_of_front (x ∷ v) e e' (suc d) q = bit_of_front v e e' d (omega arith)

-- A bit of the path set: what followed does not count.
pub set_bit_within : (u e e' : Key) (d : ℕ) → length e ≡ length e' → suc d ≤ length u → set_bit (suc d) (reverse_aux u e) ≡ set_bit (suc d) (reverse_aux u e')
set_bit_within u e e' d h q = rw (path_append u e, path_append u e') (set_bit_front (reverse_aux u []) e e' d h (omega (arith, path_length u)))

-- A bit of the path: what follows does not count.
pub bit_of_within : (u e e' : Key) (d : ℕ) → suc d ≤ length u → bit_of (suc d) (reverse_aux u e) ≡ bit_of (suc d) (reverse_aux u e')
bit_of_within u e e' d q = rw (path_append u e, path_append u e') (bit_of_front (reverse_aux u []) e e' d (omega (arith, path_length u)))

-- The first bits are the path.
pub take_path : (u e : Key) → take (length u) (reverse_aux u e) ≡ reverse_aux u []
take_path u e = rw (path_append u e, ← (path_length u)) (go (reverse_aux u []))
  where
    go : (v : Key) → take (length v) (v ++ e) ≡ v
    go [] = refl
    go (x ∷ v) = ap (λ (k : Key). x ∷ k) (go v)

-- A key that agrees with the path goes on from it.
pub path_agrees : (u e K : Key) → take (length u) K ≡ take (length u) (reverse_aux u e) → K ≡ reverse_aux u (drop (length u) K)
path_agrees u e K h = sym (take-append-drop (length u) K) ∙ rw (h ∙ take_path u e) (sym (path_append u (drop (length u) K)))
