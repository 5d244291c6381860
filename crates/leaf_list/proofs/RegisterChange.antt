-- One record of a register set or cleared; and when its keys differ. Assumes nothing.
use mathlib.Core.Path.{◌≡◌, refl, ◌∙◌, ap, sym, subst}
use mathlib.Core.Logic.{◌≢◌, ◌↔◌}
use mathlib.Core.Bool.{true, Bool, cond, false}
use mathlib.Core.Option.{some}
use mathlib.Core.List.{List, [], ◌∷◌}
use Prim.Native.Nat.{ℕ, ◌+◌, suc, ◌<◌, zero}
use native.Mathlib.Omega.{arith}
use native.Mathlib.Nat.{add-zero, zero-add}
use lib.Dec.{eqb}
use lib.ListN.{length, set}
use lib.Seq.{get_or-set_same, get_or-set_other}
use Rattle.leaf_list.specs.Herd.{Absent, add, Sorted, lookup, remove}
use Rattle.leaf_list.specs.Register.{in_use, herd_from, key_at, herd_of}
use Rattle.leaf_list.proofs.HerdLaws.{absent_add, sorted_add, absent_add_inverse, add_comm, remove_add, sorted_add_inverse, remove_other}
use Rattle.leaf_list.proofs.RegisterHerd.{holds_lookup, herd_of_is, absent_holds, holds_from}

-- A key that no record in use has is not held.
pub absent_from : (key_of : ℕ → ℕ) (k i : ℕ) (us : List ℕ) → ((j : ℕ) → in_use us j ≡ true → k ≢ key_of (i + j)) → Absent k (herd_from key_of i us)
absent_from key_of k i [] f = tt
absent_from key_of k i (u ∷ us) f = go (eqb u 1) refl (absent_from key_of k (suc i) us (λ j e q. f (suc j) e (q ∙ ap key_of (omega arith))))
  where
    go : (t : Bool) → eqb u 1 ≡ t → Absent k (herd_from key_of (suc i) us)
        → Absent k (cond t (add (key_of i) i (herd_from key_of (suc i) us)) (herd_from key_of (suc i) us))
    go true e h = absent_add k (key_of i) i (herd_from key_of (suc i) us) (λ q. f 0 e (q ∙ ap key_of (sym (add-zero i)))) h
    go false e h = h

-- Records in use with different keys make a sorted herd.
pub sorted_from : (key_of : ℕ → ℕ) (i : ℕ) (us : List ℕ) → ((j l : ℕ) → in_use us j ≡ true → in_use us l ≡ true → key_of (i + j) ≡ key_of (i + l) → j ≡ l)
    → Sorted (herd_from key_of i us)
sorted_from key_of i [] f = tt
sorted_from key_of i (u ∷ us) f = go (eqb u 1) refl (sorted_from key_of (suc i) us later)
  where
    later : (j l : ℕ) → in_use us j ≡ true → in_use us l ≡ true → key_of (suc i + j) ≡ key_of (suc i + l) → j ≡ l
    later j l p q e =
        let z : suc j ≡ suc l = f (suc j) (suc l) p q (ap key_of (omega arith) ∙ e ∙ ap key_of (omega arith)) in
        omega arith

    go : (t : Bool) → eqb u 1 ≡ t → Sorted (herd_from key_of (suc i) us)
        → Sorted (cond t (add (key_of i) i (herd_from key_of (suc i) us)) (herd_from key_of (suc i) us))
    go true e h =
        sorted_add (key_of i) i (herd_from key_of (suc i) us) h
        (absent_from key_of (key_of i) (suc i) us (λ j p q. let z : 0 ≡ suc j = f 0 (suc j) e p (ap key_of (add-zero i) ∙ q ∙ ap key_of (omega arith)) in omega arith))
    go false e h = h

-- "No two records in use have one key".
abbrev pub DistinctKeys : List ℕ → List ℕ → Type 0
DistinctKeys keys used = (i j : ℕ) → in_use used i ≡ true → in_use used j ≡ true → key_at keys i ≡ key_at keys j → i ≡ j

-- The herd is sorted exactly if no two records in use have one key.
pub herd_of_sorted : (keys used : List ℕ) → Sorted (herd_of keys used) ↔ DistinctKeys keys used
herd_of_sorted keys used = (to, fro)
  where
    to : Sorted (herd_of keys used) → DistinctKeys keys used
    to o i j p q e =
        let x : lookup (key_at keys i) (herd_of keys used) ≡ some i = holds_lookup (key_at keys i) i (herd_of keys used) o ((herd_of_is keys used).all i p) in
        let y : lookup (key_at keys j) (herd_of keys used) ≡ some j = holds_lookup (key_at keys j) j (herd_of keys used) o ((herd_of_is keys used).all j q) in
        cc

    fro : DistinctKeys keys used → Sorted (herd_of keys used)
    fro f = sorted_from (key_at keys) 0 used (λ j l p q e. f j l p q (ap (key_at keys) (sym (zero-add j)) ∙ e ∙ ap (key_at keys) (zero-add l)))

-- The herd depends on the keys from i on only.
pub herd_from_same : (key_of key_of' : ℕ → ℕ) (i : ℕ) (us : List ℕ) → ((j : ℕ) → key_of' (i + j) ≡ key_of (i + j)) → herd_from key_of' i us ≡ herd_from key_of i us
herd_from_same key_of key_of' i [] f = refl
herd_from_same key_of key_of' i (u ∷ us) f =
    let z : key_of' i ≡ key_of i = ap key_of' (sym (add-zero i)) ∙ f 0 ∙ ap key_of (add-zero i) in
    rw (herd_from_same key_of key_of' (suc i) us (λ j. ap key_of' (omega arith) ∙ f (suc j) ∙ ap key_of (omega arith)), z)

-- One record set.
pub herd_from_set : (key_of key_of' : ℕ → ℕ) (us : List ℕ) (i j : ℕ) → j < length us → in_use us j ≡ false → ((x : ℕ) → x ≢ i + j → key_of' x ≡ key_of x)
    → Absent (key_of' (i + j)) (herd_from key_of i us)
    → herd_from key_of' i (set us j 1) ≡ add (key_of' (i + j)) (i + j) (herd_from key_of i us)
herd_from_set key_of key_of' [] i j h e f a = absurd (omega arith)
herd_from_set key_of key_of' (u ∷ us) i zero h e f a = rw (add-zero i, e, herd_from_same key_of key_of' (suc i) us (λ j. f (suc i + j) (omega arith)))
herd_from_set key_of key_of' (u ∷ us) i (suc j) h e f a =
    go (eqb u 1) a
    (λ b. herd_from_set key_of key_of' us (suc i) j (omega arith) e (λ x n. f x (λ q. n (q ∙ sym z)))
    (subst (λ (x : ℕ). Absent (key_of' x) (herd_from key_of (suc i) us)) (sym z) b))
  where
    z : suc i + j ≡ i + suc j
    z = omega arith

    y : key_of' i ≡ key_of i
    y = f i (omega arith)

    go : (t : Bool) → Absent (key_of' (i + suc j)) (cond t (add (key_of i) i (herd_from key_of (suc i) us)) (herd_from key_of (suc i) us))
        → (Absent (key_of' (i + suc j)) (herd_from key_of (suc i) us) → herd_from key_of' (suc i) (set us j 1) ≡ add (key_of' (suc i + j)) (suc i + j) (herd_from key_of (suc i) us))
        → cond t (add (key_of' i) i (herd_from key_of' (suc i) (set us j 1))) (herd_from key_of' (suc i) (set us j 1))
        ≡ add (key_of' (i + suc j)) (i + suc j) (cond t (add (key_of i) i (herd_from key_of (suc i) us)) (herd_from key_of (suc i) us))
    go true a ih =
        let b = absent_add_inverse (key_of' (i + suc j)) (key_of i) i (herd_from key_of (suc i) us) a in
        rw (y, ih b.1, z) (add_comm (key_of i) i (key_of' (i + suc j)) (i + suc j) (herd_from key_of (suc i) us) (λ q. b.0 (sym q)))
    go false a ih = rw (ih a, z)

-- One record cleared.
pub herd_from_clear : (key_of key_of' : ℕ → ℕ) (us : List ℕ) (i j : ℕ) → in_use us j ≡ true → ((x : ℕ) → x ≢ i + j → key_of' x ≡ key_of x) → Sorted (herd_from key_of i us)
    → herd_from key_of' i (set us j 0) ≡ remove (key_of (i + j)) (herd_from key_of i us)
herd_from_clear key_of key_of' [] i j e f o = refl
herd_from_clear key_of key_of' (u ∷ us) i zero e f o =
    let o' : Sorted (add (key_of i) i (herd_from key_of (suc i) us)) =
    subst (λ (b : Bool). Sorted (cond b (add (key_of i) i (herd_from key_of (suc i) us)) (herd_from key_of (suc i) us))) e o in
    rw (add-zero i, e, herd_from_same key_of key_of' (suc i) us (λ j. f (suc i + j) (omega arith)))
    (sym (remove_add (key_of i) i (herd_from key_of (suc i) us) (sorted_add_inverse (key_of i) i (herd_from key_of (suc i) us) o').1))
herd_from_clear key_of key_of' (u ∷ us) i (suc j) e f o = go (eqb u 1) o (λ b. herd_from_clear key_of key_of' us (suc i) j e (λ x n. f x (λ q. n (q ∙ sym z))) b)
  where
    z : suc i + j ≡ i + suc j
    z = omega arith

    y : key_of' i ≡ key_of i
    y = f i (omega arith)

    go : (t : Bool) → Sorted (cond t (add (key_of i) i (herd_from key_of (suc i) us)) (herd_from key_of (suc i) us))
        → (Sorted (herd_from key_of (suc i) us) → herd_from key_of' (suc i) (set us j 0) ≡ remove (key_of (suc i + j)) (herd_from key_of (suc i) us))
        → cond t (add (key_of' i) i (herd_from key_of' (suc i) (set us j 0))) (herd_from key_of' (suc i) (set us j 0))
        ≡ remove (key_of (i + suc j)) (cond t (add (key_of i) i (herd_from key_of (suc i) us)) (herd_from key_of (suc i) us))
    go true o ih =
        let b = sorted_add_inverse (key_of i) i (herd_from key_of (suc i) us) o in
        let n : key_of i ≢ key_of (suc i + j) = absent_holds (key_of i) (key_of (suc i + j)) (suc i + j) (herd_from key_of (suc i) us) b.1 (holds_from key_of (suc i) j us e) in
        rw (y, ih b.0, ← z) (sym (remove_other (key_of (suc i + j)) (key_of i) i (herd_from key_of (suc i) us) (λ q. n (sym q)) b.0))
    go false o ih = rw (ih o, z)

-- Setting a free record adds its key.
pub herd_of_set : (keys used : List ℕ) (r k : ℕ) → length keys ≡ length used → r < length used → in_use used r ≡ false → Absent k (herd_of keys used)
    → herd_of (set keys r k) (set used r 1) ≡ add k r (herd_of keys used)
herd_of_set keys used r k l h e a =
    let q : key_at (set keys r k) (0 + r) ≡ k = ap (key_at (set keys r k)) (zero-add r) ∙ get_or-set_same keys r k 0 (omega arith) in
    herd_from_set (key_at keys) (key_at (set keys r k)) used 0 r h e (λ x n. get_or-set_other keys r x k 0 (λ z. n (z ∙ sym (zero-add r)))) (rw q a)
    ∙ rw (q, zero-add r)

-- Clearing a record in use removes its key.
pub herd_of_clear : (keys used : List ℕ) (r k : ℕ) → in_use used r ≡ true → key_at keys r ≡ k → Sorted (herd_of keys used)
    → herd_of (set keys r 0) (set used r 0) ≡ remove k (herd_of keys used)
herd_of_clear keys used r k e q o =
    herd_from_clear (key_at keys) (key_at (set keys r 0)) used 0 r e (λ x n. get_or-set_other keys r x 0 0 (λ z. n (z ∙ sym (zero-add r)))) o
    ∙ rw (zero-add r, q)
