-- The herd of a register: the records in use, with their keys, in key order. Assumes nothing.
use mathlib.Core.Path.{◌≡◌, refl, ◌∙◌, ap, sym, subst}
use mathlib.Core.Logic.{◌⊎◌, inl, inr, ◌↔◌, ◌≢◌}
use mathlib.Core.Bool.{Bool, true, cond, false, true≢false}
use mathlib.Core.Option.{some}
use mathlib.Core.List.{[], ◌∷◌, List}
use Prim.Native.Nat.{ℕ, ◌≤◌, ◌<◌, suc, ◌+◌, zero}
use native.Mathlib.Omega.{arith}
use native.Mathlib.Nat.{add-zero, zero-add}
use lib.Dec.{ltb, eqb}
use lib.ListN.{length}
use borrow.Author.Tests.{ltb-true, ltb-false, eq-eqb, ne_eqb, eqb-true}
use Rattle.leaf_list.specs.Herd.{Herd, KeysOf, records_of, add, Absent, Sorted, lookup}
use Rattle.leaf_list.specs.Register.{herd_from, count_in_use, in_use, key_at, herd_of}
use Rattle.leaf_list.proofs.HerdLaws.{each_add, length_add, keys_of_add, above_absent}
use Rattle.leaf_list.proofs.FittingHerds.{AllInUse}

-- The herd holds the key k with the record r.
abbrev pub Holds : ℕ → ℕ → Herd → Type 0
Holds k r [] = ⊥
Holds k r (x ∷ s) = ((k ≡ x.0) × (r ≡ x.1)) ⊎ Holds k r s

-- No key is below k.
abbrev pub AtLeast : ℕ → Herd → Type 0
AtLeast k [] = Unit {0}
AtLeast k (x ∷ s) = (k ≤ x.0) × AtLeast k s

-- The keys do not fall; some may be equal.
abbrev pub WeaklySorted : Herd → Type 0
WeaklySorted [] = Unit {0}
WeaklySorted (x ∷ s) = AtLeast x.0 s × WeaklySorted s

-- A held key is no less than the least.
pub holds_at_least : (k j r : ℕ) (s : Herd) → AtLeast k s → Holds j r s → k ≤ j
holds_at_least k j r [] a i = absurd i
holds_at_least k j r (x ∷ s) a (inl e) = omega (arith, a.0, e.0)
holds_at_least k j r (x ∷ s) a (inr i) = holds_at_least k j r s a.1 i

-- s is the herd of the records in use.
pub record IsHerdOf (key_of : ℕ → ℕ) (used : ℕ → Bool) (s : Herd) : Type 0 where
  pub all : (r : ℕ) → used r ≡ true → Holds (key_of r) r s
  pub keys_of : KeysOf key_of s
  pub uses : AllInUse used (records_of s)
  pub ordered : WeaklySorted s

-- An added key is held.
pub holds_added : (k r : ℕ) (s : Herd) → Holds k r (add k r s)
holds_added k r [] = inl (refl, refl)
holds_added k r (x ∷ s) = go (ltb k x.0) (holds_added k r s)
  where
    go : (t : Bool) → Holds k r (add k r s) → Holds k r (cond t ((k, r) ∷ x ∷ s) (x ∷ add k r s))
    go true i = inl (refl, refl)
    go false i = inr i

-- What was held is held after adding.
pub holds_kept : (k r j q : ℕ) (s : Herd) → Holds j q s → Holds j q (add k r s)
holds_kept k r j q [] i = absurd i
holds_kept k r j q (x ∷ s) i = go (ltb k x.0) i (λ i'. holds_kept k r j q s i')
  where
    go : (t : Bool) → Holds j q (x ∷ s) → (Holds j q s → Holds j q (add k r s)) → Holds j q (cond t ((k, r) ∷ x ∷ s) (x ∷ add k r s))
    go true i f = inr i
    go false (inl e) f = inl e
    go false (inr i) f = inr (f i)

-- Adding a key that is no less.
pub at_least_add : (m k r : ℕ) (s : Herd) → m ≤ k → AtLeast m s → AtLeast m (add k r s)
at_least_add m = each_add (λ x. m ≤ x.0) (AtLeast m) tt (λ x s p q. (p, q)) (λ x s h. h)

-- What is no less than m is no less than less.
pub at_least_trans : (k m : ℕ) (s : Herd) → k ≤ m → AtLeast m s → AtLeast k s
at_least_trans k m [] h a = tt
at_least_trans k m (x ∷ s) h a = (omega (arith, a.0), at_least_trans k m s h a.1)

-- Adding keeps the order.
pub weakly_sorted_add : (k r : ℕ) (s : Herd) → WeaklySorted s → WeaklySorted (add k r s)
weakly_sorted_add k r [] o = (tt, tt)
weakly_sorted_add k r (x ∷ s) o = go (ltb k x.0) refl (weakly_sorted_add k r s o.1)
  where
    go : (t : Bool) → ltb k x.0 ≡ t → WeaklySorted (add k r s) → WeaklySorted (cond t ((k, r) ∷ x ∷ s) (x ∷ add k r s))
    go true e i =
        let h : k < x.0 = ltb-true k x.0 e in
        ((omega arith, at_least_trans k x.0 s (omega arith) o.0), o)
    go false e i = (at_least_add x.0 k r s (ltb-false k x.0 e) o.0, i)

-- The records are in use after adding one in use.
pub in_use_add : (used : ℕ → Bool) (k r : ℕ) (s : Herd) → used r ≡ true → AllInUse used (records_of s) → AllInUse used (records_of (add k r s))
in_use_add used = each_add (λ x. used x.1 ≡ true) (λ s. AllInUse used (records_of s)) tt (λ x s p q. (p, q)) (λ x s h. h)

-- As many keys as records in use.
pub length_herd_from : (key_of : ℕ → ℕ) (i : ℕ) (us : List ℕ) → length (herd_from key_of i us) ≡ count_in_use us
length_herd_from key_of i [] = refl
length_herd_from key_of i (u ∷ us) = go (eqb u 1) (length_herd_from key_of (suc i) us)
  where
    go : (t : Bool) → length (herd_from key_of (suc i) us) ≡ count_in_use us
        → length (cond t (add (key_of i) i (herd_from key_of (suc i) us)) (herd_from key_of (suc i) us)) ≡ cond t (suc (count_in_use us)) (count_in_use us)
    go true e = length_add (key_of i) i (herd_from key_of (suc i) us) ∙ ap suc e
    go false e = e

-- A fact Q of the herd of no record, kept by adding a record in use, is one of the herd of a register.
pub herd_from_keeps : (key_of : ℕ → ℕ) (used : ℕ → Bool) (Q : Herd → Type 0) → Q [] → ((r : ℕ) (s : Herd) → used r ≡ true → Q s → Q (add (key_of r) r s))
    → (i : ℕ) (us : List ℕ) → ((j : ℕ) → used (i + j) ≡ in_use us j) → Q (herd_from key_of i us)
herd_from_keeps key_of used Q nothing one_more i [] f = nothing
herd_from_keeps key_of used Q nothing one_more i (u ∷ us) f =
    go (eqb u 1) refl (herd_from_keeps key_of used Q nothing one_more (suc i) us (λ j. ap used (omega arith) ∙ f (suc j)))
  where
    go : (t : Bool) → eqb u 1 ≡ t → Q (herd_from key_of (suc i) us) → Q (cond t (add (key_of i) i (herd_from key_of (suc i) us)) (herd_from key_of (suc i) us))
    go true e h = one_more i (herd_from key_of (suc i) us) (ap used (sym (add-zero i)) ∙ f 0 ∙ e) h
    go false e h = h

-- Every record in use is in it.
pub holds_from : (key_of : ℕ → ℕ) (i j : ℕ) (us : List ℕ) → in_use us j ≡ true → Holds (key_of (i + j)) (i + j) (herd_from key_of i us)
holds_from key_of i j [] e = absurd (true≢false (sym e))
holds_from key_of i zero (u ∷ us) e = rw (add-zero i, e) (holds_added (key_of i) i (herd_from key_of (suc i) us))
holds_from key_of i (suc j) (u ∷ us) e = go (eqb u 1) (subst (λ (x : ℕ). Holds (key_of x) x (herd_from key_of (suc i) us)) z (holds_from key_of (suc i) j us e))
  where
    z : suc i + j ≡ i + suc j
    z = omega arith

    go : (t : Bool) → Holds (key_of (i + suc j)) (i + suc j) (herd_from key_of (suc i) us)
        → Holds (key_of (i + suc j)) (i + suc j) (cond t (add (key_of i) i (herd_from key_of (suc i) us)) (herd_from key_of (suc i) us))
    go true h = holds_kept (key_of i) i (key_of (i + suc j)) (i + suc j) (herd_from key_of (suc i) us) h
    go false h = h

-- herd_of makes the herd of the records in use.
pub herd_of_is : (keys used : List ℕ) → IsHerdOf (key_at keys) (in_use used) (herd_of keys used)
herd_of_is keys used =
    record {
      all = λ r e. subst (λ (x : ℕ). Holds (key_at keys x) x (herd_of keys used)) (zero-add r) (holds_from (key_at keys) 0 r used e);
      keys_of = keeps (KeysOf (key_at keys)) tt (λ r s e h. keys_of_add (key_at keys) (key_at keys r) r s refl h);
      uses = keeps (λ s. AllInUse (in_use used) (records_of s)) tt (λ r s e h. in_use_add (in_use used) (key_at keys r) r s e h);
      ordered = keeps WeaklySorted tt (λ r s e h. weakly_sorted_add (key_at keys r) r s h);
    }
  where
    keeps : (Q : Herd → Type 0) → Q [] → ((r : ℕ) (s : Herd) → in_use used r ≡ true → Q s → Q (add (key_at keys r) r s)) → Q (herd_of keys used)
    keeps Q nothing one_more = herd_from_keeps (key_at keys) (in_use used) Q nothing one_more 0 used (λ j. ap (in_use used) (zero-add j))

-- A held record is in use and has the key.
pub holds_in_use : (key_of : ℕ → ℕ) (used : ℕ → Bool) (k r : ℕ) (s : Herd) → KeysOf key_of s → AllInUse used (records_of s) → Holds k r s
    → (used r ≡ true) × (key_of r ≡ k)
holds_in_use key_of used k r [] h a i = absurd i
holds_in_use key_of used k r (x ∷ s) h a (inl e) = (ap used e.1 ∙ a.0, ap key_of e.1 ∙ h.0 ∙ sym e.0)
holds_in_use key_of used k r (x ∷ s) h a (inr i) = holds_in_use key_of used k r s h.1 a.1 i

-- The herd holds exactly the records in use, with their keys.
pub herd_of_holds : (keys used : List ℕ) (k r : ℕ) → Holds k r (herd_of keys used) ↔ ((in_use used r ≡ true) × (key_at keys r ≡ k))
herd_of_holds keys used k r = (
  (λ i. holds_in_use (key_at keys) (in_use used) k r (herd_of keys used) (herd_of_is keys used).keys_of (herd_of_is keys used).uses i),
  (λ h. subst (λ (x : ℕ). Holds x r (herd_of keys used)) h.1 ((herd_of_is keys used).all r h.0)),
)

-- A key that is not held differs from every one that is.
pub absent_holds : (k j r : ℕ) (s : Herd) → Absent k s → Holds j r s → k ≢ j
absent_holds k j r [] a i = absurd i
absent_holds k j r (x ∷ s) a (inl e) = λ q. a.0 (q ∙ e.0)
absent_holds k j r (x ∷ s) a (inr i) = absent_holds k j r s a.1 i

-- What a sorted herd holds is looked up.
pub holds_lookup : (k r : ℕ) (s : Herd) → Sorted s → Holds k r s → lookup k s ≡ some r
holds_lookup k r [] o i = absurd i
holds_lookup k r (x ∷ s) o (inl e) = rw (eq-eqb k x.0 e.0) (ap some (sym e.1))
holds_lookup k r (x ∷ s) o (inr i) =
    rw (ne_eqb k x.0 (λ q. absent_holds x.0 k r s (above_absent x.0 x.0 s (omega arith) o.0) i (sym q))) (holds_lookup k r s o.1 i)

-- What is looked up is held.
pub lookup_holds : (k r : ℕ) (s : Herd) → lookup k s ≡ some r → Holds k r s
lookup_holds k r [] e = absurd (let z : ◌≡◌ {A = ℕ} 0 1 = cc in omega arith)
lookup_holds k r (x ∷ s) e = go (eqb k x.0) refl e (λ e'. lookup_holds k r s e')
  where
    go : (t : Bool) → eqb k x.0 ≡ t → cond t (some x.1) (lookup k s) ≡ some r → (lookup k s ≡ some r → Holds k r s) → Holds k r (x ∷ s)
    go true q e ih = inl (eqb-true k x.0 q, (let z : x.1 ≡ r = cc in sym z))
    go false q e ih = inr (ih e)

-- Its records have their keys.
pub herd_of_keys_of : (keys used : List ℕ) → KeysOf (key_at keys) (herd_of keys used)
herd_of_keys_of keys used = (herd_of_is keys used).keys_of

-- It has as many keys as records are in use.
pub herd_of_length : (keys used : List ℕ) → length (herd_of keys used) ≡ count_in_use used
herd_of_length keys used = length_herd_from (key_at keys) 0 used
