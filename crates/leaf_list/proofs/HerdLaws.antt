-- The ordered map's own laws: adding and removing a key. Assumes nothing.
use mathlib.Core.Path.{refl, ◌≡◌, sym, ◌∙◌, ap}
use mathlib.Core.Logic.{◌≢◌}
use mathlib.Core.Bool.{Bool, cond, true, false}
use mathlib.Core.Option.{some, none}
use mathlib.Core.List.{[], ◌∷◌}
use Prim.Native.Nat.{ℕ, ◌≤◌, ◌<◌, suc, ◌^◌}
use native.Mathlib.Omega.{arith}
use lib.Dec.{ltb, eqb}
use lib.ListN.{length}
use borrow.Author.Tests.{ltb-true, ltb-false, ne_eqb, eqb-true, eqb-false, le-ltb, lt-ltb, eq-eqb}
use Rattle.leaf_list.specs.Herd.{Herd, add, remove, Above, Absent, Sorted, lookup, KeysOf, Narrow}

-- A fact Q that is P of every key with its record: adding and removing keep it.
module _ (P : ℕ × ℕ → Type 0) (Q : Herd → Type 0) (nothing : Q []) (one_more : (x : ℕ × ℕ) (s : Herd) → P x → Q s → Q (x ∷ s))
    (parts : (x : ℕ × ℕ) (s : Herd) → Q (x ∷ s) → P x × Q s) where
  pub each_add : (k r : ℕ) (s : Herd) → P (k, r) → Q s → Q (add k r s)
  each_add k r [] h q = one_more (k, r) [] h q
  each_add k r (x ∷ s) h q = go (ltb k x.0) (each_add k r s h (parts x s q).1)
    where
      go : (t : Bool) → Q (add k r s) → Q (cond t ((k, r) ∷ x ∷ s) (x ∷ add k r s))
      go true i = one_more (k, r) (x ∷ s) h q
      go false i = one_more x (add k r s) (parts x s q).0 i

  pub each_remove : (k : ℕ) (s : Herd) → Q s → Q (remove k s)
  each_remove k [] q = q
  each_remove k (x ∷ s) q = go (eqb k x.0) (each_remove k s (parts x s q).1)
    where
      go : (t : Bool) → Q (remove k s) → Q (cond t s (x ∷ remove k s))
      go true i = (parts x s q).1
      go false i = one_more x (remove k s) (parts x s q).0 i

  -- What has it with a key added had it before, and so has the key.
  pub each_add_inverse : (k r : ℕ) (s : Herd) → Q (add k r s) → P (k, r) × Q s
  each_add_inverse k r [] q = parts (k, r) [] q
  each_add_inverse k r (x ∷ s) q = go (ltb k x.0) q (λ i. each_add_inverse k r s i)
    where
      go : (t : Bool) → Q (cond t ((k, r) ∷ x ∷ s) (x ∷ add k r s)) → (Q (add k r s) → P (k, r) × Q s) → P (k, r) × Q (x ∷ s)
      go true q f = parts (k, r) (x ∷ s) q
      go false q f =
          let rest = f (parts x (add k r s) q).1 in
          (rest.0, one_more x s (parts x (add k r s) q).0 rest.1)

-- A key below all others is not held.
pub above_absent : (k m : ℕ) (s : Herd) → k ≤ m → Above m s → Absent k s
above_absent k m [] h a = tt
above_absent k m (x ∷ s) h a = (omega (arith, a.0), above_absent k m s h a.1)

-- What lies above m lies above less.
pub above_trans : (k m : ℕ) (s : Herd) → k ≤ m → Above m s → Above k s
above_trans k m [] h a = tt
above_trans k m (x ∷ s) h a = (omega (arith, a.0), above_trans k m s h a.1)

-- Adding a key above m.
pub above_add : (m k r : ℕ) (s : Herd) → m < k → Above m s → Above m (add k r s)
above_add m = each_add (λ x. m < x.0) (Above m) tt (λ x s p q. (p, q)) (λ x s h. h)

-- A herd stays sorted when a key is added that it does not hold.
pub sorted_add : (k r : ℕ) (s : Herd) → Sorted s → Absent k s → Sorted (add k r s)
sorted_add k r [] o a = (tt, tt)
sorted_add k r (x ∷ s) o a = go (ltb k x.0) refl (sorted_add k r s o.1 a.1)
  where
    go : (t : Bool) → ltb k x.0 ≡ t → Sorted (add k r s) → Sorted (cond t ((k, r) ∷ x ∷ s) (x ∷ add k r s))
    go true e i =
        let h : k < x.0 = ltb-true k x.0 e in
        ((h, above_trans k x.0 s (omega arith) o.0), o)
    go false e i =
        let n : k ≢ x.0 = a.0 in
        (above_add x.0 k r s (omega (arith, ltb-false k x.0 e)) o.0, i)

-- What is held after adding.
pub lookup_add : (k r m : ℕ) (s : Herd) → Absent k s → lookup m (add k r s) ≡ cond (eqb m k) (some r) (lookup m s)
lookup_add k r m [] a = refl
lookup_add k r m (x ∷ s) a = go (ltb k x.0) (eqb m k) refl (lookup_add k r m s a.1)
  where
    go : (t u : Bool) → eqb m k ≡ u → lookup m (add k r s) ≡ cond (eqb m k) (some r) (lookup m s)
        → lookup m (cond t ((k, r) ∷ x ∷ s) (x ∷ add k r s)) ≡ cond u (some r) (cond (eqb m x.0) (some x.1) (lookup m s))
    go true u e ih = rw e
    go false true e ih = rw (ne_eqb m x.0 (λ q. a.0 (sym (eqb-true m k e) ∙ q)), ih, e)
    go false false e ih = rw (ih, e)

-- One key more.
pub length_add : (k r : ℕ) (s : Herd) → length (add k r s) ≡ suc (length s)
length_add k r [] = refl
length_add k r (x ∷ s) = go (ltb k x.0) (length_add k r s)
  where
    go : (t : Bool) → length (add k r s) ≡ suc (length s) → length (cond t ((k, r) ∷ x ∷ s) (x ∷ add k r s)) ≡ suc (suc (length s))
    go true i = refl
    go false i = ap suc i

-- key_of has the keys after adding.
pub keys_of_add : (key_of : ℕ → ℕ) (k r : ℕ) (s : Herd) → key_of r ≡ k → KeysOf key_of s → KeysOf key_of (add k r s)
keys_of_add key_of = each_add (λ x. key_of x.1 ≡ x.0) (KeysOf key_of) tt (λ x s p q. (p, q)) (λ x s h. h)

-- Adding a key of w bits.
pub narrow_add : (w k r : ℕ) (s : Herd) → k < 2 ^ w → Narrow w s → Narrow w (add k r s)
narrow_add w = each_add (λ x. x.0 < 2 ^ w) (Narrow w) tt (λ x s p q. (p, q)) (λ x s h. h)

-- No key becomes wider by removing one.
pub narrow_remove : (w k : ℕ) (s : Herd) → Narrow w s → Narrow w (remove k s)
narrow_remove w = each_remove (λ x. x.0 < 2 ^ w) (Narrow w) tt (λ x s p q. (p, q)) (λ x s h. h)

-- Removing a key leaves the others above m.
pub above_remove : (m k : ℕ) (s : Herd) → Above m s → Above m (remove k s)
above_remove m = each_remove (λ x. m < x.0) (Above m) tt (λ x s p q. (p, q)) (λ x s h. h)

-- A herd stays sorted when a key is removed.
pub sorted_remove : (k : ℕ) (s : Herd) → Sorted s → Sorted (remove k s)
sorted_remove k [] o = tt
sorted_remove k (x ∷ s) o = go (eqb k x.0) (sorted_remove k s o.1)
  where
    go : (t : Bool) → Sorted (remove k s) → Sorted (cond t s (x ∷ remove k s))
    go true i = o.1
    go false i = (above_remove x.0 k s o.0, i)

-- The removed key is held no more.
pub absent_remove : (k : ℕ) (s : Herd) → Sorted s → Absent k (remove k s)
absent_remove k [] h = tt
absent_remove k (x ∷ s) h = go (eqb k x.0) refl (absent_remove k s h.1)
  where
    go : (t : Bool) → eqb k x.0 ≡ t → Absent k (remove k s) → Absent k (cond t s (x ∷ remove k s))
    go true e i = above_absent k x.0 s (omega (arith, eqb-true k x.0 e)) h.0
    go false e i = (eqb-false k x.0 e, i)

-- A key that looking up does not give is not held.
pub lookup_absent : (k : ℕ) (s : Herd) → lookup k s ≡ none → Absent k s
lookup_absent k [] e = tt
lookup_absent k (x ∷ s) e = go (eqb k x.0) refl e (λ e'. lookup_absent k s e')
  where
    go : (t : Bool) → eqb k x.0 ≡ t → cond t (some x.1) (lookup k s) ≡ none → (lookup k s ≡ none → Absent k s) → (k ≢ x.0) × Absent k s
    go true q e ih = absurd (let z : ◌≡◌ {A = ℕ} 0 1 = cc in omega arith)
    go false q e ih = (eqb-false k x.0 q, ih e)

-- And the other way.
pub absent_lookup : (k : ℕ) (s : Herd) → Absent k s → lookup k s ≡ none
absent_lookup k [] a = refl
absent_lookup k (x ∷ s) a = rw (ne_eqb k x.0 a.0) (absent_lookup k s a.1)

-- What is held after removing.
pub lookup_remove : (k m : ℕ) (s : Herd) → Sorted s → lookup m (remove k s) ≡ cond (eqb m k) none (lookup m s)
lookup_remove k m s o = go (eqb m k) refl
  where
    other : (s : Herd) → m ≢ k → lookup m (remove k s) ≡ lookup m s
    other [] n = refl
    other (x ∷ s) n = at (eqb k x.0) refl (other s n)
      where
        at : (t : Bool) → eqb k x.0 ≡ t → lookup m (remove k s) ≡ lookup m s
            → lookup m (cond t s (x ∷ remove k s)) ≡ cond (eqb m x.0) (some x.1) (lookup m s)
        at true e ih = rw (ne_eqb m x.0 (λ q. n (q ∙ sym (eqb-true k x.0 e))))
        at false e ih = rw ih

    go : (t : Bool) → eqb m k ≡ t → lookup m (remove k s) ≡ cond t none (lookup m s)
    go true e = rw (eqb-true m k e) (absent_lookup k (remove k s) (absent_remove k s o))
    go false e = other s (eqb-false m k e)

-- key_of has the keys after removing.
pub keys_of_remove : (key_of : ℕ → ℕ) (k : ℕ) (s : Herd) → KeysOf key_of s → KeysOf key_of (remove k s)
keys_of_remove key_of = each_remove (λ x. key_of x.1 ≡ x.0) (KeysOf key_of) tt (λ x s p q. (p, q)) (λ x s h. h)

-- One key less.
pub length_remove : (k r : ℕ) (s : Herd) → lookup k s ≡ some r → suc (length (remove k s)) ≡ length s
length_remove k r [] e = absurd (let z : ◌≡◌ {A = ℕ} 0 1 = cc in omega arith)
length_remove k r (x ∷ s) e = go (eqb k x.0) e (λ e'. length_remove k r s e')
  where
    go : (t : Bool) → cond t (some x.1) (lookup k s) ≡ some r → (lookup k s ≡ some r → suc (length (remove k s)) ≡ length s)
        → suc (length (cond t s (x ∷ remove k s))) ≡ suc (length s)
    go true e ih = refl
    go false e ih = ap suc (ih e)

-- The record of a held key has that key.
pub lookup_key : (key_of : ℕ → ℕ) (k r : ℕ) (s : Herd) → lookup k s ≡ some r → KeysOf key_of s → key_of r ≡ k
lookup_key key_of k r [] e h = absurd (let z : ◌≡◌ {A = ℕ} 0 1 = cc in omega arith)
lookup_key key_of k r (x ∷ s) e h = go (eqb k x.0) refl e (λ e'. lookup_key key_of k r s e' h.1)
  where
    go : (t : Bool) → eqb k x.0 ≡ t → cond t (some x.1) (lookup k s) ≡ some r → (lookup k s ≡ some r → key_of r ≡ k) → key_of r ≡ k
    go true q e ih =
        let z : x.1 ≡ r = cc in
        rw (← z) (h.0 ∙ sym (eqb-true k x.0 q))
    go false q e ih = ih e

-- Two different keys may be added in either order.
pub add_comm : (k r m q : ℕ) (s : Herd) → k ≢ m → add k r (add m q s) ≡ add m q (add k r s)
add_comm k r m q [] h = go (ltb k m) refl
  where
    go : (t : Bool) → ltb k m ≡ t
        → cond {A = Herd} t ((k, r) ∷ (m, q) ∷ []) ((m, q) ∷ (k, r) ∷ []) ≡ cond {A = Herd} (ltb m k) ((m, q) ∷ (k, r) ∷ []) ((k, r) ∷ (m, q) ∷ [])
    go true e = rw (le-ltb m k (omega (arith, ltb-true k m e)))
    go false e = rw (lt-ltb m k (omega (arith, ltb-false k m e)))
add_comm k r m q (x ∷ s) h = go (ltb k x.0) (ltb m x.0) (ltb k m) refl refl refl (add_comm k r m q s h)
  where
    go : (a b c : Bool) → ltb k x.0 ≡ a → ltb m x.0 ≡ b → ltb k m ≡ c → add k r (add m q s) ≡ add m q (add k r s)
        → add k r (cond b ((m, q) ∷ x ∷ s) (x ∷ add m q s)) ≡ add m q (cond a ((k, r) ∷ x ∷ s) (x ∷ add k r s))
    go true true true ea eb ec ih = rw (ec, le-ltb m k (omega (arith, ltb-true k m ec)), eb)
    go true true false ea eb ec ih = rw (ec, ea, lt-ltb m k (omega (arith, ltb-false k m ec)))
    go true false c ea eb ec ih = rw (ea, eb, le-ltb m k (omega (arith, ltb-true k x.0 ea, ltb-false m x.0 eb)))
    go false true c ea eb ec ih = rw (ea, eb, le-ltb k m (omega (arith, ltb-false k x.0 ea, ltb-true m x.0 eb)))
    go false false c ea eb ec ih = rw (ea, eb, ih)

-- Removing undoes adding.
pub remove_add : (k r : ℕ) (s : Herd) → Absent k s → remove k (add k r s) ≡ s
remove_add k r [] a = rw (eq-eqb k k refl)
remove_add k r (x ∷ s) a = go (ltb k x.0) (remove_add k r s a.1)
  where
    go : (t : Bool) → remove k (add k r s) ≡ s → remove k (cond t ((k, r) ∷ x ∷ s) (x ∷ add k r s)) ≡ x ∷ s
    go true ih = rw (eq-eqb k k refl)
    go false ih = rw (ne_eqb k x.0 a.0, ih)

-- A key below all others is added in front.
pub add_front : (m q : ℕ) (s : Herd) → Above m s → add m q s ≡ (m, q) ∷ s
add_front m q [] a = refl
add_front m q (x ∷ s) a = rw (lt-ltb m x.0 a.0)

-- Removing and adding different keys, in either order.
pub remove_other : (k m q : ℕ) (s : Herd) → k ≢ m → Sorted s → remove k (add m q s) ≡ add m q (remove k s)
remove_other k m q [] h o = rw (ne_eqb k m h)
remove_other k m q (x ∷ s) h o = go (ltb m x.0) (eqb k x.0) refl refl (remove_other k m q s h o.1)
  where
    go : (a b : Bool) → ltb m x.0 ≡ a → eqb k x.0 ≡ b → remove k (add m q s) ≡ add m q (remove k s)
        → remove k (cond a ((m, q) ∷ x ∷ s) (x ∷ add m q s)) ≡ add m q (cond b s (x ∷ remove k s))
    go true true ea eb ih = rw (ne_eqb k m h, eb) (sym (add_front m q s (above_trans m x.0 s (omega (arith, ltb-true m x.0 ea)) o.0)))
    go true false ea eb ih = rw (ne_eqb k m h, eb, ea)
    go false true ea eb ih = rw eb
    go false false ea eb ih = rw (eb, ea, ih)

-- What stands above m with a key added.
pub above_add_inverse : (m k r : ℕ) (s : Herd) → Above m (add k r s) → (m < k) × Above m s
above_add_inverse m = each_add_inverse (λ x. m < x.0) (Above m) tt (λ x s p q. (p, q)) (λ x s h. h)

-- A herd that is sorted with a key added did not hold it.
pub sorted_add_inverse : (k r : ℕ) (s : Herd) → Sorted (add k r s) → Sorted s × Absent k s
sorted_add_inverse k r [] o = (tt, tt)
sorted_add_inverse k r (x ∷ s) o = go (ltb k x.0) o (λ b. sorted_add_inverse k r s b)
  where
    go : (t : Bool) → Sorted (cond t ((k, r) ∷ x ∷ s) (x ∷ add k r s)) → (Sorted (add k r s) → Sorted s × Absent k s) → Sorted (x ∷ s) × Absent k (x ∷ s)
    go true o f = (o.1, above_absent k k (x ∷ s) (omega arith) o.0)
    go false o f =
        let a = above_add_inverse x.0 k r s o.0 in
        let b = f o.1 in
        ((a.1, b.0), (omega (arith, a.0), b.1))

-- Adding another key does not make k held.
pub absent_add : (k m r : ℕ) (s : Herd) → k ≢ m → Absent k s → Absent k (add m r s)
absent_add k = each_add (λ x. k ≢ x.0) (Absent k) tt (λ x s p q. (p, q)) (λ x s h. h)

-- A key not held after adding is another, and was not held.
pub absent_add_inverse : (k m r : ℕ) (s : Herd) → Absent k (add m r s) → (k ≢ m) × Absent k s
absent_add_inverse k = each_add_inverse (λ x. k ≢ x.0) (Absent k) tt (λ x s p q. (p, q)) (λ x s h. h)
