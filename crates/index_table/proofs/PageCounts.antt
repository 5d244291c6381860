-- Pages counted: one page, and how many of the first ones. Assumes nothing.
use mathlib.Core.Path.{◌≡◌, refl, sym, ap}
use mathlib.Core.Bool.{Bool, true, false}
use mathlib.Core.Logic.{◌⊎◌, inl, inr}
use Prim.Native.Nat.{ℕ, zero, suc, ◌+◌, ◌≤◌, ◌<◌}
use native.Mathlib.Omega.{arith}
use lib.Dec.{eqb}
use borrow.Author.Tests.{eq-eqb, ne_eqb, eqb-true, eqb-false}
use Rattle.index_table.specs.Pages.{same, sum_to}

-- A page is itself,
pub same_self : (p : ℕ) → same p p ≡ 1
unfolding same
same_self p = rw (eq-eqb p p refl)

-- and no other page.
pub same_other : (p q : ℕ) → (p ≡ q → ⊥) → same p q ≡ 0
unfolding same
same_other p q h = rw (ne_eqb p q h)

-- Two pages are one, or two.
pub same_cases : (p q : ℕ) → (p ≡ q) ⊎ ((p ≡ q → ⊥) × (same p q ≡ 0))
same_cases p q = go (eqb p q) refl
  where
    go : (t : Bool) → eqb p q ≡ t → (p ≡ q) ⊎ ((p ≡ q → ⊥) × (same p q ≡ 0))
    go true e = inl (eqb-true p q e)
    go false e = inr (eqb-false p q e, same_other p q (eqb-false p q e))

-- ---- sums over the first pages

-- The same numbers have the same sum.
pub sum_to_ext : (n : ℕ) (f g : ℕ → ℕ) → ((q : ℕ) → q < n → f q ≡ g q) → sum_to n f ≡ sum_to n g
unfolding sum_to
sum_to_ext zero f g h = refl
sum_to_ext (suc k) f g h = omega (arith, sum_to_ext k f g (λ q l. h q (omega arith)), h k (omega arith))

-- A sum of sums.
pub sum_to_add : (n : ℕ) (f g : ℕ → ℕ) → sum_to n (λ q. f q + g q) ≡ sum_to n f + sum_to n g
unfolding sum_to
sum_to_add zero f g = refl
sum_to_add (suc k) f g = omega (arith, sum_to_add k f g)

-- Nothing to sum.
pub sum_to_zero : (n : ℕ) → sum_to n (λ q. 0) ≡ 0
unfolding sum_to
sum_to_zero zero = refl
sum_to_zero (suc k) = omega (arith, sum_to_zero k)

beyond : (n p : ℕ) → n ≤ p → sum_to n (same p) ≡ 0
unfolding sum_to
beyond zero p h = refl
beyond (suc k) p h = omega (arith, beyond k p (omega arith), same_other p k (λ e. omega arith))

-- One page among the first n.
pub sum_to_same : (n p : ℕ) → p < n → sum_to n (same p) ≡ 1
unfolding sum_to
sum_to_same zero p h = absurd (omega arith)
sum_to_same (suc k) p h = go (same_cases p k) (λ l. sum_to_same k p l)
  where
    go : (p ≡ k) ⊎ ((p ≡ k → ⊥) × (same p k ≡ 0)) → (p < k → sum_to k (same p) ≡ 1) → sum_to k (same p) + same p k ≡ 1
    go (inl e) f = omega (arith, beyond k p (omega arith), ap (same p) (sym e), same_self p)
    go (inr e) f = omega (arith, e.1, f (let n = e.0 in omega arith))
