-- The last one-bit of a number, by the zeros behind it. Assumes nothing.
use mathlib.Core.Path.{◌≡◌, sym, ap, ◌∙◌}
use mathlib.Core.Logic.{◌⊎◌, inl, inr}
use Prim.Native.Nat.{ℕ, zero, suc, ◌*◌, ◌/◌, ◌%◌, ◌^◌, ◌≤◌, ◌<◌}
use native.Mathlib.Omega.{arith}
use native.Mathlib.Nat.{eq-zero-or-pos, mul-one, mul_assoc, pow-suc}
use lib.Count.{count_trailing_zeros}
use Rattle.table_search.proofs.BitsAhead.{double}

-- An odd number, k bits up, has k zeros behind it.
pub zeros_behind : (n k x : ℕ) → k < n → x % 2 ≡ 1 → count_trailing_zeros n (x * 2 ^ k) ≡ k
unfolding count_trailing_zeros
zeros_behind zero k x h odd = absurd (omega arith)
zeros_behind (suc n) zero x h odd = rw (mul-one x, odd)
zeros_behind (suc n) (suc k) x h odd =
    let twice : x * 2 ^ suc k ≡ x * 2 ^ k * 2 = ap (λ (n : ℕ). x * n) (pow-suc 2 k) ∙ sym (mul_assoc x (2 ^ k) 2) in
    let even : x * 2 ^ suc k % 2 ≡ 0 = omega (arith, twice) in
    let half : x * 2 ^ suc k / 2 ≡ x * 2 ^ k = omega (arith, twice) in
    let fewer : k < n = omega arith in
    rw (even, half) (ap suc (zeros_behind n k x fewer odd))

-- A number of w bits has at most w behind its last one-bit.
pub zeros_fewer : (n w a : ℕ) → 0 < a → a < 2 ^ w → count_trailing_zeros n a ≤ w
unfolding count_trailing_zeros
zeros_fewer zero w a pos h = omega arith
zeros_fewer (suc n) zero a pos h = absurd (omega arith)
zeros_fewer (suc n) (suc w) a pos h = go (eq-zero-or-pos (a % 2)) (λ some less. zeros_fewer n w (a / 2) some less)
  where
    go : (a % 2 ≡ 0) ⊎ (0 < a % 2) → (0 < a / 2 → a / 2 < 2 ^ w → count_trailing_zeros n (a / 2) ≤ w) → count_trailing_zeros (suc n) a ≤ suc w
    go (inl z) ih = rw z (omega (arith, ih (omega arith) (omega (arith, double w, h))))
    go (inr z) ih =
        let one : a % 2 ≡ 1 = omega arith in
        rw one (omega arith)
