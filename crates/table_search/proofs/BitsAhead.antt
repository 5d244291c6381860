-- The key's bits from a position on, as one number. Assumes nothing.
use mathlib.Core.Path.{◌≡◌, sym, ap, subst, ◌∙◌}
use mathlib.Core.Logic.{◌⊎◌, inl, inr}
use Prim.Native.Nat.{ℕ, suc, ◌+◌, ◌-◌, ◌%◌, ◌^◌, ◌≤◌, ◌<◌}
use native.Mathlib.Omega.{arith}
use native.Mathlib.Nat.{mod-lt, eq-zero-or-pos, lt_of_lt_of_le, mul_comm, two-mul, pow-suc}
use lib.Count.{count_leading_zeros, leading_of_zero}
use Rattle.std.proofs.lemmas.Bool.{cases_lt}
use lib.Pow.{pow_pos, pow_mono}
use borrow.Author.Tests.{le-leb, lt-leb}
use Rattle.table_search.specs.Places.{ahead, first_position, NextPosition}
use Rattle.table_search.proofs.NextPositions.{next_none, next_some}

pub double : (n : ℕ) → 2 ^ suc n ≡ 2 ^ n + 2 ^ n
double n = pow-suc 2 n ∙ mul_comm (2 ^ n) 2 ∙ two-mul (2 ^ n)

-- The bits ahead up to position w, and at w + 1.
pub some_ahead : (w key b : ℕ) → b ≤ w → ahead w key b ≡ 2 ^ (w - b) + key % 2 ^ (w - b)
some_ahead w key b h = rw (le-leb b w h)

pub none_ahead : (w key b : ℕ) → w < b → ahead w key b ≡ 0
none_ahead w key b h = rw (lt-leb b w h)

pub ahead_under : (w key b : ℕ) → ahead w key b < 2 ^ suc (w - b)
ahead_under w key b = go (cases_lt w b)
  where
    go : (w < b) ⊎ (b ≤ w) → ahead w key b < 2 ^ suc (w - b)
    go (inr h) = omega (arith, some_ahead w key b h, double (w - b), mod-lt key (pow_pos (w - b)))
    go (inl h) = omega (arith, none_ahead w key b h, pow_pos (suc (w - b)))

pub ahead_low : (w key b : ℕ) → 0 < b → ahead w key b < 2 ^ w
ahead_low w key b h = go (cases_lt w b)
  where
    go : (w < b) ⊎ (b ≤ w) → ahead w key b < 2 ^ w
    go (inr g) = lt_of_lt_of_le (ahead_under w key b) (pow_mono (let s : suc (w - b) ≤ w = omega arith in s))
    go (inl g) = omega (arith, none_ahead w key b g, pow_pos w)

-- ---- as the code computes them

pub last_bits_low : (w key p rest : ℕ) → rest ≡ key % 2 ^ (w - p) → rest < 2 ^ w
last_bits_low w key p rest e = rw e (lt_of_lt_of_le (mod-lt key (pow_pos (w - p))) (pow_mono (let s : w - p ≤ w = omega arith in s)))

pub next_first : (w key p rest : ℕ) → w ≤ 64 → p ≤ w → rest ≡ key % 2 ^ (w - p) → NextPosition w key p (first_position w rest)
next_first w key p rest wide h e = go (eq-zero-or-pos rest)
  where
    go : (rest ≡ 0) ⊎ (0 < rest) → NextPosition w key p (first_position w rest)
    go (inl z) =
        let none : w + 1 ≡ first_position w rest = omega (arith, ap (count_leading_zeros 64) z ∙ leading_of_zero 64) in
        subst (NextPosition w key p) none (next_none w key p h (sym e ∙ z))
    go (inr z) = next_some w key p rest wide h e (λ q. omega arith)
