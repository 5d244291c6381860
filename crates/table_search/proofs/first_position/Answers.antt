-- By the zeros above the highest bit. Assumes nothing.
use mathlib.Core.Path.{◌≡◌, ap, ◌∙◌}
use mathlib.Core.Logic.{◌⊎◌, inl, inr}
use Prim.Native.Nat.{ℕ, ◌+◌, ◌≤◌, ◌<◌, ◌^◌}
use native.Mathlib.Omega.{arith}
use native.Mathlib.Nat.{eq-zero-or-pos, lt_of_lt_of_le, lt_of_not-le, not-le_of_lt}
use lib.Count.{count_leading_zeros, leading_of_zero, leading_top}
use lib.Pow.{pow_mono}
use Rattle.table_search.proofs.first_position.Goals as goal

-- A number of w bits has at least 64 - w zeros above.
zeros : (w a : ℕ) → w ≤ 64 → a < 2 ^ w → 63 < count_leading_zeros 64 a + w
zeros w a h l = go (eq-zero-or-pos a)
  where
    go : (a ≡ 0) ⊎ (0 < a) → 63 < count_leading_zeros 64 a + w
    go (inl z) = omega (arith, ap (count_leading_zeros 64) z ∙ leading_of_zero 64)
    go (inr z) =
        let t = leading_top 64 a z (lt_of_lt_of_le l (pow_mono h)) in
        let g : t.0 < w = lt_of_not-le (λ (q : w ≤ t.0). not-le_of_lt (lt_of_lt_of_le l (pow_mono q)) t.2) in
        omega (arith, t.1)

pub overflow_sub-result : goal.overflow_sub-result
overflow_sub-result c = omega (arith, c.from.ensures, zeros _ _ c.requires.0 c.requires.1)
