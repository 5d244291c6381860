-- The next position of a key, by the zeros above the bits that are left of it. Assumes nothing.
use mathlib.Core.Path.{◌≡◌, refl, sym, ap, subst, ◌∙◌}
use mathlib.Core.Logic.{◌⊎◌, inl, inr}
use mathlib.Core.Bool.{Bool}
use mathlib.Core.List.{List, [], ◌∷◌}
use Prim.Native.Nat.{ℕ, zero, suc, ◌+◌, ◌-◌, ◌*◌, ◌/◌, ◌%◌, ◌^◌, ◌≤◌, ◌<◌}
use native.Mathlib.Omega.{arith}
use native.Mathlib.Numerals.{one-add}
use native.Mathlib.Nat.{suc-mul, zero-mul, mod-lt, eq-or-lt_of_le, le_of_suc-le-suc, lt_of_lt_of_le, lt_of_not-le, not-le_of_lt}
use lib.Dec.{eqb}
use lib.Count.{count_leading_zeros, leading_top}
use lib.Pow.{pow_pos, pow_mono, mod-pow-add}
use lib.ListN.{drop}
use borrow.Author.Tests.{le-leb, lt-leb}
use Rattle.leaf_list.specs.Keys.{bits}
use Rattle.leaf_list.specs.Search.{positions}
use Rattle.table_search.specs.Places.{NextPosition}

-- The bits behind the first p are the last of the number.
pub drop_bits : (p w x : ℕ) → p ≤ w → drop p (bits w x) ≡ bits (w - p) x
drop_bits zero w x h =
    let e : w ≡ w - 0 = omega arith in
    ap (λ (n : ℕ). bits n x) e
drop_bits (suc p) zero x h = absurd (omega arith)
drop_bits (suc p) (suc w) x h =
    let e : w - p ≡ suc w - suc p = omega arith in
    drop_bits p w x (omega arith) ∙ ap (λ (n : ℕ). bits n x) e

-- The last n + 1 bits of a number are one bit and the last n.
pub last_bit : (x n : ℕ) → x % 2 ^ suc n ≡ (x / 2 ^ n % 2) * 2 ^ n + x % 2 ^ n
last_bit x n = ap (λ (m : ℕ). x % 2 ^ m) (sym (one-add n)) ∙ mod-pow-add x 1 n

-- A bit that is clear is passed over; one that is set is a position.
clear_bit : (q l : ℕ) (k : List Bool) → q ≡ 0 → positions l (eqb q 1 ∷ k) ≡ positions (suc l) k
clear_bit q l k e = rw e

set_bit_lem : (q l : ℕ) (k : List Bool) → q ≡ 1 → positions l (eqb q 1 ∷ k) ≡ suc l ∷ positions (suc l) k
set_bit_lem q l k e = rw e

-- Where the bit is clear, it adds nothing; where it is set, it adds its power.
bit_clear : (q p r : ℕ) → q * p + r < p → q ≡ 0
bit_clear zero p r h = refl
bit_clear (suc q) p r h = absurd (omega (arith, suc-mul q p))

bit_set : (q p r : ℕ) → q < 2 → r < p → p ≤ q * p + r → q ≡ 1
bit_set zero p r h g l = absurd (omega (arith, zero-mul p))
bit_set (suc zero) p r h g l = refl
bit_set (suc (suc q)) p r h g l = absurd (omega arith)

-- No bit is left.
positions_none : (n l x : ℕ) → x % 2 ^ n ≡ 0 → positions l (bits n x) ≡ suc (l + n) ∷ []
positions_none zero l x h =
    let e : l ≡ l + 0 = omega arith in
    ap (λ (m : ℕ). suc m ∷ []) e
positions_none (suc n) l x h =
    let e : suc l + n ≡ l + suc n = omega arith in
    clear_bit (x / 2 ^ n % 2) l (bits n x) (bit_clear (x / 2 ^ n % 2) (2 ^ n) (x % 2 ^ n) (omega (arith, last_bit x n, pow_pos n)))
    ∙ positions_none n (suc l) x (omega (arith, last_bit x n))
    ∙ ap (λ (m : ℕ). suc m ∷ []) e

-- The highest bit left has j behind it.
positions_first : (n l x j : ℕ) → j < n → 2 ^ j ≤ x % 2 ^ n → x % 2 ^ n < 2 ^ suc j → positions l (bits n x) ≡ (l + (n - j)) ∷ positions (l + (n - j)) (bits j x)
positions_first zero l x j h a b = absurd (omega arith)
positions_first (suc n) l x j h a b = go (eq-or-lt_of_le (le_of_suc-le-suc h)) (λ g c d. positions_first n (suc l) x j g c d)
  where
    go : (j ≡ n) ⊎ (j < n) → (j < n → 2 ^ j ≤ x % 2 ^ n → x % 2 ^ n < 2 ^ suc j → positions (suc l) (bits n x) ≡ (suc l + (n - j)) ∷ positions (suc l + (n - j)) (bits j x))
        → positions l (bits (suc n) x) ≡ (l + (suc n - j)) ∷ positions (l + (suc n - j)) (bits j x)
    go (inl e) ih =
        let s : l + (suc n - j) ≡ suc l = omega arith in
        rw (s, e)
        (set_bit_lem (x / 2 ^ n % 2) l (bits n x)
        (bit_set (x / 2 ^ n % 2) (2 ^ n) (x % 2 ^ n) (mod-lt (x / 2 ^ n) (omega arith)) (mod-lt x (pow_pos n)) (subst (λ (m : ℕ). m ≤ (x / 2 ^ n % 2) * 2 ^ n + x % 2 ^ n) (ap (λ (m : ℕ). 2 ^ m) e) (subst (λ (m : ℕ). 2 ^ j ≤ m) (last_bit x n) a))))
    go (inr g) ih =
        let z : x / 2 ^ n % 2 ≡ 0 = bit_clear (x / 2 ^ n % 2) (2 ^ n) (x % 2 ^ n) (omega (arith, last_bit x n, b, pow_mono g)) in
        let y : x % 2 ^ suc n ≡ x % 2 ^ n = last_bit x n ∙ rw (z, zero-mul) (omega arith) in
        let s : suc l + (n - j) ≡ l + (suc n - j) = omega arith in
        clear_bit (x / 2 ^ n % 2) l (bits n x) z ∙ ih g (omega arith) (omega arith) ∙ ap (λ (m : ℕ). m ∷ positions m (bits j x)) s

-- Nothing is left: the position is w + 1.
pub next_none : (w key p : ℕ) → p ≤ w → key % 2 ^ (w - p) ≡ 0 → NextPosition w key p (w + 1)
next_none w key p h e =
    let end : suc (p + (w - p)) ≡ w + 1 = omega arith in
    record {
      left = ap (positions p) (drop_bits p w key h) ∙ positions_none (w - p) p key e ∙ rw (lt-leb (w + 1) w (omega arith)) (ap (λ (m : ℕ). m ∷ []) end);
      above = omega arith;
      within = omega arith;
    }

-- Something is left: the position is that of its highest bit.
pub next_some : (w key p rest : ℕ) → w ≤ 64 → p ≤ w → rest ≡ key % 2 ^ (w - p) → (rest ≡ 0 → ⊥) → NextPosition w key p (count_leading_zeros 64 rest + w - 63)
next_some w key p rest hw h e z = go (leading_top 64 rest (omega arith) (lt_of_lt_of_le low (pow_mono (let s : w - p ≤ 64 = omega arith in s))))
  where
    low : rest < 2 ^ (w - p)
    low = rw e (mod-lt key (pow_pos (w - p)))

    go : (j : ℕ) × (count_leading_zeros 64 rest + suc j ≡ 64) × (2 ^ j ≤ rest) × (rest < 2 ^ suc j) → NextPosition w key p (count_leading_zeros 64 rest + w - 63)
    go (j, zeros, at, under) =
        let g : j < w - p = lt_of_not-le (λ (g : w - p ≤ j). not-le_of_lt (lt_of_lt_of_le low (pow_mono g)) at) in
        let s : count_leading_zeros 64 rest + w - 63 ≡ w - j = omega arith in
        let t : p + (w - p - j) ≡ w - j = omega arith in
        let b : w - (w - j) ≡ j = omega arith in
        rw s
        (record {
          left =
              ap (positions p) (drop_bits p w key h) ∙ positions_first (w - p) p key j g (subst (λ (m : ℕ). 2 ^ j ≤ m) e at) (subst (λ (m : ℕ). m < 2 ^ suc j) e under)
              ∙ rw (t, le-leb (w - j) w (omega arith), drop_bits (w - j) w key (omega arith), b);
          above = omega arith;
          within = omega arith;
        })
