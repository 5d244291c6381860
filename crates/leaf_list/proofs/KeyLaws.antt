-- What the functions on keys compute by shifts, said of plain numbers. Assumes nothing.
use mathlib.Core.Path.{◌≡◌, refl, sym, ap, subst, ◌∙◌}
use mathlib.Core.Logic.{◌≢◌, ◌⊎◌, inl, inr}
use mathlib.Core.Bool.{Bool, true, false, not}
use mathlib.Core.List.{◌∷◌}
use Prim.Native.Nat.{ℕ, zero, suc, ◌+◌, ◌-◌, ◌*◌, ◌/◌, ◌%◌, ◌^◌, ◌≤◌, ◌<◌}
use native.Mathlib.Nat.{add-zero, eq-zero-or-pos, div_self, mod_self, zero-mul, div-eq_of_lt, le-div_iff_mul-le, eq-or-lt_of_le, le_of_suc-le-suc, lt_of_lt_of_le, lt_of_not-le, not-le_of_lt, mod-eq_of_lt, add-mul, one-mul, mul_assoc, mul_comm, pow-suc}
use native.Mathlib.Numerals.{add-one}
use native.Mathlib.Omega.{arith}
use lib.Bits.{bit_or, bit_and, bit_xor, or_add_and, and_mask, and_mod, and_shr, and_zero_r, or_lt, or_step, or_zero_r, xor_lt, xor_shr, xor_self, xor_add_and, and_le_l, and_le_r}
use lib.Count.{count_leading_zeros, leading_of_zero, leading_top}
use lib.Dec.{leb, eqb}
use lib.Pow.{pow_mono, pow_pos, shl_exact, shl_lt, shr_lt, shr-shr, split}
use borrow.Author.Tests.{eq-eqb, ne_eqb, leb-true, leb-false}
use Rattle.leaf_list.specs.Keys.{Key, bits, first_difference, bit_at, set_bit_at, first_bits}

-- ---- shifts right

-- by one bit more
shr_suc : (x j : ℕ) → x / 2 ^ suc j ≡ x / 2 ^ j / 2
shr_suc x j = rw (← (add-one j), shr-shr x j 1)

-- numbers that agree above their last j bits agree above more
shr_more : (a b j i : ℕ) → j ≤ i → a / 2 ^ j ≡ b / 2 ^ j → a / 2 ^ i ≡ b / 2 ^ i
shr_more a b j i h e =
    let s : i ≡ j + (i - j) = omega arith in
    rw (s, ← (shr-shr a j (i - j)), ← (shr-shr b j (i - j)), e)

-- something is left
shr_pos : (x j : ℕ) → 2 ^ j ≤ x → 0 < x / 2 ^ j
shr_pos x j h = (le-div_iff_mul-le (pow_pos j)).1 (rw (one-mul (2 ^ j)) h)

-- A one shifted up is a power of two.
pub power : (n : ℕ) → n < 64 → 1 * 2 ^ n % 2 ^ 64 ≡ 2 ^ n
power n h = shl_exact 1 n 64 (omega arith) (omega arith) ∙ one-mul (2 ^ n)

-- ---- one bit

-- What a number has of bit j, counted from the last as bit 0.
and_bit : (x j : ℕ) → bit_and x (2 ^ j) ≡ x / 2 ^ j % 2 * 2 ^ j
and_bit x j = sym (split (bit_and x (2 ^ j)) j) ∙ rw (and_shr x (2 ^ j) j, and_mod x (2 ^ j) j, div_self (pow_pos j), mod_self (2 ^ j), and_zero_r (x % 2 ^ j), and_mask (x / 2 ^ j) 1) (omega arith)

-- Bit p is set exactly if a number has something of it.
pub bit_by_and : (w p x b : ℕ) → b ≡ 2 ^ (w - p) → not (eqb (bit_and x b) 0) ≡ bit_at w p x
bit_by_and w p x b e = rw (e, and_bit x (w - p)) (go (x / 2 ^ (w - p) % 2) (2 ^ (w - p)) (pow_pos (w - p)) (omega arith))
  where
    go : (q m : ℕ) → 0 < m → q < 2 → not (eqb (q * m) 0) ≡ eqb q 1
    go zero m h g = rw (zero-mul m)
    go (suc zero) m h g = rw (one-mul m, ne_eqb m 0 (λ z. omega arith))
    go (suc (suc q)) m h g = absurd (omega arith)

-- ---- the first difference

same_bit : (t : Bool) (l : ℕ) (k k' : Key) → first_difference l (t ∷ k) (t ∷ k') ≡ first_difference (suc l) k k'
same_bit true l k k' = refl
same_bit false l k k' = refl

other_bit : (x y l : ℕ) (k k' : Key) → x < 2 → y < 2 → x ≢ y → first_difference l (eqb x 1 ∷ k) (eqb y 1 ∷ k') ≡ suc l
other_bit zero zero l k k' h g d = absurd (d refl)
other_bit zero (suc zero) l k k' h g d = refl
other_bit zero (suc (suc y)) l k k' h g d = absurd (omega arith)
other_bit (suc zero) zero l k k' h g d = refl
other_bit (suc zero) (suc zero) l k k' h g d = absurd (d refl)
other_bit (suc zero) (suc (suc y)) l k k' h g d = absurd (omega arith)
other_bit (suc (suc x)) y l k k' h g d = absurd (omega arith)

-- Keys of n bits that agree above their last j + 1 bits, and not above their last j, differ first at bit n - j.
pub first_difference_lem : (n l a b j : ℕ) → j < n → a / 2 ^ suc j ≡ b / 2 ^ suc j → a / 2 ^ j ≢ b / 2 ^ j → first_difference l (bits n a) (bits n b) ≡ l + (n - j)
first_difference_lem zero l a b j h e d = absurd (omega arith)
first_difference_lem (suc n) l a b j h e d = go (eq-or-lt_of_le (le_of_suc-le-suc h)) (λ g. first_difference_lem n (suc l) a b j g e d)
  where
    go : (j ≡ n) ⊎ (j < n) → (j < n → first_difference (suc l) (bits n a) (bits n b) ≡ suc l + (n - j))
        → first_difference l (bits (suc n) a) (bits (suc n) b) ≡ l + (suc n - j)
    go (inl q) ih =
        let e' : a / 2 ^ n / 2 ≡ b / 2 ^ n / 2 = sym (shr_suc a n) ∙ subst (λ (i : ℕ). a / 2 ^ suc i ≡ b / 2 ^ suc i) q e ∙ shr_suc b n in
        let d' : a / 2 ^ n ≢ b / 2 ^ n = subst (λ (i : ℕ). a / 2 ^ i ≢ b / 2 ^ i) q d in
        other_bit (a / 2 ^ n % 2) (b / 2 ^ n % 2) l (bits n a) (bits n b) (omega arith) (omega arith) (λ z. d' (omega arith)) ∙ omega arith
    go (inr g) ih = rw (shr_more a b (suc j) n g e, same_bit (eqb (b / 2 ^ n % 2) 1) l (bits n a) (bits n b), ih g) (omega arith)

xor_zero : (a b : ℕ) → bit_xor a b ≡ 0 → a ≡ b
xor_zero a b e = omega (arith, xor_add_and a b, and_le_l a b, and_le_r a b)

-- Numbers whose exclusive or has at most j bits agree above their last j bits; where it has more, they do not.
xor_same : (a b j : ℕ) → bit_xor a b < 2 ^ j → a / 2 ^ j ≡ b / 2 ^ j
xor_same a b j h = xor_zero (a / 2 ^ j) (b / 2 ^ j) (sym (xor_shr a b j) ∙ div-eq_of_lt h)

xor_other : (a b j : ℕ) → 2 ^ j ≤ bit_xor a b → a / 2 ^ j ≢ b / 2 ^ j
xor_other a b j h q = omega (arith, shr_pos (bit_xor a b) j h, xor_shr a b j ∙ ap (λ (x : ℕ). bit_xor x (b / 2 ^ j)) q ∙ xor_self (b / 2 ^ j))

-- The first bit where two keys of w bits differ, by the zeros above their exclusive or.
abbrev pub by_zeros : ℕ → ℕ → ℕ → ℕ
by_zeros w a b = count_leading_zeros 64 (bit_xor a b) + w - 63

-- The same key differs from itself nowhere.
pub same_key : (n l a : ℕ) → first_difference l (bits n a) (bits n a) ≡ suc (l + n)
same_key zero l a = rw (add-zero l)
same_key (suc n) l a = same_bit (eqb (a / 2 ^ n % 2) 1) l (bits n a) (bits n a) ∙ same_key n (suc l) a ∙ omega arith

pub difference_by_zeros : (w a b : ℕ) → w ≤ 64 → a < 2 ^ w → b < 2 ^ w
    → (by_zeros w a b ≡ first_difference 0 (bits w a) (bits w b)) × (0 < by_zeros w a b) × (a ≢ b → by_zeros w a b ≤ w)
difference_by_zeros w a b h ha hb = go (eq-zero-or-pos (bit_xor a b))
  where
    low : bit_xor a b < 2 ^ w
    low = xor_lt w a b ha hb

    go : (bit_xor a b ≡ 0) ⊎ (0 < bit_xor a b) → (by_zeros w a b ≡ first_difference 0 (bits w a) (bits w b)) × (0 < by_zeros w a b) × (a ≢ b → by_zeros w a b ≤ w)
    go (inl z) =
        let zeros : count_leading_zeros 64 (bit_xor a b) ≡ 64 = ap (count_leading_zeros 64) z ∙ leading_of_zero 64 in
        let same : first_difference 0 (bits w a) (bits w b) ≡ suc (0 + w) = ap (λ (x : ℕ). first_difference 0 (bits w a) (bits w x)) (sym (xor_zero a b z)) ∙ same_key w 0 a in
        (omega (arith, zeros, same), omega (arith, zeros), λ d. absurd (d (xor_zero a b z)))
    go (inr some) =
        let t = leading_top 64 (bit_xor a b) some (lt_of_lt_of_le low (pow_mono h)) in
        let j : ℕ = t.0 in
        let g : j < w = lt_of_not-le (λ (g : w ≤ j). not-le_of_lt (lt_of_lt_of_le low (pow_mono g)) t.2) in
        (sym (first_difference_lem w 0 a b j g (xor_same a b (suc j) t.3) (xor_other a b j t.2) ∙ omega (arith, t.1)), omega (arith, t.1), λ d. omega (arith, t.1))

-- ---- the first bits, and the width

-- The first 0 bits of every key are the same.
pub agree_none : (w l a b : ℕ) → l ≡ 0 → a < 2 ^ w → b < 2 ^ w → eqb (first_bits w l a) (first_bits w l b) ≡ true
agree_none w l a b e ha hb =
    let s : w - l ≡ w = omega arith in
    rw (s, div-eq_of_lt ha, div-eq_of_lt hb)

-- A number has more than w bits if something is left of it after a shift by w.
pub wide_by_shift : (w x : ℕ) → not (eqb (x / 2 ^ w) 0) ≡ leb (2 ^ w) x
wide_by_shift w x = go (leb (2 ^ w) x) refl
  where
    go : (t : Bool) → leb (2 ^ w) x ≡ t → not (eqb (x / 2 ^ w) 0) ≡ t
    go true e = rw (ne_eqb (x / 2 ^ w) 0 (omega (arith, shr_pos x w (leb-true (2 ^ w) x e))))
    go false e = rw (div-eq_of_lt (leb-false (2 ^ w) x e))

-- ---- the next discriminator

or_one : (q : ℕ) → bit_or q 1 ≡ q / 2 * 2 + 1
or_one q = or_step q 1 ∙ rw (or_zero_r (q / 2)) (omega arith)

-- A number with its bit j, counted from the last as bit 0, set and the later ones clear.
abbrev pub by_shifts : ℕ → ℕ → ℕ
by_shifts j x = bit_or (x / 2 ^ j) 1 * 2 ^ j

shifts_set : (x j : ℕ) → by_shifts j x ≡ x / 2 ^ suc j * 2 ^ suc j + 2 ^ j
shifts_set x j = rw (or_one (x / 2 ^ j), shr_suc x j, pow-suc 2 j, mul_comm (2 ^ j) 2, add-mul, mul_assoc, one-mul)

shifts_lt : (w d x : ℕ) → 0 < d → d ≤ w → x < 2 ^ w → by_shifts (w - d) x < 2 ^ w
shifts_lt w d x p l h =
    let s : d + (w - d) ≡ w = omega arith in
    let h' : x < 2 ^ (d + (w - d)) = rw s h in
    rw s at (shl_lt d (w - d) (or_lt d (x / 2 ^ (w - d)) 1 (shr_lt d (w - d) h') (pow_mono p)))

-- Bit d of a key of w bits set and the later ones cleared, in a word of 64 bits.
pub set_by_shifts : (w d x : ℕ) → w ≤ 64 → 0 < d → d ≤ w → x < 2 ^ w → (by_shifts (w - d) x % 2 ^ 64 ≡ set_bit_at w d x) × (by_shifts (w - d) x % 2 ^ 64 < 2 ^ w)
set_by_shifts w d x k p l h =
    let low : by_shifts (w - d) x < 2 ^ w = shifts_lt w d x p l h in
    let m : by_shifts (w - d) x % 2 ^ 64 ≡ by_shifts (w - d) x = mod-eq_of_lt (lt_of_lt_of_le low (pow_mono k)) in
    (m ∙ shifts_set x (w - d), rw m low)

-- ---- the bits below one

-- Numbers differ in their last j bits only exactly if their exclusive or is at most all of these bits.
pub xor_mask : (a b j m : ℕ) → suc m ≡ 2 ^ j → leb (bit_xor a b) m ≡ eqb (a / 2 ^ j) (b / 2 ^ j)
xor_mask a b j m e = go (leb (bit_xor a b) m) refl
  where
    go : (t : Bool) → leb (bit_xor a b) m ≡ t → t ≡ eqb (a / 2 ^ j) (b / 2 ^ j)
    go true h = sym (eq-eqb (a / 2 ^ j) (b / 2 ^ j) (xor_same a b j (omega (arith, leb-true (bit_xor a b) m h))))
    go false h = sym (ne_eqb (a / 2 ^ j) (b / 2 ^ j) (xor_other a b j (omega (arith, leb-false (bit_xor a b) m h))))

-- One more than a number with its last j bits set.
pub or_mask : (x j m : ℕ) → suc m ≡ 2 ^ j → bit_or x m + 1 ≡ (x / 2 ^ j + 1) * 2 ^ j
or_mask x j m e = rw (add-mul, one-mul) (omega (arith, or_add_and x m, low, split x j))
  where
    low : bit_and x m ≡ x % 2 ^ j
    low =
        let s : m ≡ 2 ^ j - 1 = omega arith in
        rw s (and_mask x j)
