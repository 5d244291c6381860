-- Keys as bits and as numbers. Assumes nothing.
use mathlib.Core.Path.{◌≡◌, refl, ap, ◌∙◌, sym, subst}
use mathlib.Core.Logic.{◌≢◌}
use mathlib.Core.Bool.{false, true, true≢false, Bool}
use mathlib.Core.List.{◌∷◌, []}
use Prim.Native.Nat.{ℕ, zero, suc, ◌<◌, ◌*◌, ◌^◌, ◌+◌, ◌%◌, ◌/◌, ◌≤◌, ◌-◌}
use native.Mathlib.Omega.{arith}
use native.Mathlib.Nat.{zero-mul, one-mul, mod-lt, mod-eq_of_lt, pow-suc, div-eq_of_lt, mul-add-div_right, add-mul, zero-add}
use native.Mathlib.Numerals.{one-add}
use lib.Dec.{eqb, ltb}
use lib.Pow.{mod-pow-add, pow-add, pow_pos}
use lib.ListN.{length, take, length-take}
use borrow.Author.Tests.{lt-ltb, ltb-true, le-ltb, ltb-false}
use Rattle.leaf_list.specs.Keys.{bits, Key, value, same_key, below, zero_bits, set_bit, set_bit_at, bit_of}

-- The key of n bits has n bits.
pub bits_length : (n x : ℕ) → length (bits n x) ≡ n
bits_length zero x = refl
bits_length (suc n) x = ap suc (bits_length n x)

-- The value of a key by its first bit.
pub value_cons : (q : ℕ) (k : Key) → q < 2 → value (eqb q 1 ∷ k) ≡ q * 2 ^ length k + value k
value_cons zero k h = rw zero-mul (omega arith)
value_cons (suc zero) k h = rw one-mul
value_cons (suc (suc q)) k h = absurd (omega arith)

-- The value of the last n bits of a number.
pub value_bits : (n x : ℕ) → value (bits n x) ≡ x % 2 ^ n
value_bits zero x = omega arith
value_bits (suc n) x =
    value_cons (x / 2 ^ n % 2) (bits n x) (mod-lt (x / 2 ^ n) (omega arith)) ∙ rw (bits_length n x, value_bits n x, ← (mod-pow-add x 1 n), one-add n)

-- A number of n bits is the value of its bits.
pub value_number : (n x : ℕ) → x < 2 ^ n → value (bits n x) ≡ x
value_number n x h = value_bits n x ∙ mod-eq_of_lt h

-- A key of n bits is below 2 ^ n.
pub value_bound : (k : Key) → value k < 2 ^ length k
value_bound [] = omega arith
value_bound (false ∷ k) = omega (arith, value_bound k, pow-suc 2 (length k))
value_bound (true ∷ k) = omega (arith, value_bound k, pow-suc 2 (length k))

-- Keys of the same length have the same bound.
pub power_length : (k k' : Key) → length k ≡ length k' → 2 ^ length k ≡ 2 ^ length k'
power_length k k' e = rw e

-- Keys of the same length and value are the same.
pub value_injective : (k k' : Key) → length k ≡ length k' → value k ≡ value k' → k ≡ k'
value_injective [] [] h e = refl
value_injective [] (y ∷ k') h e = absurd (omega arith)
value_injective (x ∷ k) [] h e = absurd (omega arith)
value_injective (false ∷ k) (false ∷ k') h e = ap (λ (z : Key). false ∷ z) (value_injective k k' (omega arith) e)
value_injective (false ∷ k) (true ∷ k') h e = absurd (omega (arith, value_bound k, power_length k k' (omega arith)))
value_injective (true ∷ k) (false ∷ k') h e = absurd (omega (arith, value_bound k', power_length k k' (omega arith)))
value_injective (true ∷ k) (true ∷ k') h e = ap (λ (z : Key). true ∷ z) (value_injective k k' (omega arith) (omega (arith, power_length k k' (omega arith))))

-- A key is the same as itself.
pub same_key_refl : (k : Key) → same_key k k ≡ true
same_key_refl [] = refl
same_key_refl (false ∷ k) = same_key_refl k
same_key_refl (true ∷ k) = same_key_refl k

-- What the comparison calls the same is equal.
pub same_key_equal : (k k' : Key) → same_key k k' ≡ true → k ≡ k'
same_key_equal [] [] e = refl
same_key_equal [] (x ∷ k') e = absurd (true≢false (sym e))
same_key_equal (false ∷ k) [] e = absurd (true≢false (sym e))
same_key_equal (true ∷ k) [] e = absurd (true≢false (sym e))
same_key_equal (false ∷ k) (false ∷ k') e = ap (λ (x : Key). false ∷ x) (same_key_equal k k' e)
same_key_equal (false ∷ k) (true ∷ k') e = absurd (true≢false (sym e))
same_key_equal (true ∷ k) (false ∷ k') e = absurd (true≢false (sym e))
same_key_equal (true ∷ k) (true ∷ k') e = ap (λ (x : Key). true ∷ x) (same_key_equal k k' e)

-- The bits of two different numbers differ.
pub same_key_bits : (n x y : ℕ) → x < 2 ^ n → y < 2 ^ n → x ≢ y → same_key (bits n x) (bits n y) ≡ false
same_key_bits n x y hx hy d = go (same_key (bits n x) (bits n y)) refl
  where
    go : (t : Bool) → same_key (bits n x) (bits n y) ≡ t → t ≡ false
    go true e = absurd (d (sym (value_number n x hx) ∙ ap value (same_key_equal (bits n x) (bits n y) e) ∙ value_number n y hy))
    go false e = refl

-- The order of two sums with one part in common.
pub add_ltb : (a x y : ℕ) → ltb (a + x) (a + y) ≡ ltb x y
add_ltb a x y = go (ltb x y) refl
  where
    go : (t : Bool) → ltb x y ≡ t → ltb (a + x) (a + y) ≡ t
    go true e = lt-ltb (a + x) (a + y) (omega (arith, ltb-true x y e))
    go false e = le-ltb (a + x) (a + y) (omega (arith, ltb-false x y e))

-- The order of keys is the order of their values.
pub below_value : (k k' : Key) → length k ≡ length k' → below k k' ≡ ltb (value k) (value k')
below_value [] [] e = refl
below_value [] (y ∷ k') e = absurd (omega arith)
below_value (false ∷ k) [] e = absurd (omega arith)
below_value (true ∷ k) [] e = absurd (omega arith)
below_value (false ∷ k) (false ∷ k') e = below_value k k' (omega arith)
below_value (false ∷ k) (true ∷ k') e = rw (lt-ltb (value k) (2 ^ length k' + value k') (omega (arith, value_bound k, power_length k k' (omega arith))))
below_value (true ∷ k) (false ∷ k') e = rw (le-ltb (2 ^ length k + value k) (value k') (omega (arith, value_bound k', power_length k k' (omega arith))))
below_value (true ∷ k) (true ∷ k') e = rw (power_length k k' (omega arith), add_ltb (2 ^ length k') (value k) (value k')) (below_value k k' (omega arith))

-- The order of numbers is the order of their bits.
pub below_bits : (n x y : ℕ) → x < 2 ^ n → y < 2 ^ n → below (bits n x) (bits n y) ≡ ltb x y
below_bits n x y hx hy = below_value (bits n x) (bits n y) (bits_length n x ∙ sym (bits_length n y)) ∙ rw (value_number n x hx, value_number n y hy)

-- n zeros are n bits.
pub zero_bits_length : (n : ℕ) → length (zero_bits n) ≡ n
zero_bits_length zero = refl
zero_bits_length (suc n) = ap suc (zero_bits_length n)

-- The value of zeros is 0.
pub value_zero_bits : (n : ℕ) → value (zero_bits n) ≡ 0
value_zero_bits zero = refl
value_zero_bits (suc n) = value_zero_bits n

-- No key is below zero.
pub below_zero_bits : (k : Key) (n : ℕ) → below k (zero_bits n) ≡ false
below_zero_bits [] n = refl
below_zero_bits (false ∷ k) zero = refl
below_zero_bits (true ∷ k) zero = refl
below_zero_bits (false ∷ k) (suc n) = below_zero_bits k n
below_zero_bits (true ∷ k) (suc n) = refl

-- Setting a bit keeps the length.
pub set_bit_length : (d : ℕ) (D : Key) → length (set_bit d D) ≡ length D
set_bit_length d [] = refl
set_bit_length zero (x ∷ D) = refl
set_bit_length (suc zero) (x ∷ D) = ap suc (zero_bits_length (length D))
set_bit_length (suc (suc d)) (x ∷ D) = ap suc (set_bit_length (suc d) D)

-- The value after "sets bit d and clears all later bits", by how many bits follow.
pub set_bit_value : (D : Key) (d j : ℕ) → length D ≡ d + suc j → value (set_bit (suc d) D) ≡ value D / 2 ^ suc j * 2 ^ suc j + 2 ^ j
set_bit_value [] d j h = absurd (omega arith)
set_bit_value (x ∷ D) zero j h =
    let e : length D ≡ j = omega arith in
    rw
    (div-eq_of_lt (subst (λ (i : ℕ). value (x ∷ D) < 2 ^ suc i) e (value_bound (x ∷ D))), zero-mul, zero_bits_length (length D), value_zero_bits (length D), e)
    (omega arith)
set_bit_value (false ∷ D) (suc d) j h = set_bit_value D d j (omega arith)
set_bit_value (true ∷ D) (suc d) j h =
    let e : length D ≡ d + suc j = omega arith in
    rw (set_bit_length (suc d) D, set_bit_value D d j e, e, pow-add 2 d (suc j), mul-add-div_right (pow_pos (suc j)) (2 ^ d) (value D), add-mul) (omega arith)

-- set_bit_at does on numbers what set_bit does on keys.
pub set_bit_number : (n d : ℕ) (D : Key) → length D ≡ n → suc d ≤ n → value (set_bit (suc d) D) ≡ set_bit_at n (suc d) (value D)
set_bit_number n d D e h = set_bit_value D d (n - suc d) (omega arith)

-- Bit d of a key, by how many bits follow.
pub bit_of_value : (D : Key) (d j : ℕ) → length D ≡ d + suc j → bit_of (suc d) D ≡ eqb (value D / 2 ^ j % 2) 1
bit_of_value [] d j h = absurd (omega arith)
bit_of_value (false ∷ D) zero j h =
    let e : length D ≡ j = omega arith in
    rw (div-eq_of_lt (subst (λ (i : ℕ). value D < 2 ^ i) e (value_bound D)))
bit_of_value (true ∷ D) zero j h =
    let e : length D ≡ j = omega arith in
    let q : (2 ^ j + value D) / 2 ^ j ≡ 1 + value D / 2 ^ j = ap (λ (x : ℕ). (x + value D) / 2 ^ j) (sym (one-mul (2 ^ j))) ∙ mul-add-div_right (pow_pos j) 1 (value D) in
    rw (e, q, div-eq_of_lt (subst (λ (i : ℕ). value D < 2 ^ i) e (value_bound D)))
bit_of_value (false ∷ D) (suc d) j h = bit_of_value D d j (omega arith)
bit_of_value (true ∷ D) (suc d) j h = bit_of_value D d j (omega arith) ∙ ap (λ (x : ℕ). eqb x 1) q
  where
    q : value D / 2 ^ j % 2 ≡ (2 ^ length D + value D) / 2 ^ j % 2
    q =
        let e : length D ≡ suc d + j = omega arith in
        rw (e, pow-add 2 (suc d) j, mul-add-div_right (pow_pos j) (2 ^ suc d) (value D)) (omega (arith, pow-suc 2 d))

-- The value of the first bits of a key.
pub value_take : (D : Key) (l j : ℕ) → length D ≡ l + j → value (take l D) ≡ value D / 2 ^ j
value_take D zero j h = sym (div-eq_of_lt (subst (λ (i : ℕ). value D < 2 ^ i) (h ∙ zero-add j) (value_bound D)))
value_take [] (suc l) j h = absurd (omega arith)
value_take (false ∷ D) (suc l) j h = value_take D l j (omega arith)
value_take (true ∷ D) (suc l) j h =
    let e : length D ≡ l + j = omega arith in
    let g : length (take l D) ≡ l = length-take l D ∙ omega arith in
    rw (g, value_take D l j e, e, pow-add 2 l j, mul-add-div_right (pow_pos j) (2 ^ l) (value D))
