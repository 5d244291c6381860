-- Numbers in decimal: no leading zero, the same number back, and how many digits. Assumes nothing.
use mathlib.Core.Path.{◌≡◌, refl, sym, ap, ◌∙◌}
use mathlib.Core.Bool.{Bool, true, false}
use mathlib.Core.List.{List, [], ◌∷◌, ◌++◌}
use Prim.Native.Nat.{ℕ, zero, suc, ◌+◌, ◌*◌, ◌-◌, ◌/◌, ◌%◌, ◌^◌, ◌≤◌, ◌<◌}
use native.Mathlib.Omega.{arith}
use native.Mathlib.Nat.{pow-suc}
use lib.Dec.{ltb}
use lib.ListN.{length, get_or, length-append, get_or-append}
use borrow.Author.Tests.{ltb-true, ltb-false}
use Rattle.std.specs.Fmt.{decimal as printed}
use Rattle.std.proofs.lemmas.Fmt.{decimal_digit, decimal_step}
use Rattle.book_answers.specs.Answers.{digit, digits_within, decimal, value_after, value, Digits}

-- ---- the digits, one step at a time

-- There are none for 0.
within_none : (steps : ℕ) → digits_within steps 0 ≡ []
unfolding digits_within
within_none zero = refl
within_none (suc steps) = refl

-- Enough steps are as good as any that are enough.
within_same : (f g n : ℕ) → n ≤ f → n ≤ g → digits_within f n ≡ digits_within g n
unfolding digits_within
within_same zero zero n h k = refl
within_same zero (suc g) zero h k = refl
within_same zero (suc g) (suc n) h k = absurd (omega arith)
within_same (suc f) zero zero h k = refl
within_same (suc f) zero (suc n) h k = absurd (omega arith)
within_same (suc f) (suc g) zero h k = refl
within_same (suc f) (suc g) (suc n) h k =
    ap (λ (l : List ℕ). l ++ (digit (suc n % 10) ∷ [])) (within_same f g (suc n / 10) (omega arith) (omega arith))

-- Above 0 they are the number in decimal.
within_decimal : (steps n : ℕ) → n ≤ steps → 0 < n → digits_within steps n ≡ decimal n
unfolding digits_within decimal
within_decimal zero n h z = absurd (omega arith)
within_decimal (suc steps) zero h z = absurd (omega arith)
within_decimal (suc steps) (suc n) h z =
    ap (λ (l : List ℕ). l ++ (digit (suc n % 10) ∷ [])) (within_same steps (suc n) (suc n / 10) (omega arith) (omega arith))

-- A number below ten is one digit.
pub decimal_one : (n : ℕ) → n < 10 → decimal n ≡ digit n ∷ []
unfolding decimal
decimal_one n h = let e : n / 10 ≡ 0 = omega arith in let r : n % 10 ≡ n = omega arith in rw (e, r, within_none n)

-- Any other number is a tenth of it, and a digit more.
pub decimal_more : (n : ℕ) → 10 ≤ n → decimal n ≡ decimal (n / 10) ++ (digit (n % 10) ∷ [])
unfolding decimal
decimal_more n h = ap (λ (l : List ℕ). l ++ (digit (n % 10) ∷ [])) (within_decimal n (n / 10) (omega arith) (omega arith))

-- So they are what the library prints.
decimal_below : (bound n : ℕ) → n ≤ bound → n < 2 ^ 64 → printed n ≡ decimal n
decimal_below zero n h small = decimal_digit n (omega arith) ∙ sym (decimal_one n (omega arith))
decimal_below (suc bound) n h small = go (ltb n 10) refl (λ l. decimal_below bound (n / 10) (omega arith) (omega arith))
  where
    go : (t : Bool) → ltb n 10 ≡ t → (10 ≤ n → printed (n / 10) ≡ decimal (n / 10)) → printed n ≡ decimal n
    go true e rest = decimal_digit n (ltb-true n 10 e) ∙ sym (decimal_one n (ltb-true n 10 e))
    go false e rest =
        decimal_step n (ltb-false n 10 e) small ∙ rw (rest (ltb-false n 10 e)) (sym (decimal_more n (ltb-false n 10 e)))

pub decimal_printed : (n : ℕ) → n < 2 ^ 64 → printed n ≡ decimal n
decimal_printed n small = decimal_below n n (omega arith) small

-- ---- the number again

-- One list of digits behind another.
value_append : (a : ℕ) (xs ys : List ℕ) → value_after a (xs ++ ys) ≡ value_after (value_after a xs) ys
unfolding value_after
value_append a [] ys = refl
value_append a (x ∷ xs) ys = value_append (a * 10 + (x - 48)) xs ys

-- A digit more.
value_more : (xs : List ℕ) (n : ℕ) → value xs ≡ n / 10 → value (xs ++ (digit (n % 10) ∷ [])) ≡ n
unfolding value_after
value_more xs n e = value_append 0 xs (digit (n % 10) ∷ []) ∙ omega arith

within_value : (steps n : ℕ) → n ≤ steps → value (digits_within steps n) ≡ n
unfolding digits_within value_after
within_value zero n h = omega arith
within_value (suc steps) zero h = refl
within_value (suc steps) (suc n) h = value_more (digits_within steps (suc n / 10)) (suc n) (within_value steps (suc n / 10) (omega arith))

-- The digits of a number say it.
pub decimal_value : (n : ℕ) → value (decimal n) ≡ n
unfolding decimal
decimal_value n = value_more (digits_within n (n / 10)) n (within_value n (n / 10) (omega arith))

-- ---- digits, and no leading zero

-- Digits behind digits.
digits_append : (xs ys : List ℕ) → Digits xs → Digits ys → Digits (xs ++ ys)
digits_append [] ys h k = k
digits_append (x ∷ xs) ys h k = (h.0, digits_append xs ys h.1 k)

-- A digit is one.
digits_one : (n : ℕ) → n < 10 → Digits (digit n ∷ [])
digits_one n h = ((omega arith, omega arith), tt)

within_digits : (steps n : ℕ) → Digits (digits_within steps n)
unfolding digits_within
within_digits zero n = tt
within_digits (suc steps) zero = tt
within_digits (suc steps) (suc n) =
    digits_append (digits_within steps (suc n / 10)) (digit (suc n % 10) ∷ []) (within_digits steps (suc n / 10)) (digits_one (suc n % 10) (omega arith))

-- Every byte of a number is a digit.
pub decimal_digits : (n : ℕ) → Digits (decimal n)
unfolding decimal
decimal_digits n = digits_append (digits_within n (n / 10)) (digit (n % 10) ∷ []) (within_digits n (n / 10)) (digits_one (n % 10) (omega arith))

-- There is a digit.
decimal_some : (n : ℕ) → 1 ≤ length (decimal n)
unfolding decimal
decimal_some n = omega (arith, length-append (digits_within n (n / 10)) (digit (n % 10) ∷ []))

leading_below : (bound n : ℕ) → n ≤ bound → 0 < n → 48 < get_or (decimal n) 0 0
leading_below zero n h z = absurd (omega arith)
leading_below (suc bound) n h z = go (ltb n 10) refl (λ l. leading_below bound (n / 10) (omega arith) (omega arith))
  where
    go : (t : Bool) → ltb n 10 ≡ t → (10 ≤ n → 48 < get_or (decimal (n / 10)) 0 0) → 48 < get_or (decimal n) 0 0
    go true e rest = rw (decimal_one n (ltb-true n 10 e)) (omega arith)
    go false e rest =
        rw (decimal_more n (ltb-false n 10 e), get_or-append (decimal (n / 10)) (digit (n % 10) ∷ []) 0 0 (decimal_some (n / 10)))
        (rest (ltb-false n 10 e))

-- A number above 0 does not begin with the digit 0; "0 is `0`" is `decimal_one`.
pub decimal_leading : (n : ℕ) → 0 < n → 48 < get_or (decimal n) 0 0
decimal_leading n h = leading_below n n (omega arith) h

-- ---- how many digits

within_length : (k steps n : ℕ) → n < 10 ^ k → length (digits_within steps n) ≤ k
unfolding digits_within
within_length zero zero n h = omega arith
within_length zero (suc steps) zero h = omega arith
within_length zero (suc steps) (suc n) h = absurd (omega arith)
within_length (suc k) zero n h = omega arith
within_length (suc k) (suc steps) zero h = omega arith
within_length (suc k) (suc steps) (suc n) h =
    omega (
      arith,
      length-append (digits_within steps (suc n / 10)) (digit (suc n % 10) ∷ []),
      within_length k steps (suc n / 10) (omega (arith, pow-suc 10 k)),
    )

-- A number below a power of ten has at most so many digits.
pub decimal_length : (k n : ℕ) → n < 10 ^ suc k → length (decimal n) ≤ suc k
unfolding decimal
decimal_length k n h =
    omega (
      arith,
      length-append (digits_within n (n / 10)) (digit (n % 10) ∷ []),
      within_length k n (n / 10) (omega (arith, pow-suc 10 k)),
    )
