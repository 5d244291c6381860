-- Digits as numbers: one digit more, and how large a number of so many digits is. Assumes nothing.
use mathlib.Core.Path.{◌≡◌, refl, sym, ◌∙◌}
use mathlib.Core.Bool.{Bool, true, false, cond, ◌&&◌, true≢false}
use mathlib.Core.List.{List, [], ◌∷◌}
use Prim.Native.Nat.{ℕ, suc, ◌+◌, ◌*◌, ◌-◌, ◌^◌, ◌≤◌, ◌<◌}
use native.Mathlib.Omega.{arith}
use native.Mathlib.Numerals.{add-one}
use native.Mathlib.Nat.{mul-le-mul_left, mul-le-mul_right, pow-suc, pow-le-pow_right, zero-add}
use lib.Dec.{ltb, leb}
use lib.ListN.{length, drop, get_or}
use lib.Seq.{drop-cons, drop-length}
use borrow.Author.Tests.{lt-ltb, le-ltb, ltb-true, le-leb, leb-true}
use Rattle.std.specs.Prelude.{Option, Some, None}
use Rattle.book_tags.specs.Tags.{between, digit_of, number_after, number_of, record_of, record_at_most}

-- The value of a digit by its byte.
pub digit_decimal : (byte : ℕ) → 48 ≤ byte → byte ≤ 57 → digit_of byte ≡ byte - 48
unfolding digit_of
digit_decimal byte h k = rw (le-leb 48 byte h, le-leb byte 57 k)

-- A byte outside a range.
outside : (low high byte : ℕ) → (low ≤ byte → byte ≤ high → ⊥) → between low high byte ≡ false
outside low high byte h = go (leb low byte) (leb byte high) refl refl
  where
    go : (s t : Bool) → leb low byte ≡ s → leb byte high ≡ t → (s && t) ≡ false
    go true true p q = absurd (h (leb-true low byte p) (leb-true byte high q))
    go true false p q = refl
    go false t p q = refl

-- A byte in a range.
inside : (low high byte : ℕ) → between low high byte ≡ true → byte ≤ high
inside low high byte e = go (leb low byte) (leb byte high) refl e
  where
    go : (s t : Bool) → leb byte high ≡ t → (s && t) ≡ true → byte ≤ high
    go true t p q = leb-true byte high (p ∙ q)
    go false t p q = absurd (true≢false (sym q))

pub digit_letter : (byte : ℕ) → 97 ≤ byte → byte ≤ 102 → digit_of byte ≡ byte - 87
unfolding digit_of
digit_letter byte h k = rw (outside 48 57 byte (λ a b. omega arith), le-leb 97 byte h, le-leb byte 102 k)

pub digit_none : (byte : ℕ) → (48 ≤ byte → byte ≤ 57 → ⊥) → (97 ≤ byte → byte ≤ 102 → ⊥) → digit_of byte ≡ 16
unfolding digit_of
digit_none byte h k = rw (outside 48 57 byte h, outside 97 102 byte k)

-- From a place on: a byte that is no digit decides, a digit goes into the value, at the end stands the value.
module _ (base value : ℕ) (bytes : List ℕ) (i : ℕ) where
  pub number_none : {next : ℕ} → next ≡ digit_of (get_or bytes i 0) → i < length bytes → base ≤ next → number_after base value (drop i bytes) ≡ None
  unfolding number_after
  number_none e h d = rw (drop-cons bytes i 0 h, le-ltb (digit_of (get_or bytes i 0)) base (omega arith))

  pub number_more : {next : ℕ} → next ≡ digit_of (get_or bytes i 0) → i < length bytes → next < base
      → number_after base value (drop i bytes) ≡ number_after base (value * base + next) (drop (i + 1) bytes)
  unfolding number_after
  number_more e h d = rw (add-one i, drop-cons bytes i 0 h, ← e, lt-ltb _ base d)

  pub number_end : i ≡ length bytes → number_after base value (drop i bytes) ≡ Some value
  unfolding number_after
  number_end h = rw (h, drop-length bytes)

-- A digit more makes a number below the next power.
pub digit_more : (base value next i : ℕ) → value < base ^ i → next < base → value * base + next < base ^ suc i
digit_more base value next i h d =
    let e : suc value * base ≤ base ^ i * base = mul-le-mul_right base h in
    omega (arith, pow-suc base i)

-- Numbers of base 16 or less, of at most 16 digits, fit 64 bits.
pub digit_fits : (base value next i : ℕ) → base ≤ 16 → i < 16 → value < 16 ^ i → next < base → value * base + next < 2 ^ 64
digit_fits base value next i h k v d =
    let e : value * base ≤ value * 16 = mul-le-mul_left value h in
    let f : 16 ^ suc i ≤ 16 ^ 16 = pow-le-pow_right (omega arith) k in
    omega (arith, pow-suc 16 i)

pub digit_grows : (base value next i : ℕ) → base ≤ 16 → value < 16 ^ i → next < base → value * base + next < 16 ^ suc i
digit_grows base value next i h v d =
    let e : value * base ≤ value * 16 = mul-le-mul_left value h in
    omega (arith, pow-suc 16 i)

-- A number of n digits, after i, is below the power n + i.
pub number_below : (base value : ℕ) (bytes : List ℕ) (i : ℕ) → value < base ^ i → (n : ℕ) → number_after base value bytes ≡ Some n → n < base ^ (length bytes + i)
unfolding number_after
number_below base value [] i h n e = let same : value ≡ n = cc in rw (← same, zero-add i) h
number_below base value (byte ∷ bytes) i h n e =
    go (ltb (digit_of byte) base) refl (λ v q. number_below base (value * base + digit_of byte) bytes (suc i) v n q) e
  where
    go : (t : Bool) → ltb (digit_of byte) base ≡ t
        → (value * base + digit_of byte < base ^ suc i → number_after base (value * base + digit_of byte) bytes ≡ Some n → n < base ^ (length bytes + suc i))
        → cond t (number_after base (value * base + digit_of byte) bytes) None ≡ Some n → n < base ^ (suc (length bytes) + i)
    go true t rest e =
        let power : length bytes + suc i ≡ suc (length bytes) + i = omega arith in
        rw power at (rest (digit_more base value (digit_of byte) i h (ltb-true (digit_of byte) base t)) e)
    go false t rest e = absurd (let z : ◌≡◌ {A = ℕ} 0 1 = cc in omega arith)

-- "1 to 5 decimal digits": a record is at most 99999.
pub record_small : (field : List ℕ) → record_at_most 99999 (record_of field)
unfolding record_of
record_small field = go (between 1 5 (length field)) refl (number_of 10 field) (number_below 10 0 field 0 (omega arith))
  where
    go : (t : Bool) → between 1 5 (length field) ≡ t → (r : Option ℕ) → ((m : ℕ) → r ≡ Some m → m < 10 ^ (length field + 0))
        → record_at_most 99999 (cond t r None)
    go false e r below = tt
    go true e None below = tt
    go true e (Some m) below =
        let k : length field ≤ 5 = inside 1 5 (length field) e in
        let p : 10 ^ (length field + 0) ≤ 10 ^ 5 = pow-le-pow_right (omega arith) {j = 5} (omega arith) in
        omega (arith, below m refl)
