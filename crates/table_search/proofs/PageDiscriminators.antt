-- The discriminators of a page's own entries beside the key's bits from the page's position on: how far a search has come. Assumes nothing.
use mathlib.Core.Path.{◌≡◌, refl, sym, ap, subst, ◌∙◌}
use mathlib.Core.Logic.{◌⊎◌, inl, inr}
use Prim.Native.Nat.{ℕ, suc, ◌+◌, ◌-◌, ◌*◌, ◌/◌, ◌%◌, ◌^◌, ◌≤◌, ◌<◌}
use native.Mathlib.Omega.{arith}
use native.Mathlib.Nat.{mod-lt, eq-or-lt_of_le, eq-zero-or-pos, lt_of_lt_of_le, lt_of_not-le, not-le_of_lt, suc-mul, one-mul, add-mul, mul_assoc, zero-mul, zero-div, div-eq_of_lt}
use lib.Bits.{bit_or, or_add_and, and_mask}
use lib.Count.{count_leading_zeros, count_trailing_zeros, leading_top}
use Rattle.std.proofs.lemmas.Bool.{cases_lt}
use lib.Pow.{pow_pos, pow_mono, pow-add, mod-pow-add, split, high, low, shl-shr, shr-shr, shr_mono, ones_lt, ones_split, suc_ones}
use borrow.Author.Tests.{ne_eqb}
use Rattle.leaf_list.proofs.KeyLaws.{first_difference_lem, same_key}
use Rattle.leaf_list.specs.Keys.{bits, first_difference}
use Rattle.table_search.specs.Places.{ahead, last_before, last_position, Passed}
use Rattle.table_search.proofs.NextPositions.{next_none, next_some}
use Rattle.table_search.proofs.BitsAhead.{double, some_ahead, none_ahead, ahead_under}
use Rattle.table_search.proofs.LastBits.{zeros_behind}
use Rattle.table_search.proofs.Stops.{passed_kept, passed_next}

-- The number a has a one at position b, where D has none, and they agree before it; or b is w + 1, and they are the same.
abbrev pub Apart : ℕ → ℕ → ℕ → ℕ → Type 0
Apart w a D b =
    ((b ≡ w + 1) × (D ≡ a)) ⊎ ((b ≤ w) × (a / 2 ^ (w - b) ≡ suc (D / 2 ^ (w - b))) × (a / 2 ^ suc (w - b) ≡ D / 2 ^ suc (w - b)))

-- ---- numbers without their last bits

fewer : (n c j : ℕ) → c ≤ j → n / 2 ^ j ≡ n / 2 ^ c / 2 ^ (j - c)
fewer n c j h =
    let e : c + (j - c) ≡ j = omega arith in
    sym (shr-shr n c (j - c) ∙ ap (λ (m : ℕ). n / 2 ^ m) e)

fewer_same : (n m c j : ℕ) → c ≤ j → n / 2 ^ c ≡ m / 2 ^ c → n / 2 ^ j ≡ m / 2 ^ j
fewer_same n m c j h e = fewer n c j h ∙ ap (λ (x : ℕ). x / 2 ^ (j - c)) e ∙ sym (fewer m c j h)

-- An even number and the next one are the same but for their last bit.
half_even : (y : ℕ) → y % 2 ≡ 0 → suc y / 2 ≡ y / 2
half_even y e =
    let s : y / 2 ^ 1 * 2 ^ 1 + y % 2 ^ 1 ≡ y = split y 1 in
    let q : suc y ≡ y / 2 ^ 1 * 2 ^ 1 + 1 = omega arith in
    ap (λ (n : ℕ). n / 2 ^ 1) q ∙ high (y / 2 ^ 1) 1 {lo = 1} (omega arith)

-- The discriminator that follows is the next multiple of the entry's bit,
pub disc_next : (w d D : ℕ) → suc (last_before w d D) ≡ suc (D / 2 ^ (w - d)) * 2 ^ (w - d)
disc_next w d D = omega (arith, suc_ones (w - d), suc-mul (D / 2 ^ (w - d)) (2 ^ (w - d)))

times : (x i j : ℕ) → i ≤ j → x * 2 ^ j ≡ x * 2 ^ (j - i) * 2 ^ i
times x i j h =
    let e : j ≡ j - i + i = omega arith in
    ap (λ (n : ℕ). x * n) (ap (λ (m : ℕ). 2 ^ m) e ∙ pow-add 2 (j - i) i) ∙ sym (mul_assoc x (2 ^ (j - i)) (2 ^ i))

-- has no bit behind it,
pub next_behind : (w d D j : ℕ) → j < w - d → suc (last_before w d D) / 2 ^ j % 2 ≡ 0
next_behind w d D j h =
    let x : ℕ = suc (D / 2 ^ (w - d)) in
    let e : w - d - j ≡ w - d - suc j + 1 = omega arith in
    let q : suc (last_before w d D) ≡ x * 2 ^ (w - d - suc j) * 2 ^ 1 * 2 ^ j
    = disc_next w d D ∙ times x j (w - d) (omega arith) ∙ ap (λ (n : ℕ). n * 2 ^ j) (ap (λ (m : ℕ). x * 2 ^ m) e ∙ ap (λ (n : ℕ). x * n) (pow-add 2 (w - d - suc j) 1) ∙ sym (mul_assoc x (2 ^ (w - d - suc j)) (2 ^ 1))) in
    ap (λ (n : ℕ). n / 2 ^ j % 2) q ∙ ap (λ (n : ℕ). n % 2) (shl-shr (x * 2 ^ (w - d - suc j) * 2 ^ 1) j) ∙ omega arith

-- and, where the entry's bit was clear, the same bits before it.
pub next_before : (w d D j : ℕ) → D / 2 ^ (w - d) % 2 ≡ 0 → w - d < j → suc (last_before w d D) / 2 ^ j ≡ D / 2 ^ j
next_before w d D j clear h =
    fewer (suc (last_before w d D)) (w - d) j (omega arith)
    ∙ ap (λ (n : ℕ). n / 2 ^ (j - (w - d))) (ap (λ (n : ℕ). n / 2 ^ (w - d)) (disc_next w d D) ∙ shl-shr (suc (D / 2 ^ (w - d))) (w - d))
    ∙ fewer_same (suc (D / 2 ^ (w - d))) (D / 2 ^ (w - d)) 1 (j - (w - d)) (omega arith) (half_even (D / 2 ^ (w - d)) clear)
    ∙ sym (fewer D (w - d) j (omega arith))

-- It is above the one before.
pub disc_rises : (w d D : ℕ) → D ≤ last_before w d D
disc_rises w d D = omega (arith, split D (w - d), mod-lt D (pow_pos (w - d)), suc_ones (w - d))

-- A number of w bits is followed by one.
pub next_fits : (w d D : ℕ) → 0 < d → d ≤ w → D / 2 ^ (w - d) % 2 ≡ 0 → D < 2 ^ w → suc (last_before w d D) < 2 ^ w
next_fits w d D pos inside clear h =
    let none : suc (last_before w d D) / 2 ^ w ≡ 0 = next_before w d D w clear (omega arith) ∙ div-eq_of_lt h in
    omega (arith, split (suc (last_before w d D)) w, ap (λ (n : ℕ). n * 2 ^ w) none, zero-mul (2 ^ w), mod-lt (suc (last_before w d D)) (pow_pos w))

-- ---- an entry of depth d

module _ (w a D b d : ℕ) (inside : d ≤ w) where
  -- Figure 6 stops at it where its discriminator is above a,
  pub apart_stop : Apart w a D b → a ≤ last_before w d D → d < b
  apart_stop at l = lt_of_not-le (no at)
    where
      no : Apart w a D b → b ≤ d → ⊥
      no (inl h) g = omega (arith, h.0)
      no (inr h) g =
          let m : a / 2 ^ (w - b) ≤ last_before w d D / 2 ^ (w - b) = shr_mono (w - b) l in
          let k : last_before w d D / 2 ^ (w - b) ≡ D / 2 ^ (w - b)
          = fewer_same (last_before w d D) D (w - d) (w - b) (omega arith) (high (D / 2 ^ (w - d)) (w - d) (ones_lt (w - d))) in
          omega (arith, h.1, m, k)

  -- and passes it else.
  pub apart_pass : Apart w a D b → last_before w d D < a → b ≤ d
  apart_pass at l = go (cases_lt d b)
    where
      same : Apart w a D b → d < b → a / 2 ^ (w - d) ≡ D / 2 ^ (w - d)
      same (inl h) g = ap (λ (n : ℕ). n / 2 ^ (w - d)) (sym h.1)
      same (inr h) g = fewer_same a D (suc (w - b)) (w - d) (omega (arith, h.0)) h.2

      go : (d < b) ⊎ (b ≤ d) → b ≤ d
      go (inr h) = h
      go (inl h) =
          absurd (omega (arith, ap (λ (n : ℕ). n * 2 ^ (w - d)) (same at h), split a (w - d), mod-lt a (pow_pos (w - d)), suc_ones (w - d), l))

-- ---- the key's bits from a position on

-- Their last bits are the key's.
ahead_last : (w key b j : ℕ) → b ≤ w → j ≤ w - b → ahead w key b % 2 ^ j ≡ key % 2 ^ j
ahead_last w key b j h g =
    let m : ℕ = w - b - j in
    let e : w - b ≡ m + j = omega arith in
    let q : ahead w key b ≡ (2 ^ m + key / 2 ^ j % 2 ^ m) * 2 ^ j + key % 2 ^ j
    = some_ahead w key b h ∙ ap (λ (n : ℕ). 2 ^ n + key % 2 ^ n) e
    ∙ omega (arith, pow-add 2 m j, mod-pow-add key m j, add-mul (2 ^ m) (key / 2 ^ j % 2 ^ m) (2 ^ j)) in
    ap (λ (n : ℕ). n % 2 ^ j) q ∙ low (2 ^ m + key / 2 ^ j % 2 ^ m) j (mod-lt key (pow_pos j))

-- A page is begun with no entry passed.
pub apart_start : (w key b : ℕ) → b ≤ w + 1 → Apart w (ahead w key b) 0 b
apart_start w key b h = go (cases_lt w b)
  where
    go : (w < b) ⊎ (b ≤ w) → Apart w (ahead w key b) 0 b
    go (inr g) =
        let j : ℕ = w - b in
        let q : ahead w key b ≡ 1 * 2 ^ j + key % 2 ^ j = omega (arith, some_ahead w key b g, one-mul (2 ^ j)) in
        inr (
          g,
          ap (λ (n : ℕ). n / 2 ^ j) q ∙ high 1 j (mod-lt key (pow_pos j)) ∙ ap suc (sym (zero-div (2 ^ j))),
          div-eq_of_lt (ahead_under w key b) ∙ sym (zero-div (2 ^ suc j)),
        )
    go (inl g) = inl (omega arith, sym (none_ahead w key b g))

-- What is left of the positions once an entry was passed.
pub record Onward (w key a D b d : ℕ) : Type 0 where
  pub position : ℕ
  pub passed : Passed w key b d position
  pub apart : Apart w a (suc (last_before w d D)) position

module _ (w key b₀ b D : ℕ) (wide : w ≤ 64) (begun : b₀ ≤ b) where
  abbrev a : ℕ
  a = ahead w key b₀

  -- A deeper entry leaves all of them.
  deeper : (d : ℕ) → d ≤ w → b < d → D / 2 ^ (w - d) % 2 ≡ 0 → Apart w a D b → Onward w key a D b d
  deeper d inside h clear (inl at) = absurd (omega (arith, at.0))
  deeper d inside h clear (inr at) =
      record {
        position = b;
        passed = passed_kept w key b d (λ e. omega arith) (omega arith);
        apart = inr (at.0, at.1 ∙ ap suc (sym (next_before w d D (w - b) clear (omega arith))), at.2 ∙ sym (next_before w d D (suc (w - b)) clear (omega arith)));
      }

  -- One as deep takes the first off.
  same : b ≤ w → a / 2 ^ (w - b) ≡ suc (D / 2 ^ (w - b)) → Onward w key a D b b
  same h one = go (eq-zero-or-pos (key % 2 ^ (w - b)))
    where
      whole : a ≡ a / 2 ^ (w - b) * 2 ^ (w - b) + key % 2 ^ (w - b)
      whole = sym (split a (w - b)) ∙ ap (λ (r : ℕ). a / 2 ^ (w - b) * 2 ^ (w - b) + r) (ahead_last w key b₀ (w - b) (omega arith) (omega arith))

      next : suc (last_before w b D) ≡ a / 2 ^ (w - b) * 2 ^ (w - b)
      next = disc_next w b D ∙ ap (λ (n : ℕ). n * 2 ^ (w - b)) (sym one)

      go : (key % 2 ^ (w - b) ≡ 0) ⊎ (0 < key % 2 ^ (w - b)) → Onward w key a D b b
      go (inl z) =
          record {
            position = w + 1;
            passed = passed_next w key b b (w + 1) refl h (next_none w key b h z);
            apart = inl (refl, next ∙ omega (arith, whole, z));
          }
      go (inr z) =
          let r : ℕ = key % 2 ^ (w - b) in
          let x : ℕ = a / 2 ^ (w - b) in
          let under : r < 2 ^ (w - b) = mod-lt key (pow_pos (w - b)) in
          let t = leading_top 64 r z (lt_of_lt_of_le under (pow_mono (let s : w - b ≤ 64 = omega arith in s))) in
          let i : ℕ = t.0 in
          let g : i < w - b = lt_of_not-le (λ (q : w - b ≤ i). not-le_of_lt (lt_of_lt_of_le under (pow_mono q)) t.2) in
          let back : w - (count_leading_zeros 64 r + w - 63) ≡ i = omega (arith, t.1) in
          let top : a / 2 ^ i ≡ suc (suc (last_before w b D) / 2 ^ i)
          = ap (λ (n : ℕ). n / 2 ^ i) (whole ∙ omega (arith, times x i (w - b) (omega arith), suc-mul (x * 2 ^ (w - b - i)) (2 ^ i), t.2))
          ∙ high (suc (x * 2 ^ (w - b - i))) i {lo = r - 2 ^ i} (omega (arith, t.2, t.3, double i))
          ∙ ap suc (sym (ap (λ (n : ℕ). n / 2 ^ i) (next ∙ times x i (w - b) (omega arith)) ∙ shl-shr (x * 2 ^ (w - b - i)) i)) in
          let before : a / 2 ^ suc i ≡ suc (last_before w b D) / 2 ^ suc i
          = ap (λ (n : ℕ). n / 2 ^ suc i) (whole ∙ ap (λ (n : ℕ). n + r) (times x (suc i) (w - b) (omega arith)))
          ∙ high (x * 2 ^ (w - b - suc i)) (suc i) t.3
          ∙ sym (ap (λ (n : ℕ). n / 2 ^ suc i) (next ∙ times x (suc i) (w - b) (omega arith)) ∙ shl-shr (x * 2 ^ (w - b - suc i)) (suc i)) in
          record {
            position = count_leading_zeros 64 r + w - 63;
            passed = passed_next w key b b (count_leading_zeros 64 r + w - 63) refl h (next_some w key b r wide h refl (λ q. omega arith));
            apart = inr (
              omega (arith, t.1),
              subst (λ (m : ℕ). a / 2 ^ m ≡ suc (suc (last_before w b D) / 2 ^ m)) (sym back) top,
              subst (λ (m : ℕ). a / 2 ^ suc m ≡ suc (last_before w b D) / 2 ^ suc m) (sym back) before,
            );
          }

  pub apart_next : (d : ℕ) → d ≤ w → b ≤ d → D / 2 ^ (w - d) % 2 ≡ 0 → Apart w a D b → Onward w key a D b d
  apart_next d inside h clear at = go (eq-or-lt_of_le h) at
    where
      go : (b ≡ d) ⊎ (b < d) → Apart w a D b → Onward w key a D b d
      go (inl e) (inl at) = absurd (omega (arith, at.0))
      go (inl e) (inr at) = subst (λ (m : ℕ). Onward w key a D b m) e (same at.0 at.1)
      go (inr l) at = deeper d inside l clear at

-- The position is the first at which they differ.
pub apart_position : (w a D b : ℕ) → 0 < b → Apart w a D b → first_difference 0 (bits w a) (bits w D) ≡ b
apart_position w a D b pos (inl h) = ap (λ (n : ℕ). first_difference 0 (bits w a) (bits w n)) h.1 ∙ same_key w 0 a ∙ omega (arith, h.0)
apart_position w a D b pos (inr h) =
    first_difference_lem w 0 a D (w - b) (omega (arith, h.0)) h.2 (λ e. omega (arith, h.1, e)) ∙ omega (arith, h.0)

-- The last one-bit of the discriminator that follows is the entry's.
pub last_next : (w d D τ : ℕ) → w ≤ 64 → 0 < d → d ≤ w → D / 2 ^ (w - d) % 2 ≡ 0 → last_position w τ (suc (last_before w d D)) ≡ d
last_next w d D τ wide pos inside clear =
    let zeros : count_trailing_zeros 64 (suc (last_before w d D)) ≡ w - d
    = ap (count_trailing_zeros 64) (disc_next w d D) ∙ zeros_behind 64 (w - d) (suc (D / 2 ^ (w - d))) (omega arith) (omega (arith, clear)) in
    rw (ne_eqb (suc (last_before w d D)) 0 (λ e. omega (arith, e))) (omega (arith, zeros))

-- ---- as the code computes it

-- The bits behind depth d, of w.
pub ones_behind : (w d ones : ℕ) → 0 < d → d ≤ w → ones ≡ 2 ^ (w - 1) - 1 → ones / 2 ^ (d - 1) ≡ 2 ^ (w - d) - 1
ones_behind w d ones pos h e =
    let s : w - 1 ≡ w - d + (d - 1) = omega arith in
    ap (λ (n : ℕ). n / 2 ^ (d - 1)) (e ∙ ap (λ (m : ℕ). 2 ^ m - 1) s ∙ ones_split (w - d) (d - 1)) ∙ high (2 ^ (w - d) - 1) (d - 1) (ones_lt (d - 1))

pub or_behind : (w d D behind : ℕ) → behind ≡ 2 ^ (w - d) - 1 → bit_or D behind ≡ last_before w d D
or_behind w d D behind e =
    ap (bit_or D) e ∙ omega (arith, or_add_and D (2 ^ (w - d) - 1), and_mask D (w - d), split D (w - d))
