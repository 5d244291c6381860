-- What a loop that runs the check needs besides. Assumes nothing.
use mathlib.Core.Path.{subst, ◌∙◌, ◌≡◌, ap, sym, refl}
use mathlib.Core.Logic.{◌≢◌}
use mathlib.Core.Bool.{false, Bool, true}
use mathlib.Core.Option.{Option, none}
use mathlib.Core.List.{List, ◌∷◌, []}
use Prim.Native.Nat.{ℕ, ◌<◌, ◌^◌, suc, ◌≤◌, ◌/◌, ◌-◌, ◌+◌, ◌*◌, ◌%◌, zero}
use native.Mathlib.Omega.{arith}
use native.Mathlib.Nat.{mul_comm, mul_assoc, add-mul, one-mul, pow-suc, div-eq_of_lt, mul-suc, mod-eq_of_lt}
use lib.Dec.{eqb}
use lib.Pow.{shr-shr, pow_pos, pow_mono}
use lib.ListN.{length, drop, get_or, take}
use lib.Seq.{drop-cons, take-suc}
use borrow.Author.Tests.{eqb-false, ne_eqb}
use Rattle.leaf_list.specs.Keys.{set_bit_at, value, set_bit, bits, bit_at, first_bits}
use Rattle.leaf_list.specs.Entries.{entry, Entry}
use Rattle.leaf_list.specs.Conditions.{State, step, run, passes, entry_fits}
use Rattle.leaf_list.proofs.Bits.{set_bit_length, bits_length, value_bound, set_bit_number, value_number}
use Rattle.leaf_list.proofs.CheckTests.{entry_fits_says}
use Rattle.leaf_list.proofs.Check.{run_append, run_lost}

-- The discriminator stays within w bits.
pub set_bit_at_bound : (w d D : ℕ) → D < 2 ^ w → suc d ≤ w → set_bit_at w (suc d) D < 2 ^ w
set_bit_at_bound w d D h l =
    subst (λ (x : ℕ). x < 2 ^ w) e
    (subst (λ (n : ℕ). value (set_bit (suc d) (bits w D)) < 2 ^ n) (set_bit_length (suc d) (bits w D) ∙ bits_length w D) (value_bound (set_bit (suc d) (bits w D))))
  where
    e : value (set_bit (suc d) (bits w D)) ≡ set_bit_at w (suc d) D
    e = set_bit_number w d (bits w D) (bits_length w D) l ∙ ap (set_bit_at w (suc d)) (value_number w D h)

-- Where the bit is clear, by a shift of at most w - 1: right, one more, left.
pub set_bit_at_shift : (w d D : ℕ) → bit_at w d D ≡ false → set_bit_at w d D ≡ (D / 2 ^ (w - d) + 1) * 2 ^ (w - d)
set_bit_at_shift w d D h = go (w - d) h
  where
    even : (q p : ℕ) → eqb (q % 2) 1 ≡ false → q / 2 * (p * 2) + p ≡ (q + 1) * p
    even q p e =
        let z : q % 2 ≢ 1 = eqb-false (q % 2) 1 e in
        let y : q / 2 * 2 ≡ q = omega arith in
        rw (mul_comm p 2, ← (mul_assoc (q / 2) 2 p), y, add-mul, one-mul)

    go : (j : ℕ) → eqb (D / 2 ^ j % 2) 1 ≡ false → D / 2 ^ suc j * 2 ^ suc j + 2 ^ j ≡ (D / 2 ^ j + 1) * 2 ^ j
    go j e =
        let q : D / 2 ^ suc j ≡ D / 2 ^ j / 2 = ap (λ (x : ℕ). D / 2 ^ x) (omega arith) ∙ sym (shr-shr D j 1) in
        rw (q, pow-suc 2 j) (even (D / 2 ^ j) (2 ^ j) e)

-- No bits: all agree.
pub first_bits_none : (w x : ℕ) → x < 2 ^ w → first_bits w 0 x ≡ 0
first_bits_none w x h = rw (sub w) (div-eq_of_lt h)
  where
    sub : (w : ℕ) → w - 0 ≡ w
    sub w = omega arith

-- The numbers carried stay within w bits.
abbrev pub Bounded : ℕ → State → Type 0
Bounded w s = (s.disc < 2 ^ w) × (s.trail ≤ w)

-- They do so after an entry of depth at most w.
pub step_bounded : (w : ℕ) (key_of : ℕ → ℕ) (used : ℕ → Bool) (s : State) (d : ℕ) (p : Option ℕ) → Bounded w s → d ≤ w
    → Bounded w (step w key_of used s (entry d p))
step_bounded w key_of used s zero p b h = (pow_pos w, h)
step_bounded w key_of used s (suc d) p b h = (rw (ne_eqb (suc d) 0 (omega arith)) (set_bit_at_bound w d s.disc b.0 h), h)

-- One turn, by what is left.
pub run_turn : (w : ℕ) (key_of : ℕ → ℕ) (used : ℕ → Bool) (s : State) (es : List Entry) (i : ℕ) → i < length es
    → run w key_of used s (drop i es) ≡ run w key_of used (step w key_of used s (get_or es i (entry 0 none))) (drop (suc i) es)
run_turn w key_of used s es i h = rw (drop-cons es i (entry 0 none) h)

-- One turn, by what is done.
pub run_more : (w : ℕ) (key_of : ℕ → ℕ) (used : ℕ → Bool) (s : State) (es : List Entry) (i : ℕ) → i < length es
    → run w key_of used s (take (suc i) es) ≡ step w key_of used (run w key_of used s (take i es)) (get_or es i (entry 0 none))
run_more w key_of used s es i h =
    ap (run w key_of used s) (take-suc es i (entry 0 none) h) ∙ run_append w key_of used (take i es) (get_or es i (entry 0 none) ∷ []) s

-- Where an entry did not fit, the answer is no.
pub run_fails : (w : ℕ) (key_of : ℕ → ℕ) (used : ℕ → Bool) (s : State) (es : List Entry) (n : ℕ) → s.fits ≡ false → passes (run w key_of used s es) n ≡ false
run_fails w key_of used s es n h = rw (run_lost w key_of used es s h)

-- The discriminator after an entry that fits, as code has it.
module _ (w : ℕ) (key_of : ℕ → ℕ) (used : ℕ → Bool) (D τ : ℕ) (dummy : Bool) (d : ℕ) (p : Option ℕ) (h : entry_fits w key_of used D τ dummy d p ≡ true) where
  pub fits_depth : d ≤ w
  fits_depth = (entry_fits_says w key_of used D τ dummy d p h).within

  pub fits_clear : d ≢ 0 → bit_at w d D ≡ false
  fits_clear = (entry_fits_says w key_of used D τ dummy d p h).clear

  -- It stays within w bits,
  pub shift_bound : d ≢ 0 → D < 2 ^ w → (D / 2 ^ (w - d) + 1) * 2 ^ (w - d) < 2 ^ w
  shift_bound z q = subst (λ (x : ℕ). x < 2 ^ w) (set_bit_at_shift w d D (fits_clear z)) (pos d z fits_depth)
    where
      pos : (d : ℕ) → d ≢ 0 → d ≤ w → set_bit_at w d D < 2 ^ w
      pos zero z l = absurd (z refl)
      pos (suc d) z l = set_bit_at_bound w d D q l

  -- what is shifted back fits in 64 bits,
  pub shift_fits : d ≢ 0 → D < 2 ^ w → w ≤ 64 → D / 2 ^ (w - d) + 1 < 2 ^ 64
  shift_fits z q l = omega (arith, shift_bound z q, pow_mono l, le_times (D / 2 ^ (w - d) + 1) (2 ^ (w - d)) (pow_pos (w - d)))
    where
      le_times : (a b : ℕ) → 0 < b → a ≤ a * b
      le_times a zero e = absurd (omega arith)
      le_times a (suc b) e = omega (arith, mul-suc a b)

  -- so does the result, which does not wrap,
  pub shift_wraps : d ≢ 0 → D < 2 ^ w → w ≤ 64 → (D / 2 ^ (w - d) + 1) * 2 ^ (w - d) % 2 ^ 64 < 2 ^ w
  shift_wraps z q l = subst (λ (x : ℕ). x < 2 ^ w) (sym (mod-eq_of_lt (omega (arith, shift_bound z q, pow_mono l)))) (shift_bound z q)

  -- and it is set_bit_at.
  pub shift_set_bit_at : d ≢ 0 → D < 2 ^ w → w ≤ 64 → (D / 2 ^ (w - d) + 1) * 2 ^ (w - d) % 2 ^ 64 ≡ set_bit_at w d D
  shift_set_bit_at z q l = mod-eq_of_lt (omega (arith, shift_bound z q, pow_mono l)) ∙ sym (set_bit_at_shift w d D (fits_clear z))
