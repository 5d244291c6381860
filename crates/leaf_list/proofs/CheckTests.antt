-- The tests of the check by numbers, and what they say of keys. Assumes nothing.
use mathlib.Core.Path.{◌≡◌, refl, sym, ap, ◌∙◌}
use mathlib.Core.Logic.{◌≢◌}
use mathlib.Core.Bool.{Bool, true, false, ◌&&◌, cond, ◌||◌, true≢false, not, and-eq-true_iff}
use mathlib.Core.Option.{Option, none, some}
use mathlib.Core.List.{List, [], ◌∷◌}
use Prim.Native.Nat.{ℕ, ◌≤◌, ◌<◌, ◌^◌, ◌/◌, ◌-◌, max, suc, zero}
use native.Mathlib.Omega.{arith}
use lib.Dec.{eqb, leb, ltb}
use lib.ListN.{take, length, length-take}
use borrow.Author.Tests.{leb-true, not-true, ne_eqb, ltb-true, le-leb, eqb-false, lt-ltb, not-false, eqb-true, eq-eqb}
use Rattle.leaf_list.specs.Keys.{set_bit_at, bit_at, value, bits, Key, bit_of, set_bit}
use Rattle.leaf_list.specs.Entries.{Entry, entry, is_nil}
use Rattle.leaf_list.specs.Conditions.{entry_fits, pointer_fits}
use Rattle.leaf_list.proofs.Bits.{value_take, bits_length, value_number, value_injective, bit_of_value, set_bit_length, set_bit_number}
use Rattle.leaf_list.proofs.Fitting.{PointerFits, Fitting, not_then_false}
use Rattle.leaf_list.proofs.FittingHerds.{bits_of}

-- Nothing follows.
abbrev pub is_empty : List Entry → Bool
is_empty [] = true
is_empty (e ∷ rest) = false

-- The entries from here on fit, and the depth 0 is their last, as a test by numbers.
abbrev pub fitting_test : ℕ → (ℕ → ℕ) → (ℕ → Bool) → ℕ → ℕ → Bool → List Entry → Bool
fitting_test w key_of used D τ dummy [] = false
fitting_test w key_of used D τ dummy (entry d p ∷ rest) =
    entry_fits w key_of used D τ dummy d p && cond (eqb d 0) (is_empty rest) (fitting_test w key_of used (set_bit_at w d D) d (is_nil p) rest)

-- Where the first of two tests does not hold, the second does.
pub or_second : (a b : Bool) → (a || b) ≡ true → a ≡ false → b ≡ true
or_second true b h e = absurd (true≢false e)
or_second false b h e = h

-- And so one of them holds.
pub second_or : (a b : Bool) → (a ≡ false → b ≡ true) → (a || b) ≡ true
second_or true b h = refl
second_or false b h = h refl

-- Four tests in a row.
pub and_four : (a b c e : Bool) → (a && (b && (c && e))) ≡ true → (a ≡ true) × (b ≡ true) × (c ≡ true) × (e ≡ true)
and_four true true true e h = (refl, refl, refl, h)
and_four true true false e h = absurd (true≢false (sym h))
and_four true false c e h = absurd (true≢false (sym h))
and_four false b c e h = absurd (true≢false (sym h))

-- What the test of one entry says.
pub record EntryFits (w : ℕ) (key_of : ℕ → ℕ) (used : ℕ → Bool) (D τ : ℕ) (dummy : Bool) (d : ℕ) (p : Option ℕ) : Type 0 where
  pub within : d ≤ w
  pub clear : d ≢ 0 → bit_at w d D ≡ false
  pub after_dummy : dummy ≡ true → τ < d
  pub pointer : pointer_fits w key_of used D τ d p ≡ true

module _ (w : ℕ) (key_of : ℕ → ℕ) (used : ℕ → Bool) (D τ : ℕ) (dummy : Bool) (d : ℕ) (p : Option ℕ) where
  -- The test read,
  pub entry_fits_says : entry_fits w key_of used D τ dummy d p ≡ true → EntryFits w key_of used D τ dummy d p
  entry_fits_says h =
      let parts = and_four (leb d w) (eqb d 0 || not (bit_at w d D)) (not dummy || ltb τ d) (pointer_fits w key_of used D τ d p) h in
      record {
        within = leb-true d w parts.0;
        clear = λ z. not-true (bit_at w d D) (or_second (eqb d 0) (not (bit_at w d D)) parts.1 (ne_eqb d 0 z));
        after_dummy = λ e. ltb-true τ d (or_second (not dummy) (ltb τ d) parts.2 (ap not e));
        pointer = parts.3;
      }

  -- and met.
  pub entry_fits_met : EntryFits w key_of used D τ dummy d p → entry_fits w key_of used D τ dummy d p ≡ true
  entry_fits_met f =
      rw (
        le-leb d w f.within,
        second_or (eqb d 0) (not (bit_at w d D)) (λ z. ap not (f.clear (eqb-false d 0 z))),
        second_or (not dummy) (ltb τ d) (λ z. lt-ltb τ d (f.after_dummy (not-false dummy z))),
        f.pointer,
      )

module _ (w : ℕ) (key_of : ℕ → ℕ) (used : ℕ → Bool) (narrow : (r : ℕ) → used r ≡ true → key_of r < 2 ^ w) where
  -- The first l bits of a key, as a number.
  first_bits_lem : (r l : ℕ) → used r ≡ true → l ≤ w → value (take l (bits w (key_of r))) ≡ key_of r / 2 ^ (w - l)
  first_bits_lem r l u h = value_take (bits w (key_of r)) l (w - l) (bits_length w (key_of r) ∙ omega arith) ∙ rw (value_number w (key_of r) (narrow r u))

  -- Keys with the same first bits by numbers have them as bits,
  agree_bits : (D : Key) (r l : ℕ) → length D ≡ w → l ≤ w → used r ≡ true → key_of r / 2 ^ (w - l) ≡ value D / 2 ^ (w - l) → take l (bits w (key_of r)) ≡ take l D
  agree_bits D r l e h u q =
      value_injective (take l (bits w (key_of r))) (take l D) (length-take l (bits w (key_of r)) ∙ rw (bits_length w (key_of r), ← e) (sym (length-take l D)))
      (first_bits_lem r l u h ∙ q ∙ sym (value_take D l (w - l) (omega arith)))

  -- and the other way.
  bits_agree : (D : Key) (r l : ℕ) → length D ≡ w → l ≤ w → used r ≡ true → take l (bits w (key_of r)) ≡ take l D → key_of r / 2 ^ (w - l) ≡ value D / 2 ^ (w - l)
  bits_agree D r l e h u q = sym (first_bits_lem r l u h) ∙ ap value q ∙ value_take D l (w - l) (omega arith)

  -- A pointer that passes the test fits,
  pointer_says : (D : Key) (τ d : ℕ) (p : Option ℕ) → length D ≡ w → τ ≤ w → d ≤ w → pointer_fits w key_of used (value D) τ d p ≡ true
      → PointerFits (bits_of w key_of) used D τ d p
  pointer_says D τ d none e hτ hd q = λ i. ltb-true τ d (or_second (eqb τ 0) (ltb τ d) q (ne_eqb τ 0 i))
  pointer_says D τ d (some r) e hτ hd q =
      let parts = (and-eq-true_iff (used r) (eqb (key_of r / 2 ^ (w - max τ d)) (value D / 2 ^ (w - max τ d)))).0 q in
      (parts.0, agree_bits D r (max τ d) e (omega arith) parts.0 (eqb-true (key_of r / 2 ^ (w - max τ d)) (value D / 2 ^ (w - max τ d)) parts.1))

  -- and one that fits passes.
  pointer_met : (D : Key) (τ d : ℕ) (p : Option ℕ) → length D ≡ w → τ ≤ w → d ≤ w → PointerFits (bits_of w key_of) used D τ d p
      → pointer_fits w key_of used (value D) τ d p ≡ true
  pointer_met D τ d none e hτ hd q = second_or (eqb τ 0) (ltb τ d) (λ z. lt-ltb τ d (q (eqb-false τ 0 z)))
  pointer_met D τ d (some r) e hτ hd q =
      rw q.0 (eq-eqb (key_of r / 2 ^ (w - max τ d)) (value D / 2 ^ (w - max τ d)) (bits_agree D r (max τ d) e (omega arith) q.0 q.1))

  -- Bit d of the number is bit d of the key.
  bit_at_bits : (D : Key) (d : ℕ) → length D ≡ w → suc d ≤ w → bit_at w (suc d) (value D) ≡ bit_of (suc d) D
  bit_at_bits D d e h = sym (bit_of_value D d (w - suc d) (omega arith))

  is_empty_nil : (rest : List Entry) → is_empty rest ≡ true → rest ≡ []
  is_empty_nil [] h = refl
  is_empty_nil (x ∷ rest) h = absurd (true≢false (sym h))

  -- Entries that pass the test fit,
  pub test_fitting : (es : List Entry) (D : Key) (τ : ℕ) (dummy : Bool) → length D ≡ w → τ ≤ w
      → fitting_test w key_of used (value D) τ dummy es ≡ true → Fitting w (bits_of w key_of) used D τ dummy es
  test_fitting [] D τ dummy e hτ h = absurd (true≢false (sym h))
  test_fitting (entry zero p ∷ rest) D τ dummy e hτ h =
      let parts = (and-eq-true_iff (entry_fits w key_of used (value D) τ dummy 0 p) (is_empty rest)).0 h in
      let f = entry_fits_says w key_of used (value D) τ dummy 0 p parts.0 in
      (is_empty_nil rest parts.1, not_then_false dummy (λ i. omega (arith, f.after_dummy i)), pointer_says D τ 0 p e hτ (omega arith) f.pointer)
  test_fitting (entry (suc d) p ∷ rest) D τ dummy e hτ h =
      let later : Bool = fitting_test w key_of used (set_bit_at w (suc d) (value D)) (suc d) (is_nil p) rest in
      let parts = (and-eq-true_iff (entry_fits w key_of used (value D) τ dummy (suc d) p) (cond (eqb (suc d) 0) (is_empty rest) later)).0 h in
      let f = entry_fits_says w key_of used (value D) τ dummy (suc d) p parts.0 in (
        f.within,
        sym (bit_at_bits D d e f.within) ∙ f.clear (omega arith),
        f.after_dummy,
        pointer_says D τ (suc d) p e hτ f.within f.pointer,
        test_fitting rest (set_bit (suc d) D) (suc d) (is_nil p) (set_bit_length (suc d) D ∙ e) f.within
            (rw (set_bit_number w d D e f.within) (rw (ne_eqb (suc d) 0 (omega arith)) at parts.1)),
      )

  -- and entries that fit pass it.
  pub fitting_test_lem : (es : List Entry) (D : Key) (τ : ℕ) (dummy : Bool) → length D ≡ w → τ ≤ w
      → Fitting w (bits_of w key_of) used D τ dummy es → fitting_test w key_of used (value D) τ dummy es ≡ true
  fitting_test_lem [] D τ dummy e hτ s = absurd s
  fitting_test_lem (entry zero p ∷ rest) D τ dummy e hτ s =
      let f : EntryFits w key_of used (value D) τ dummy 0 p =
      record
      { within = omega arith; clear = λ z. absurd (z refl); after_dummy = λ i. absurd (true≢false (sym i ∙ s.1)); pointer = pointer_met D τ 0 p e hτ (omega arith) s.2 }
      in
      rw (s.0, entry_fits_met w key_of used (value D) τ dummy 0 p f)
  fitting_test_lem (entry (suc d) p ∷ rest) D τ dummy e hτ s =
      let f : EntryFits w key_of used (value D) τ dummy (suc d) p =
      record { within = s.0; clear = λ z. bit_at_bits D d e s.0 ∙ s.1; after_dummy = s.2; pointer = pointer_met D τ (suc d) p e hτ s.0 s.3 } in
      rw (entry_fits_met w key_of used (value D) τ dummy (suc d) p f, ne_eqb (suc d) 0 (omega arith), ← (set_bit_number w d D e s.0))
      (fitting_test_lem rest (set_bit (suc d) D) (suc d) (is_nil p) (set_bit_length (suc d) D ∙ e) s.0 s.4)
