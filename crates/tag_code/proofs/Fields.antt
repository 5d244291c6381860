-- When fields fit (01, "Tag code": each in its bits, the country at most 999). Assumes nothing.
use mathlib.Core.Path.{◌≡◌, refl, sym}
use mathlib.Core.Logic.{◌↔◌}
use mathlib.Core.Bool.{Bool, true, false, ◌&&◌, true≢false}
use Prim.Native.Nat.{◌<◌, ◌≤◌, ◌^◌}
use native.Mathlib.Omega.{arith}
use lib.Dec.{ltb, leb}
use borrow.Author.Tests.{ltb-true, leb-true, leb-false, lt-ltb, le-leb}
use Rattle.tag_code.specs.declared.TagFields.{TagFields}
use Rattle.tag_code.specs.TagCode.{fields_fit}

-- Each field fits its bits, and the country its limit.
pub record Fit (f : TagFields) : Type 0 where
  pub animal : f.animal < 2
  pub retag : f.retag < 2 ^ 3
  pub user : f.user < 2 ^ 5
  pub reserved : f.reserved < 2 ^ 6
  pub block : f.block < 2
  pub country : f.country ≤ 999
  pub national : f.national < 2 ^ 38

-- A conjunction that is true, test by test.
all : (a b c d e g h : Bool) → (a && (b && (c && (d && (e && (g && h)))))) ≡ true
    → (a ≡ true) × (b ≡ true) × (c ≡ true) × (d ≡ true) × (e ≡ true) × (g ≡ true) × (h ≡ true)
all true true true true true true h q = (refl, refl, refl, refl, refl, refl, q)
all true true true true true false h q = absurd (true≢false (sym q))
all true true true true false g h q = absurd (true≢false (sym q))
all true true true false e g h q = absurd (true≢false (sym q))
all true true false d e g h q = absurd (true≢false (sym q))
all true false c d e g h q = absurd (true≢false (sym q))
all false b c d e g h q = absurd (true≢false (sym q))

fit_of : (f : TagFields) → fields_fit f ≡ true → Fit f
unfolding fields_fit
fit_of f q =
    let t = all (ltb f.animal 2) (ltb f.retag (2 ^ 3)) (ltb f.user (2 ^ 5)) (ltb f.reserved (2 ^ 6)) (ltb f.block 2) (leb f.country 999) (ltb f.national (2 ^ 38)) q in
    record {
      animal = ltb-true _ _ t.0;
      retag = ltb-true _ _ t.1;
      user = ltb-true _ _ t.2;
      reserved = ltb-true _ _ t.3;
      block = ltb-true _ _ t.4;
      country = leb-true _ _ t.5;
      national = ltb-true _ _ t.6;
    }

of_fit : (f : TagFields) → Fit f → fields_fit f ≡ true
unfolding fields_fit
of_fit f h =
    rw (
      lt-ltb _ _ h.animal,
      lt-ltb _ _ h.retag,
      lt-ltb _ _ h.user,
      lt-ltb _ _ h.reserved,
      lt-ltb _ _ h.block,
      le-leb _ _ h.country,
      lt-ltb _ _ h.national,
    )

pub fit_law : (f : TagFields) → (fields_fit f ≡ true) ↔ Fit f
fit_law f = (fit_of f, of_fit f)

pub unfit : (f : TagFields) → (Fit f → ⊥) → fields_fit f ≡ false
unfit f not_fit = go (fields_fit f) refl
  where
    go : (t : Bool) → fields_fit f ≡ t → t ≡ false
    go true e = absurd (not_fit (fit_of f e))
    go false e = refl

-- Where the other fields fit, the national number decides.
pub last_test : (f : TagFields) → f.animal ≤ 1 → f.retag ≤ 7 → f.user ≤ 31 → f.reserved ≤ 63 → f.block ≤ 1 → f.country ≤ 999
    → leb f.national 274877906943 ≡ fields_fit f
last_test f a b c d e g = go (leb f.national 274877906943) refl
  where
    go : (t : Bool) → leb f.national 274877906943 ≡ t → t ≡ fields_fit f
    go true q =
        let n : f.national ≤ 274877906943 = leb-true _ _ q in
        sym (of_fit f (record { animal = omega arith; retag = omega arith; user = omega arith; reserved = omega arith; block = omega arith; country = g; national = omega arith }))
    go false q =
        let n : 274877906943 < f.national = leb-false _ _ q in
        sym (unfit f (λ h. omega (arith, h.national)))
