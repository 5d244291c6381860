-- The rows before the work of a call. Assumes nothing.
use mathlib.Core.Path.{◌≡◌, refl, sym, ap, ◌∙◌}
use mathlib.Core.Logic.{◌↔◌, ◌≢◌}
use mathlib.Core.Bool.{Bool, true, false, cond, ◌||◌}
use mathlib.Core.List.{List}
use Prim.Native.Nat.{ℕ, zero, suc, ◌^◌}
use native.Mathlib.Omega.{arith}
use lib.Dec.{leb, eqb-suc-zero}
use Rattle.index_table.specs.Header.{width_of}
use Rattle.index_table.specs.Soundness.{Sound}
use Rattle.table_find.specs.declared.answer.Answer.{Answer}
use Rattle.table_find.specs.Answers.{plain}
use Rattle.table_change.specs.Changes.{too_wide}
use Rattle.tag_index.specs.Reading.{Judged, FirstRow, behind, kept_behind}

-- A test of the width read is one of the header's width.
pub wide_is : {w v : ℕ} (key : ℕ) {t : Bool} → w ≡ v → t ≡ leb (2 ^ w) key → too_wide v key ≡ t
wide_is key e q = sym (q ∙ ap (λ (n : ℕ). leb (2 ^ n) key) e)

-- ---- which row applies

module _ {index keys used : List ℕ} (sound : Bool) (decides : (sound ≡ true) ↔ Sound index keys used) (a b : ℕ) where
  judged : Judged index keys used
  judged = record { sound = sound; decides = decides }

  pub row_unsound : sound ≡ false → FirstRow index keys used a b 1
  unfolding judged
  row_unsound s = record { judged = judged; number = rw s refl }

  pub row_lower : sound ≡ true → too_wide (width_of index) a ≡ true → FirstRow index keys used a b 2
  unfolding judged
  row_lower s t = record { judged = judged; number = rw (s, t) refl }

  pub row_upper : sound ≡ true → too_wide (width_of index) a ≡ false → too_wide (width_of index) b ≡ true → FirstRow index keys used a b 2
  unfolding judged
  row_upper s t u = record { judged = judged; number = rw (s, t, u) refl }

  pub row_none : sound ≡ true → too_wide (width_of index) a ≡ false → too_wide (width_of index) b ≡ false → FirstRow index keys used a b 0
  unfolding judged
  row_none s t u = record { judged = judged; number = rw (s, t, u) refl }

-- Where neither row applies, the tables are sound and the keys fit.
none_applies : (sound t u : Bool) → cond sound (cond (t || u) 2 0) 1 ≡ zero → (sound ≡ true) × (t ≡ false)
none_applies true true u e = absurd (omega (arith, e))
none_applies true false u e = (refl, refl)
none_applies false t u e = absurd (omega (arith, e))

pub none_sound : {index keys used : List ℕ} {a b row : ℕ} → FirstRow index keys used a b row → row ≡ 0 → Sound index keys used × (too_wide (width_of index) a ≡ false)
none_sound {index} {keys} {used} {a} {b} f z =
    let both = none_applies f.judged.sound (too_wide (width_of index) a) (too_wide (width_of index) b) (sym f.number ∙ z) in
    (f.judged.decides.0 both.0, both.1)

-- ---- what stands behind a row

pub behind_declined : (row : ℕ) {m : ℕ} (done : Answer) → row ≡ m → row ≢ 0 → plain row ≡ behind m done
behind_declined zero done e k = absurd (k refl)
behind_declined (suc n) done e k = rw (sym e, eqb-suc-zero n) refl

pub behind_done : {row m : ℕ} (done r : Answer) → row ≡ m → row ≡ 0 → r ≡ done → r ≡ behind m done
behind_done done r e z q = rw (sym e, z) q

pub kept_declined : (row : ℕ) {m : ℕ} (before after : List ℕ) → row ≡ m → row ≢ 0 → before ≡ kept_behind m before after
kept_declined zero before after e k = absurd (k refl)
kept_declined (suc n) before after e k = rw (sym e, eqb-suc-zero n) refl

pub kept_done : {row m : ℕ} (before after : List ℕ) → row ≡ m → row ≡ 0 → after ≡ kept_behind m before after
kept_done before after e z = rw (sym e, z) refl
