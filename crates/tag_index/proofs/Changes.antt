-- The check before a change. Assumes nothing.
use mathlib.Core.Path.{◌≡◌, refl}
use mathlib.Core.Logic.{◌↔◌}
use mathlib.Core.Bool.{Bool, true, false}
use mathlib.Core.List.{List}
use Prim.Native.Nat.{ℕ}
use native.Mathlib.Omega.{arith}
use Rattle.index_table.specs.Soundness.{Sound}
use Rattle.table_find.specs.declared.answer.Answer.{Answer}
use Rattle.table_find.specs.Answers.{plain}
use Rattle.table_change.specs.Changes.{OnChanges, OffChanges}
use Rattle.tag_index.specs.Reading.{Judged}
use Rattle.tag_index.specs.Changing.{OnDoes, OffDoes}

module _ {index keys used : List ℕ} (sound : Bool) (decides : (sound ≡ true) ↔ Sound index keys used) where
  abbrev judged : Judged index keys used
  judged = record { sound = sound; decides = decides }

  -- Row 1: nothing is changed.
  pub on_unsound : {key r : ℕ} → sound ≡ false → OnDoes index keys used key r index keys used (plain 1)
  on_unsound s = record { judged = judged; answer = rw s refl; refused = λ n. (refl, refl, refl); done = rw s (λ z. absurd (omega (arith, z))) }

  pub off_unsound : {key : ℕ} → sound ≡ false → OffDoes index keys used key index keys used (plain 1)
  off_unsound s = record { judged = judged; answer = rw s refl; refused = λ n. (refl, refl, refl); done = rw s (λ z. absurd (omega (arith, z))) }

  -- The change itself.
  pub on_sound : {key r : ℕ} {index₁ keys₁ used₁ : List ℕ} {a : Answer} → sound ≡ true → OnChanges index keys used key r index₁ keys₁ used₁ a → OnDoes index keys used key r index₁ keys₁ used₁ a
  on_sound s c = record { judged = judged; answer = rw s c.answer; refused = rw s c.refused; done = rw s c.done }

  pub off_sound : {key : ℕ} {index₁ keys₁ used₁ : List ℕ} {a : Answer} → sound ≡ true → OffChanges index keys used key index₁ keys₁ used₁ a → OffDoes index keys used key index₁ keys₁ used₁ a
  off_sound s c = record { judged = judged; answer = rw s c.answer; refused = rw s c.refused; done = rw s c.done }
