-- Refusals: their numbers, and how a `?` hands them on. Assumes nothing.
use mathlib.Core.Path.{◌≡◌, ap, ◌∙◌}
use mathlib.Core.Logic.{◌≢◌}
use native.Mathlib.Omega.{arith}
use Rattle.std.specs.Prelude.{Result, Err, IsErrAnd}
use Rattle.std.proofs.lemmas.Result.{err_from_is_err_and}
use Rattle.index_table.specs.Refusals.{number_of}
use Rattle.index_table.specs.declared.refusal.Refusal.{Refusal}
use Rattle.index_table.specs.declared.refusal.Refusal.TheVariants.{NotSound, KeyTooWide, NoSuchRecord, RecordInUse, KeyHeld, KeyNotHeld, OutOfPages, RootTooHigh, OutsideLimits, AnswersTooShort}

-- 0 is the number of none of them.
pub refusal_not_0 : (refusal : Refusal) → number_of refusal ≢ 0
refusal_not_0 NotSound e = omega (arith, e)
refusal_not_0 KeyTooWide e = omega (arith, e)
refusal_not_0 NoSuchRecord e = omega (arith, e)
refusal_not_0 RecordInUse e = omega (arith, e)
refusal_not_0 KeyHeld e = omega (arith, e)
refusal_not_0 KeyNotHeld e = omega (arith, e)
refusal_not_0 OutOfPages e = omega (arith, e)
refusal_not_0 RootTooHigh e = omega (arith, e)
refusal_not_0 OutsideLimits e = omega (arith, e)
refusal_not_0 AnswersTooShort e = omega (arith, e)

-- What a `?` returns is refused by the same row.
pub handed_on : {T : Type 0} {refusal : Refusal} (r : Result T Refusal) → IsErrAnd r (λ (y : Refusal). y ≡ refusal) → r ≡ Err refusal
handed_on r h = let p = err_from_is_err_and r h in p.1 ∙ ap Err p.2
