-- Fields that fit are joined one by one. Assumes nothing.
use mathlib.Core.Path.{◌≡◌, sym, ap, ◌∙◌}
use mathlib.Core.Bool.{Bool, true}
use Prim.Native.Nat.{ℕ}
use native.Mathlib.Omega.{arith}
use Rattle.tag_code.specs.declared.TagFields.{TagFields}
use Rattle.tag_code.specs.TagCode.{fields_fit}
use Rattle.tag_code.proofs.Fields.{Fit, fit_law}
use Rattle.tag_code.proofs.Codes.{packed_done, packed_refused, joined}
use Rattle.tag_code.proofs.pack.Goals as goal

-- What the test said of the fields.
known : (f : TagFields) (t : Bool) → t ≡ fields_fit f → t ≡ true → Fit f
known f t e q = (fit_law f).0 (sym e ∙ q)

pub returns-then-not-fit : goal.returns-then-not-fit
returns-then-not-fit c = sym (packed_refused _ (sym c.fit.ensures ∙ c.if-not-fit.true))

pub with_field-to_retag-requires : goal.with_field-to_retag-requires
with_field-to_retag-requires c =
    let k = known _ _ c.fit.ensures c.if-not-fit.false in
    (omega arith, omega arith, omega arith)

pub with_field-to_user-requires : goal.with_field-to_user-requires
with_field-to_user-requires c =
    let k = known _ _ c.fit.ensures c.if-not-fit.false in
    (omega arith, omega arith, omega arith)

pub with_field-to_reserved-requires : goal.with_field-to_reserved-requires
with_field-to_reserved-requires c =
    let k = known _ _ c.fit.ensures c.if-not-fit.false in
    (omega arith, omega arith, omega arith)

pub with_field-to_block-requires : goal.with_field-to_block-requires
with_field-to_block-requires c =
    let k = known _ _ c.fit.ensures c.if-not-fit.false in
    (omega arith, omega arith, omega arith)

pub with_field-to_country-requires : goal.with_field-to_country-requires
with_field-to_country-requires c =
    let k = known _ _ c.fit.ensures c.if-not-fit.false in
    (omega arith, omega arith, omega arith)

pub with_field-requires : goal.with_field-requires
with_field-requires c =
    let k = known _ _ c.fit.ensures c.if-not-fit.false in
    (omega arith, omega arith, omega arith)

pub returns : goal.returns
returns c =
    ap (λ (x : ℕ). record { number = 0; code = x })
    (joined _ _ _ _ _ _ _ c.with_field-to_retag.ensures c.with_field-to_user.ensures c.with_field-to_reserved.ensures c.with_field-to_block.ensures c.with_field-to_country.ensures
    c.with_field.ensures)
    ∙ sym (packed_done _ (known _ _ c.fit.ensures c.if-not-fit.false))
