-- Each field is read from its bits. Assumes nothing.
use mathlib.Core.Path.{sym, ap, ◌∙◌}
use native.Mathlib.Omega.{arith}
use Rattle.tag_code.specs.declared.TagFields.{TagFields}
use Rattle.tag_code.specs.TagCode.{fields_of}
use Rattle.tag_code.proofs.Codes.{same_fields, unpacked_done, unpacked_refused}
use Rattle.tag_code.proofs.unpack.Goals as goal

pub returns-then-country-gt-LARGEST_COUNTRY : goal.returns-then-country-gt-LARGEST_COUNTRY
returns-then-country-gt-LARGEST_COUNTRY c = sym (unpacked_refused _ (omega arith))

pub returns : goal.returns
unfolding fields_of
returns c =
    ap (λ (f : TagFields). record { number = 0; fields = f })
    (same_fields c.field_of.ensures c.field_of-2.ensures
    c.field_of-3.ensures c.field_of-4.ensures c.field_of-5.ensures c.field_of-country.ensures
    c.field_of-6.ensures)
    ∙ sym (unpacked_done _ (omega (arith, c.field_of-country.ensures, c.if-country-gt-LARGEST_COUNTRY.false)))
