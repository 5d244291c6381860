-- A field of 17 bytes whose first is `h`. Assumes nothing.
use mathlib.Core.Path.{◌≡◌, sym, ap, ◌∙◌}
use mathlib.Core.List.{List}
use Prim.Native.Nat.{ℕ, ◌-◌}
use native.Mathlib.Omega.{arith}
use lib.ListN.{length, take, drop, length-drop}
use lib.Seq.{take_all}
use Rattle.book_tags.specs.Tags.{number_of, hexadecimal_tag}
use Rattle.book_tags.proofs.TagLaws.{tag_hexadecimal}
use Rattle.book_tags.proofs.read_tag.Goals as goal

pub returns-in-104 : goal.returns-in-104
returns-in-104 c =
    let field = c.args.field.now in
    let digits : take (length field - 1) (drop 1 field) ≡ drop 1 field = take_all (length field - 1) (drop 1 field) (omega (arith, length-drop 1 field)) in
    let count : length (drop 1 field) ≡ 16 = ap length (sym digits) ∙ c.if-digits-eq16.true in
    c.hexadecimal_tag.ensures ∙ ap hexadecimal_tag (c.read_number-in-104.ensures ∙ ap (λ (s : List ℕ). number_of 16 s) digits)
    ∙ sym (tag_hexadecimal field (omega (arith, length-drop 1 field, count)) (omega arith))
