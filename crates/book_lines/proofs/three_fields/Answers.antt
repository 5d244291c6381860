-- A record that is read is small. Assumes nothing.
use mathlib.Core.Path.{sym, subst}
use Prim.Native.Nat.{ℕ}
use Rattle.std.specs.Prelude.{Option}
use Rattle.book_tags.specs.Tags.{record_at_most}
use Rattle.book_tags.proofs.NumberLaws.{record_small}
use Rattle.book_lines.proofs.three_fields.Goals as goal

pub on_line-requires : goal.on_line-requires
on_line-requires c = subst (λ (w : Option ℕ). record_at_most 99999 w) (sym c.read_record.ensures) (record_small _)
