-- Rows 2 to 4, then the others. Assumes nothing.
use mathlib.Core.Path.{refl}
use Rattle.index_table.proofs.SoundTables.{header_long}
use Rattle.index_table.proofs.RefusalLaws.{refusal_not_0, handed_on}
use Rattle.table_change.proofs.RowChoice.{on_refused, early_row_is, free_passed}
use Rattle.table_change.proofs.on.on_sound.Goals as goal

pub early_row-requires : goal.early_row-requires
early_row-requires c =
    (header_long c.requires, c.requires.limits.width_high)

pub returns-in_err-early_row : goal.returns-in_err-early_row
returns-in_err-early_row c =
    rw (handed_on c.from_residual.result c.from_residual.ensures.1)
    (on_refused _ (refusal_not_0 _)
    (early_row_is c.args.index.now c.args.keys.now c.args.used.now c.args.key c.args.«record» c.in_err-early_row.ensures (refusal_not_0 _)))

pub on_free-requires : goal.on_free-requires
on_free-requires c =
    free_passed c.args.index.now c.args.keys.now c.args.used.now c.args.key c.args.«record» c.in_ok-early_row.ensures c.requires refl
