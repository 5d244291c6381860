-- Rows 8 and 7, or a new key put in. Assumes nothing.
use mathlib.Core.Path.{sym}
use Rattle.index_table.proofs.RefusalLaws.{refusal_not_0, handed_on}
use Rattle.table_change.proofs.RowChoice.{on_refused, on_accepted, late_roomy}
use Rattle.table_change.proofs.Entering.{late_pre, late_row_is}
use Rattle.table_change.proofs.on.cut_on.Goals as goal

pub late_row-requires : goal.late_row-requires
late_row-requires c = late_pre c.requires

pub returns-in_err-late_row : goal.returns-in_err-late_row
returns-in_err-late_row c =
    rw (handed_on c.from_residual.result c.from_residual.ensures.1)
    (on_refused _ (refusal_not_0 _) (late_row_is c.requires c.in_err-late_row.ensures))

pub put_on-requires : goal.put_on-requires
put_on-requires c =
    (c.requires, late_roomy _ _ _ (sym c.in_ok-late_row.ensures))

pub returns : goal.returns
returns c = on_accepted (late_row_is c.requires c.in_ok-late_row.ensures) c.put_on.ensures
