-- Limits and length in order, the spare bytes decide. Assumes nothing.
use Rattle.std.proofs.Common.{sym, ◌∙◌, true≢false, eqb-true}
use Rattle.bytes_check.proofs.Iff.{iff_trans}
use Rattle.bytes_check.proofs.Headers.{header_spare}
use Rattle.bytes_check.proofs.header.header_fits.Goals as goal
use Rattle.bytes_check.proofs.header.header_fits.Goals.{then-limits_hold, else-limits_hold}

pub returns-then-index-table_bytes : goal.returns-then-index-table_bytes
returns-then-index-table_bytes c =
    elim c.if-limits_hold.branch [
      | then-limits_hold w ↦ iff_trans c.all_zero.ensures (header_spare _ _ _ c.read-h.ensures _ w.table_bytes.ensures c.if-index-lt16.false (c.limits_hold.ensures.0 w.if-limits_hold.true) (eqb-true _ _ (sym w.value-is ∙ c.if-index-table_bytes.true)))
      | else-limits_hold w ↦ absurd (true≢false (sym c.if-index-table_bytes.true ∙ w.value-is ∙ w.if-limits_hold.false))
    ]
