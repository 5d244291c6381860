-- The limits, then the lengths. Assumes nothing.
use Rattle.std.proofs.Common.{sym, ◌∙◌, true≢false, eqb-true}
use Rattle.table_format.proofs.FormatLimits.{fits_length, fits_not}
use Rattle.table_format.proofs.format_fits.Goals as goal
use Rattle.table_format.proofs.format_fits.Goals.{then-keys-used, else-keys-used}

pub returns-then-limits_hold : goal.returns-then-limits_hold
returns-then-limits_hold c =
    elim c.if-keys-used.branch [
      | then-keys-used w ↦ rw c.table_bytes.ensures (sym (fits_length _ _ _ _ _ _ (w.limits_hold.ensures.0 (sym w.value-is ∙ c.if-limits_hold.true)) w.if-keys-used.true))
      | else-keys-used w ↦ absurd (w.if-keys-used.false (eqb-true _ _ (sym w.value-is ∙ c.if-limits_hold.true)))
    ]

pub returns-else-limits_hold : goal.returns-else-limits_hold
returns-else-limits_hold c =
    c.if-limits_hold.false
    ∙ sym
    (fits_not _ _ _ _ _ _ (λ fit. elim c.if-keys-used.branch [
      | then-keys-used w ↦ true≢false (sym (w.limits_hold.ensures.1 fit.limits) ∙ sym w.value-is ∙ c.if-limits_hold.false)
      | else-keys-used w ↦ w.if-keys-used.false fit.register
    ]))
