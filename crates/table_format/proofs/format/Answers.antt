-- Row 9, or every byte and key of the empty tables. Assumes nothing.
use mathlib.Core.Path.{sym, ◌∙◌, refl}
use native.Mathlib.Omega.{arith}
use Rattle.table_format.proofs.FormatLimits.{fits_says, format_refused, format_done, format_empty}
use Rattle.table_format.proofs.format.Goals as goal

pub returns-then-not-format_fits : goal.returns-then-not-format_fits
returns-then-not-format_fits c = format_refused _ (sym c.format_fits.ensures ∙ c.if-not-format_fits.true) refl

pub overflow_cast-w : goal.overflow_cast-w
overflow_cast-w c = omega (arith, (fits_says _ _ _ _ _ _ (sym c.format_fits.ensures ∙ c.if-not-format_fits.false)).limits.width_high)

pub overflow_cast-e : goal.overflow_cast-e
overflow_cast-e c = omega (arith, (fits_says _ _ _ _ _ _ (sym c.format_fits.ensures ∙ c.if-not-format_fits.false)).limits.entries_high)

pub overflow_cast-p : goal.overflow_cast-p
overflow_cast-p c = omega (arith, (fits_says _ _ _ _ _ _ (sym c.format_fits.ensures ∙ c.if-not-format_fits.false)).limits.pages_high)

pub make_empty-requires : goal.make_empty-requires
make_empty-requires c = format_empty _ _ _ (sym c.format_fits.ensures ∙ c.if-not-format_fits.false)

pub returns : goal.returns
returns c =
    format_done _ (sym c.format_fits.ensures ∙ c.if-not-format_fits.false) refl c.make_empty.ensures (c.fill.ensures.after (λ y e. e)) (c.fill-2.ensures.after (λ y e. e))
