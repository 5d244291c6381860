-- Rows 1 and 2, the lower end before the upper. Assumes nothing.
use mathlib.Core.Path.{◌∙◌}
use native.Mathlib.Omega.{arith}
use Rattle.index_table.proofs.SoundTables.{header_long}
use Rattle.tag_index.proofs.Judging.{wide_is, row_unsound, row_lower, row_upper, row_none}
use Rattle.tag_index.proofs.read.first_row.Goals as goal

pub returns-then-not-check : goal.returns-then-not-check
returns-then-not-check c = row_unsound _ c.check.ensures _ _ c.if-not-check.true

pub width-w-requires : goal.width-w-requires
width-w-requires c = header_long (c.check.ensures.0 c.if-not-check.false)

pub too_wide-requires : goal.too_wide-requires
too_wide-requires c = omega (arith, c.width-w.ensures.0, (c.check.ensures.0 c.if-not-check.false).limits.width_high)

pub returns-then-too_wide : goal.returns-then-too_wide
returns-then-too_wide c =
    row_lower _ c.check.ensures _ _ c.if-not-check.false (wide_is _ c.width-w.ensures.0 c.too_wide.ensures ∙ c.if-too_wide.true)

pub too_wide-requires-2 : goal.too_wide-requires-2
too_wide-requires-2 c =
    omega (arith, c.width-w.ensures.0, (c.check.ensures.0 c.if-not-check.false).limits.width_high)

pub returns-then-too_wide-2 : goal.returns-then-too_wide-2
returns-then-too_wide-2 c =
    row_upper _ c.check.ensures _ _ c.if-not-check.false (wide_is _ c.width-w.ensures.0 c.too_wide.ensures ∙ c.if-too_wide.false)
    (wide_is _ c.width-w.ensures.0 c.too_wide-2.ensures ∙ c.if-too_wide-2.true)

pub returns : goal.returns
returns c =
    row_none _ c.check.ensures _ _ c.if-not-check.false (wide_is _ c.width-w.ensures.0 c.too_wide.ensures ∙ c.if-too_wide.false)
    (wide_is _ c.width-w.ensures.0 c.too_wide-2.ensures ∙ c.if-too_wide-2.false)
