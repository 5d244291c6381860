-- Zeros move along, or are written. Assumes nothing.
use mathlib.Core.Path.{◌∙◌, ap}
use native.Mathlib.Omega.{arith}
use Rattle.byte_moves.specs.Over.{over}
use Rattle.page_change.proofs.PageParts.{zeros_along, zeros_written}
use Rattle.page_change.proofs.close.close_up.Goals as goal

pub returns-then-gone-free : goal.returns-then-gone-free
returns-then-gone-free c =
    c.move_down.ensures ∙ ap (over _ _) (zeros_along _ _ _ _ _ c.if-gone-free.true c.requires.1)

pub returns : goal.returns
returns c =
    zeros_written _ _ _ _ (omega (arith, c.requires.0)) c.move_down-2.ensures c.clear.ensures
