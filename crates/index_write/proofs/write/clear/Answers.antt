-- Each byte of the part is 0. Assumes nothing.
use mathlib.Core.Path.{◌∙◌, ap}
use borrow.Author.Rules.{rules}
use native.Mathlib.Omega.{arith}
use Prim.Native.Nat.{ℕ}
use lib.ListN.{replicate, length-take, length-drop}
use Rattle.byte_moves.proofs.OverLaws.{over_part}
use Rattle.index_write.proofs.Writing.{zeros_filled}
use Rattle.index_write.proofs.write.clear.Goals as goal

pub returns : goal.returns
returns c =
    let ran = c.fill_with.ensures.ran in
    over_part _ _ _ (omega (arith, c.requires)) c.fill_with.ensures.len
    (zeros_filled _ _ _ _ ran.1 (λ f x g s. search rules) ∙ ap (λ (k : ℕ). replicate {A = ℕ} k 0) (c.fill_with.ensures.len ∙ length-take _ _ ∙ omega (arith, length-drop c.args.at c.args.index.now, c.requires)))
