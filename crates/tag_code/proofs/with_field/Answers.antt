-- A shift and an or are a product and a sum, since the field fits the bits that the shift clears. Assumes nothing.
use mathlib.Core.Path.{◌∙◌, ap}
use Prim.Native.Nat.{ℕ, ◌-◌}
use native.Mathlib.Omega.{arith}
use lib.Bits.{bit_or, or_shifted}
use lib.Pow.{shl_exact}
use Rattle.tag_code.proofs.with_field.Goals as goal

pub returns : goal.returns
returns c =
    ap (λ (x : ℕ). bit_or x c.args.field) (shl_exact (64 - c.args.width) c.args.width 64 c.requires.1 (omega arith))
    ∙ or_shifted c.args.code c.args.width c.args.field c.requires.2
