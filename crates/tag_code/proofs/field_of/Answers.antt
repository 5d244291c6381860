-- A shift and a mask are a quotient and a remainder. Assumes nothing.
use mathlib.Core.Path.{◌≡◌, ◌∙◌, ap}
use Prim.Native.Nat.{ℕ, ◌-◌, ◌*◌, ◌/◌, ◌^◌, ◌%◌, ◌<◌}
use native.Mathlib.Omega.{arith}
use native.Mathlib.Nat.{one-mul}
use lib.Bits.{bit_and, and_mask}
use lib.Pow.{shl_exact, pow_pos}
use Rattle.tag_code.proofs.field_of.Goals as goal

-- The shifted one is the power of two.
power : (width : ℕ) → width < 64 → 1 * 2 ^ width % 2 ^ 64 ≡ 2 ^ width
power width h = shl_exact 1 width 64 (omega arith) (omega arith) ∙ one-mul (2 ^ width)

pub overflow_sub-result : goal.overflow_sub-result
overflow_sub-result c = omega (arith, power c.args.width c.requires.1, pow_pos c.args.width)

pub returns : goal.returns
returns c =
    ap (λ (x : ℕ). bit_and (c.args.code / 2 ^ c.args.after) (x - 1)) (power c.args.width c.requires.1)
    ∙ and_mask (c.args.code / 2 ^ c.args.after) c.args.width
