-- All bits behind some are one less than a power of two. Assumes nothing.
use Rattle.std.proofs.Common.{◌-◌, ◌<◌, arith, pow_pos}
use Rattle.leaf_list.proofs.KeyLaws.{power}
use Rattle.leaf_check.proofs.passes.bits_behind.Goals as goal

pub returns : goal.returns
returns c =
    let few : c.args.w - c.args.t < 64 = omega arith in
    omega (arith, power _ few, pow_pos (c.args.w - c.args.t))
