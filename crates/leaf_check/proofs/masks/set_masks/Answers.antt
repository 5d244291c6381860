-- The masks before depth d are set, and the next one is at hand. Assumes nothing.
use Rattle.std.proofs.Common.{◌≡◌, ◌+◌, ◌<◌, subst, arith}
use Rattle.leaf_check.proofs.DepthTable.{SetBefore, half, set_more, set_all}
use Rattle.leaf_check.proofs.masks.set_masks.Goals as goal

pub loop-d-preserved : goal.loop-d-preserved
loop-d-preserved c =
    let inv = c.loop-d.invariant in
    let l : c.loop-d.d < 256 = omega (arith, inv.0, inv.1, c.loop-d-test.true) in (
      inv.0,
      inv.1,
      omega (arith, inv.1, c.loop-d-test.true),
      half _ c.loop-d.d _ inv.3,
      set_more _ c.loop-d.d _ l inv.3 inv.4,
    )

pub returns : goal.returns
returns c =
    let inv = c.loop-d.invariant in
    let end : c.loop-d.d ≡ c.args.w + 1 = omega (arith, inv.1, inv.2, c.loop-d-test.false) in
    set_all _ (subst (SetBefore _ _) end inv.4)
