-- The masks before depth d are set, and the next one is at hand. Assumes nothing.
use Rattle.std.proofs.Common.{◌≡◌, suc, ◌-◌, ◌^◌, ◌≤◌}
use Rattle.leaf_check.proofs.DepthTable.{SetBefore}
use Rattle.leaf_check.proofs.masks.set_masks.Given as goal

abbrev pub invariant-loop-d : goal.invariant-loop-d
invariant-loop-d l = (l.w ≤ 64) × (l.last ≡ l.w) × (l.d ≤ suc l.w) × (suc l.below ≡ 2 ^ (l.w - l.d)) × SetBefore l.w l.masks l.d
