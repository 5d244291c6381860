-- What stands for a leaf of another key. Assumes nothing.
use Prim.Native.Nat.{◌≤◌}
use native.Mathlib.Omega.{arith}
use Rattle.new_entries.proofs.NewLeaves.{new_above, new_below, order_smaller, order_larger}
use Rattle.new_entries.proofs.entries.beside_leaf.Goals as goal
use Rattle.new_entries.proofs.entries.beside_leaf.Goals.{then-b-l, else-b-l+then-key-old, else-b-l+else-key-old}

pub returns : goal.returns
returns c =
    let pre = c.requires in
    let b = c.first_difference-b.ensures in
    let l = c.leaf_depth-l.ensures in
    let inside = b.2 pre.other in
    let below : c.leaf_depth-l.result ≤ c.args.w = omega (arith, l.1, pre.depth_inside, pre.trail_inside) in
    let counted = c.count_dummies-n.ensures.0 in
    elim c.if-b-l.branch [
      | then-b-l w ↦ rw w.low-is (new_above pre b.0 l.0 inside w.if-b-l.true (rw w.low-is at counted))
      | else-b-l+then-key-old w ↦
          rw w.low-is
          (new_below pre b.0 l.0 inside w.if-b-l.false below (rw w.low-is at counted) _ _ pre.free_record pre.live (order_smaller pre b.0 l.0 inside w.if-key-old.true))
      | else-b-l+else-key-old w ↦
          rw w.low-is
          (new_below pre b.0 l.0 inside w.if-b-l.false below (rw w.low-is at counted) _ _ pre.live pre.free_record (order_larger pre b.0 l.0 inside w.if-key-old.false))
    ]
