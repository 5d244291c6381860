-- Level by level: the page is searched, what lies below the entry found is merged, and then the entry's neighbours are looked at. Assumes nothing.
use native.Mathlib.Omega.{arith}
use Rattle.tree_merge.proofs.MergeLaws.{merge_low, merge_above, merge_seek, merge_down, merge_beside, merge_up}
use Rattle.tree_merge.proofs.+merge.Goals as goal

pub returns-then-level-lowest : goal.returns-then-level-lowest
returns-then-level-lowest t c = merge_low _ c.if-level-lowest.true c.requires

pub seek-s-requires : goal.seek-s-requires
seek-s-requires t c = merge_seek c.requires.remove

pub merge-requires : goal.merge-requires
merge-requires t c =
    let ne = merge_above c.requires c.if-level-lowest.false in
    (omega (arith, c.decreases, ne), merge_down _ c.requires _ c.seek-s.ensures ne c.depth-c.ensures c.child-below.ensures)

pub join_beside-requires : goal.join_beside-requires
join_beside-requires t c = (
  merge_beside _ c.requires _ c.seek-s.ensures (merge_above c.requires c.if-level-lowest.false) c.depth-c.ensures c.child-below.ensures c.merge.ensures,
  omega (arith, c.ranges.level, merge_above c.requires c.if-level-lowest.false),
)

pub returns : goal.returns
returns t c =
    merge_up _ c.requires _ c.seek-s.ensures (merge_above c.requires c.if-level-lowest.false) c.depth-c.ensures c.child-below.ensures c.merge.ensures c.join_beside.ensures
