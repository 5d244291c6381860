-- A page that is not sparse stays; of a sparse one the left neighbour is tried, and where that is not joined, the right one. Assumes nothing.
use Rattle.tree_merge.proofs.NeighbourTests.{below_within, place_calm, place_sparse, then_right}
use Rattle.tree_merge.proofs.join_beside.Goals as goal
use Rattle.tree_merge.proofs.join_beside.Goals.{else-sparse-via-then-sparse+else-not-join_left, else-sparse-via-else-sparse}

pub sparse-requires : goal.sparse-requires
sparse-requires c = below_within c.requires.0 c.child-below.ensures

pub join_left-requires : goal.join_left-requires
join_left-requires c = (place_sparse c.requires.0 c.child-below.ensures c.sparse.ensures c.if-sparse.true, c.requires.1)

pub join_right-requires : goal.join_right-requires
join_right-requires c =
    let sparse = place_sparse c.requires.0 c.child-below.ensures c.sparse.ensures c.if-sparse.true in
    (then_right sparse (c.join_left.ensures.none c.if-not-join_left.true), c.requires.1)

pub returns-else-sparse : goal.returns-else-sparse
returns-else-sparse c =
    elim c.else-sparse.branch [
      | else-sparse-via-then-sparse+else-not-join_left w ↦ rw w.index-is (w.join_left.ensures.done w.if-not-join_left.false)
      | else-sparse-via-else-sparse w ↦ rw w.index-is (place_calm c.requires.0 c.child-below.ensures c.sparse.ensures w.if-sparse.false)
    ]
