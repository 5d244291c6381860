-- Where the two may be one, they are joined. Assumes nothing.
use Rattle.tree_merge.proofs.NeighbourTests.{left_done}
use Rattle.tree_merge.proofs.join_left.Goals as goal

pub returns : goal.returns
returns c = left_done c.requires.0 c.if-at-eq0.false c.joinable.ensures c.if-not-joinable.false _ c.join.ensures
