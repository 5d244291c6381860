-- The last entry has no right neighbour; any other is joined with it, where the two may be one. Assumes nothing.
use native.Mathlib.Omega.{arith}
use Rattle.tree_merge.proofs.PairLaws.{pair_join}
use Rattle.tree_merge.proofs.NeighbourTests.{right_last, right_pair, right_shut, right_done}
use Rattle.tree_merge.proofs.join_right.Goals as goal
use Rattle.tree_merge.proofs.join_right.Goals.{else-at-from-via-then-at-from+else-joinable, else-at-from-via-else-at-from}

pub joinable-requires : goal.joinable-requires
joinable-requires c = right_pair c.requires.0 c.from.ensures c.count.ensures (omega (arith, c.if-at-from.true))

pub join-requires : goal.join-requires
join-requires c =
    let pair = right_pair c.requires.0 c.from.ensures c.count.ensures (omega (arith, c.if-at-from.true)) in
    (pair_join pair c.joinable.ensures c.if-joinable.true, c.requires.1)

pub returns-then-joinable : goal.returns-then-joinable
returns-then-joinable c =
    right_done c.requires.0 c.from.ensures c.count.ensures (omega (arith, c.if-at-from.true)) c.joinable.ensures c.if-joinable.true _
    c.join.ensures

pub returns-else-at-from : goal.returns-else-at-from
returns-else-at-from c =
    elim c.else-at-from.branch [
      | else-at-from-via-then-at-from+else-joinable w ↦
          right_shut c.requires.0 c.from.ensures c.count.ensures (omega (arith, w.if-at-from.true)) w.joinable.ensures w.if-joinable.false
      | else-at-from-via-else-at-from w ↦ right_last c.requires.0 c.from.ensures c.count.ensures (omega (arith, w.if-at-from.false))
    ]
