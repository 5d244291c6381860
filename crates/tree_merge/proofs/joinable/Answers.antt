-- The two depths are compared, and where the left one is greater, the sum of the two counts with e. Assumes nothing.
use borrow.Author.Tests.{le-ltb}
use Rattle.tree_merge.proofs.EntryReads.{count_read}
use Rattle.tree_merge.proofs.PairLaws.{left_page, left_depth, right_page, right_depth, left_within, right_within, joinable_no, joinable_sum}
use Rattle.tree_merge.proofs.joinable.Goals as goal

pub count-requires : goal.count-requires
count-requires c = left_within c.requires (left_page c.requires c.child-left.ensures)

pub count-requires-then-b-a : goal.count-requires-then-b-a
count-requires-then-b-a c = right_within c.requires (right_page c.requires c.child-right.ensures)

pub returns-then-b-a : goal.returns-then-b-a
returns-then-b-a c =
    let pre = c.requires in
    joinable_sum pre (left_depth pre c.depth-a.ensures) (right_depth pre c.depth-b.ensures) c.if-b-a.true
    (count_read _ _ c.from.ensures c.count.ensures (left_page pre c.child-left.ensures))
    (count_read _ _ c.from-then-b-a.ensures c.count-then-b-a.ensures (right_page pre c.child-right.ensures))
    c.from-then-b-a-2.ensures

pub returns-else-b-a : goal.returns-else-b-a
returns-else-b-a c =
    let pre = c.requires in
    rw (le-ltb c.depth-b.result c.depth-a.result c.if-b-a.false)
    (joinable_no pre (left_depth pre c.depth-a.ensures) (right_depth pre c.depth-b.ensures) c.if-b-a.false)
