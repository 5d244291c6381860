-- The two pages are made one, and the page's row is stored with the joined page's entry in the place of theirs. Assumes nothing.
use mathlib.Core.Path.{◌∙◌}
use Rattle.tree_merge.proofs.PairLaws.{left_page, right_page, right_depth}
use Rattle.tree_merge.proofs.JoinLaws.{join_gather, join_table, join_entry, join_settle, join_post}
use Rattle.tree_merge.proofs.join.Goals as goal

pub gather-requires : goal.gather-requires
gather-requires c =
    let pre = c.requires.0 in
    join_gather pre _ _ (left_page pre.pair c.child-left.ensures) (right_page pre.pair c.child-right.ensures)

pub settle-requires : goal.settle-requires
settle-requires c =
    let pre = c.requires.0 in
    let u = left_page pre.pair c.child-left.ensures in
    let v = right_page pre.pair c.child-right.ensures in
    let entry = join_entry pre (right_depth pre.pair c.depth.ensures) (c.from.ensures.0 ∙ u) in
    join_settle pre _ c.load_page-row.ensures _ entry _ _ c.put-at.ensures _ c.close.ensures _ (join_table pre c.gather.ensures u v)

pub returns : goal.returns
returns c =
    let pre = c.requires.0 in
    let u = left_page pre.pair c.child-left.ensures in
    let v = right_page pre.pair c.child-right.ensures in
    let entry = join_entry pre (right_depth pre.pair c.depth.ensures) (c.from.ensures.0 ∙ u) in
    join_post pre _ c.load_page-row.ensures _ entry _ _ c.put-at.ensures _ c.close.ensures _ (join_table pre c.gather.ensures u v) _ _
    c.settle.ensures
