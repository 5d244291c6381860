-- Each turn visits one entry; a list that is over stops at once. Assumes nothing.
use mathlib.Core.Path.{refl, ◌∙◌}
use Rattle.index_table.specs.Layout.{layout_of}
use Rattle.table_list.proofs.RowWalks.{row_within, row_short, row_counted, row_ended, leaf_visit, leaf_visited, walking_more, walking_over, walking_end}
use Rattle.table_list.proofs.list_leaves.Goals as goal

pub pointer-requires : goal.pointer-requires
pointer-requires c =
    let pre = c.requires in
    (row_within pre, row_short pre _ (row_counted (layout_of c.args.e) c.args.index.now c.args.page.0 _ _ (c.from-i-end.ensures ∙ c.count.ensures) c.loop-i-test.true))

pub visit-requires : goal.visit-requires
visit-requires c =
    leaf_visit c.requires _ _ (row_counted (layout_of c.args.e) c.args.index.now c.args.page.0 _ _ (c.from-i-end.ensures ∙ c.count.ensures) c.loop-i-test.true) c.pointer.ensures.0

pub returns-in_err-written : goal.returns-in_err-written
returns-in_err-written c =
    let inside = row_counted (layout_of c.args.e) c.args.index.now c.args.page.0 _ _ (c.from-i-end.ensures ∙ c.count.ensures) c.loop-i-test.true in
    rw c.from_residual.ensures
    (walking_over _ _ _ _ _ _ _ _ _ _ _ (walking_more _ _ _ _ _ _ _ _ _ _ _ c.loop-i.invariant _ inside c.visit.auto.out (leaf_visited _ _ _ _ _ _ _ _ _ _ inside c.pointer.ensures.0 c.in_err-written.ensures)) refl)

pub loop-i-preserved : goal.loop-i-preserved
loop-i-preserved c =
    let inside = row_counted (layout_of c.args.e) c.args.index.now c.args.page.0 _ _ (c.from-i-end.ensures ∙ c.count.ensures) c.loop-i-test.true in
    walking_more _ _ _ _ _ _ _ _ _ _ _ c.loop-i.invariant _ inside c.visit.auto.out
    (leaf_visited _ _ _ _ _ _ _ _ _ _ inside c.pointer.ensures.0 c.in_ok-written.ensures)

pub returns : goal.returns
returns c =
    walking_end _ _ _ _ _ _ _ _ _ _ _ c.loop-i.invariant (row_ended (layout_of c.args.e) c.args.index.now c.args.page.0 _ _ (c.from-i-end.ensures ∙ c.count.ensures) c.loop-i-test.false)
