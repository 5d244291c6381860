-- All below each entry, one entry a turn; a page of level 0 has only its entries. Assumes nothing.
use mathlib.Core.Path.{refl, ◌∙◌}
use native.Mathlib.Omega.{arith}
use Rattle.index_table.specs.Layout.{layout_of}
use Rattle.table_list.proofs.RowWalks.{row_within, row_short, row_counted, row_ended, row_below, child_visited, walking_more, walking_over, walking_end}
use Rattle.table_list.proofs.+list_row.Goals as goal

pub child-below-requires : goal.child-below-requires
child-below-requires t c =
    let pre = c.requires in
    (row_within pre, row_short pre _ (row_counted (layout_of c.args.e) c.args.index.now c.args.page.0 _ _ (c.from-i-end.ensures ∙ c.count.ensures) c.loop-i-test.true))

pub list_row-requires : goal.list_row-requires
list_row-requires t c =
    (omega (arith, c.decreases), row_below _ c.if-level-eq0.false c.requires _ _ (row_counted (layout_of c.args.e) c.args.index.now c.args.page.0 _ _ (c.from-i-end.ensures ∙ c.count.ensures) c.loop-i-test.true) c.child-below.ensures)

pub returns-in_err-written : goal.returns-in_err-written
returns-in_err-written t c =
    let inside = row_counted (layout_of c.args.e) c.args.index.now c.args.page.0 _ _ (c.from-i-end.ensures ∙ c.count.ensures) c.loop-i-test.true in
    rw c.from_residual.ensures
    (walking_over _ _ _ _ _ _ _ _ _ _ _ (walking_more _ _ _ _ _ _ _ _ _ _ _ c.loop-i.invariant _ inside c.list_row.auto.out (child_visited _ _ _ _ _ _ _ _ _ _ _ c.if-level-eq0.false inside c.child-below.ensures c.in_err-written.ensures)) refl)

pub loop-i-preserved : goal.loop-i-preserved
loop-i-preserved t c =
    let inside = row_counted (layout_of c.args.e) c.args.index.now c.args.page.0 _ _ (c.from-i-end.ensures ∙ c.count.ensures) c.loop-i-test.true in
    walking_more _ _ _ _ _ _ _ _ _ _ _ c.loop-i.invariant _ inside c.list_row.auto.out
    (child_visited _ _ _ _ _ _ _ _ _ _ _ c.if-level-eq0.false inside c.child-below.ensures c.in_ok-written.ensures)

pub returns : goal.returns
returns t c =
    walking_end _ _ _ _ _ _ _ _ _ _ _ c.loop-i.invariant (row_ended (layout_of c.args.e) c.args.index.now c.args.page.0 _ _ (c.from-i-end.ensures ∙ c.count.ensures) c.loop-i-test.false)
