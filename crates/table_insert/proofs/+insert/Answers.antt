-- Level by level: the entry found is replaced, the page's row is spliced, and placed again. Assumes nothing.
use native.Mathlib.Omega.{arith}
use Rattle.page_tree.proofs.RowLaws.{length_row}
use Rattle.index_table.specs.Layout.{layout_of}
use Rattle.index_table.proofs.PageRows.{refs_fit}
use Rattle.table_search.proofs.Descents.{descend_within, descend_seek, descend_inside}
use Rattle.table_insert.proofs.Insertions.{leaf_replaced, child_insert, child_replaced, insert_splice, insert_place, insert_done, alone_pre, alone_done}
use borrow.Author.Rules.{rules}
use Rattle.table_insert.proofs.+insert.Goals as goal

pub seek-s-requires : goal.seek-s-requires
seek-s-requires t c =
    descend_seek c.requires.descend

pub splice_page-row-requires : goal.splice_page-row-requires
splice_page-row-requires t c =
    let pre = c.requires in
    let stop = c.seek-s.ensures in
    let fits = refs_fit (layout_of c.args.e) c.args.index.now c.args.page.0 (search rules) in
    insert_splice pre fits stop (leaf_replaced _ c.if-level-eq0.true pre stop)

pub place_parts-requires : goal.place_parts-requires
place_parts-requires t c =
    let pre = c.requires in
    let stop = c.seek-s.ensures in
    let fits = refs_fit (layout_of c.args.e) c.args.index.now c.args.page.0 (search rules) in
    insert_place pre fits stop (leaf_replaced _ c.if-level-eq0.true pre stop) c.splice_page-row.ensures

pub returns-then-level-eq0 : goal.returns-then-level-eq0
returns-then-level-eq0 t c =
    let pre = c.requires in
    let stop = c.seek-s.ensures in
    let fits = refs_fit (layout_of c.args.e) c.args.index.now c.args.page.0 (search rules) in
    insert_done pre fits stop (leaf_replaced _ c.if-level-eq0.true pre stop) c.splice_page-row.ensures c.place_parts.ensures (search rules) (length_row c.place_parts.result (search rules, search rules) (omega (arith, c.place_parts.ensures.few)))

pub child-below-requires : goal.child-below-requires
child-below-requires t c =
    (descend_within c.requires.descend, descend_inside c.requires.descend _ c.seek-s.ensures)

pub insert-parts-requires : goal.insert-parts-requires
insert-parts-requires t c =
    let pre = c.requires in
    let stop = c.seek-s.ensures in
    let fits = refs_fit (layout_of c.args.e) c.args.index.now c.args.page.0 (search rules) in
    (omega (arith, c.decreases), child_insert _ c.if-level-eq0.false pre fits stop _ c.child-below.ensures)

pub page_alone-requires : goal.page_alone-requires
page_alone-requires t c =
    let pre = c.requires in
    let stop = c.seek-s.ensures in
    let fits = refs_fit (layout_of c.args.e) c.args.index.now c.args.page.0 (search rules) in
    alone_pre pre fits stop (child_replaced _ c.if-level-eq0.false pre fits stop _ c.child-below.ensures c.insert-parts.ensures) c.if-level-eq0.false c.if-parts-eq1.true

pub returns-then-parts-eq1 : goal.returns-then-parts-eq1
returns-then-parts-eq1 t c =
    let pre = c.requires in
    let stop = c.seek-s.ensures in
    let fits = refs_fit (layout_of c.args.e) c.args.index.now c.args.page.0 (search rules) in
    alone_done pre fits stop (child_replaced _ c.if-level-eq0.false pre fits stop _ c.child-below.ensures c.insert-parts.ensures) c.if-level-eq0.false c.if-parts-eq1.true c.page_alone.ensures (omega (arith, c.ranges))

pub splice_page-row-requires-2 : goal.splice_page-row-requires-2
splice_page-row-requires-2 t c =
    let pre = c.requires in
    let stop = c.seek-s.ensures in
    let fits = refs_fit (layout_of c.args.e) c.args.index.now c.args.page.0 (search rules) in
    insert_splice pre fits stop (child_replaced _ c.if-level-eq0.false pre fits stop _ c.child-below.ensures c.insert-parts.ensures)

pub place_parts-requires-2 : goal.place_parts-requires-2
place_parts-requires-2 t c =
    let pre = c.requires in
    let stop = c.seek-s.ensures in
    let fits = refs_fit (layout_of c.args.e) c.args.index.now c.args.page.0 (search rules) in
    insert_place pre fits stop (child_replaced _ c.if-level-eq0.false pre fits stop _ c.child-below.ensures c.insert-parts.ensures) c.splice_page-row-2.ensures

pub returns : goal.returns
returns t c =
    let pre = c.requires in
    let stop = c.seek-s.ensures in
    let fits = refs_fit (layout_of c.args.e) c.args.index.now c.args.page.0 (search rules) in
    insert_done pre fits stop (child_replaced _ c.if-level-eq0.false pre fits stop _ c.child-below.ensures c.insert-parts.ensures) c.splice_page-row-2.ensures c.place_parts-2.ensures (omega (arith, c.ranges)) (length_row c.place_parts-2.result (search rules, search rules) (omega (arith, c.place_parts-2.ensures.few)))
