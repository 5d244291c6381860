-- The page check and the child check: measures 2 * level + 1 and 2 * level. Assumes nothing.
use mathlib.Core.Path.{refl, sym, ◌∙◌}
use native.Mathlib.Omega.{arith}
use Rattle.leaf_check.proofs.RowTurns.{entry_at, entry_few, row_start, row_depth, row_entry, row_more, row_all, row_marks}
use Rattle.table_check.proofs.MetPages.{met_page, met_marked, met_long, leaves_pre, walk_on, walked_refused, walked_row, walked_row_no, walked_leaves, walked_at, walked_lower}
use Rattle.leaf_check.proofs.EntryTests.{one_fault}
use Rattle.table_check.proofs.pages.+child_ok_page_ok.Goals as goal

pub child_ok-returns : goal.child_ok-returns
child_ok-returns t c = walked_lower _ c.requires.1 c.page_ok.ensures

pub page_ok-returns-then-not-enter : goal.page_ok-returns-then-not-enter
page_ok-returns-then-not-enter t c = walked_refused c.requires c.enter.ensures c.if-not-enter.true _ one_fault

pub page_ok-scan_leaves-requires : goal.page_ok-scan_leaves-requires
page_ok-scan_leaves-requires t c = leaves_pre (met_page c.requires c.enter.ensures c.if-not-enter.false)

pub page_ok-shape_of-map-then-level-eq0 : goal.page_ok-shape_of-map-then-level-eq0
page_ok-shape_of-map-then-level-eq0 t c = met_long (met_page c.requires c.enter.ensures c.if-not-enter.false)

pub page_ok-returns-then-level-eq0 : goal.page_ok-returns-then-level-eq0
page_ok-returns-then-level-eq0 t c = walked_leaves (met_page c.requires c.enter.ensures c.if-not-enter.false) c.if-level-eq0.true c.scan_leaves.ensures

pub page_ok-loop-i-init : goal.page_ok-loop-i-init
page_ok-loop-i-init t c = (row_start _ _ _ (c.from-n.ensures ∙ c.count.ensures) (met_marked (met_page c.requires c.enter.ensures c.if-not-enter.false)) (met_page c.requires c.enter.ensures c.if-not-enter.false).pre.carried, refl)

pub page_ok-depth-d-requires : goal.page_ok-depth-d-requires
page_ok-depth-d-requires t c = let l = leaves_pre (met_page c.requires c.enter.ensures c.if-not-enter.false) in (l.within, entry_few c.args.h _ _ _ _ (c.from-n.ensures ∙ c.count.ensures) l.few c.loop-i-test.true)

pub page_ok-returns-then-not-closes : goal.page_ok-returns-then-not-closes
page_ok-returns-then-not-closes t c = walked_row_no (met_page c.requires c.enter.ensures c.if-not-enter.false) one_fault (row_depth c.loop-i.invariant.0 c.loop-i-test.true _ c.depth-d.ensures (sym c.closes.ensures ∙ c.if-not-closes.true) _ one_fault)

pub page_ok-child-child-requires : goal.page_ok-child-child-requires
page_ok-child-child-requires t c = let l = leaves_pre (met_page c.requires c.enter.ensures c.if-not-enter.false) in (l.within, entry_few c.args.h _ _ _ _ (c.from-n.ensures ∙ c.count.ensures) l.few c.loop-i-test.true)

pub page_ok-child_ok-next-requires : goal.page_ok-child_ok-next-requires
page_ok-child_ok-next-requires t c = let m = c.decreases in let l = c.if-level-eq0.false in let inv = c.loop-i.invariant in (omega (arith, m, l), (walk_on (met_page c.requires c.enter.ensures c.if-not-enter.false) _ _ inv.1 inv.0.turned.marked inv.0.turned.carried, omega (arith, l)))

pub page_ok-shape_of-map-then-next-ne0 : goal.page_ok-shape_of-map-then-next-ne0
page_ok-shape_of-map-then-next-ne0 t c = c.child_ok-next.auto.map ∙ c.loop-i.invariant.1 ∙ met_long (met_page c.requires c.enter.ensures c.if-not-enter.false)

pub page_ok-returns-then-next-ne0 : goal.page_ok-returns-then-next-ne0
page_ok-returns-then-next-ne0 t c = let a = c.args in walked_row_no (met_page c.requires c.enter.ensures c.if-not-enter.false) c.if-next-ne0.true
    (row_entry c.loop-i.invariant.0 c.loop-i-test.true (walked_at (entry_at a.h a.index.now.now a.page.0 _) c.depth-d.ensures c.child-child.ensures c.child_ok-next.ensures).scanned c.if-next-ne0.true)

pub page_ok-loop-i-preserved : goal.page_ok-loop-i-preserved
page_ok-loop-i-preserved t c = let a = c.args in let x = walked_at (entry_at a.h a.index.now.now a.page.0 _) c.depth-d.ensures c.child-child.ensures c.child_ok-next.ensures in let o = c.if-next-ne0.false in (
  row_more c.loop-i.invariant.0 c.loop-i-test.true x.scanned o _ c.depth-d.ensures (sym c.closes.ensures ∙ c.if-not-closes.false) _ (x.marks o),
  c.child_ok-next.auto.map ∙ c.loop-i.invariant.1,
)

pub page_ok-returns : goal.page_ok-returns
page_ok-returns t c = walked_row (met_page c.requires c.enter.ensures c.if-not-enter.false) (row_all c.loop-i.invariant.0 c.loop-i-test.false) (λ o. row_marks c.loop-i.invariant.0 c.loop-i-test.false)
