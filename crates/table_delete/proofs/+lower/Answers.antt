-- Level by level: a root with one entry is freed. Assumes nothing.
use native.Mathlib.Omega.{arith}
use Rattle.table_delete.proofs.Lowering.{lower_within, lower_leaf, lower_stop, lower_next, lower_post}
use Rattle.table_delete.proofs.+lower.Goals as goal
use Rattle.table_delete.proofs.+lower.Goals.{then-level-eq0-via-then-level-eq0, then-level-eq0-via-else-level-eq0+then-count-ne1}

pub count-requires : goal.count-requires
count-requires t c = lower_within c.requires

pub returns-then-level-eq0 : goal.returns-then-level-eq0
returns-then-level-eq0 t c =
    elim c.then-level-eq0.branch [
      | then-level-eq0-via-then-level-eq0 w ↦ lower_leaf _ _ w.if-level-eq0.true c.requires
      | then-level-eq0-via-else-level-eq0+then-count-ne1 w ↦ lower_stop _ _ w.if-level-eq0.false c.requires w.count.ensures w.if-count-ne1.true
    ]

pub lower-requires : goal.lower-requires
lower-requires t c = (omega (arith, c.decreases, c.if-level-eq0.false), lower_next _ _ _ c.if-level-eq0.false c.requires c.count.ensures (omega (arith, c.if-count-ne1.false)) c.child-below.ensures c.free_page.ensures)

pub returns : goal.returns
returns t c = lower_post _ _ _ c.if-level-eq0.false c.requires c.count.ensures (omega (arith, c.if-count-ne1.false)) c.child-below.ensures c.free_page.ensures _ _ c.lower.ensures
