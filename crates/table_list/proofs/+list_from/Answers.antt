-- Level by level to the place of the lower end, and back to the right on each level. Assumes nothing.
use mathlib.Core.Path.{refl}
use native.Mathlib.Omega.{arith}
use Rattle.table_search.proofs.Descents.{descend_seek}
use Rattle.table_list.proofs.PlaceWalks.{from_row, from_leaf, from_below, from_right, from_over}
use Rattle.table_list.proofs.+list_from.Goals as goal

pub seek-s-requires : goal.seek-s-requires
seek-s-requires t c = descend_seek c.requires.place

pub list_row-requires : goal.list_row-requires
list_row-requires t c = from_row c.requires

pub returns-then-level-eq0 : goal.returns-then-level-eq0
returns-then-level-eq0 t c = from_leaf _ c.if-level-eq0.true c.requires _ c.seek-s.ensures _ _ c.list_row.ensures

pub list_from-requires : goal.list_from-requires
list_from-requires t c =
    (omega (arith, c.decreases), from_below _ c.if-level-eq0.false c.requires _ c.seek-s.ensures _ c.child-below.ensures)

pub returns-in_err-written : goal.returns-in_err-written
returns-in_err-written t c =
    rw c.from_residual.ensures
    (from_over _ c.if-level-eq0.false c.requires _ c.seek-s.ensures _ c.child-below.ensures _ _ refl c.in_err-written.ensures)

pub list_row-requires-2 : goal.list_row-requires-2
list_row-requires-2 t c = from_row c.requires

pub returns : goal.returns
returns t c =
    from_right _ c.if-level-eq0.false c.requires _ c.seek-s.ensures _ c.child-below.ensures _ _ _ c.in_ok-written.ensures c.list_row-2.ensures
