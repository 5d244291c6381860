-- Level by level: the page is searched, and on level 0 the entry may become a dummy. Assumes nothing.
use borrow.Author.Rules.{rules}
use native.Mathlib.Omega.{arith}
use Rattle.table_delete.proofs.Blanks.{blank_seek, blank_after, blank_read, blank_few, blank_give, blank_struck, blank_down, blank_up}
use Rattle.table_delete.proofs.blank.+blank.Goals as goal

pub seek-s-requires : goal.seek-s-requires
seek-s-requires t c = blank_seek c.requires

pub overflow_add-at : goal.overflow_add-at
overflow_add-at t c = let k = blank_few c.requires _ c.seek-s.ensures in omega (arith, k, c.ranges.e)

pub after-follows-requires : goal.after-follows-requires
after-follows-requires t c = blank_after c.requires

pub depth-c-requires : goal.depth-c-requires
depth-c-requires t c =
    blank_read c.requires _ c.seek-s.ensures

pub blank_entry-requires : goal.blank_entry-requires
blank_entry-requires t c =
    blank_give _ c.requires _ c.seek-s.ensures c.if-level-eq0.true (search rules) c.depth-c.ensures

pub returns-then-level-eq0 : goal.returns-then-level-eq0
returns-then-level-eq0 t c =
    blank_struck _ c.requires _ c.seek-s.ensures c.if-level-eq0.true _ c.after-follows.ensures _ _ c.blank_entry.ensures

pub child-below-requires : goal.child-below-requires
child-below-requires t c =
    blank_read c.requires _ c.seek-s.ensures

pub blank-requires : goal.blank-requires
blank-requires t c =
    (omega (arith, c.decreases, c.if-level-eq0.false), blank_down _ c.requires _ c.seek-s.ensures c.if-level-eq0.false c.depth-c.ensures c.child-below.ensures)

pub returns : goal.returns
returns t c =
    blank_up _ c.requires _ c.seek-s.ensures c.if-level-eq0.false c.depth-c.ensures c.child-below.ensures _ c.after-follows.ensures _ _ c.blank.ensures
