-- Rank by rank: down to the place found in the page, back over its row, and the page is settled. Assumes nothing.
use native.Mathlib.Omega.{arith}
use Rattle.tree_delete.proofs.Removals.{remove_leaf, located}
use Rattle.tree_delete.proofs.RemovalSteps.{remove_below, remove_down, remove_sweep, remove_settle, remove_post}
use Rattle.tree_delete.proofs.SweepTurns.{entry_read}
use Rattle.tree_delete.proofs.removal.+remove.Goals as goal

pub returns-then-rank-eq0 : goal.returns-then-rank-eq0
returns-then-rank-eq0 t c = remove_leaf _ _ _ _ _ _ _ c.if-rank-eq0.true c.strike.ensures

pub load_page-row-requires : goal.load_page-row-requires
load_page-row-requires t c = let below = remove_below _ c.from_pointer-page.ensures c.if-rank-eq0.false c.requires in below.load

pub seek-spot-requires : goal.seek-spot-requires
seek-spot-requires t c = let below = remove_below _ c.from_pointer-page.ensures c.if-rank-eq0.false c.requires in below.seek

pub after-next-requires : goal.after-next-requires
after-next-requires t c = let below = remove_below _ c.from_pointer-page.ensures c.if-rank-eq0.false c.requires in below.after

pub pointer-requires : goal.pointer-requires
pointer-requires t c =
    let below = remove_below _ c.from_pointer-page.ensures c.if-rank-eq0.false c.requires in
    (omega (arith, c.seek-spot.ensures.inside, c.load_page-row.ensures.count), omega (arith, c.load_page-row.ensures.count, below.load.1, c.ranges.e))

pub remove-x-requires : goal.remove-x-requires
remove-x-requires t c =
    (omega (arith, c.decreases, c.if-rank-eq0.false), remove_down _ _ c.from_pointer-page.ensures c.if-rank-eq0.false c.requires (located c.load_page-row.ensures c.seek-spot.ensures c.after-next.ensures) (entry_read c.depth.ensures c.pointer.ensures))

pub put-at-requires : goal.put-at-requires
put-at-requires t c =
    let below = remove_below _ c.from_pointer-page.ensures c.if-rank-eq0.false c.requires in
    (omega arith, omega (arith, c.seek-spot.ensures.inside, c.load_page-row.ensures.count), omega (arith, c.load_page-row.ensures.count, below.load.1, c.ranges.e))

pub sweep-state-requires : goal.sweep-state-requires
sweep-state-requires t c =
    remove_sweep _ _ c.from_pointer-page.ensures c.if-rank-eq0.false c.requires (located c.load_page-row.ensures c.seek-spot.ensures c.after-next.ensures) (entry_read c.depth.ensures c.pointer.ensures) (omega (arith, c.ranges.e)) _ _ c.remove-x.ensures _ _ c.put-at.ensures

pub settle-left-requires : goal.settle-left-requires
settle-left-requires t c =
    remove_settle _ _ c.from_pointer-page.ensures c.if-rank-eq0.false c.requires (located c.load_page-row.ensures c.seek-spot.ensures c.after-next.ensures) (entry_read c.depth.ensures c.pointer.ensures) (omega (arith, c.ranges.e)) _ _ c.remove-x.ensures _ _ c.put-at.ensures _ _ _ c.sweep-state.ensures

pub returns : goal.returns
returns t c =
    remove_post _ _ c.from_pointer-page.ensures c.if-rank-eq0.false c.requires (located c.load_page-row.ensures c.seek-spot.ensures c.after-next.ensures) (entry_read c.depth.ensures c.pointer.ensures) (omega (arith, c.ranges.e)) _ _ c.remove-x.ensures _ _ c.put-at.ensures _ _ _ c.sweep-state.ensures _ _ c.settle-left.ensures
