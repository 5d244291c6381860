-- The entries behind are moved down, zeros behind them, and the count set. Assumes nothing.
use native.Mathlib.Omega.{arith}
use Rattle.page_change.proofs.PageChanges.{row_count, close_room, close_zeros, entries_closed}
use Rattle.page_change.proofs.close.close.Goals as goal

pub overflow_sub-free : goal.overflow_sub-free
overflow_sub-free c =
    omega (arith, row_count c.requires.0 _ _ c.requires.1 c.requires.2 c.count.ensures c.from-n.ensures, c.requires.0.few, c.from.ensures)

pub overflow_sub-n : goal.overflow_sub-n
overflow_sub-n c =
    omega (arith, row_count c.requires.0 _ _ c.requires.1 c.requires.2 c.count.ensures c.from-n.ensures, c.requires.2)

pub close_up-requires : goal.close_up-requires
close_up-requires c =
    let place = c.page_start-at.ensures in
    let few = c.from.ensures in
    (rw few (close_room c.requires.0 _ _ c.requires.1 c.requires.2 c.count.ensures c.from-n.ensures _ place), rw few (close_zeros c.requires.0 _ _ c.requires.1 c.requires.2 c.count.ensures c.from-n.ensures _ place))

pub overflow_sub-index : goal.overflow_sub-index
overflow_sub-index c =
    omega (arith, row_count c.requires.0 _ _ c.requires.1 c.requires.2 c.count.ensures c.from-n.ensures, c.requires.2)

pub returns : goal.returns
returns c =
    entries_closed c.requires.0 _ _ c.requires.1 c.requires.2 c.count.ensures c.from-n.ensures _ _ c.page_start-at.ensures c.close_up.ensures
