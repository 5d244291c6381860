-- The tail is moved, and the count set. Assumes nothing.
use borrow.Author.Rules.{rules}
use native.Mathlib.Omega.{arith}
use Rattle.index_write.proofs.LoadedRows.{entries_counted}
use Rattle.page_change.proofs.OpenedPages.{page_opened}
use Rattle.page_change.proofs.open.open_page.Goals as goal

pub overflow_sub-n : goal.overflow_sub-n
overflow_sub-n c =
    let pre = c.requires in
    omega (arith, entries_counted _ _ _ c.from-n.ensures c.count.ensures, pre.inside)

pub overflow_sub-n-2 : goal.overflow_sub-n-2
overflow_sub-n-2 c =
    let pre = c.requires in
    omega (arith, entries_counted _ _ _ c.from-n.ensures c.count.ensures, pre.inside)

pub move_up-requires : goal.move_up-requires
move_up-requires c =
    let pre = c.requires in
    omega (arith, entries_counted _ _ _ c.from-n.ensures c.count.ensures, c.page_start-start.ensures, pre.inside, pre.room, pre.some, pre.within)

pub overflow_cast-index : goal.overflow_cast-index
overflow_cast-index c =
    let pre = c.requires in
    omega (arith, entries_counted _ _ _ c.from-n.ensures c.count.ensures, pre.inside, pre.room, pre.some)

pub returns : goal.returns
returns c =
    page_opened c.requires (search rules) c.page_start-start.ensures (entries_counted _ _ _ c.from-n.ensures c.count.ensures) c.move_up.ensures
