-- The left page is loaded, the right one's entries are appended, the row is stored in the left page, and the right one is freed. Assumes nothing.
use borrow.Author.Rules.{rules}
use native.Mathlib.Omega.{arith}
use Rattle.index_write.proofs.LoadedRows.{entries_counted}
use Rattle.tree_merge.proofs.GatheredPages.{gather_load, gather_store, gather_post}
use Rattle.tree_merge.proofs.gather.Goals as goal

pub append_page-row-requires : goal.append_page-row-requires
append_page-row-requires c =
    let entries = entries_counted _ _ _ c.from-n.ensures c.count.ensures in
    gather_load c.requires c.load_page-first.ensures entries (omega (arith, c.ranges.e))

pub store_page-requires : goal.store_page-requires
store_page-requires c =
    let entries = entries_counted _ _ _ c.from-n.ensures c.count.ensures in
    gather_store c.requires c.load_page-first.ensures entries c.append_page-row.ensures (omega (arith, c.ranges.e)) (search rules)

pub returns : goal.returns
returns c =
    let entries = entries_counted _ _ _ c.from-n.ensures c.count.ensures in
    gather_post c.requires c.load_page-first.ensures entries c.append_page-row.ensures _ _ _ c.store_page.ensures c.free_page.ensures
