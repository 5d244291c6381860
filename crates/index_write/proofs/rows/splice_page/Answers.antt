-- A page with a row in the place of an entry. Assumes nothing.
use native.Mathlib.Omega.{arith}
use Rattle.index_write.proofs.LoadedRows.{entries_counted, spliced_count, spliced_page}
use Rattle.index_write.proofs.rows.splice_page.Goals as goal

pub append_page-requires : goal.append_page-requires
append_page-requires c =
    let pre = c.requires in
    let whole = entries_counted _ _ _ c.from-n.ensures c.count.ensures in
    let before = spliced_count _ _ _ _ _ _ _ c.append_page-first.result pre.inside whole c.new.ensures c.append_page-first.ensures c.append-more.ensures in
    record {
      within = pre.within;
      few = pre.few;
      order = omega (arith, pre.inside, whole);
      inside = omega (arith, whole);
      room = omega (arith, before, whole, pre.inside, pre.few, pre.room);
    }

pub returns : goal.returns
returns c =
    let pre = c.requires in
    let whole = entries_counted _ _ _ c.from-n.ensures c.count.ensures in
    spliced_page _ _ _ _ _ _ _ _ pre.inside whole c.new.ensures c.append_page-first.ensures c.append-more.ensures c.append_page.ensures
