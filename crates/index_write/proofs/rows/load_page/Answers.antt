-- A whole page as a row. Assumes nothing.
use native.Mathlib.Omega.{arith}
use Rattle.index_write.proofs.LoadedRows.{entries_counted, whole_page}
use Rattle.index_write.proofs.rows.load_page.Goals as goal

pub append_page-requires : goal.append_page-requires
append_page-requires c =
    let pre = c.requires in
    let whole = entries_counted _ _ _ c.from-n.ensures c.count.ensures in
    record {
      within = pre.0;
      few = pre.1;
      order = omega arith;
      inside = omega (arith, whole);
      room = omega (arith, c.new.ensures.count, whole, pre.1);
    }

pub returns : goal.returns
returns c =
    let whole = entries_counted _ _ _ c.from-n.ensures c.count.ensures in
    whole_page _ _ _ _ c.new.ensures whole c.append_page.ensures
