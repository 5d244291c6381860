-- A free page is found, and the part is stored in it. Assumes nothing.
use native.Mathlib.Omega.{arith}
use Rattle.index_table.proofs.PageBytes.{within_table}
use Rattle.table_insert.proofs.place_part.Goals as goal

pub store_page-requires : goal.store_page-requires
store_page-requires c =
    let pre = c.requires in
    record {
      within = within_table _ _ _ c.args.index.now pre.table c.find_free-page.ensures.0;
      order = omega arith;
      places = pre.places;
      few = omega arith;
      fitting = pre.fitting;
    }

pub returns : goal.returns
returns c =
    record {
      number = c.find_free-page.ensures.0;
      free = c.find_free-page.ensures.1;
      stored = c.store_page.ensures;
    }
