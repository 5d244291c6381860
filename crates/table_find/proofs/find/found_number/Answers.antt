-- From the root, with the key's first position and no depth before. Assumes nothing.
use native.Mathlib.Omega.{arith}
use Rattle.index_table.proofs.SoundTables.{header_long}
use Rattle.table_find.proofs.FoundLeaves.{root_page, width_high, key_narrow, descend_start, descend_end}
use Rattle.table_find.proofs.find.found_number.Goals as goal

pub read-h-requires : goal.read-h-requires
read-h-requires c = header_long c.requires.0

pub level-level-requires : goal.level-level-requires
level-level-requires c = root_page c.requires.0 _ c.read-h.ensures

pub next_position-position-requires : goal.next_position-position-requires
next_position-position-requires c =
    (width_high c.requires.0 _ c.read-h.ensures _ c.from-w.ensures, omega arith, key_narrow c.requires.0 _ c.read-h.ensures _ _ _ c.from-w.ensures c.level-level.ensures c.requires.1)

pub descend-requires : goal.descend-requires
descend-requires c =
    record {
      page_is = descend_start c.requires.0 _ c.read-h.ensures _ _ _ c.from-w.ensures c.level-level.ensures c.requires.1 _ c.next_position-position.ensures;
      trail_low = omega arith;
      entries_high = c.requires.0.limits.entries_high;
    }

pub returns : goal.returns
returns c =
    descend_end c.requires.0 _ c.read-h.ensures _ _ _ c.from-w.ensures c.level-level.ensures c.requires.1 _ _ c.next_position-position.ensures c.descend.ensures
