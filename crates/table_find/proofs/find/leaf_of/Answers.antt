-- By its number. Assumes nothing.
use Rattle.index_table.proofs.SoundTables.{header_long}
use Rattle.table_find.proofs.FoundLeaves.{found_read, found_place}
use Rattle.table_find.proofs.find.leaf_of.Goals as goal

pub read-e-requires : goal.read-e-requires
read-e-requires c = header_long c.requires.0

pub numbered_leaf-requires : goal.numbered_leaf-requires
numbered_leaf-requires c =
    found_place c.requires.0 c.requires.1 _ c.found_number-number.ensures c.read-e.ensures.entries

pub returns : goal.returns
returns c =
    found_read _ c.found_number-number.ensures c.read-e.ensures.entries c.numbered_leaf.ensures
