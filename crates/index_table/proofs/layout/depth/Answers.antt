-- The first byte of an entry is its depth. Assumes nothing.
use Rattle.index_table.proofs.PageReads.{read_depth}
use Rattle.index_table.proofs.layout.depth.Goals as goal

pub returns : goal.returns
returns c = read_depth _ _ _ _ _ c.page_start-at.ensures c.requires.0 c.requires.1
