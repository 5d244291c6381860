-- The first byte of a page is its level. Assumes nothing.
use Rattle.index_table.proofs.PageReads.{read_level}
use Rattle.index_table.proofs.layout.level.Goals as goal

pub returns : goal.returns
returns c = read_level _ _ _ _ c.page_start-at.ensures
