-- The second byte of a page is its count. Assumes nothing.
use Rattle.index_table.proofs.PageReads.{read_count}
use Rattle.index_table.proofs.layout.count.Goals as goal

pub returns : goal.returns
returns c = read_count _ _ _ _ c.page_start-at.ensures
