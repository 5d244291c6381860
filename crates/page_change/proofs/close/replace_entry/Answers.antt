-- The entry's bytes are written where it stands. Assumes nothing.
use Rattle.page_change.proofs.PageChanges.{entry_replaced}
use Rattle.page_change.proofs.close.replace_entry.Goals as goal

pub returns : goal.returns
returns c =
    entry_replaced c.requires.0 _ c.requires.1 _ _ _ _ c.page_start-at.ensures c.write_entry.ensures
