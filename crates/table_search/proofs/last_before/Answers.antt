-- All bits behind the depth are set, which an or does. Assumes nothing.
use Rattle.table_search.proofs.PageDiscriminators.{ones_behind, or_behind}
use Rattle.table_search.proofs.last_before.Goals as goal

pub returns : goal.returns
returns c = or_behind _ _ _ _ (ones_behind _ _ _ c.requires.2 c.requires.3 c.requires.1)
