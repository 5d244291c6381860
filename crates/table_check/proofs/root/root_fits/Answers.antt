-- The root's level and its entries. Assumes nothing.
use Rattle.table_check.proofs.WholeTree.{root_entries}
use Rattle.table_check.proofs.root.root_fits.Goals as goal

pub returns-else-level-eq0 : goal.returns-else-level-eq0
returns-else-level-eq0 c = root_entries c.args.h c.args.index.now _ _ c.if-level-le-MAX_LEVEL.true c.if-level-eq0.false c.count.ensures
