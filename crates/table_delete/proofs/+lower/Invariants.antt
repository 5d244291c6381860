-- Level by level: a root with one entry is freed. Assumes nothing.
use Rattle.table_delete.proofs.+lower.Given as goal

abbrev pub decreases-lower : goal.decreases-lower
decreases-lower l = l.level
