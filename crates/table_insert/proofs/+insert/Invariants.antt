-- Level by level: the entry found is replaced, the page's row is spliced, and placed again. Assumes nothing.
use Rattle.table_insert.proofs.+insert.Given as goal

abbrev pub decreases-insert : goal.decreases-insert
decreases-insert l = l.level
