-- Level by level to the place of the lower end, and back to the right on each level. Assumes nothing.
use Rattle.table_list.proofs.+list_from.Given as goal

abbrev pub decreases-list_from : goal.decreases-list_from
decreases-list_from l = l.level
