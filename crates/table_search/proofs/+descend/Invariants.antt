-- Level by level: the page is searched, and on level 0 the entry is the answer. Assumes nothing.
use Rattle.table_search.proofs.+descend.Given as goal

abbrev pub decreases-descend : goal.decreases-descend
decreases-descend l = l.level
