-- Level by level: the page is searched, what lies below the entry found is merged, and then the entry's neighbours are looked at. Assumes nothing.
use Rattle.tree_merge.proofs.+merge.Given as goal

abbrev pub decreases-merge : goal.decreases-merge
decreases-merge l = l.level
