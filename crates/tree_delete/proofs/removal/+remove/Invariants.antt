-- Rank by rank: down to the place found in the page, back over its row, and the page is settled. Assumes nothing.
use Rattle.tree_delete.proofs.removal.+remove.Given as goal

abbrev pub decreases-remove : goal.decreases-remove
decreases-remove l = l.rank
