-- Rank by rank, to the first entry of each page. Assumes nothing.
use Rattle.tree_delete.proofs.removal.+first_depth.Given as goal

abbrev pub decreases-first_depth : goal.decreases-first_depth
decreases-first_depth l = l.rank
