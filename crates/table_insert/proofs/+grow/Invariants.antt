-- One part is the root; else the row stands one level up, with fewer parts. Assumes nothing.
use Rattle.table_insert.proofs.+grow.Given as goal

abbrev pub decreases-grow : goal.decreases-grow
decreases-grow l = l.parts.count
