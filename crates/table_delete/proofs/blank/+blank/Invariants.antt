-- Level by level: the page is searched, and on level 0 the entry may become a dummy. Assumes nothing.
use Rattle.table_delete.proofs.blank.+blank.Given as goal

abbrev pub decreases-blank : goal.decreases-blank
decreases-blank l = l.level
