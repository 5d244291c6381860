-- The first part is stored in the own page; then the loop stores part after part. Assumes nothing.
use lib.ListN.{take}
use Rattle.page_tree.specs.Row.{places}
use Rattle.page_tree.proofs.RowLaws.{Full}
use Rattle.table_insert.proofs.PlacedParts.{Storing}
use Rattle.table_insert.proofs.place_parts.Given as goal

abbrev pub invariant-loop-k : goal.invariant-loop-k
invariant-loop-k l = Full l.row.depths l.row.pointers × Storing l.e l.pages l.level l.row (take 1 (places l.initial.r)) l.initial.index l.index l.from l.r.depths l.r.pointers l.k
