-- The dummies between two depths, behind the entries of a row. Assumes nothing.
use Rattle.std.proofs.Common.{[], take}
use Rattle.leaf_list.specs.Keys.{bits}
use Rattle.leaf_list.specs.Search.{positions}
use Rattle.leaf_list.specs.Insertion.{dummies}
use Rattle.page_tree.specs.Row.{places}
use Rattle.new_entries.specs.Entries.{dummies_left}
use Rattle.new_entries.proofs.Dummies.{Dummying}
use Rattle.new_entries.proofs.news.push_dummies.Given as goal

abbrev pub invariant-loop-depth : goal.invariant-loop-depth
invariant-loop-depth l =
    Dummying (take l.initial.r.count (places l.initial.r)) l.initial.r.count (dummies l.low l.high (positions 0 (bits l.w l.key)) [])
    l.r.count l.r.depths l.r.pointers (dummies_left l.depth-iterator)
