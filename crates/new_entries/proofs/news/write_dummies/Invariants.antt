-- The dummies between two depths, written. Assumes nothing.
use mathlib.Core.List.{[]}
use Rattle.leaf_list.specs.Keys.{bits}
use Rattle.leaf_list.specs.Search.{positions}
use Rattle.leaf_list.specs.Insertion.{dummies}
use Rattle.new_entries.specs.Entries.{dummies_left}
use Rattle.new_entries.proofs.Dummies.{Marking}
use Rattle.new_entries.proofs.news.write_dummies.Given as goal

abbrev pub invariant-loop-depth : goal.invariant-loop-depth
invariant-loop-depth l = Marking l.initial.index l.at (dummies l.low l.high (positions 0 (bits l.w l.key)) []) l.index l.next (dummies_left l.depth-iterator)
