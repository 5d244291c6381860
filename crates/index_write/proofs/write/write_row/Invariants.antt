-- The loop's invariant: the entries before place i stand from `at` on. Assumes nothing.
use Rattle.std.proofs.Common.{◌≤◌}
use Rattle.page_tree.specs.Row.{places}
use Rattle.index_write.proofs.RowWriting.{Written}
use Rattle.index_write.proofs.write.write_row.Given as goal

abbrev pub invariant-loop-i : goal.invariant-loop-i
invariant-loop-i l = (l.i ≤ l.to) × Written l.initial.index l.at (places l.row) l.from l.i l.next l.index
