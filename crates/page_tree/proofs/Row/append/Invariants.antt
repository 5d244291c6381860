-- `page_tree::Row::append` meets its contract. Assumes nothing.
use Rattle.std.proofs.Common.{◌+◌, ◌-◌, ◌≤◌, take}
use Rattle.page_tree.specs.Row.{places}
use Rattle.page_tree.proofs.RowLaws.{Appended}
use Rattle.page_tree.proofs.Row.append.Given as goal

abbrev pub invariant-loop-i : goal.invariant-loop-i
invariant-loop-i l =
    (l.i ≤ l.to) × (l.to ≤ 319) × (l.initial.k + (l.to - l.from) ≤ 319) × Appended l.from l.i l.initial.k l.k (take l.initial.k (places l.initial.r)) (places l.other) l.r.depths l.r.pointers
