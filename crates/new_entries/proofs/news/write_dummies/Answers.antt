-- The dummies between two depths, written. Assumes nothing.
use mathlib.Core.Path.{ap, ◌∙◌}
use native.Mathlib.Omega.{arith}
use Rattle.new_entries.specs.Entries.{dummies_left}
use Rattle.new_entries.proofs.Dummies.{marking_none, marking_room, marking_more}
use Rattle.new_entries.proofs.news.write_dummies.Goals as goal

pub loop-depth-init : goal.loop-depth-init
loop-depth-init c = marking_none _ _ (ap dummies_left c.into_iter-depth-iterator.ensures.into_iter_gives ∙ c.between-depth-items.ensures)

pub write_entry-requires : goal.write_entry-requires
write_entry-requires c = (marking_room c.loop-depth.invariant _ c.in-Some.ensures.steps c.requires.1, omega arith)

pub overflow_add-next : goal.overflow_add-next
overflow_add-next c = omega (arith, marking_room c.loop-depth.invariant _ c.in-Some.ensures.steps c.requires.1, c.loop-depth.invariant.long)

pub loop-depth-preserved : goal.loop-depth-preserved
loop-depth-preserved c = marking_more c.loop-depth.invariant c.in-Some.ensures.steps c.write_entry.auto.index c.write_entry.ensures
