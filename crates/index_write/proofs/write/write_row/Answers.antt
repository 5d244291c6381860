-- The loop's invariant: the entries before place i stand from `at` on. Assumes nothing.
use Rattle.std.proofs.Common.{arith, rules}
use Rattle.index_write.proofs.RowWriting.{written_none, next_room, pointer_fits_lem, written_more, written_all}
use Rattle.index_write.proofs.write.write_row.Goals as goal

pub loop-i-init : goal.loop-i-init
loop-i-init c = (c.requires.1, written_none _ _ _ _)

pub write_entry-requires : goal.write_entry-requires
write_entry-requires c = (
  omega (arith, next_room c.loop-i.invariant.1 (search rules) c.requires.0),
  pointer_fits_lem _ _ (search rules, search rules) _ _ _ c.loop-i.invariant.1.passed (search rules) c.requires.2 c.requires.3,
)

pub loop-i-preserved : goal.loop-i-preserved
loop-i-preserved c =
    (omega arith, written_more _ _ (search rules, search rules) (omega arith) c.loop-i.invariant.1 c.write_entry.auto.index c.write_entry.ensures)

pub shape_of-index : goal.shape_of-index
shape_of-index c = c.loop-i.invariant.1.long

pub returns : goal.returns
returns c = written_all c.loop-i.invariant.1 (search rules) (search rules)
