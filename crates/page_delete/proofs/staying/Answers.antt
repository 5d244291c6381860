-- The loop's invariant: the entries from i on go. Assumes nothing.
use Rattle.std.proofs.Common.{refl, arith}
use Rattle.index_table.proofs.Pointers.{dummy_pointer, live_pointer}
use Rattle.page_delete.proofs.StayingEntries.{going_more, going_live, going_shallow}
use Rattle.page_delete.proofs.staying.Goals as goal

pub returns-in-Live : goal.returns-in-Live
returns-in-Live c =
    going_live c.args.e c.args.index.now c.args.page.0 c.loop-i.invariant (omega (arith, c.loop-i-test.true)) c.requires.1 refl (live_pointer _ _ _ c.record.ensures c.in-Live.is).0

pub returns-then-depth-than : goal.returns-then-depth-than
returns-then-depth-than c =
    going_shallow c.args.e c.args.index.now c.args.page.0 c.loop-i.invariant (omega (arith, c.loop-i-test.true)) c.requires.1 refl (dummy_pointer _ _ c.record.ensures c.in_default.is) c.depth.ensures (omega (arith, c.if-depth-than.true))

pub loop-i-preserved : goal.loop-i-preserved
loop-i-preserved c =
    going_more c.args.e c.args.index.now c.args.page.0 c.loop-i.invariant (omega (arith, c.loop-i-test.true)) c.requires.1 refl (dummy_pointer _ _ c.record.ensures c.in_default.is) c.depth.ensures (omega (arith, c.if-depth-than.false))
