-- The entries of a page of level 0: after each turn what is left is in order exactly if the whole row is. Assumes nothing.
use Rattle.std.proofs.Common.{◌+◌, ◌-◌, ◌∙◌, refl, arith, eq-eqb, ne_eqb}
use Rattle.leaf_check.proofs.RowTurns.{entry_few, row_start, row_depth, row_all, leaf_sound, leaf_closed, leaf_last}
use Rattle.leaf_check.proofs.UncountedTurns.{carried_uncounted, carried_counted, too_many_live, turn_counted}
use Rattle.leaf_check.proofs.PassTurns.{named_few, turn_at, pass_begun, first_stops, pass_ends, pass_stops, pass_goes}
use Rattle.leaf_check.proofs.DepthTable.{masked}
use Rattle.leaf_check.proofs.EntryTests.{one_fault}
use Rattle.leaf_check.proofs.leaves.scan_leaves.Goals as goal

pub pointer-first-requires : goal.pointer-first-requires
pointer-first-requires c =
    let pre = c.requires in
    (pre.within, entry_few c.args.h _ _ _ 0 (c.from-n.ensures ∙ c.count.ensures) pre.few (omega (arith, c.if-n-eq0.false)))

pub depth-d-requires : goal.depth-d-requires
depth-d-requires c = (c.requires.within, named_few c.loop-i.invariant.named c.requires.few (omega (arith, c.loop-i-test.true)))

pub pointer-p-requires : goal.pointer-p-requires
pointer-p-requires c = (c.requires.within, named_few c.loop-i.invariant.named c.requires.few (omega (arith, c.loop-i-test.true)))

pub depth-d-requires-2 : goal.depth-d-requires-2
depth-d-requires-2 c = (c.requires.within, named_few c.loop-i.invariant.named c.requires.few (omega arith))

pub pointer-p-requires-2 : goal.pointer-p-requires-2
pointer-p-requires-2 c = (c.requires.within, named_few c.loop-i.invariant.named c.requires.few (omega arith))

pub returns-then-n-eq0 : goal.returns-then-n-eq0
returns-then-n-eq0 c = row_all (row_start _ _ _ (c.from-n.ensures ∙ c.count.ensures) (λ q. omega arith) c.requires.carried) (omega (arith, c.if-n-eq0.true))

pub returns-then-s : goal.returns-then-s
returns-then-s c = leaf_closed (row_start _ _ _ (c.from-n.ensures ∙ c.count.ensures) (λ q. omega arith) c.requires.carried) (omega (arith, c.if-n-eq0.false)) c.if-s.true

pub returns-then-not-record_told : goal.returns-then-not-record_told
returns-then-not-record_told c =
    let pre = c.requires in
    first_stops
    (row_start _ _ _ (c.from-n.ensures ∙ c.count.ensures) (λ q. omega arith) (carried_uncounted (omega arith) pre.carried))
    c.if-s.false (omega (arith, c.if-n-eq0.false)) c.pass_start-pass.result.disc c.pass_start-pass.result.low (rw (← c.pointer-first.ensures.0, ← c.record_told.ensures) c.if-not-record_told.true) (omega arith) _ one_fault

pub loop-i-init : goal.loop-i-init
loop-i-init c =
    let pre = c.requires in
    record {
      named = record {
        width = c.from-w.ensures;
        held = refl;
        low = omega arith;
        close = c.from-close.ensures;
        count = c.from-n.ensures ∙ c.count.ensures;
        few = omega arith;
        most = rw (← c.from-w.ensures, ← c.from-close.ensures) c.bits_behind-most.ensures;
        last = omega (arith, c.if-n-eq0.false);
      };
      turn = pass_begun (row_start _ _ _ (c.from-n.ensures ∙ c.count.ensures) (λ q. omega arith) (carried_uncounted (omega arith) pre.carried))
          c.if-s.false c.from-w.ensures c.from-close.ensures c.pass_start-pass.ensures
          (rw (← c.pointer-first.ensures.0, ← c.record_told.ensures) c.if-not-record_told.false);
    }

pub returns-in_default : goal.returns-in_default
returns-in_default c =
    let pre = c.requires in
    let named = c.loop-i.invariant.named in
    pass_stops c.loop-i.invariant.turn (omega (arith, named.last, c.loop-i-test.true)) pre.width named.most (masked pre.depths c.from.ensures (omega (arith, c.from.ensures, c.depth-d.type_inv)) c.depth-d.ensures) c.pointer-p.ensures.0 c.in_default.ensures pre.register
    refl (omega (arith, named.held, named.low)) _ c.refused.ensures

pub loop-i-preserved : goal.loop-i-preserved
loop-i-preserved c =
    let pre = c.requires in
    let named = c.loop-i.invariant.named in
    record {
      named = named;
      turn = pass_goes c.loop-i.invariant.turn (omega (arith, named.last, c.loop-i-test.true)) pre.width named.most (masked pre.depths c.from.ensures (omega (arith, c.from.ensures, c.depth-d.type_inv)) c.depth-d.ensures) c.pointer-p.ensures.0 c.in-Some.ensures pre.register
          _ refl (omega (arith, pre.carried.live, named.held, named.low, named.few, named.last, c.loop-i-test.true));
    }

pub scan_behind-scan-requires : goal.scan_behind-scan-requires
scan_behind-scan-requires c =
    let pre = c.requires in
    let named = c.loop-i.invariant.named in
    (pre.within, omega (arith, named_few {i = c.from-n.result - 1} named pre.few (omega arith)), omega (arith, pre.carried.live, named.held, named.low), (turn_at {n = c.from-n.result - 1} (omega arith) c.loop-i.invariant.turn).few)

pub returns-then-held-scan : goal.returns-then-held-scan
returns-then-held-scan c =
    let named = c.loop-i.invariant.named in
    too_many_live (pass_ends (turn_at (omega arith) c.loop-i.invariant.turn) named.most c.scan_behind-scan.ensures) (omega (arith, c.if-held-scan.true, named.held)) _ one_fault

pub returns-then-d-c : goal.returns-then-d-c
returns-then-d-c c =
    let named = c.loop-i.invariant.named in
    row_depth (turn_counted (pass_ends (turn_at (omega arith) c.loop-i.invariant.turn) named.most c.scan_behind-scan.ensures) (omega (arith, named.held, named.low)) (omega (arith, c.if-held-scan.false, named.held))) (omega (arith, named.last)) _ c.depth-d-2.ensures
    (rw (eq-eqb (c.from-n.result - 1 + 1) c.from-n.result (omega (arith, named.last))) (ne_eqb c.depth-d-2.result c.args.c (λ z. omega (arith, c.if-d-c.true)))) _ one_fault

pub scan_entry-requires : goal.scan_entry-requires
scan_entry-requires c =
    let pre = c.requires in
    let named = c.loop-i.invariant.named in
    (omega (arith, pre.width, named.width), named.low, rw (named.width, named.held) (carried_counted (pass_ends (turn_at (omega arith) c.loop-i.invariant.turn) named.most c.scan_behind-scan.ensures).turned.carried (omega (arith, c.if-held-scan.false, named.held))), rw named.width pre.register)

pub returns : goal.returns
returns c =
    let named = c.loop-i.invariant.named in
    leaf_last (turn_counted (pass_ends (turn_at (omega arith) c.loop-i.invariant.turn) named.most c.scan_behind-scan.ensures) (omega (arith, named.held, named.low)) (omega (arith, c.if-held-scan.false, named.held))) (omega (arith, named.last)) _ c.depth-d-2.ensures c.if-d-c.false
    (leaf_sound _ _ _ _ _ named.width named.held (c.from-2.ensures ∙ c.depth-d-2.ensures) c.pointer-p-2.ensures.0 c.scan_entry.ensures)
