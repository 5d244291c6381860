-- Two entries a turn; then one more, where it is not the last and is passed. Assumes nothing.
use mathlib.Core.Path.{sym, ◌∙◌}
use native.Mathlib.Omega.{arith}
use lib.Pow.{pow_mono}
use Rattle.index_table.proofs.PageRows.{length_refs}
use Rattle.table_search.proofs.Stops.{depth_inner, read_depth}
use Rattle.table_search.proofs.PageSearches.{seek_begun, bits_low, disc_low, seek_fits, seek_two, halt_last, halt_next, halt_second, stop_at, stop_of_two}
use Rattle.table_search.proofs.seek.Goals as goal

pub loop-i-init : goal.loop-i-init
loop-i-init c =
    let pre = c.requires in (
      c.from-n.ensures ∙ c.count.ensures ∙ sym (length_refs _ _),
      seek_begun pre.width pre.low pre.some pre.high pre.unrepeated _ c.bits_ahead-bits.ensures,
    )

pub last_before-first-requires : goal.last_before-first-requires
last_before-first-requires c =
    let pre = c.requires in
    let d = c.from.ensures ∙ c.depth.ensures in
    (pre.width, c.bits_behind_first-ones.ensures, depth_inner _ _ pre (omega (arith, c.loop-i.invariant.0)) d, (read_depth _ _ pre c.loop-i.invariant.1.seeking.inside d).0)

pub overflow_add-first : goal.overflow_add-first
overflow_add-first c =
    let pre = c.requires in
    let inv = c.loop-i.invariant in
    let d = c.from.ensures ∙ c.depth.ensures in
    let read = read_depth _ _ pre inv.1.seeking.inside d in
    omega (arith, c.last_before-first.ensures, pow_mono pre.width, seek_fits pre.width pre.low inv.1 read.0 read.1 (depth_inner _ _ pre (omega (arith, inv.0)) d))

pub last_before-second-requires : goal.last_before-second-requires
last_before-second-requires c =
    let pre = c.requires in
    let d = c.from-in-loop-i.ensures ∙ c.depth-in-loop-i.ensures in
    (pre.width, c.bits_behind_first-ones.ensures, depth_inner _ _ pre (omega (arith, c.loop-i.invariant.0)) d, (read_depth _ _ pre (omega (arith, c.loop-i.invariant.0)) d).0)

pub spot_of_two-requires : goal.spot_of_two-requires
spot_of_two-requires c =
    let pre = c.requires in
    let by = c.loop-i.invariant.1 in
    (pre.width, bits_low pre.width pre.low by, disc_low pre.width pre.low by, omega (arith, by.seeking.inside, c.loop-i.invariant.0, c.from-n.ensures))

pub returns-then-bits-second : goal.returns-then-bits-second
returns-then-bits-second c =
    let pre = c.requires in
    let inv = c.loop-i.invariant in
    let read = read_depth _ _ pre inv.1.seeking.inside (c.from.ensures ∙ c.depth.ensures) in
    let read2 = read_depth _ _ pre (omega (arith, inv.0)) (c.from-in-loop-i.ensures ∙ c.depth-in-loop-i.ensures) in
    stop_of_two pre.width pre.low inv.1 read.0 read.1 _ c.last_before-first.ensures
    (halt_second pre.width pre.low inv.1 read.0 read.1 read2.0 read2.1 _ _ c.last_before-first.ensures c.last_before-second.ensures (omega (arith, inv.0)) c.if-bits-second.true) _
    c.spot_of_two.ensures

pub loop-i-preserved : goal.loop-i-preserved
loop-i-preserved c =
    let pre = c.requires in
    let inv = c.loop-i.invariant in
    let read = read_depth _ _ pre inv.1.seeking.inside (c.from.ensures ∙ c.depth.ensures) in
    let read2 = read_depth _ _ pre (omega (arith, inv.0)) (c.from-in-loop-i.ensures ∙ c.depth-in-loop-i.ensures) in (
      inv.0,
      seek_two pre.width pre.low inv.1 read.0 read.1 read2.0 read2.1 _ _ c.last_before-first.ensures c.last_before-second.ensures (omega (arith, inv.0)) c.if-bits-second.false,
    )

pub last_before-last-requires : goal.last_before-last-requires
last_before-last-requires c =
    let pre = c.requires in
    let d = c.from-then-i-n.ensures ∙ c.depth-then-i-n.ensures in
    (pre.width, c.bits_behind_first-ones.ensures, depth_inner _ _ pre (omega (arith, c.loop-i.invariant.0)) d, (read_depth _ _ pre c.loop-i.invariant.1.seeking.inside d).0)

pub spot_of_two-requires-then-i-n : goal.spot_of_two-requires-then-i-n
spot_of_two-requires-then-i-n c =
    let pre = c.requires in
    let by = c.loop-i.invariant.1 in
    (pre.width, bits_low pre.width pre.low by, disc_low pre.width pre.low by, omega (arith, by.seeking.inside, c.loop-i.invariant.0, c.from-n.ensures))

pub returns-then-i-n : goal.returns-then-i-n
returns-then-i-n c =
    let pre = c.requires in
    let inv = c.loop-i.invariant in
    let read = read_depth _ _ pre inv.1.seeking.inside (c.from-then-i-n.ensures ∙ c.depth-then-i-n.ensures) in
    stop_of_two pre.width pre.low inv.1 read.0 read.1 _ c.last_before-last.ensures
    (halt_next pre.width pre.low inv.1 read.0 read.1 _ c.last_before-last.ensures (omega (arith, inv.0, c.if-i-n.true)) (omega (arith, inv.0, c.loop-i-test.false))) _
    c.spot_of_two-then-i-n.ensures

pub spot_at-requires : goal.spot_at-requires
spot_at-requires c =
    let pre = c.requires in
    (pre.width, bits_low pre.width pre.low c.loop-i.invariant.1, disc_low pre.width pre.low c.loop-i.invariant.1)

pub returns : goal.returns
returns c =
    let pre = c.requires in
    let inv = c.loop-i.invariant in
    stop_at pre.width pre.low (halt_last pre.width pre.low inv.1 (omega (arith, inv.0, c.if-i-n.false))) _ c.spot_at.ensures
