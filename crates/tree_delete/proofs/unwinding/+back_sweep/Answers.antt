-- Rank by rank: an entry is passed with the row of the page below it, and a row entry by entry. Assumes nothing.
use borrow.Author.Rules.{rules}
use mathlib.Core.Path.{refl}
use native.Mathlib.Omega.{arith}
use Rattle.tree_delete.proofs.Sweeps.{back_leaf, down_load, down_sweep, down_settle, back_up}
use Rattle.tree_delete.proofs.SweepTurns.{sweep_idle, sweep_out, sweep_back, sweep_step, entry_read}
use Rattle.tree_delete.proofs.unwinding.+back_sweep.Goals as goal

pub back-returns-then-rank-eq0 : goal.back-returns-then-rank-eq0
back-returns-then-rank-eq0 t c = back_leaf _ _ _ c.if-rank-eq0.true c.step.ensures

pub back-load_page-row-requires : goal.back-load_page-row-requires
back-load_page-row-requires t c = down_load _ _ c.from_pointer-page.ensures c.if-rank-eq0.false c.requires

pub back-sweep-state-requires : goal.back-sweep-state-requires
back-sweep-state-requires t c =
    (let m = c.decreases in omega (arith, m, c.if-rank-eq0.false), down_sweep _ _ _ c.from_pointer-page.ensures c.if-rank-eq0.false c.requires c.load_page-row.ensures (omega (arith, c.ranges.e)))

pub back-settle-left-requires : goal.back-settle-left-requires
back-settle-left-requires t c = down_settle _ _ _ _ c.from_pointer-page.ensures c.if-rank-eq0.false c.requires c.load_page-row.ensures.count refl c.sweep-state.ensures

pub back-returns : goal.back-returns
back-returns t c =
    back_up _ _ _ _ c.from_pointer-page.ensures c.if-rank-eq0.false c.requires c.load_page-row.ensures _ _ _ c.sweep-state.ensures _ _ c.settle-left.ensures

pub sweep-returns-then-eq : goal.sweep-returns-then-eq
sweep-returns-then-eq t c = sweep_idle c.loop-i.invariant _ (omega (arith, c.loop-i-test.true)) c.close.ensures (search (rules, c.eq.ensures, c.if-eq.true))

pub sweep-back-x-requires : goal.sweep-back-x-requires
sweep-back-x-requires t c =
    (let m = c.decreases in omega (arith, m), sweep_back c.loop-i.invariant c.loop-i-test.true (entry_read c.depth.ensures c.pointer.ensures))

pub sweep-loop-i-preserved : goal.sweep-loop-i-preserved
sweep-loop-i-preserved t c =
    sweep_step c.loop-i.invariant c.loop-i-test.true (entry_read c.depth.ensures c.pointer.ensures) _ _ c.back-x.ensures _ _ c.put-at.ensures

pub sweep-returns : goal.sweep-returns
sweep-returns t c = sweep_out c.loop-i.invariant _ (omega (arith, c.loop-i-test.false)) c.close-2.ensures
