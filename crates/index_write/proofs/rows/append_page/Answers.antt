-- The entries of a page appended to a row. Assumes nothing.
use mathlib.Core.Path.{◌≡◌, sym, ap₂, ◌∙◌}
use mathlib.Core.List.{List}
use Prim.Native.Nat.{ℕ, ◌<◌}
use lib.ListN.{length, get_or}
use borrow.Author.Rules.{rules}
use native.Mathlib.Omega.{arith}
use Rattle.page_tree.proofs.RowLaws.{appended_none, appended_next, appended_all}
use Rattle.index_table.specs.Layout.{Layout, page_bytes, ref_at, Ref}
use Rattle.index_table.specs.Pages.{pages_at}
use Rattle.index_table.proofs.PageRows.{length_refs, get_d_refs}
use Rattle.index_write.proofs.rows.append_page.Goals as goal

read_at : (L : Layout) (b : List ℕ) (p i : ℕ) {d q : ℕ} → i < length (pages_at L b p) → d ≡ (ref_at L (page_bytes L b p) i).0 → q ≡ (ref_at L (page_bytes L b p) i).1
    → ◌≡◌ {A = Ref} (get_or (pages_at L b p) i (0, 0)) (d, q)
read_at L b p i h d q = get_d_refs L (page_bytes L b p) i (0, 0) (omega (arith, h, length_refs L (page_bytes L b p))) ∙ sym (ap₂ (λ (x y : ℕ). (x, y)) d q)

pub loop-i-init : goal.loop-i-init
loop-i-init c =
    let pre = c.requires in
    (pre.order, pre.within, pre.inside, pre.few, pre.room, appended_none _ _ _ _ _ (search rules, search rules))

pub depth-requires : goal.depth-requires
depth-requires c =
    let inv = c.loop-i.invariant in
    (inv.1, omega (arith, inv.2, inv.3))

pub pointer-requires : goal.pointer-requires
pointer-requires c =
    let inv = c.loop-i.invariant in
    (inv.1, omega (arith, inv.2, inv.3))

pub loop-i-preserved : goal.loop-i-preserved
loop-i-preserved c =
    let inv = c.loop-i.invariant in (
      omega arith,
      inv.1,
      inv.2,
      inv.3,
      inv.4,
      appended_next (omega (arith, inv.2)) (omega (arith, inv.4, inv.5.count, inv.5.passed)) (read_at _ _ _ _ (omega (arith, inv.2)) c.depth.ensures c.pointer.ensures.0) inv.5,
    )

pub returns : goal.returns
returns c =
    let all = appended_all c.loop-i.invariant.0 (omega arith) c.loop-i.invariant.5 in
    record { count = all.0; entries = all.1 }
