-- Level by level: the page is searched, and on level 0 the entry is the answer. Assumes nothing.
use mathlib.Core.Path.{◌≡◌, subst, ◌∙◌}
use mathlib.Core.Bool.{Bool}
use mathlib.Core.List.{List}
use native.Mathlib.Omega.{arith}
use Rattle.index_table.specs.Header.{width_of, entries_of}
use Rattle.index_table.specs.Layout.{layout_of}
use Rattle.index_table.specs.Pages.{pages_at}
use Rattle.table_search.specs.Places.{sparse_at, DescendPre, Descended, number_leaf}
use Rattle.table_search.proofs.LeafNumbers.{stop_trail, stop_low, stop_number}
use Rattle.table_search.proofs.Descents.{descend_within, descend_seek, descend_inside, descend_leaf, descend_down, descend_up}
use Prim.Native.Nat.{ℕ}
use Rattle.table_search.proofs.+descend.Goals as goal

-- The header's numbers, as the code holds them.
module _ (b : List ℕ) {n page key position e w : ℕ} (he : e ≡ entries_of b) (hw : w ≡ width_of b) where
  held : {P : ℕ} → DescendPre b (entries_of b) P n page (width_of b) key position → DescendPre b e P n page w key position
  held pre = rw (he, hw) pre

  told : {P : ℕ} → DescendPre b e P n page w key position → DescendPre b (entries_of b) P n page (width_of b) key position
  told pre = rw (he, hw) at pre

  down : {τ : ℕ} {few : Bool} (r above : ℕ) → few ≡ sparse_at e (pages_at (layout_of e) b) above
      → Descended (width_of b) key position τ n few (entries_of b) (pages_at (layout_of (entries_of b)) b) page (number_leaf (pages_at (layout_of (entries_of b)) b) r)
      → Descended w key position τ n (sparse_at e (pages_at (layout_of e) b) above) e (pages_at (layout_of e) b) page (number_leaf (pages_at (layout_of e) b) r)
  down {τ} r above z d =
      subst (λ (t : Bool). Descended w key position τ n t e (pages_at (layout_of e) b) page (number_leaf (pages_at (layout_of e) b) r)) z (rw (he, hw) d)

  up : {τ : ℕ} {few : Bool} (r : ℕ) → Descended w key position τ n few e (pages_at (layout_of e) b) page (number_leaf (pages_at (layout_of e) b) r)
      → Descended (width_of b) key position τ n few (entries_of b) (pages_at (layout_of (entries_of b)) b) page (number_leaf (pages_at (layout_of (entries_of b)) b) r)
  up r d = rw (he, hw) at d

pub seek-s-requires : goal.seek-s-requires
seek-s-requires t c =
    descend_seek (held _ c.read-h.ensures.entries (c.from-w.ensures ∙ c.read-h.ensures.width) c.requires.page_is)

pub pointer-requires : goal.pointer-requires
pointer-requires t c =
    let pre = held _ c.read-h.ensures.entries (c.from-w.ensures ∙ c.read-h.ensures.width) c.requires.page_is in
    (descend_within pre, descend_inside pre _ c.seek-s.ensures)

pub depth-requires : goal.depth-requires
depth-requires t c =
    let pre = held _ c.read-h.ensures.entries (c.from-w.ensures ∙ c.read-h.ensures.width) c.requires.page_is in
    (descend_within pre, descend_inside pre _ c.seek-s.ensures)

pub leaf_number-requires : goal.leaf_number-requires
leaf_number-requires t c =
    let pre = descend_seek (held _ c.read-h.ensures.entries (c.from-w.ensures ∙ c.read-h.ensures.width) c.requires.page_is) in
    stop_low pre _ c.seek-s.ensures _ _ _ (c.from.ensures ∙ c.depth.ensures) c.requires.trail_low (omega (arith, c.read-h.ensures.entries, c.requires.entries_high)) c.pointer.ensures.1

pub returns-then-level-eq0 : goal.returns-then-level-eq0
returns-then-level-eq0 t c =
    let he = c.read-h.ensures.entries in
    let hw = c.from-w.ensures ∙ c.read-h.ensures.width in
    let pre = held _ he hw c.requires.page_is in
    up _ he hw _
    (descend_leaf _ pre c.if-level-eq0.true _ _
    (stop_number (descend_seek pre) _ c.seek-s.ensures _ _ _ (c.from.ensures ∙ c.depth.ensures) c.pointer.ensures.0 c.leaf_number.ensures))

pub child-below-requires : goal.child-below-requires
child-below-requires t c =
    let pre = held _ c.read-h.ensures.entries (c.from-w.ensures ∙ c.read-h.ensures.width) c.requires.page_is in
    (descend_within pre, descend_inside pre _ c.seek-s.ensures)

pub sparse-few-requires : goal.sparse-few-requires
sparse-few-requires t c =
    descend_within (held _ c.read-h.ensures.entries (c.from-w.ensures ∙ c.read-h.ensures.width) c.requires.page_is)

pub descend-requires : goal.descend-requires
descend-requires t c =
    let he = c.read-h.ensures.entries in
    let hw = c.from-w.ensures ∙ c.read-h.ensures.width in
    let pre = held _ he hw c.requires.page_is in (
      omega (arith, c.decreases),
      record {
        page_is = told _ he hw (descend_down _ c.if-level-eq0.false pre _ c.seek-s.ensures _ c.child-below.ensures);
        trail_low = stop_trail (descend_seek pre) _ c.seek-s.ensures c.requires.trail_low;
        entries_high = c.requires.entries_high;
      },
    )

pub returns : goal.returns
returns t c =
    let he = c.read-h.ensures.entries in
    let hw = c.from-w.ensures ∙ c.read-h.ensures.width in
    up _ he hw _
    (descend_up _ c.if-level-eq0.false (held _ he hw c.requires.page_is) _ c.seek-s.ensures _ c.child-below.ensures _ _
    (down _ he hw _ _ c.sparse-few.ensures c.descend.ensures))
