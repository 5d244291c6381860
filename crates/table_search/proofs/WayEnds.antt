-- The page at the end of the way down. Assumes nothing.
use mathlib.Core.Path.{sym, ap, subst}
use mathlib.Core.Bool.{Bool}
use mathlib.Core.List.{List}
use Prim.Native.Nat.{ℕ, zero, suc, ◌<◌}
use lib.ListN.{length, get_or}
use Rattle.index_table.specs.Layout.{layout_of, Ref}
use Rattle.index_table.specs.Pages.{pages_at}
use Rattle.index_table.specs.Soundness.{SizedPage}
use Rattle.table_search.specs.declared.Leaf.{Leaf}
use Rattle.table_search.specs.Places.{sparse_at, DescendPre, Way}
use Rattle.table_search.proofs.Stops.{read_entry}
use Rattle.table_search.proofs.Descents.{descend_child}

-- It is a page of level 0, and the entry found is in it.
pub way_end : {b : List ℕ} {e P w key : ℕ} (leaf : Leaf) (n τ : ℕ) (few : Bool) {page position : ℕ} → DescendPre b e P n page w key position → Way w key e (pages_at (layout_of e) b) n page position τ few leaf
    → SizedPage (layout_of e) P 0 b leaf.page.0 × (leaf.at < length (pages_at (layout_of e) b leaf.page.0))
way_end {b} {e} {P} leaf zero τ few pre way =
    subst (λ (p : ℕ). SizedPage (layout_of e) P 0 b p × (leaf.at < length (pages_at (layout_of e) b p))) (sym way.page_is) (pre.sound.0, way.place.inside)
way_end {b} {e} leaf (suc n) τ few {page} pre way =
    way_end leaf n way.0.trail (sparse_at e (pages_at (layout_of e) b) page)
    (descend_child n pre way.0 way.1 (get_or (pages_at (layout_of e) b page) way.0.at (0, 0)).1 (ap (λ (z : Ref). z.1) (sym (read_entry (layout_of e) b page way.0.at way.1.inside))))
    way.2
