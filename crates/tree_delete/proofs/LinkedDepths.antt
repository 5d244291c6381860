-- What a linked entry stands for has the entry's depth. Assumes nothing.
use mathlib.Core.Path.{◌≡◌, refl, sym, ◌∙◌}
use mathlib.Core.List.{List, [], ◌∷◌}
use Prim.Native.Nat.{ℕ, zero, suc}
use Rattle.page_tree.specs.Rows.{All}
use Rattle.page_tree.specs.Row.{depth_of}
use Rattle.page_tree.specs.Tree.{depth}
use Rattle.page_tree.proofs.RowMaps.{last_depth_map}
use Rattle.index_table.specs.Layout.{layout_of, Ref}
use Rattle.index_table.specs.Pages.{pages_at, node_at}
use Rattle.tree_delete.specs.Keeping.{Linked}

module _ (e P : ℕ) (b : List ℕ) where
  each_depth : (n : ℕ) → ((x : Ref) → Linked (layout_of e) P n b x → depth n (node_at 65535 n (pages_at (layout_of e) b) x) ≡ x.0) → (row : List Ref) → All (Linked (layout_of e) P n b) row
      → All (λ x. depth n (node_at 65535 n (pages_at (layout_of e) b) x) ≡ depth_of x) row
  each_depth n f [] h = tt
  each_depth n f (x ∷ row) h = (f x h.0, each_depth n f row h.1)

  pub linked_depth : (n : ℕ) (x : Ref) → Linked (layout_of e) P n b x → depth n (node_at 65535 n (pages_at (layout_of e) b) x) ≡ x.0
  unfolding node_at
  linked_depth zero x h = refl
  linked_depth (suc n) x h =
      last_depth_map depth_of (depth n) (node_at 65535 n (pages_at (layout_of e) b)) 0 (pages_at (layout_of e) b x.1) (each_depth n (linked_depth n) (pages_at (layout_of e) b x.1) h.2) ∙ sym h.1

  -- So it is with a row of them.
  pub linked_depths : (n : ℕ) (row : List Ref) → All (Linked (layout_of e) P n b) row → All (λ x. depth n (node_at 65535 n (pages_at (layout_of e) b) x) ≡ depth_of x) row
  linked_depths n row h = each_depth n (linked_depth n) row h
