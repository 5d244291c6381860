-- Sound pages are linked, and linked pages that read as a sound tree are sound. Assumes nothing.
use mathlib.Core.Path.{sym, subst}
use mathlib.Core.List.{List, [], ◌∷◌, map}
use Prim.Native.Nat.{ℕ, zero, suc}
use Rattle.page_tree.specs.Rows.{All, Closed}
use Rattle.page_tree.specs.Row.{depth_of}
use Rattle.page_tree.specs.Tree.{Node, depth, Sound}
use Rattle.page_tree.proofs.ClosedRows.{closed_last}
use Rattle.page_tree.proofs.RowMaps.{closed_unmap}
use Rattle.index_table.specs.Layout.{Layout, layout_of, Ref}
use Rattle.index_table.specs.Pages.{pages_at, node_at}
use Rattle.index_table.specs.Soundness.{SoundBelow}
use Rattle.index_table.proofs.NumberLaws.{Bytes}
use Rattle.index_table.proofs.PageRows.{refs_fit}
use Rattle.tree_delete.specs.Keeping.{Linked}
use Rattle.tree_delete.proofs.LinkedDepths.{linked_depth, linked_depths}

module _ (e P : ℕ) (b : List ℕ) where
  abbrev L : Layout
  L = layout_of e

  abbrev node : (n : ℕ) → Ref → Node n
  node n x = node_at 65535 n (pages_at L b) x

  each_linked : (n : ℕ) → ((x : Ref) → SoundBelow L P n b x → Linked L P n b x) → (row : List Ref) → All (SoundBelow L P n b) row → All (Linked L P n b) row
  each_linked n f [] h = tt
  each_linked n f (x ∷ row) h = (f x h.0, each_linked n f row h.1)

  -- An entry that points at a sound page is linked.
  pub sound_linked : Bytes b → (n : ℕ) (x : Ref) → SoundBelow L P (suc n) b x → Linked L P (suc n) b x
  sound_linked bytes zero x h = (h.0, sym (closed_last depth_of x.0 0 (pages_at L b x.1) h.1), refs_fit L b x.1 bytes)
  sound_linked bytes (suc n) x h = (h.0, sym (closed_last depth_of x.0 0 (pages_at L b x.1) h.1), each_linked (suc n) (sound_linked bytes n) (pages_at L b x.1) h.2)

  each_sound : (n : ℕ) → ((x : Ref) → Linked L P n b x → Sound e n (node n x) → SoundBelow L P n b x) → (row : List Ref) → All (Linked L P n b) row → All (Sound e n) (map (node n) row)
      → All (SoundBelow L P n b) row
  each_sound n f [] h s = tt
  each_sound n f (x ∷ row) h s = (f x h.0 s.0, each_sound n f row h.1 s.1)

  -- A linked entry that stands for a sound page is sound.
  pub linked_sound : (n : ℕ) (x : Ref) → Linked L P n b x → Sound e n (node n x) → SoundBelow L P n b x
  unfolding node_at
  linked_sound zero x h s = tt
  linked_sound (suc n) x h s = (
    h.0,
    closed_unmap depth_of (depth n) (node n) x.0 (pages_at L b x.1) (linked_depths e P b n (pages_at L b x.1) h.2)
        (subst (λ (c : ℕ). Closed (depth n) c (map (node n) (pages_at L b x.1))) (linked_depth e P b (suc n) x h) s.0.0),
    each_sound n (linked_sound n) (pages_at L b x.1) h.2 s.1,
  )
