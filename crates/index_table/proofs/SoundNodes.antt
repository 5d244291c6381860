-- Sound pages read as a sound tree, with the depths that their entries say (01, "for every parent entry the depth equals the last depth of its child"). Assumes nothing.
use mathlib.Core.Path.{◌≡◌, refl, ◌∙◌}
use mathlib.Core.List.{List, [], ◌∷◌, map}
use Prim.Native.Nat.{ℕ, zero, suc}
use lib.ListN.{length-map}
use Rattle.page_tree.specs.Rows.{All, Closed}
use Rattle.page_tree.specs.Tree.{Node, depth, Sound, SoundTree, RootRule}
use Rattle.page_tree.proofs.ClosedRows.{closed_last, closed_page}
use Rattle.index_table.specs.Layout.{Layout, Ref}
use Rattle.index_table.specs.Pages.{pages_at, node_at, tree_at, root_ref}
use Rattle.index_table.specs.Soundness.{SoundBelow, SoundPages}

-- A closed row, of things with the same depths.
closed_map : {A B : Type 0} (d : A → ℕ) (d' : B → ℕ) (f : A → B) (c : ℕ) (xs : List A) → All (λ x. d' (f x) ≡ d x) xs → Closed d c xs → Closed d' c (map f xs)
closed_map d d' f c [] h g = g
closed_map d d' f c (x ∷ []) h g = h.0 ∙ g
closed_map d d' f c (x ∷ y ∷ xs) h g = (rw h.0 g.0, closed_map d d' f c (y ∷ xs) h.1 g.1)

module _ (nil : ℕ) (L : Layout) (P : ℕ) (b : List ℕ) where
  abbrev node : (n : ℕ) → Ref → Node n
  node n x = node_at nil n (pages_at L b) x

  each_depth : (n : ℕ) → ((x : Ref) → SoundBelow L P n b x → depth n (node n x) ≡ x.0)
      → (row : List Ref) → All (SoundBelow L P n b) row → All (λ x. depth n (node n x) ≡ x.0) row
  each_depth n f [] h = tt
  each_depth n f (x ∷ row) h = (f x h.0, each_depth n f row h.1)

  -- What an entry stands for has the entry's depth.
  pub sound_depth : (n : ℕ) (x : Ref) → SoundBelow L P n b x → depth n (node n x) ≡ x.0
  unfolding node_at
  sound_depth zero x h = refl
  sound_depth (suc n) x h =
      closed_last (depth n) x.0 0 (map (node n) (pages_at L b x.1))
      (closed_map (λ (y : Ref). y.0) (depth n) (node n) x.0 (pages_at L b x.1) (each_depth n (sound_depth n) (pages_at L b x.1) h.2) h.1)

  -- So has each of a row.
  pub sound_depths : (n : ℕ) (row : List Ref) → All (SoundBelow L P n b) row → All (λ x. depth n (node n x) ≡ x.0) row
  sound_depths n row h = each_depth n (sound_depth n) row h

  -- A closed row of entries stands for a closed row.
  pub closed_nodes : (n c : ℕ) (row : List Ref) → Closed (λ (y : Ref). y.0) c row → All (SoundBelow L P n b) row → Closed (depth n) c (map (node n) row)
  closed_nodes n c row h s = closed_map (λ (y : Ref). y.0) (depth n) (node n) c row (sound_depths n row s) h

  each_sound : (n : ℕ) → ((x : Ref) → SoundBelow L P n b x → Sound L.entries n (node n x))
      → (row : List Ref) → All (SoundBelow L P n b) row → All (Sound L.entries n) (map (node n) row)
  each_sound n f [] h = tt
  each_sound n f (x ∷ row) h = (f x h.0, each_sound n f row h.1)

  -- What a sound entry stands for is sound.
  pub sound_node : (n : ℕ) (x : Ref) → SoundBelow L P n b x → Sound L.entries n (node n x)
  unfolding node_at
  sound_node zero x h = tt
  sound_node (suc n) x h = (
    closed_page (depth n) L.entries x.0 (map (node n) (pages_at L b x.1)) (closed_nodes n x.0 (pages_at L b x.1) h.1 h.2)
        (rw (length-map (pages_at L b x.1) (node n)) h.0.few),
    each_sound n (sound_node n) (pages_at L b x.1) h.2,
  )

  -- So is each of a row.
  pub sound_nodes : (n : ℕ) (row : List Ref) → All (SoundBelow L P n b) row → All (Sound L.entries n) (map (node n) row)
  sound_nodes n row h = each_sound n (sound_node n) row h

  -- The tree that sound pages read as:
  module _ (level root : ℕ) (h : SoundPages L P b level root) where
    -- it is sound,
    pub sound_tree : SoundTree L.entries (tree_at nil (pages_at L b) level root)
    sound_tree = sound_node (suc level) (root_ref root) h.below

    -- obeys the root rule,
    pub tree_root_rule : RootRule (tree_at nil (pages_at L b) level root)
    unfolding node_at
    tree_root_rule k = rw (length-map (pages_at L b root) (node level)) (h.root_rule k)

    -- and ends in depth 0.
    pub tree_depth : depth (suc level) (tree_at nil (pages_at L b) level root).1 ≡ 0
    tree_depth = sound_depth (suc level) (root_ref root) h.below
