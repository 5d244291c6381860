-- Removal from the root's entry, then what ends an off. Assumes nothing.
use mathlib.Core.Path.{◌≡◌, refl, sym, ap, ◌∙◌, subst}
use mathlib.Core.List.{List, [], ◌∷◌, map}
use Prim.Native.Nat.{ℕ, suc, ◌+◌, ◌<◌}
use native.Mathlib.Omega.{arith}
use native.Mathlib.Numerals.{add-one}
use lib.ListN.{length}
use Rattle.leaf_list.specs.Keys.{bits}
use Rattle.leaf_list.specs.Search.{positions}
use Rattle.leaf_list.specs.Depths.{LeafDepths}
use Rattle.leaf_list.proofs.Positions.{positions_beyond, positions_rise}
use Rattle.page_tree.specs.Tree.{Node, depth, leaves, leaves_of}
use Rattle.page_tree.specs.OffPages.{Left, delete_below, rooted, off_tree}
use Rattle.page_tree.specs.Merging.{merge_page}
use Rattle.page_tree.specs.Numbered.{Numbered, aside, delete_numbered, rooted_numbered, merge_numbered}
use Rattle.page_tree.proofs.NumberedLaws.{delete_aside}
use Rattle.page_tree.proofs.DeletionTrees.{lower_leaves}
use Rattle.page_tree.proofs.MergingLaws.{merge_page_leaves}
use Rattle.index_table.specs.Layout.{Layout, layout_of}
use Rattle.index_table.specs.Pages.{pages_at, node_at, numbered_at, met, root_ref, tree_at}
use Rattle.index_table.specs.Soundness.{SoundBelow}
use Rattle.index_table.specs.declared.layout.Root.{Root}
use Rattle.index_table.proofs.NumberLaws.{Bytes}
use Rattle.index_table.proofs.NumberedPages.{numbered_aside, numbereds_aside}
use Rattle.index_table.proofs.SoundNodes.{sound_tree, tree_depth}
use Rattle.table_search.specs.Places.{NextPosition}
use borrow.Author.Rules.{rules}
use Rattle.std.specs.Prelude.{Option, Some, None, IsSome}
use Rattle.page_tree.specs.declared.Entry.{Entry as Stored}
use Rattle.entry_delete.specs.declared.Remnant.{Remnant}
use Rattle.tree_delete.specs.Keeping.{numbers_at, Kept}
use Rattle.entry_delete.specs.Entries.{parts}
use Rattle.tree_delete.specs.Unwinding.{Done}
use Rattle.tree_delete.specs.Removing.{RemovePre, RemovePost}
use Rattle.tree_merge.specs.Merges.{Covered}
use Rattle.table_delete.specs.Taking.{FinishPre, FinishPost, TakePre, TakePost}
use Rattle.tree_delete.proofs.SweepTurns.{paged_then}
use Rattle.table_delete.proofs.SoundLinks.{sound_linked}
use Rattle.table_delete.proofs.RootLeft.{LeftAtRoot, root_left}
use Rattle.table_delete.proofs.Finishing.{root_below}

abbrev head_of : {A : Type 0} → A → List A → A
head_of d [] = d
head_of d (x ∷ xs) = x

-- ---- before

module _ {b : List ℕ} {e P level root w key : ℕ} (pre : TakePre b e P level root w key) where
  abbrev L : Layout
  L = layout_of e

  -- The root's entry is one to remove from.
  pub take_remove : Bytes b → (position p : ℕ) → NextPosition w key 0 position → p ≡ root → RemovePre e P (level + 1) b (0, p) w key position
  take_remove bytes position p next z = rw (z, add-one level) (record {
    back = record {
      paged = record { table = pre.tree.table; high = pre.tree.pages_high };
      linked = sound_linked e P b bytes level (root_ref root) pre.tree.pages.below;
      own = λ q. omega (arith, pre.tree.pages.once q);
    };
    sound = pre.tree.pages.below;
    before = next.above;
    depths = pre.tree.depths;
    width = pre.tree.width;
    narrow = pre.narrow;
    high = next.within;
  })

  abbrev whole : Left (Numbered (suc level))
  whole = delete_numbered (suc level) 0 (positions 0 (bits w key)) 0 (numbered_at 65535 (suc level) (pages_at L b) (root_ref root))

  -- ---- after the removal

  module _ {position p : ℕ} (next : NextPosition w key 0 position) (z : p ≡ root) {b₁ : List ℕ} {x : Remnant} (d : RemovePost e P (level + 1) b (0, p) w key position 0 0 b₁ x) where
    done : Done e P (suc level) b (root_ref root) whole b₁ x
    done = rw (z, add-one level, ← next.left) at d

    left_is : map (node_at 65535 (suc level) (pages_at L b₁)) (parts x) ≡ (delete_below (suc level) 0 (positions 0 (bits w key)) 0 (node_at 65535 (suc level) (pages_at L b) (root_ref root))).0
    left_is =
        sym (numbereds_aside 65535 (pages_at L b₁) (suc level) (parts x)) ∙ ap (map (aside (suc level))) done.numbers
        ∙ ap (λ (r : Left (Node (suc level))). r.0) (delete_aside (suc level) 0 (positions 0 (bits w key)) 0 (numbered_at 65535 (suc level) (pages_at L b) (root_ref root)))
        ∙ ap (λ (t : Node (suc level)). (delete_below (suc level) 0 (positions 0 (bits w key)) 0 t).0) (numbered_aside 65535 (pages_at L b) (suc level) (root_ref root))

    nodes_left : LeftAtRoot e level (map (node_at 65535 (suc level) (pages_at L b₁)) (parts x))
    nodes_left =
        subst (LeftAtRoot e level) (sym left_is)
        (root_left e (positions 0 (bits w key)) (tree_at 65535 (pages_at L b) level root) (sound_tree 65535 L P b level root pre.tree.pages) (positions_rise 0 (bits w key))
        (tree_depth 65535 L P b level root pre.tree.pages) (positions_beyond 0 0 (bits w key) (omega arith)) pre.beside)

    -- Something is left:
    pub take_left : IsSome x.left
    take_left = go x.left refl
      where
        go : (o : Option Stored) → x.left ≡ o → IsSome o
        go (Some y) z = search rules
        go None z =
            absurd
            (let k : length (map (node_at 65535 (suc level) (pages_at L b₁)) (parts x)) ≡ 0 = rw z refl in
            let m : length (map (node_at 65535 (suc level) (pages_at L b₁)) (parts x)) ≡ 1 = ap length nodes_left.is in omega (arith, k, m))

  -- the root's entry, with its page.
  module _ {position p : ℕ} (next : NextPosition w key 0 position) (z : p ≡ root) {b₁ : List ℕ} {x : Remnant} (d : RemovePost e P (level + 1) b (0, p) w key position 0 0 b₁ x)
      {y : Stored} (some : x.left ≡ Some y) where
    stands : parts x ≡ (y.depth, y.pointer) ∷ []
    stands = rw some refl

    root_is : node_at 65535 (suc level) (pages_at L b₁) (root_ref y.pointer) ≡ (nodes_left next z d).root
    unfolding node_at
    root_is = ap (head_of (nodes_left next z d).root) (sym (ap (map (node_at 65535 (suc level) (pages_at L b₁))) stands) ∙ (nodes_left next z d).is)

    -- The root that is left is sound, and has the depth 0.
    below : (y.depth ≡ 0) × SoundBelow L P (suc level) b₁ (root_ref y.pointer)
    below =
        let k : Kept L P (suc level) b (met (suc level) (pages_at L b) (root_ref root)) b₁ ((y.depth, y.pointer) ∷ []) = rw stands at (done next z d).kept in
        root_below e P b₁ level y.depth y.pointer k.linked.0 (rw root_is (nodes_left next z d).sound) (ap (depth (suc level)) root_is ∙ (nodes_left next z d).shallow)

    stands_root : parts x ≡ root_ref y.pointer ∷ []
    stands_root = stands ∙ ap (λ (d : ℕ). (d, y.pointer) ∷ []) below.0

    kept : Kept L P (suc level) b (met (suc level) (pages_at L b) (root_ref root)) b₁ (root_ref y.pointer ∷ [])
    kept = rw stands_root at (done next z d).kept

    -- The page that is left has a number,
    pub take_fits : y.pointer < 65536
    take_fits = omega (arith, kept.linked.0.0.number, pre.tree.pages_high)

    -- On level 0 stands what stood there without the key.
    later_is : leaves_of (off_tree w e key (tree_at 65535 (pages_at L b) level root)) ≡ leaves_of (tree_at 65535 (pages_at L b₁) level y.pointer)
    later_is =
        ap (λ (l : List (Node (suc level))). leaves_of (rooted level (map (merge_page e level (positions 0 (bits w key))) l))) (sym (left_is next z d) ∙ (nodes_left next z d).is)
        ∙ lower_leaves level (merge_page e level (positions 0 (bits w key)) (nodes_left next z d).root) ∙ merge_page_leaves e level (positions 0 (bits w key)) (nodes_left next z d).root
        ∙ ap (leaves (suc level)) (sym root_is)

    -- and below it pages can be merged.
    pub take_finish : (page : ℕ) → page ≡ y.pointer → (lowest : ℕ) → Covered e level b₁ (root_ref page) (positions 0 (bits w key)) lowest → FinishPre e P level b₁ page w key lowest
    take_finish page u lowest c = rw u (record {
      paged = paged_then {b = b} kept.long (record { table = pre.tree.table; high = pre.tree.pages_high });
      linked = kept.linked.0;
      below = below.1;
      once = λ q. omega (arith, kept.pages q, pre.tree.pages.once q);
      cleared = λ q l. kept.cleared q (pre.tree.pages.cleared q l);
      level_high = pre.tree.pages.level_high;
      depths = subst (LeafDepths w) later_is pre.later;
      width = pre.tree.width;
      narrow = pre.narrow;
      covered = rw u at c;
    })

    -- ---- and at the end

    rooted_is : rooted_numbered level (merge_numbered e level (positions 0 (bits w key)) (numbered_at 65535 (suc level) (pages_at L b₁) (root_ref y.pointer)) ∷ [])
        ≡ rooted_numbered level (map (merge_numbered e level (positions 0 (bits w key))) whole.0)
    rooted_is =
        ap (λ (l : List (Numbered (suc level))). rooted_numbered level (map (merge_numbered e level (positions 0 (bits w key))) l))
        (sym (ap (numbers_at (suc level) (pages_at L b₁)) stands_root) ∙ (done next z d).numbers)

    -- The tree without the entry found.
    pub take_post : (page : ℕ) → page ≡ y.pointer → (b₂ : List ℕ) (r : Root) → FinishPost e P level b₁ page w key b₂ r → TakePost b e P level root w key b₂ r
    take_post page u b₂ r f =
        let g : FinishPost e P level b₁ y.pointer w key b₂ r = rw u at f in
        record { long = g.long ∙ kept.long; front = g.front ∙ kept.front; pages = g.pages; tree = g.tree ∙ rooted_is }
