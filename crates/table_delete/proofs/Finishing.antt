-- Pages are merged from the root down, then the root rule. Assumes nothing.
use mathlib.Core.Path.{◌≡◌, refl, sym, ap, ◌∙◌, subst}
use mathlib.Core.List.{List, [], ◌∷◌}
use Prim.Native.Nat.{ℕ, suc, ◌≤◌}
use native.Mathlib.Omega.{arith}
use lib.ListN.{length, length-map}
use Rattle.leaf_list.specs.Keys.{bits}
use Rattle.leaf_list.specs.Search.{positions}
use Rattle.page_tree.specs.Rows.{last_depth}
use Rattle.page_tree.specs.Row.{depth_of}
use Rattle.page_tree.specs.Tree.{Node, depth, Sound}
use Rattle.page_tree.specs.OffPages.{lower}
use Rattle.page_tree.specs.Merging.{merge_page}
use Rattle.page_tree.specs.Numbered.{Numbered, aside, tree_aside, lower_numbered, rooted_numbered, merge_numbered}
use Rattle.page_tree.proofs.MergingLaws.{MergedPage, merge_page_sound}
use Rattle.page_tree.proofs.NumberedLaws.{lower_aside, merge_aside}
use Rattle.index_table.specs.Layout.{Layout, layout_of}
use Rattle.index_table.specs.Pages.{pages_at, node_at, numbered_at, root_ref, tree_at}
use Rattle.index_table.specs.Soundness.{SoundBelow}
use Rattle.index_table.specs.declared.layout.Root.{Root}
use Rattle.index_table.proofs.NumberedPages.{numbered_aside, tree_aside_lem}
use Rattle.index_table.proofs.SoundNodes.{sound_node, sound_depth}
use Rattle.table_search.specs.Places.{left_from, NextPosition}
use Rattle.tree_delete.specs.Keeping.{numbers_at, Linked}
use Rattle.tree_delete.specs.Removing.{RemovePre}
use Rattle.tree_delete.proofs.LinkedDepths.{linked_depth}
use Rattle.tree_delete.proofs.SweepTurns.{paged_then}
use Rattle.tree_merge.specs.Merges.{Covered, MergePre, Merged}
use Rattle.table_delete.specs.Taking.{LowerPre, LowerPost, FinishPre, FinishPost}
use Rattle.table_delete.proofs.SoundLinks.{linked_sound}
use Rattle.table_delete.proofs.RootLeft.{SoundRoot, lowered_root}

-- ---- a root that reads as a sound tree

-- A root page that reads as a sound page closed by depth 0 is sound.
pub root_below : (e P : ℕ) (b : List ℕ) (level d root : ℕ) → Linked (layout_of e) P (suc level) b (d, root) → Sound e (suc level) (node_at 65535 (suc level) (pages_at (layout_of e) b) (root_ref root))
    → depth (suc level) (node_at 65535 (suc level) (pages_at (layout_of e) b) (root_ref root)) ≡ 0
    → (d ≡ 0) × SoundBelow (layout_of e) P (suc level) b (root_ref root)
unfolding node_at
root_below e P b level d root x s z =
    let o : d ≡ 0 = sym (linked_depth e P b (suc level) (d, root) x) ∙ z in
    (o, subst (λ (c : ℕ). SoundBelow (layout_of e) P (suc level) b (c, root)) o (linked_sound e P b (suc level) (d, root) x s))

module _ (e P : ℕ) (b : List ℕ) (level root : ℕ) (s : SoundRoot e (tree_at 65535 (pages_at (layout_of e) b) level root))
    (x : Linked (layout_of e) P (suc level) b (last_depth depth_of 0 (pages_at (layout_of e) b root), root)) where
  -- Its pages are sound,
  root_sound : SoundBelow (layout_of e) P (suc level) b (root_ref root)
  root_sound = (root_below e P b level (last_depth depth_of 0 (pages_at (layout_of e) b root)) root x s.sound s.shallow).1

  -- and the root rule holds.
  root_rule : 1 ≤ level → 2 ≤ length (pages_at (layout_of e) b root)
  unfolding node_at
  root_rule h = let k = s.rule h in omega (arith, k, length-map (pages_at (layout_of e) b root) (node_at 65535 level (pages_at (layout_of e) b)))

-- ---- before

module _ {e P n : ℕ} {b : List ℕ} {p w key lowest : ℕ} (pre : FinishPre e P n b p w key lowest) where
  abbrev L : Layout
  L = layout_of e

  module _ {position : ℕ} (next : NextPosition w key 0 position) where
    -- The root's entry is one to seek from,
    pub finish_remove : RemovePre e P (suc n) b (0, p) w key position
    finish_remove = record {
      back = record { paged = pre.paged; linked = pre.linked; own = λ q. omega (arith, pre.once q) };
      sound = pre.below;
      before = next.above;
      depths = pre.depths;
      width = pre.width;
      narrow = pre.narrow;
      high = next.within;
    }

    -- and pages may be merged below it.
    pub finish_merge : MergePre e P n b (0, p) w key position lowest
    finish_merge = record { remove = finish_remove; covered = subst (λ (l : List ℕ). Covered e n b (0, p) l lowest) next.left pre.covered }

    -- ---- after the merging

    module _ {b₁ : List ℕ} (m : Merged e P n b (0, p) (left_from w key position) b₁) where
      -- The root rule can be applied.
      pub finish_lower : LowerPre e P n b₁ p
      finish_lower = record {
        paged = paged_then m.kept.long pre.paged;
        sized = m.kept.linked.0.0;
        linked = m.kept.linked.0.2;
        own = λ q. omega (arith, m.kept.pages q, pre.once q);
      }

      abbrev bs : List ℕ
      bs = positions 0 (bits w key)

      abbrev old : Node (suc n)
      old = node_at 65535 (suc n) (pages_at L b) (root_ref p)

      number_is : numbered_at 65535 (suc n) (pages_at L b₁) (root_ref p) ≡ merge_numbered e n bs (numbered_at 65535 (suc n) (pages_at L b) (root_ref p))
      number_is = m.number ∙ ap (λ (l : List ℕ). merge_numbered e n l (numbered_at 65535 (suc n) (pages_at L b) (root_ref p))) (sym next.left)

      node_is : node_at 65535 (suc n) (pages_at L b₁) (root_ref p) ≡ merge_page e n bs old
      node_is =
          sym (numbered_aside 65535 (pages_at L b₁) (suc n) (root_ref p)) ∙ ap (aside (suc n)) number_is
          ∙ merge_aside e n bs (numbered_at 65535 (suc n) (pages_at L b) (root_ref p)) ∙ ap (merge_page e n bs) (numbered_aside 65535 (pages_at L b) (suc n) (root_ref p))

      merged : MergedPage e n old (merge_page e n bs old)
      merged = merge_page_sound e n bs old (sound_node 65535 L P b (suc n) (root_ref p) pre.below)

      -- ---- and after the root rule

      module _ {b₂ : List ℕ} {r : Root} (g : LowerPost e P n b₁ p b₂ r) where
        tree_is : tree_at 65535 (pages_at L b₂) r.level r.page.0 ≡ lower n (merge_page e n bs old)
        unfolding node_at numbered_at
        tree_is =
            sym (tree_aside_lem 65535 (pages_at L b₂) r.level r.page.0) ∙ ap tree_aside g.tree ∙ lower_aside n p (numbers_at n (pages_at L b₁) (pages_at L b₁ p))
            ∙ ap (lower n) (numbered_aside 65535 (pages_at L b₁) (suc n) (root_ref p) ∙ node_is)

        sound_root : SoundRoot e (tree_at 65535 (pages_at L b₂) r.level r.page.0)
        sound_root =
            subst (SoundRoot e) (sym tree_is) (lowered_root e n (merge_page e n bs old) merged.sound (merged.same ∙ sound_depth 65535 L P b (suc n) (root_ref p) pre.below))

        abbrev linked : Linked L P (suc r.level) b₂ (last_depth depth_of 0 (pages_at L b₂ r.page.0), r.page.0)
        linked = (g.sized, refl, g.linked)

        rooted_is : lower_numbered n p (numbers_at n (pages_at L b₁) (pages_at L b₁ p)) ≡ rooted_numbered n (merge_numbered e n bs (numbered_at 65535 (suc n) (pages_at L b) (root_ref p)) ∷ [])
        unfolding numbered_at
        rooted_is = ap (λ (t : Numbered (suc n)). lower_numbered n t.0 t.1) number_is

        -- The pages are sound.
        pub finish_post : FinishPost e P n b p w key b₂ r
        finish_post = record {
          long = g.long ∙ m.kept.long;
          front = g.front ∙ m.kept.front;
          pages = record {
            below = root_sound e P b₂ r.level r.page.0 sound_root linked;
            once = λ q. omega (arith, g.pages q, m.kept.pages q, pre.once q);
            cleared = λ q l. g.cleared q (m.kept.cleared q (pre.cleared q l));
            level_high = omega (arith, g.low, pre.level_high);
            root_rule = root_rule e P b₂ r.level r.page.0 sound_root linked;
          };
          tree = g.tree ∙ rooted_is;
        }
