-- New entries put into a sound tree: the insertion below the root, then the new roots. Assumes nothing.
use mathlib.Core.Path.{◌≡◌, refl, sym, ap, subst, ◌∙◌}
use mathlib.Core.Bool.{Bool, true, false, cond}
use mathlib.Core.List.{List, [], map}
use Prim.Native.Nat.{ℕ, suc, ◌+◌, ◌^◌, ◌≤◌, ◌<◌}
use native.Mathlib.Omega.{arith}
use lib.Dec.{leb}
use lib.ListN.{length, length-map, length-take}
use borrow.Author.Tests.{le-leb, lt-leb}
use Rattle.leaf_list.specs.Keys.{bits}
use Rattle.leaf_list.specs.Entries.{Entry, entry, depth_of as entry_depth}
use Rattle.leaf_list.specs.Search.{positions}
use Rattle.leaf_list.proofs.Positions.{Beyond, positions_beyond, positions_rise}
use Rattle.page_tree.specs.Rows.{All, Closed, last_depth}
use Rattle.page_tree.specs.Tree.{Node, Tree, depth, pages_of, RootRule}
use Rattle.page_tree.specs.Finding.{find_below, find_in}
use Rattle.page_tree.specs.OnPages.{insert_below, pages_below, insert_tree}
use Rattle.page_tree.specs.Numbered.{aside, tree_aside, insert_numbered, grown_numbered, insert_numbered_tree}
use Rattle.page_tree.specs.Row.{depth_of, places, row_of}
use Rattle.page_tree.specs.declared.Row.{Row}
use Rattle.page_tree.proofs.ListLaws.{all_unit}
use Rattle.page_tree.proofs.ClosedRows.{closed_nonempty, closed_last}
use Rattle.page_tree.proofs.RowMaps.{closed_map}
use Rattle.page_tree.proofs.InsertionPages.{insert_below_pages, insert_tree_pages}
use Rattle.page_tree.proofs.InsertionSound.{Fits, insert_tree_root}
use Rattle.page_tree.proofs.NumberedLaws.{insert_aside, insert_tree_aside}
use Rattle.index_table.specs.Layout.{Layout, layout_of}
use Rattle.index_table.specs.Pages.{pages_at, leaf_of, node_at, numbered_at, tree_at, numbered_tree_at, root_ref, met, met_all, in_use, used_pages}
use Rattle.index_table.specs.Soundness.{SoundBelow}
use Rattle.index_table.specs.declared.layout.Root.{Root}
use Rattle.index_table.proofs.SoundNodes.{sound_tree, tree_root_rule, tree_depth}
use Rattle.index_table.proofs.NumberedPages.{numbered_aside, numbereds_aside, tree_aside_lem}
use Rattle.index_table.proofs.UsedPages.{used_tree}
use Rattle.index_write.specs.Standing.{TreeTable, Owned}
use Rattle.index_write.specs.Storing.{new_leaves}
use Rattle.index_write.proofs.StandingLaws.{stands_owned}
use Rattle.table_search.specs.Places.{left_from, NextPosition, DescendPre}
use Rattle.table_insert.specs.Inserting.{page_ref, Replaced, InsertPre}
use Rattle.table_insert.specs.NewRoots.{roots_at, GrowPre, GrowPost}
use Rattle.table_insert.specs.Putting.{PutPre, PutPost}
use Rattle.table_insert.proofs.NumberedInsertion.{same_depths, insert_numbered_ext}
use Rattle.table_insert.proofs.NumberedGrowth.{grow_numbered_ext}
use Rattle.table_insert.proofs.InsertSteps.{still_free}

-- The depth of an entry, said twice.
entry_depth_lem : (x : Entry) → entry_depth x ≡ depth 0 x
entry_depth_lem (entry d p) = refl

-- The root is a page to descend from.
pub root_descend : {b : List ℕ} {e P level root w key position : ℕ} → TreeTable b e P level root w → key < 2 ^ w → NextPosition w key 0 position → DescendPre b e P level root w key position
root_descend tree narrow next =
    record {
      closing = 0;
      sound = tree.pages.below;
      before = next.above;
      table = omega (arith, tree.table);
      depths = tree.depths;
      width = tree.width;
      narrow = narrow;
      high = next.within;
    }

module _ {b : List ℕ} {e P level root w key : ℕ} {news : Row} (pre : PutPre b e P level root w key news) where
  abbrev L : Layout
  L = layout_of e

  abbrev bs : List ℕ
  bs = positions 0 (bits w key)

  abbrev tree : Tree
  tree = tree_at 65535 (pages_at L b) level root

  abbrev node : Node (suc level)
  node = node_at 65535 (suc level) (pages_at L b) (0, root)

  one : 1 ≤ e
  one = omega (arith, pre.tree.entries_low)

  used_before : used_pages P (pages_at L b) ≡ pages_of tree
  used_before = used_tree 65535 L P b level root pre.tree.pages

  own : Owned L b (met (suc level) (pages_at L b) (0, root))
  own q = omega (arith, pre.tree.pages.once q)

  -- The new entries may stand in the place of the entry found.
  news_fit : Fits 65 (new_leaves news) (find_in bs tree)
  news_fit =
      record {
        closed = closed_map depth_of (depth 0) (leaf_of 65535) (depth 0 (find_in bs tree).2) (row_of news) (same_depths (depth 0) (leaf_of 65535) (row_of news)) (subst (λ (c : ℕ). Closed depth_of c (row_of news)) (entry_depth_lem (find_in bs tree).2) pre.closed);
        good = all_unit (map (leaf_of 65535) (row_of news));
        longer = omega (arith, length-map (row_of news) (leaf_of 65535), closed_nonempty depth_of (entry_depth (find_in bs tree).2) (row_of news) pre.closed);
        few = omega (arith, length-map (row_of news) (leaf_of 65535), length-take news.count (places news), pre.few, pre.tree.width);
      }

  -- "a root above level 0 has at least two entries"
  rule_after : RootRule (insert_tree e (new_leaves news) bs tree)
  rule_after =
      insert_tree_root e 65 (new_leaves news) bs tree pre.tree.entries_low (sound_tree 65535 L P b level root pre.tree.pages) (positions_rise 0 (bits w key))
      (subst (λ (c : ℕ). Beyond c bs) (sym (tree_depth 65535 L P b level root pre.tree.pages)) (positions_beyond 0 0 (bits w key) (omega arith))) news_fit
      (tree_root_rule 65535 L P b level root pre.tree.pages)

  module _ {position : ℕ} (next : NextPosition w key 0 position) where
    bs_is : bs ≡ left_from w key position
    bs_is = next.left

    -- What the insertion asks.
    pub put_insert : length (row_of news) ≡ news.count → InsertPre b e P level root w key position 0 news
    put_insert full =
        record {
          entries_low = pre.tree.entries_low;
          descend = root_descend pre.tree pre.narrow next;
          own = own;
          long = full;
          few = omega (arith, pre.few, pre.tree.width);
          fitting = pre.fitting;
          closed = subst (λ (l : List ℕ). Closed depth_of (entry_depth (find_below (suc level) l 0 node).2) (row_of news)) bs_is pre.closed;
          enough =
              subst (λ (l : List ℕ). used_pages P (pages_at L b) + pages_below e (new_leaves news) (suc level) l 0 node ≤ P) bs_is
              (omega (arith, pre.pages_after, insert_tree_pages e (new_leaves news) one bs tree, used_before));
        }

    module _ {b₁ : List ℕ} {parts : Row} (h : Replaced e P (new_leaves news) (suc level) (left_from w key position) 0 b (page_ref e b root) b₁ parts) where
      numbers₁ : map (numbered_at 65535 (suc level) (pages_at L b₁)) (row_of parts) ≡ insert_numbered e h.fresh (new_leaves news) (suc level) bs 0 (numbered_at 65535 (suc level) (pages_at L b) (0, root))
      unfolding numbered_at
      numbers₁ = subst (λ (l : List ℕ). map (numbered_at 65535 (suc level) (pages_at L b₁)) (row_of parts) ≡ insert_numbered e h.fresh (new_leaves news) (suc level) l 0 (numbered_at 65535 (suc level) (pages_at L b) (0, root))) (sym bs_is) h.numbers

      nodes₁ : roots_at level (pages_at L b₁) (row_of parts) ≡ insert_below e (new_leaves news) (suc level) bs 0 node
      nodes₁ =
          sym (numbereds_aside 65535 (pages_at L b₁) (suc level) (row_of parts))
          ∙ ap (map (aside (suc level))) numbers₁
          ∙ insert_aside e h.fresh (new_leaves news) (suc level) bs 0 (numbered_at 65535 (suc level) (pages_at L b) (0, root))
          ∙ ap (insert_below e (new_leaves news) (suc level) bs 0) (numbered_aside 65535 (pages_at L b) (suc level) (0, root))

      last₁ : last_depth depth_of 0 (row_of parts) ≡ last_depth depth_of 0 (pages_at L b root)
      last₁ = closed_last depth_of (last_depth depth_of 0 (pages_at L b root)) 0 (row_of parts) h.closed

      total₁ : used_pages P (pages_at L b₁) ≡ used_pages P (pages_at L b) + pages_below e (new_leaves news) (suc level) bs 0 node
      unfolding node_at
      total₁ = subst (λ (l : List ℕ). used_pages P (pages_at L b₁) ≡ used_pages P (pages_at L b) + pages_below e (new_leaves news) (suc level) l 0 node) (sym bs_is) h.total

      own₁ : Owned L b₁ (met_all (suc level) (pages_at L b₁) (row_of parts))
      unfolding met
      own₁ = stands_owned h.stands own

      -- What the new roots ask.
      pub put_grow : GrowPre e P level b₁ parts
      put_grow =
          record {
            entries_low = pre.tree.entries_low;
            table = omega (arith, pre.tree.table, h.stands.long);
            long = h.long;
            few = h.few;
            fitting = h.fitting;
            closed = rw last₁ h.closed;
            sound = h.stands.sound;
            own = own₁;
            enough = rw nodes₁ (omega (arith, total₁, used_before, insert_below_pages e (new_leaves news) one (suc level) bs 0 node, pre.pages_after));
            low = rw nodes₁ pre.level_after;
          }

      module _ {b₂ : List ℕ} {r : Root} (g : GrowPost e P level b₁ (row_of parts) b₂ r) where
        fresh₂ : ℕ → List ℕ
        fresh₂ k = cond (leb k level) (h.fresh k) (g.fresh k)

        low_fresh : (k : ℕ) → k < suc level → h.fresh k ≡ fresh₂ k
        unfolding fresh₂
        low_fresh k l = ap (λ (t : Bool). cond t (h.fresh k) (g.fresh k)) (sym (le-leb k level (omega arith)))

        high_fresh : (k : ℕ) → level < k → g.fresh k ≡ fresh₂ k
        unfolding fresh₂
        high_fresh k l = ap (λ (t : Bool). cond t (h.fresh k) (g.fresh k)) (sym (lt-leb k level l))

        free₂ : (k : ℕ) → All (λ q. pages_at L b q ≡ []) (fresh₂ k)
        unfolding fresh₂
        free₂ k = go (leb k level)
          where
            go : (t : Bool) → All (λ q. pages_at L b q ≡ []) (cond t (h.fresh k) (g.fresh k))
            go true = h.free k
            go false = still_free L b b₁ h.more (g.fresh k) (g.free k)

        tree₂ : numbered_tree_at 65535 (pages_at L b₂) r.level r.page.0 ≡ insert_numbered_tree e fresh₂ (new_leaves news) bs (numbered_tree_at 65535 (pages_at L b) level root)
        tree₂ =
            g.tree
            ∙ ap (grown_numbered e g.fresh level) numbers₁
            ∙ (λ i. grown_numbered e g.fresh level (insert_numbered_ext e (new_leaves news) h.fresh fresh₂ (suc level) low_fresh i bs 0 (numbered_at 65535 (suc level) (pages_at L b) (0, root))))
            ∙ grow_numbered_ext e g.fresh fresh₂ (length (insert_numbered e fresh₂ (new_leaves news) (suc level) bs 0 (numbered_at 65535 (suc level) (pages_at L b) (0, root)))) level
            (insert_numbered e fresh₂ (new_leaves news) (suc level) bs 0 (numbered_at 65535 (suc level) (pages_at L b) (0, root))) high_fresh

        aside₂ : tree_at 65535 (pages_at L b₂) r.level r.page.0 ≡ insert_tree e (new_leaves news) bs tree
        aside₂ =
            sym (tree_aside_lem 65535 (pages_at L b₂) r.level r.page.0)
            ∙ ap tree_aside tree₂
            ∙ insert_tree_aside e fresh₂ (new_leaves news) bs (numbered_tree_at 65535 (pages_at L b) level root)
            ∙ ap (insert_tree e (new_leaves news) bs) (tree_aside_lem 65535 (pages_at L b) level root)

        rule₂ : 1 ≤ r.level → 2 ≤ length (pages_at L b₂ r.page.0)
        unfolding node_at
        rule₂ k =
            let two : 2 ≤ length (map (node_at 65535 r.level (pages_at L b₂)) (pages_at L b₂ r.page.0)) = subst RootRule (sym aside₂) rule_after k in
            omega (arith, length-map (pages_at L b₂ r.page.0) (node_at 65535 r.level (pages_at L b₂)))

        last₂ : last_depth depth_of 0 (row_of parts) ≡ 0
        last₂ = last₁ ∙ closed_last depth_of 0 0 (pages_at L b root) pre.tree.pages.below.1

        once₂ : (q : ℕ) → met (suc r.level) (pages_at L b₂) (root_ref r.page.0) q ≡ in_use (pages_at L b₂ q)
        unfolding met
        once₂ q = omega (arith, g.stands.pages q, h.stands.pages q, pre.tree.pages.once q)

        -- What they leave.
        pub put_done : PutPost b e P level root w key news b₂ r
        put_done =
            record {
              long = g.stands.long ∙ h.stands.long;
              front = g.stands.front ∙ h.stands.front;
              pages =
                  record {
                    below = subst (λ (d : ℕ). SoundBelow L P (suc r.level) b₂ (d, r.page.0)) last₂ g.stands.sound.0;
                    once = once₂;
                    cleared = λ q l. g.stands.cleared q (h.stands.cleared q (pre.tree.pages.cleared q l));
                    level_high = omega (arith, ap (λ (t : Tree). t.0) aside₂, pre.level_after);
                    root_rule = rule₂;
                  };
              fresh = fresh₂;
              free = free₂;
              tree = tree₂;
            }
