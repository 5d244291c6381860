-- What sound tables give to those that read them. Assumes nothing.
use mathlib.Core.Path.{◌≡◌, refl, sym, ap, subst, ◌∙◌}
use mathlib.Core.Logic.{◌⊎◌, inl, inr}
use mathlib.Core.Bool.{Bool, true, false}
use mathlib.Core.List.{List, [], ◌∷◌}
use Prim.Native.Nat.{ℕ, zero, suc, ◌^◌, ◌≤◌, ◌<◌}
use native.Mathlib.Omega.{arith}
use lib.Dec.{ltb}
use lib.Pow.{pow_pos}
use lib.ListN.{length, get_or}
use borrow.Author.Tests.{ltb-true, ltb-false, eqb-true}
use Rattle.leaf_list.specs.Entries.{live_records}
use Rattle.leaf_list.specs.Depths.{LeafDepths}
use Rattle.leaf_list.specs.Herd.{Narrow, Sorted, KeysOf, records_of}
use Rattle.leaf_list.specs.Register.{key_at, in_use, herd_of}
use Rattle.leaf_list.proofs.Check.{herd_of_narrow}
use Rattle.leaf_list.proofs.FittingHerds.{AllInUse}
use Rattle.leaf_list.proofs.Laws.{depths_law, live_records_law}
use Rattle.leaf_list.proofs.RegisterChange.{herd_of_sorted}
use Rattle.leaf_list.proofs.RegisterHerd.{herd_of_is, herd_of_keys_of, length_herd_from}
use Rattle.page_tree.specs.Tree.{Tree, depth, leaves_of, SoundTree, RootRule, pages_of as tree_pages}
use Rattle.index_table.specs.Layout.{layout_of, page_start, Within}
use Rattle.index_table.specs.Header.{width_of, entries_of, pages_of, root_of, held_of}
use Rattle.index_table.specs.Pages.{Pages, pages_at, tree_at, used_pages}
use Rattle.index_table.specs.Soundness.{SoundRecord, Sound, root_level, leaf_entries}
use Rattle.index_table.proofs.PageBytes.{within_table}
use Rattle.index_table.proofs.SoundNodes.{sound_tree, tree_root_rule, tree_depth}
use Rattle.index_table.proofs.UsedPages.{used_tree}

-- Beyond the end of a list stands 0.
beyond : (l : List ℕ) (i : ℕ) → length l ≤ i → get_or l i 0 ≡ 0
beyond [] i h = refl
beyond (x ∷ l) zero h = absurd (omega arith)
beyond (x ∷ l) (suc i) h = beyond l i (omega arith)

module _ {index keys used : List ℕ} (s : Sound index keys used) where
  abbrev w : ℕ
  w = width_of index

  -- Every key of the register has at most w bits, of a free record too.
  pub keys_narrow : (r : ℕ) → key_at keys r < 2 ^ w
  keys_narrow r = go (ltb r (length used)) refl
    where
      by : SoundRecord w (get_or keys r 0) (get_or used r 0) → (get_or used r 0 ≡ 0) ⊎ (get_or used r 0 ≡ 1) → get_or keys r 0 < 2 ^ w
      by h (inl z) = omega (arith, h.free z, pow_pos w)
      by h (inr z) = h.narrow z

      go : (t : Bool) → ltb r (length used) ≡ t → key_at keys r < 2 ^ w
      go true e =
          let h = s.register.records r (ltb-true r (length used) e) in
          by h h.byte
      go false e = omega (arith, beyond keys r (omega (arith, ltb-false r (length used) e, s.lengths.register)), pow_pos w)

  -- A record in use is one of the register.
  pub in_use_inside : (r : ℕ) → in_use used r ≡ true → r < length used
  in_use_inside r h = go (ltb r (length used)) refl
    where
      go : (t : Bool) → ltb r (length used) ≡ t → r < length used
      go true e = ltb-true r (length used) e
      go false e = absurd (omega (arith, beyond used r (ltb-false r (length used) e), eqb-true (get_or used r 0) 1 h))

  -- The register's herd is narrow, sorted, has the register's keys and is as many as the header says; its records are in use.
  pub herd_narrow : Narrow w (herd_of keys used)
  herd_narrow = herd_of_narrow w keys used (λ r h. keys_narrow r)

  pub herd_sorted : Sorted (herd_of keys used)
  herd_sorted = (herd_of_sorted keys used).1 (λ i j p q e. s.register.distinct i j (eqb-true (get_or used i 0) 1 p) (eqb-true (get_or used j 0) 1 q) e)

  pub herd_keys : KeysOf (key_at keys) (herd_of keys used)
  herd_keys = herd_of_keys_of keys used

  pub herd_in_use : AllInUse (in_use used) (records_of (herd_of keys used))
  herd_in_use = (herd_of_is keys used).uses

  pub herd_held : length (herd_of keys used) ≡ held_of index
  herd_held = length_herd_from (key_at keys) 0 used ∙ sym s.held

  -- All pages are within the table.
  pub table_long : page_start (layout_of (entries_of index)) (pages_of index) ≤ length index
  table_long = omega (arith, s.lengths.table)

  pub page_within : (p : ℕ) → p < pages_of index → Within (layout_of (entries_of index)) index p
  page_within p h = within_table (layout_of (entries_of index)) (pages_of index) p index table_long h

  pub root_within : Within (layout_of (entries_of index)) index (root_of index)
  root_within = page_within (root_of index) s.pages.below.0.number

  pub header_long : 16 ≤ length index
  header_long = omega (arith, s.lengths.table)

  -- The depths on level 0 are those of a leaf list.
  pub leaf_depths : LeafDepths w (leaf_entries index)
  leaf_depths = subst (LeafDepths w) (sym s.leaves) (depths_law w (herd_of keys used) herd_narrow herd_sorted)

  -- ---- the tree of pages

  abbrev rows : Pages
  rows = pages_at (layout_of (entries_of index)) index

  abbrev tree : Tree
  tree = tree_at 65535 (pages_at (layout_of (entries_of index)) index) (root_level index) (root_of index)

  pub tree_sound : SoundTree (entries_of index) tree
  tree_sound = sound_tree 65535 (layout_of (entries_of index)) (pages_of index) index (root_level index) (root_of index) s.pages

  pub root_rule : RootRule tree
  root_rule = tree_root_rule 65535 (layout_of (entries_of index)) (pages_of index) index (root_level index) (root_of index) s.pages

  -- The root closes with depth 0.
  pub root_depth : depth (suc (root_level index)) tree.1 ≡ 0
  root_depth = tree_depth 65535 (layout_of (entries_of index)) (pages_of index) index (root_level index) (root_of index) s.pages

  -- The live leaves are the records in key order.
  pub live_leaves : live_records (leaves_of tree) ≡ records_of (herd_of keys used)
  live_leaves = ap live_records s.leaves ∙ live_records_law w (herd_of keys used) herd_narrow herd_sorted

  -- As many pages are in use as the tree has.
  pub pages_used : used_pages (pages_of index) rows ≡ tree_pages tree
  pages_used = used_tree 65535 (layout_of (entries_of index)) (pages_of index) index (root_level index) (root_of index) s.pages
