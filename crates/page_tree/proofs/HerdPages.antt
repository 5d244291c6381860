-- Trees of pages over the leaf list of a herd: the empty herd, find, on and off. Assumes nothing.
use mathlib.Core.Path.{◌≡◌, refl, ap, sym, ◌∙◌}
use mathlib.Core.Option.{none, some}
use mathlib.Core.List.{List, [], ◌∷◌}
use Prim.Native.Nat.{ℕ, suc, ◌+◌, ◌≤◌, ◌<◌, ◌^◌}
use native.Mathlib.Omega.{arith}
use lib.ListN.{length}
use Rattle.leaf_list.specs.Keys.{Key, bits}
use Rattle.leaf_list.specs.Entries.{Entry, entry, pointer_of}
use Rattle.leaf_list.specs.Herd.{Herd, Narrow, Sorted, KeysOf, lookup, add, remove}
use Rattle.leaf_list.specs.LeafList.{leaf_list}
use Rattle.leaf_list.specs.Search.{positions, search, pointer_at, compared}
use Rattle.leaf_list.proofs.Bits.{bits_length}
use Rattle.leaf_list.proofs.Depths.{Neighbours}
use Rattle.leaf_list.proofs.Positions.{Beyond, positions_beyond, positions_rise}
use Rattle.leaf_list.proofs.Laws.{empty_law, find_law, insertion_law, found_law, deletion_law, closed_law, neighbours_law}
use Rattle.page_tree.specs.Rows.{All, Closed, last_depth}
use Rattle.page_tree.specs.Tree.{Node, depth, Tree, leaves_of, SoundTree, RootRule}
use Rattle.page_tree.specs.Finding.{find_in}
use Rattle.page_tree.specs.OnPages.{Replacement, new_entries, replace_in, insert_below, on_tree}
use Rattle.page_tree.specs.CutRows.{RightPlace, on_rows_cut}
use Rattle.page_tree.specs.OffPages.{off_tree}
use Rattle.page_tree.proofs.ClosedRows.{closed_last}
use Rattle.page_tree.proofs.TreeLaws.{closed_leaves}
use Rattle.page_tree.proofs.FindingLaws.{FoundAt, find_in_leaves, find_flat_search}
use Rattle.page_tree.proofs.InsertionLeaves.{insert_tree_leaves}
use Rattle.page_tree.proofs.InsertionSound.{Fits, insert_below_in_place, insert_tree_sound, insert_tree_root}
use Rattle.page_tree.proofs.CutRowLaws.{rows_cut_right}
use Rattle.page_tree.proofs.RowLengths.{longest_below, longest_below_short, longest_above, longest_above_first}
use Rattle.page_tree.proofs.DeletionLeaves.{delete_flat}
use Rattle.page_tree.proofs.DeletionTrees.{delete_tree_leaves, delete_tree_sound}
use Rattle.page_tree.proofs.FlatInsertion.{replace_in_insert_into, new_entries_fit}
use Rattle.page_tree.proofs.FlatDeletion.{settle_first, delete_from_flat}

-- A tree of pages that is sound over the leaf list of a herd.
pub record HerdTree (w E : ℕ) (s : Herd) (t : Tree) : Type 0 where
  -- "A page in use has 1 to E entries", "the last depth is below all others";
  pub sound : SoundTree E t
  -- "a root above level 0 has at least two entries";
  pub root : RootRule t
  -- "On level 0, read left to right, stands the leaf list"
  pub level0 : leaves_of t ≡ leaf_list w s

-- "The empty herd has the one entry (0, NIL)", in one page on level 0.
pub empty_pages : (w E : ℕ) → 1 ≤ E → HerdTree w E [] (0, entry 0 none ∷ [])
empty_pages w E one =
    record {
      sound = ((refl, omega arith), (tt, tt));
      root = λ h. absurd (omega arith);
      level0 = sym (empty_law w);
    }

module _ (w E : ℕ) (s : Herd) (t : Tree) (narrow : Narrow w s) (sorted : Sorted s) (h : HerdTree w E s t) where
  -- "a last depth 0 closes the list"
  list_closed : Closed (depth 0) 0 (leaf_list w s)
  list_closed = closed_law w s narrow sorted

  -- The root's last depth is 0.
  pub root_depth : depth (suc t.0) t.1 ≡ 0
  root_depth =
      sym (closed_last (depth 0) (depth (suc t.0) t.1) 0 (leaves_of t) (closed_leaves E (suc t.0) t.1 h.sound))
      ∙ ap (last_depth (depth 0) 0) h.level0
      ∙ closed_last (depth 0) 0 0 (leaf_list w s) list_closed

  -- The positions of a key are past it.
  pub positions_past : (k : Key) → Beyond (depth (suc t.0) t.1) (positions 0 k)
  positions_past k = rw root_depth (positions_beyond 0 0 k (omega arith))

  -- What figure 6 finds level by level is what the search of the leaf list finds.
  pub found_in_list : (k : Key) → FoundAt (find_in (positions 0 k) t) (search [] (positions 0 k) (leaf_list w s))
  found_in_list k =
      rw (find_in_leaves E (positions 0 k) t h.sound (positions_rise 0 k) (positions_past k), h.level0)
      (find_flat_search [] (leaf_list w s) (positions 0 k) list_closed (positions_beyond 0 0 k (omega arith)))

  -- "Only a live leaf yields a record, and its key is then compared whole": find in pages gives the record that the herd has.
  pub find_in_pages : (key_of : ℕ → ℕ) (key : ℕ) → key < 2 ^ w → KeysOf key_of s
      → compared (λ r. bits w (key_of r)) (bits w key) (pointer_of (find_in (positions 0 (bits w key)) t).2) ≡ lookup key s
  find_in_pages key_of key n g =
      let at = found_in_list (bits w key) in
      ap (compared (λ r. bits w (key_of r)) (bits w key))
      (sym (ap pointer_at at.entry_found ∙ first (find_in (positions 0 (bits w key)) t).2 at.after))
      ∙ find_law key_of w key s n narrow sorted g
    where
      first : (e : Entry) (es : List Entry) → pointer_at (e ∷ es) ≡ pointer_of e
      first (entry d p) es = refl

  -- On, of a key that is not held.
  module _ (key_of : ℕ → ℕ) (key r : ℕ) (narrow_key : key < 2 ^ w) (keys : KeysOf key_of s) (absent : lookup key s ≡ none) where
    -- What stands in the place of the entry found, and in the place of the root.
    abbrev pub new : Replacement
    new = new_entries (λ x. bits w (key_of x)) (bits w key) r

    abbrev pub roots : List (Node (suc t.0))
    roots = insert_below E new (suc t.0) (positions 0 (bits w key)) 0 t.1

    -- The new entries fit, and are at most w more.
    pub new_fits : Fits w new (find_in (positions 0 (bits w key)) t)
    new_fits =
        rw (bits_length w key) at
        (new_entries_fit (λ x. bits w (key_of x)) (bits w key) r (find_in (positions 0 (bits w key)) t)
        (search [] (positions 0 (bits w key)) (leaf_list w s))
        (found_in_list (bits w key)) (found_law key_of w key s narrow_key narrow sorted keys absent))

    module _ (two : 2 ≤ E) where
      -- Afterwards the tree is sound over the leaf list of the herd with the key.
      pub on_pages : HerdTree w E (add key r s) (on_tree w E key_of key r t)
      on_pages =
          let k : Key = bits w key in
          record {
            sound = insert_tree_sound E w new (positions 0 k) t two h.sound (positions_rise 0 k) (positions_past k) new_fits;
            root = insert_tree_root E w new (positions 0 k) t two h.sound (positions_rise 0 k) (positions_past k) new_fits h.root;
            level0 =
                insert_tree_leaves E new (positions 0 k) t h.sound (positions_rise 0 k) (positions_past k)
                ∙ ap (replace_in (depth 0) new (positions 0 k) 0) h.level0
                ∙ replace_in_insert_into (λ x. bits w (key_of x)) k r (leaf_list w s) [] (positions 0 k)
                ∙ insertion_law key_of w key r s narrow_key narrow sorted keys absent;
          }

      -- "In every row that insertion cuts, the place found is 01's."
      pub on_places : All RightPlace (on_rows_cut w E key_of key r t)
      on_places =
          let k : Key = bits w key in
          rows_cut_right E w new (positions 0 k) t (omega arith) h.sound (positions_rise 0 k) (positions_past k) new_fits

      -- No row that is cut is longer than E + w, at any level,
      pub on_row_short : longest_below E new (suc t.0) (positions 0 (bits w key)) 0 t.1 ≤ E + w
      on_row_short =
          let k : Key = bits w key in
          longest_below_short E w new (omega arith) (suc t.0) (positions 0 k) 0 t.1 h.sound (positions_rise 0 k) (positions_past k) new_fits

      -- and no row of a new root than w + 1.
      pub on_roots_short : longest_above E (length roots) t.0 roots ≤ suc w
      on_roots_short =
          let k : Key = bits w key in
          let p : Beyond (depth (suc t.0) t.1) (positions 0 k) = positions_past k in
          let o = insert_below_in_place E w new (omega arith) (suc t.0) (positions 0 k) 0 t.1 h.sound (positions_rise 0 k) p new_fits in
          omega (arith, longest_above_first E two (length roots) t.0 roots, o.few)

      -- "One call adds at most 64 entries, so the row being split holds at most 319 entries"; that of a new root at most 65.
      pub on_rows : E ≤ 255 → w ≤ 64
          → (longest_below E new (suc t.0) (positions 0 (bits w key)) 0 t.1 ≤ 319) × (longest_above E (length roots) t.0 roots ≤ 65)
      on_rows e v = (omega (arith, on_row_short), omega (arith, on_roots_short))

  -- Off, of a held key: afterwards the tree is sound over the leaf list of the herd without the key.
  pub off_pages : (key r : ℕ) → key < 2 ^ w → lookup key s ≡ some r → HerdTree w E (remove key s) (off_tree w E key t)
  off_pages key r n a =
      let k : Key = bits w key in
      let beside : Neighbours (leaves_of t) = rw h.level0 (neighbours_law w s narrow sorted) in
      let o = delete_tree_sound E (positions 0 k) t h.sound (positions_rise 0 k) root_depth (positions_beyond 0 0 k (omega arith)) beside in
      record {
        sound = o.0;
        root = o.1;
        level0 =
            delete_tree_leaves E (positions 0 k) t h.sound (positions_rise 0 k) (positions_past k)
            ∙ ap (λ (es : List Entry). (delete_flat 0 (positions 0 k) 0 es).0) h.level0
            ∙ sym (settle_first (delete_flat 0 (positions 0 k) 0 (leaf_list w s)).1 (delete_flat 0 (positions 0 k) 0 (leaf_list w s)).0)
            ∙ sym (delete_from_flat (leaf_list w s) [] (positions 0 k) list_closed (positions_beyond 0 0 k (omega arith)))
            ∙ deletion_law w key r s n narrow sorted a;
      }
