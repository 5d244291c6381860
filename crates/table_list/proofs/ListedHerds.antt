-- In sound tables, what is visited from the place of the lower end on is what the list gives. Assumes nothing.
use mathlib.Core.Path.{◌≡◌, sym, ap, subst, ◌∙◌}
use mathlib.Core.Bool.{true}
use mathlib.Core.Option.{none, some}
use mathlib.Core.List.{List, [], ◌∷◌, ◌++◌, foldl-append}
use Prim.Native.Nat.{ℕ, suc, ◌^◌, ◌<◌, min}
use native.Mathlib.Omega.{arith}
use native.Mathlib.Nat.{zero-add}
use lib.ListN.{length, take, drop, take-append-drop}
use Rattle.leaf_list.specs.Keys.{bits}
use Rattle.leaf_list.specs.Entries.{Entry, entry, pointer_of, live_records}
use Rattle.leaf_list.specs.Herd.{Herd, records_of}
use Rattle.leaf_list.specs.LeafList.{leaf_list}
use Rattle.leaf_list.specs.Register.{key_at, in_use, herd_of}
use Rattle.leaf_list.specs.Search.{positions}
use Rattle.leaf_list.proofs.Laws.{live_records_law, passed_law}
use Rattle.leaf_list.proofs.LiveRecords.{live_records_append}
use Rattle.leaf_list.proofs.Positions.{Beyond, positions_rise, positions_beyond}
use Rattle.leaf_list.proofs.Indexed.{found_index}
use Rattle.leaf_list.proofs.Lists.{All, all_weaker}
use Rattle.page_tree.specs.Tree.{Tree}
use Rattle.index_table.specs.Layout.{layout_of, page_bytes, level_of}
use Rattle.index_table.specs.Header.{width_of, entries_of, pages_of, root_of}
use Rattle.index_table.specs.Pages.{pages_at, tree_at}
use Rattle.index_table.specs.IndexNumbers.{IndexOf}
use Rattle.index_table.specs.declared.header.Index.{Index}
use Rattle.index_table.specs.Soundness.{Sound, root_level, leaf_entries}
use Rattle.index_table.proofs.SoundNodes.{sound_tree, tree_depth}
use Rattle.index_table.proofs.SoundTables.{keys_narrow, in_use_inside, herd_narrow, herd_sorted, herd_keys}
use Rattle.table_search.specs.Places.{left_from, NextPosition}
use Rattle.table_find.specs.Answers.{with_count}
use Rattle.table_list.specs.Ranges.{records_between}
use Rattle.table_list.specs.Listings.{State, begun, count_in, more_in, visited, visit_all, leaves_from, Inside, FromPre, FromListed, Listed}
use Rattle.table_find.proofs.FoundLeaves.{live_used, descend_start}
use Rattle.table_list.proofs.Visits.{visit_records, visit_live, records_below, records_herd, Filled}
use Rattle.table_list.proofs.PlaceLeaves.{leaves_from_drop}

-- Records inside the register, entry by entry.
records_inside : (keys : List ℕ) (es : List Entry) → All (λ r. r < length keys) (live_records es) → All (λ x. Inside keys (pointer_of x)) es
records_inside keys [] h = tt
records_inside keys (entry d none ∷ es) h = (tt, records_inside keys es h)
records_inside keys (entry d (some r) ∷ es) h = (h.0, records_inside keys es h.1)

-- Entries all of whose keys are below the lower end may be left out.
visit_front : (keys : List ℕ) (a b : ℕ) (out : List ℕ) (xs ys : List Entry) → All (λ r. key_at keys r < a) (live_records xs)
    → visit_all keys a b (out, begun) ys ≡ visit_records keys a b (out, begun) (live_records (xs ++ ys))
visit_front keys a b out xs ys h =
    visit_live keys a b (out, begun) ys
    ∙ ap (λ (s : State). visit_records keys a b s (live_records ys)) (sym (records_below keys a b out 0 (live_records xs) h))
    ∙ sym (foldl-append (λ (s : State) r. visited keys a b s (some r)) (out, begun) (live_records xs) (live_records ys))
    ∙ ap (visit_records keys a b (out, begun)) (sym (live_records_append xs ys))

module _ {index keys used : List ℕ} (s : Sound index keys used) where
  abbrev w : ℕ
  w = width_of index

  abbrev herd : Herd
  herd = herd_of keys used

  abbrev tree : Tree
  tree = tree_at 65535 (pages_at (layout_of (entries_of index)) index) (root_level index) (root_of index)

  -- Every live entry's record is one of the register.
  pub leaves_inside : All (λ x. Inside keys (pointer_of x)) (leaf_entries index)
  leaves_inside =
      subst (All (λ x. Inside keys (pointer_of x))) (sym s.leaves)
      (records_inside keys (leaf_list w herd)
      (all_weaker (λ r. in_use used r ≡ true) (λ r. r < length keys) (live_records (leaf_list w herd)) (λ r h. rw s.lengths.register (in_use_inside s r h)) (live_used s)))

  module _ (a : ℕ) (narrow : a < 2 ^ w) where
    -- How many entries the search for the lower end passes.
    i : ℕ
    i = found_index (positions 0 (bits w a)) (leaf_list w herd)

    -- From the lower end's place stands the leaf list's rest.
    place_leaves : (position : ℕ) → NextPosition w a 0 position → leaves_from (suc (root_level index)) (left_from w a position) 0 tree.1 ≡ drop i (leaf_list w herd)
    unfolding i
    place_leaves position p =
        ap (λ (bs : List ℕ). leaves_from (suc (root_level index)) bs 0 tree.1) (sym p.left)
        ∙ leaves_from_drop (entries_of index) (suc (root_level index)) (positions 0 (bits w a)) 0 tree.1
        (sound_tree 65535 (layout_of (entries_of index)) (pages_of index) index (root_level index) (root_of index) s.pages) (positions_rise 0 (bits w a))
        (subst (λ (c : ℕ). Beyond c (positions 0 (bits w a))) (sym (tree_depth 65535 (layout_of (entries_of index)) (pages_of index) index (root_level index) (root_of index) s.pages)) (positions_beyond 0 0 (bits w a) (omega arith)))
        ∙ ap (λ (es : List Entry). drop (found_index (positions 0 (bits w a)) es) es) s.leaves

    -- What is visited from there fills the slice as the herd's records do.
    pub place_filled : (b position : ℕ) (out : List ℕ) → NextPosition w a 0 position
        → Filled [] out (records_between a b herd) (visit_all keys a b (out, begun) (leaves_from (suc (root_level index)) (left_from w a position) 0 tree.1))
    unfolding i
    place_filled b position out p =
        subst (Filled [] out (records_between a b herd)) (sym same) (records_herd keys a b herd (herd_sorted s) (herd_keys s) [] out)
      where
        same : visit_all keys a b (out, begun) (leaves_from (suc (root_level index)) (left_from w a position) 0 tree.1) ≡ visit_records keys a b (out, begun) (records_of herd)
        same =
            ap (visit_all keys a b (out, begun)) (place_leaves position p)
            ∙ visit_front keys a b out (take i (leaf_list w herd)) (drop i (leaf_list w herd)) (passed_law (key_at keys) w a herd narrow (keys_narrow s) (herd_narrow s) (herd_sorted s) (herd_keys s))
            ∙ ap (λ (es : List Entry). visit_records keys a b (out, begun) (live_records es)) (take-append-drop i (leaf_list w herd))
            ∙ ap (visit_records keys a b (out, begun)) (live_records_law w herd (herd_narrow s) (herd_sorted s))

-- A filled slice is the list's, and so is its answer.
filled_listed : (a b : ℕ) (herd : Herd) (before : List ℕ) (s : State) → Filled [] before (records_between a b herd) s
    → Listed a b herd before (with_count (count_in s.1) (more_in s.1)) s.0
filled_listed a b herd before s f =
    record {
      answered = λ j. with_count ((f.count ∙ zero-add (min (length (records_between a b herd)) (length before))) j) (f.more j);
      slice = f.slice;
    }

-- The same, with the header's numbers as the code holds them.
module _ {index keys used : List ℕ} (s : Sound index keys used) (h : Index) (x : IndexOf index h) (w a level : ℕ) (e : w ≡ h.width)
    (l : level ≡ level_of (page_bytes (layout_of h.entries) index h.root.0)) (narrow : a < 2 ^ width_of index) where
  -- The walk starts at the root,
  pub list_start : (position : ℕ) → NextPosition w a 0 position → FromPre index keys h.entries level h.root.0 w a position
  list_start position p =
      record {
        P = h.pages;
        place = rw (x.entries, x.pages, e ∙ x.width) (descend_start s h x w a level e l narrow position p);
        inside = rw (l, x.entries, x.root) (leaves_inside s);
      }

  -- and ends with the list's answer and slice.
  pub list_end : (b position : ℕ) (before : List ℕ) (r : State) → NextPosition w a 0 position → FromListed index keys h.entries level h.root.0 w a b position 0 before r
      → Listed a b (herd_of keys used) before (with_count (count_in r.1) (more_in r.1)) r.0
  list_end b position before r p d =
      filled_listed a b (herd_of keys used) before r
      (subst (Filled [] before (records_between a b (herd_of keys used))) (sym moved.walked)
      (place_filled s a narrow b position before (subst (λ (n : ℕ). NextPosition n a 0 position) (e ∙ x.width) p)))
    where
      moved : FromListed index keys (entries_of index) (root_level index) (root_of index) (width_of index) a b position 0 before r
      moved =
          subst (λ (n : ℕ). FromListed index keys (entries_of index) (root_level index) (root_of index) n a b position 0 before r) (e ∙ x.width)
          (rw (l, x.entries, x.root) at d)
