-- Where a key's search ends in sound tables, and what its record is. Assumes nothing.
use mathlib.Core.Path.{◌≡◌, sym, ap, subst, ◌∙◌}
use mathlib.Core.Logic.{◌≢◌}
use mathlib.Core.Bool.{Bool, true, false, cond}
use mathlib.Core.Option.{Option, none, some}
use mathlib.Core.List.{List, [], ◌∷◌, reverse_aux}
use Prim.Native.Nat.{ℕ, ◌^◌, ◌≤◌, ◌<◌}
use native.Mathlib.Omega.{arith}
use lib.ListN.{length, take, drop, take-append-drop}
use Rattle.leaf_list.specs.Keys.{bits, same_key}
use Rattle.leaf_list.specs.Entries.{Entry, entry, live_records}
use Rattle.leaf_list.specs.Herd.{Herd, lookup}
use Rattle.leaf_list.specs.LeafList.{leaf_list}
use Rattle.leaf_list.specs.Register.{key_at, in_use, herd_of}
use Rattle.leaf_list.specs.Search.{positions, pointer_at, compared}
use Rattle.leaf_list.proofs.Laws.{find_law, closed_law, live_records_law}
use Rattle.leaf_list.proofs.Positions.{Beyond, positions_rise, positions_beyond}
use Rattle.leaf_list.proofs.PassedEntries.{live_stack}
use Rattle.leaf_list.proofs.Indexed.{found_index, search_index, put_back}
use Rattle.leaf_list.proofs.Bits.{same_key_refl, same_key_bits}
use Rattle.leaf_list.proofs.RegisterHerd.{herd_of_is}
use Rattle.leaf_list.proofs.Lists.{All}
use Rattle.page_tree.specs.Rows.{Closed}
use Rattle.page_tree.specs.Tree.{Tree, depth}
use Rattle.page_tree.specs.Finding.{find_in, find_flat}
use Rattle.page_tree.proofs.FindingLaws.{find_in_leaves, find_flat_search}
use Rattle.index_table.specs.Layout.{layout_of, Within, page_bytes, level_of}
use Rattle.index_table.specs.Header.{width_of, entries_of, pages_of, root_of}
use Rattle.index_table.specs.Pages.{pages_at, record_of, tree_at}
use Rattle.index_table.specs.IndexNumbers.{IndexOf}
use Rattle.index_table.specs.declared.header.Index.{Index}
use Rattle.index_table.specs.Soundness.{Sound, root_level}
use Rattle.index_table.proofs.Pointers.{record_nil, record_live}
use Rattle.index_table.proofs.SoundNodes.{sound_tree, tree_depth}
use Rattle.index_table.proofs.SoundTables.{keys_narrow, in_use_inside, herd_narrow, herd_sorted, herd_keys, table_long, root_within, leaf_depths}
use Rattle.table_search.specs.declared.Leaf.{Leaf}
use Rattle.table_search.specs.Places.{left_from, NextPosition, DescendPre, Descended, page_in, number_leaf, NumberPre}
use Rattle.table_search.proofs.WayEnds.{way_end}
use Rattle.index_table.proofs.PageBytes.{within_table}
use Rattle.table_find.specs.Places.{numbered_leaf, FoundLeaf}
use Rattle.table_find.specs.Answers.{plain, with_record, found}

-- The entry that was found, read off its number.
pub found_read : {index keys used : List ℕ} {key e : ℕ} {r : Leaf} (n : ℕ) → FoundLeaf index keys used key (numbered_leaf index n) → e ≡ entries_of index → r ≡ number_leaf (pages_at (layout_of e) index) n
    → FoundLeaf index keys used key r
found_read {index} {keys} {used} {key} n at z is = subst (FoundLeaf index keys used key) (sym (is ∙ ap (λ (m : ℕ). number_leaf (pages_at (layout_of m) index) n) z)) at

-- The records of the live entries are in use.
pub live_used : {index keys used : List ℕ} → Sound index keys used → All (λ x. in_use used x ≡ true) (live_records (leaf_list (width_of index) (herd_of keys used)))
live_used {index} {keys} {used} s =
    subst (All (λ x. in_use used x ≡ true)) (sym (live_records_law (width_of index) (herd_of keys used) (herd_narrow s) (herd_sorted s))) (herd_of_is keys used).uses

module _ {index keys used : List ℕ} (s : Sound index keys used) (key : ℕ) (narrow : key < 2 ^ width_of index) where
  abbrev w : ℕ
  w = width_of index

  abbrev herd : Herd
  herd = herd_of keys used

  abbrev tree : Tree
  tree = tree_at 65535 (pages_at (layout_of (entries_of index)) index) (root_level index) (root_of index)

  -- The way down starts at the root with the key's first position.
  pub start_descend : (position : ℕ) → NextPosition w key 0 position
      → DescendPre index (entries_of index) (pages_of index) (root_level index) (root_of index) w key position
  start_descend position p =
      record {
        closing = 0;
        sound = s.pages.below;
        before = p.above;
        table = table_long s;
        depths = leaf_depths s;
        width = s.limits.width_high;
        narrow = narrow;
        high = p.within;
      }

  found_in : (position : ℕ) (r : Leaf) → NextPosition w key 0 position
      → (d : Descended w key position 0 (root_level index) false (entries_of index) (pages_at (layout_of (entries_of index)) index) (root_of index) r)
      → find_flat (positions 0 (bits w key)) 0 (leaf_list w herd) ≡ (left_from w key d.next, r.trail, entry r.depth (record_of 65535 r.pointer))
  found_in position r p d =
      ap (find_flat (positions 0 (bits w key)) 0) (sym s.leaves)
      ∙ sym (find_in_leaves (entries_of index) (positions 0 (bits w key)) tree (sound_tree 65535 (layout_of (entries_of index)) (pages_of index) index (root_level index) (root_of index) s.pages) (positions_rise 0 (bits w key))
      (subst (λ (c : ℕ). Beyond c (positions 0 (bits w key))) (sym (tree_depth 65535 (layout_of (entries_of index)) (pages_of index) index (root_level index) (root_of index) s.pages)) (positions_beyond 0 0 (bits w key) (omega arith))))
      ∙ ap (λ (bs : List ℕ). find_in bs tree) p.left
      ∙ d.found

  -- On the leaf list the search ends at that entry.
  pub found_leaf : (position : ℕ) (r : Leaf) → NextPosition w key 0 position → Descended w key position 0 (root_level index) false (entries_of index) (pages_at (layout_of (entries_of index)) index) (root_of index) r
      → FoundLeaf index keys used key r
  found_leaf position r p d =
      let at = find_flat_search [] (leaf_list w herd) (positions 0 (bits w key)) closed (positions_beyond 0 0 (bits w key) (omega arith)) in
      let e = found_in position r p d in
      record {
        after = at.after;
        entry_found = at.entry_found ∙ ap (λ (f : List ℕ × ℕ × Entry). f.2 ∷ at.after) e;
        depth_before = sym (ap (λ (f : List ℕ × ℕ × Entry). f.1) e) ∙ at.depth_before;
        first = position;
        begins = p;
        way = d.way;
      }
    where
      closed : Closed (depth 0) 0 (leaf_list w herd)
      closed = closed_law w herd (herd_narrow s) (herd_sorted s)

  module _ (r : Leaf) (at : FoundLeaf index keys used key r) where
    -- What the search yields is the record that is held with the key.
    compared_is : compared (λ x. bits w (key_at keys x)) (bits w key) (record_of 65535 r.pointer) ≡ lookup key herd
    compared_is =
        ap (λ (es : List Entry). compared (λ x. bits w (key_at keys x)) (bits w key) (pointer_at es)) (sym at.entry_found)
        ∙ find_law (key_at keys) w key herd narrow (herd_narrow s) (herd_sorted s) (herd_keys s)

    looked : (o : Option ℕ) → record_of 65535 r.pointer ≡ o → lookup key herd ≡ compared (λ x. bits w (key_at keys x)) (bits w key) o
    looked o e = sym compared_is ∙ ap (compared (λ x. bits w (key_at keys x)) (bits w key)) e

    -- A dummy yields none.
    pub dummy_absent : r.pointer ≡ 65535 → plain 6 ≡ found (lookup key herd)
    dummy_absent h = ap found (sym (looked none (record_nil h)))

    -- A live leaf with another key yields none.
    pub other_absent : r.pointer ≢ 65535 → key_at keys r.pointer ≢ key → plain 6 ≡ found (lookup key herd)
    other_absent h n =
        ap found
        (sym
        (looked (some r.pointer) (record_live h)
        ∙ ap (λ (t : Bool). cond t (some r.pointer) none) (same_key_bits w key (key_at keys r.pointer) narrow (keys_narrow s r.pointer) (λ e. n (sym e)))))

    -- One with the key yields its record.
    pub live_found : r.pointer ≢ 65535 → key_at keys r.pointer ≡ key → with_record r.pointer ≡ found (lookup key herd)
    live_found h e =
        ap found
        (sym
        (looked (some r.pointer) (record_live h)
        ∙ ap (λ (t : Bool). cond t (some r.pointer) none) (ap (λ (k : ℕ). same_key (bits w key) (bits w k)) e ∙ same_key_refl (bits w key))))

    -- A live leaf's record is one of the register.
    pub live_inside : r.pointer ≢ 65535 → r.pointer < length keys
    live_inside h = subst (λ (n : ℕ). r.pointer < n) (sym s.lengths.register) (in_use_inside s r.pointer (pointer_used r.pointer (record_live h)))
      where
        es : List Entry
        es = leaf_list w herd

        i : ℕ
        i = found_index (positions 0 (bits w key)) es

        whole : reverse_aux (reverse_aux (take i es) []) (drop i es) ≡ es
        whole = put_back (take i es) [] (drop i es) ∙ take-append-drop i es

        behind : All (λ x. in_use used x ≡ true) (live_records (drop i es))
        behind = (live_stack (λ x. in_use used x ≡ true) (reverse_aux (take i es) []) (drop i es) (subst (λ (l : List Entry). All (λ x. in_use used x ≡ true) (live_records l)) (sym whole) (live_used s))).1

        at_front : drop i es ≡ entry r.depth (record_of 65535 r.pointer) ∷ at.after
        at_front = sym (ap (λ (z : List Entry × List Entry). z.1) (search_index es [] (positions 0 (bits w key)))) ∙ at.entry_found

        pointer_used : (p : ℕ) → record_of 65535 r.pointer ≡ some p → in_use used p ≡ true
        pointer_used p e =
            (subst (λ (l : List Entry). All (λ x. in_use used x ≡ true) (live_records l))
            (at_front ∙ ap (λ (o : Option ℕ). entry r.depth o ∷ at.after) e) behind
            ).0

-- The page of an entry found can be read at its place.
pub found_place : {index keys used : List ℕ} {key : ℕ} → Sound index keys used → key < 2 ^ width_of index → (r : ℕ) → FoundLeaf index keys used key (numbered_leaf index r)
    → {e : ℕ} → e ≡ entries_of index → NumberPre index e r
found_place {index} s narrow r at z =
    let end = way_end (numbered_leaf index r) (root_level index) 0 false (start_descend s _ narrow at.first at.begins) at.way in
    rw z
    (record {
      within = within_table (layout_of (entries_of index)) (pages_of index) (page_in r) index (table_long s) end.0.number;
      few = end.0.few;
      inside = end.1;
    })

-- The same, with the header's numbers as the code holds them.
module _ {index keys used : List ℕ} (s : Sound index keys used) (h : Index) (i : IndexOf index h) where
  pub root_page : Within (layout_of h.entries) index h.root.0
  root_page = rw (i.entries, i.root) (root_within s)

  pub width_high : (w : ℕ) → w ≡ h.width → w ≤ 64
  width_high w e = omega (arith, i.width, s.limits.width_high)

  module _ (w key level : ℕ) (e : w ≡ h.width) (l : level ≡ level_of (page_bytes (layout_of h.entries) index h.root.0)) (narrow : key < 2 ^ width_of index) where
    pub key_narrow : key < 2 ^ w
    key_narrow = rw (e, i.width) narrow

    pub descend_start : (position : ℕ) → NextPosition w key 0 position → DescendPre index (entries_of index) (pages_of index) level h.root.0 (width_of index) key position
    descend_start position p =
        rw (l, i.entries, i.root) (start_descend s key narrow position (subst (λ (n : ℕ). NextPosition n key 0 position) (e ∙ i.width) p))

    pub descend_end : (position : ℕ) (r : Leaf) → NextPosition w key 0 position → Descended (width_of index) key position 0 level false (entries_of index) (pages_at (layout_of (entries_of index)) index) h.root.0 r
        → FoundLeaf index keys used key r
    descend_end position r p d =
        found_leaf s key narrow position r (subst (λ (n : ℕ). NextPosition n key 0 position) (e ∙ i.width) p) (rw (l, i.entries, i.root) at d)
