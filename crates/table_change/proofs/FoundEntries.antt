-- The entry found in sound tables, and the entries that a new key brings there. Assumes nothing.
use mathlib.Core.Path.{◌≡◌, refl, sym, ap, subst, ◌∙◌}
use mathlib.Core.Logic.{◌≢◌}
use mathlib.Core.Bool.{Bool, true, false, cond}
use mathlib.Core.Option.{Option, none, some}
use mathlib.Core.List.{List, [], ◌∷◌, map, reverse_aux}
use Prim.Native.Nat.{ℕ, zero, suc, ◌^◌, ◌≤◌, ◌<◌}
use native.Mathlib.Omega.{arith}
use lib.Dec.{eqb}
use lib.ListN.{length, take, drop, length-map}
use borrow.Author.Tests.{eqb-true, eqb-false}
use Rattle.leaf_list.specs.Keys.{bits}
use Rattle.leaf_list.specs.Entries.{Entry, entry, depth_of}
use Rattle.leaf_list.specs.Herd.{lookup}
use Rattle.leaf_list.specs.LeafList.{leaf_list}
use Rattle.leaf_list.specs.Search.{positions, search}
use Rattle.leaf_list.specs.Insertion.{trailing, insert_at}
use Rattle.leaf_list.specs.Register.{key_at, herd_of}
use Rattle.leaf_list.proofs.Indexed.{found_index, search_index}
use Rattle.leaf_list.proofs.Laws.{depths_law}
use Rattle.page_tree.specs.Row.{row_of, Holds}
use Rattle.page_tree.specs.Rows.{All, Closed}
use Rattle.page_tree.specs.Tree.{depth}
use Rattle.page_tree.specs.declared.Row.{Row}
use Rattle.page_tree.proofs.RowMaps.{closed_unmap}
use Rattle.page_tree.proofs.HerdPages.{found_in_list, new_fits}
use Rattle.index_table.specs.Layout.{Ref, Fitting}
use Rattle.index_table.specs.Header.{width_of}
use Rattle.index_table.specs.Pages.{leaf_of}
use Rattle.index_table.specs.Soundness.{Sound, tree_of}
use Rattle.index_table.proofs.SoundTables.{herd_narrow, herd_sorted, herd_keys, keys_narrow}
use Rattle.index_write.proofs.LoadedRows.{row_with_lem}
use Rattle.table_search.specs.declared.Leaf.{Leaf}
use Rattle.table_find.specs.declared.answer.Answer.{Answer}
use Rattle.table_find.specs.Answers.{plain, with_record, found}
use Rattle.table_find.specs.Places.{FoundLeaf}
use Rattle.table_find.proofs.FoundLeaves.{dummy_absent, other_absent, live_found, live_inside}
use Rattle.new_entries.specs.Entries.{entries_in, entry_of, refs_for, FoundPre, NewEntries}
use Rattle.new_entries.specs.declared.entries.News.{News}
use Rattle.new_entries.proofs.NewLeaves.{news_read, news_fit}
use Rattle.index_change.specs.Repaging.{found_for}
use Rattle.table_change.specs.Changes.{is_some, is_held}
use Rattle.table_change.specs.News.{key_is, NewsFor}
use Rattle.table_change.specs.FoundKeys.{row_for}
use Rattle.table_change.proofs.SoundAfter.{herd_tree}

-- ---- an entry of a list whose entries have a property

all_drop : {A : Type 0} (P : A → Type 0) (i : ℕ) (xs : List A) → All P xs → All P (drop i xs)
all_drop P zero xs h = h
all_drop P (suc i) [] h = tt
all_drop P (suc i) (x ∷ xs) h = all_drop P i xs h.1

all_take : {A : Type 0} (P : A → Type 0) (i : ℕ) (xs : List A) → All P xs → All P (take i xs)
all_take P zero xs h = tt
all_take P (suc i) [] h = tt
all_take P (suc i) (x ∷ xs) h = (h.0, all_take P i xs h.1)

all_reversed : {A : Type 0} (P : A → Type 0) (xs ys : List A) → All P xs → All P ys → All P (reverse_aux xs ys)
all_reversed P [] ys h g = g
all_reversed P (x ∷ xs) ys h g = all_reversed P xs (x ∷ ys) h.1 (h.0, g)

trailing_low : (w : ℕ) (before : List Entry) → All (λ e. depth_of e ≤ w) before → trailing before ≤ w
trailing_low w [] h = omega arith
trailing_low w (entry d p ∷ before) h = h.0

-- ---- what a find's answer says of the key

true_false : ◌≡◌ {A = Bool} true false → ⊥
true_false e = absurd (let z : ◌≡◌ {A = ℕ} 1 0 = ap (λ (b : Bool). cond b 1 0) e in omega arith)

absent_held : (o : Option ℕ) → plain 6 ≡ found o → is_some o ≡ false
absent_held none e = refl
absent_held (some r) e = absurd (let z : ◌≡◌ {A = ℕ} 6 0 = ap (λ (a : Answer). a.number) e in omega arith)

present_held : (p : ℕ) (o : Option ℕ) → with_record p ≡ found o → is_some o ≡ true
present_held p none e = absurd (let z : ◌≡◌ {A = ℕ} 0 6 = ap (λ (a : Answer). a.number) e in omega arith)
present_held p (some r) e = refl

pub not_held : (o : Option ℕ) → is_some o ≡ false → o ≡ none
not_held none e = refl
not_held (some r) e = absurd (true_false e)

module _ {index keys used : List ℕ} (s : Sound index keys used) (key : ℕ) (narrow : key < 2 ^ width_of index) (leaf : Leaf) (at : FoundLeaf index keys used key leaf) where
  abbrev w : ℕ
  w = width_of index

  abbrev es : List Entry
  es = leaf_list w (herd_of keys used)

  low : All (λ e. depth_of e ≤ w) es
  low = (depths_law w (herd_of keys used) (herd_narrow s) (herd_sorted s)).within

  split : search [] (positions 0 (bits w key)) es ≡ (reverse_aux (take (found_index (positions 0 (bits w key)) es) es) [], drop (found_index (positions 0 (bits w key)) es) es)
  split = search_index es [] (positions 0 (bits w key))

  pub depth_inside : leaf.depth ≤ w
  depth_inside =
      (subst (All (λ e. depth_of e ≤ w)) (sym (ap (λ (z : List Entry × List Entry). z.1) split) ∙ at.entry_found)
      (all_drop (λ e. depth_of e ≤ w) (found_index (positions 0 (bits w key)) es) es low)
      ).0

  abbrev passed : List Entry
  passed = take (found_index (positions 0 (bits w key)) es) es

  pub trail_inside : leaf.trail ≤ w
  trail_inside =
      subst (λ (n : ℕ). n ≤ w) (sym (at.depth_before ∙ ap (λ (z : List Entry × List Entry). trailing z.0) split))
      (trailing_low w (reverse_aux passed []) (all_reversed (λ e. depth_of e ≤ w) passed [] (all_take (λ e. depth_of e ≤ w) (found_index (positions 0 (bits w key)) es) es low) tt))

  pub pointer_inside : leaf.pointer ≤ 65535
  pointer_inside = go (eqb leaf.pointer 65535) refl
    where
      go : (t : Bool) → eqb leaf.pointer 65535 ≡ t → leaf.pointer ≤ 65535
      go true e = omega (arith, eqb-true leaf.pointer 65535 e)
      go false e = omega (arith, live_inside s key narrow leaf at (eqb-false leaf.pointer 65535 e), s.lengths.register, s.limits.records_high)

  -- Row 5: the key is held if the entry found is the leaf of a record with it.
  pub held_is : is_held key (herd_of keys used) ≡ key_is keys leaf.pointer key
  held_is = go (eqb leaf.pointer 65535) (eqb (key_at keys leaf.pointer) key) refl refl
    where
      go : (t u : Bool) → eqb leaf.pointer 65535 ≡ t → eqb (key_at keys leaf.pointer) key ≡ u → is_held key (herd_of keys used) ≡ cond t false u
      go true u e f = absent_held (lookup key (herd_of keys used)) (dummy_absent s key narrow leaf at (eqb-true leaf.pointer 65535 e))
      go false true e f = present_held leaf.pointer (lookup key (herd_of keys used)) (live_found s key narrow leaf at (eqb-false leaf.pointer 65535 e) (eqb-true (key_at keys leaf.pointer) key f))
      go false false e f = absent_held (lookup key (herd_of keys used)) (other_absent s key narrow leaf at (eqb-false leaf.pointer 65535 e) (eqb-false (key_at keys leaf.pointer) key f))

  -- The entry found in the tree.
  pub found_entry : (found_for index key).2 ≡ entry_of leaf
  found_entry =
      let f = found_in_list w _ (herd_of keys used) (tree_of index) (herd_narrow s) (herd_sorted s) (herd_tree s) (bits w key) in
      first (sym f.entry_found ∙ at.entry_found)
    where
      first : {x y : Entry} {xs ys : List Entry} → x ∷ xs ≡ y ∷ ys → x ≡ y
      first e = cc

  pub found_trail : (found_for index key).1 ≡ leaf.trail
  found_trail =
      let f = found_in_list w _ (herd_of keys used) (tree_of index) (herd_narrow s) (herd_sorted s) (herd_tree s) (bits w key) in
      f.depth_before ∙ sym at.depth_before

  -- What 5.1 asks of the entry found, where the key is not held.
  pub found_pre : (r : ℕ) → r < 65535 → key_is keys leaf.pointer key ≡ false → FoundPre keys w key r leaf
  found_pre r h n = record {
    width = s.limits.width_high;
    narrow = narrow;
    free_record = h;
    depth_inside = depth_inside;
    trail_inside = trail_inside;
    pointer_inside = pointer_inside;
    inside = live_inside s key narrow leaf at;
    other_narrow = λ l. keys_narrow s leaf.pointer;
    other = λ l e. other l (eqb leaf.pointer 65535) (eqb (key_at keys leaf.pointer) key) refl refl n e;
  }
    where
      other : leaf.pointer ≢ 65535 → (t u : Bool) → eqb leaf.pointer 65535 ≡ t → eqb (key_at keys leaf.pointer) key ≡ u → cond t false u ≡ false → key ≡ key_at keys leaf.pointer → ⊥
      other l true u a b c e = l (eqb-true leaf.pointer 65535 a)
      other l false true a b c e = true_false c
      other l false false a b c e = eqb-false (key_at keys leaf.pointer) key b (sym e)

  -- The entries made there are those that belong there.
  pub news_made : (r : ℕ) {n : News} → lookup key (herd_of keys used) ≡ none → NewEntries keys w key r leaf n → NewsFor index keys key r (row_for index key n)
  news_made r {n} absent h =
      let fits = new_fits w _ (herd_of keys used) (tree_of index) (herd_narrow s) (herd_sorted s) (herd_tree s) (key_at keys) key r narrow (herd_keys s) absent in
      let rows : row_of (row_for index key n) ≡ refs_for w key n = row_with_lem (refs_for w key n) in
      let made : entries_in (row_for index key n) ≡ insert_at (λ x. bits w (key_at keys x)) (bits w key) r (found_for index key).1 ((found_for index key).2 ∷ []) =
      rw (found_entry, found_trail) (ap (map (leaf_of 65535)) rows ∙ news_read h.newly ∙ h.entries) in
      let long : length (entries_in (row_for index key n)) ≡ length (refs_for w key n) = length-map (row_of (row_for index key n)) (leaf_of 65535) ∙ ap length rows in
      record {
        entries = made;
        fitting = subst (Fitting 2) (sym rows) (news_fit h.newly);
        some = subst (λ (k : ℕ). 1 ≤ k) (sym (ap length made) ∙ long) fits.longer;
        few = subst (λ (k : ℕ). k ≤ suc w) (sym (ap length made) ∙ long) (omega (arith, fits.few));
        closed = closed_unmap (λ (y : Ref). y.0) (depth 0) (leaf_of 65535) _ (row_of (row_for index key n)) (same (row_of (row_for index key n))) (subst (Closed (depth 0) _) (sym made) (rw_depth (found_for index key).2 (insert_at (λ x. bits w (key_at keys x)) (bits w key) r (found_for index key).1 ((found_for index key).2 ∷ [])) fits.closed));
      }
    where
      same : (rows : List Ref) → All (λ (y : Ref). depth 0 (leaf_of 65535 y) ≡ y.0) rows
      same [] = tt
      same (x ∷ rows) = (refl, same rows)

      rw_depth : (e : Entry) (l : List Entry) → Closed (depth 0) (depth 0 e) l → Closed (depth 0) (depth_of e) l
      rw_depth (entry d p) l h = h

-- Another row with the same entries.
pub news_in : {index keys : List ℕ} {key r : ℕ} (n : News) {k : ℕ} {row : Row} → NewsFor index keys key r (row_for index key n) → k ≡ length (refs_for (width_of index) key n) → Holds row k (refs_for (width_of index) key n)
    → NewsFor index keys key r row
news_in {index} {keys} {key} {r} n {k} {row} h c g =
    let rows : row_of row ≡ row_of (row_for index key n) = g.entries ∙ sym (row_with_lem (refs_for (width_of index) key n)) in
    record {
      entries = ap (map (leaf_of 65535)) rows ∙ h.entries;
      fitting = subst (Fitting 2) (sym rows) h.fitting;
      some = omega (arith, g.count, c, h.some);
      few = omega (arith, g.count, c, h.few);
      closed = subst (Closed (λ (y : Ref). y.0) _) (sym rows) h.closed;
    }
