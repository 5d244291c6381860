-- Replacing the entry found on level 0 is the leaf list's insertion (01, "Insertion (5.1)"). Assumes nothing.
use mathlib.Core.Path.{◌≡◌, refl, ap, ◌∙◌}
use mathlib.Core.Bool.{Bool, true, false, cond, ◌&&◌}
use mathlib.Core.Option.{none, some}
use mathlib.Core.List.{List, [], ◌∷◌, ◌++◌, reverse_aux}
use Prim.Native.Nat.{ℕ, ◌+◌, ◌<◌, ◌≤◌}
use native.Mathlib.Omega.{arith}
use lib.Dec.{ltb}
use lib.ListN.{length}
use borrow.Author.Tests.{ltb-true}
use Rattle.leaf_list.specs.Keys.{Key, below, first_difference}
use Rattle.leaf_list.specs.Entries.{Entry, entry}
use Rattle.leaf_list.specs.Search.{Place, positions, search}
use Rattle.leaf_list.specs.Insertion.{trailing, leaf_depth, dummies, both_leaves, insert_at, insert_into}
use Rattle.leaf_list.proofs.TrieInsertion.{leaf_depth_max}
use Rattle.leaf_list.proofs.FoundEntry.{FoundOther}
use Rattle.leaf_list.proofs.InsertionCount.{insert_at_length}
use Rattle.leaf_list.proofs.Depths.{closed_cons}
use Rattle.page_tree.specs.Rows.{Closed}
use Rattle.page_tree.specs.Tree.{depth}
use Rattle.page_tree.specs.Walk.{rest}
use Rattle.page_tree.specs.Finding.{Found}
use Rattle.page_tree.specs.OnPages.{new_entries, replace_in}
use Rattle.page_tree.proofs.ListLaws.{all_unit}
use Rattle.page_tree.proofs.ClosedRows.{closed_nonempty}
use Rattle.page_tree.proofs.FindingLaws.{FoundAt}
use Rattle.page_tree.proofs.InsertionSound.{Fits}

-- The dummies stand before what they stood before.
pub dummies_append : (l b : ℕ) (ps : List ℕ) (es after : List Entry) → dummies l b ps es ++ after ≡ dummies l b ps (es ++ after)
dummies_append l b [] es after = refl
dummies_append l b (p ∷ ps) es after = go (ltb l p && ltb p b) (dummies_append l b ps es after)
  where
    go : (t : Bool) → dummies l b ps es ++ after ≡ dummies l b ps (es ++ after)
        → cond t (entry p none ∷ dummies l b ps es) (dummies l b ps es) ++ after
        ≡ cond t (entry p none ∷ dummies l b ps (es ++ after)) (dummies l b ps (es ++ after))
    go true e = ap (λ (es : List Entry). entry p none ∷ es) e
    go false e = e

-- So do the two leaves.
pub both_leaves_append : (t : Bool) (b d new old : ℕ) (after : List Entry) → both_leaves t b d new old [] ++ after ≡ both_leaves t b d new old after
both_leaves_append true b d new old after = refl
both_leaves_append false b d new old after = refl

-- Dummies deeper than d before a row that d closes.
dummies_closed : (d l b : ℕ) (ps : List ℕ) (es : List Entry) → d ≤ l → Closed (depth 0) d es → Closed (depth 0) d (dummies l b ps es)
dummies_closed d l b [] es h g = g
dummies_closed d l b (p ∷ ps) es h g = go (ltb l p) (ltb p b) refl (dummies_closed d l b ps es h g)
  where
    go : (t u : Bool) → ltb l p ≡ t → Closed (depth 0) d (dummies l b ps es)
        → Closed (depth 0) d (cond (t && u) (entry p none ∷ dummies l b ps es) (dummies l b ps es))
    go true true q i = closed_cons (depth 0) d (entry p none) (dummies l b ps es) (omega (arith, ltb-true l p q)) i
    go true false q i = i
    go false u q i = i

-- The two leaves are such a row.
both_leaves_closed : (t : Bool) (b d new old : ℕ) → d < b → Closed (depth 0) d (both_leaves t b d new old [])
both_leaves_closed true b d new old h = (h, refl)
both_leaves_closed false b d new old h = (h, refl)

module _ (key_of : ℕ → Key) (k : Key) (r : ℕ) where
  -- What stands for another key's leaf, before those after it; t says that b is below the leaf's depth.
  abbrev for_leaf : Bool → ℕ → ℕ → ℕ → List Entry → List Entry
  for_leaf t τ d old after =
      let b : ℕ = first_difference 0 k (key_of old) in
      cond t (entry b (some old) ∷ entry d (some r) ∷ after)
      (dummies (leaf_depth τ d) b (positions 0 k) (both_leaves (below k (key_of old)) b d r old after))

  -- What stands for the entry found does not look at those after it.
  pub insert_at_append : (τ : ℕ) (e : Entry) (after : List Entry) → insert_at key_of k r τ (e ∷ []) ++ after ≡ insert_at key_of k r τ (e ∷ after)
  insert_at_append τ (entry d none) after = refl
  insert_at_append τ (entry d (some old)) after = go (ltb (first_difference 0 k (key_of old)) (leaf_depth τ d))
    where
      go : (t : Bool) → for_leaf t τ d old [] ++ after ≡ for_leaf t τ d old after
      go true = refl
      go false =
          let b : ℕ = first_difference 0 k (key_of old) in
          dummies_append (leaf_depth τ d) b (positions 0 k) (both_leaves (below k (key_of old)) b d r old []) after
          ∙ rw (both_leaves_append (below k (key_of old)) b d r old after)

  -- Replacing the entry found is insertion at the place found.
  pub replace_in_insert_into : (es before : List Entry) (bs : List ℕ)
      → reverse_aux before (replace_in (depth 0) (new_entries key_of k r) bs (trailing before) es) ≡ insert_into key_of k r (search before bs es)
  replace_in_insert_into [] before bs = refl
  replace_in_insert_into (e ∷ es) before [] = ap (reverse_aux before) (insert_at_append (trailing before) e es)
  replace_in_insert_into (entry d p ∷ es) before (b ∷ bs) = go (ltb d b) (replace_in_insert_into es (entry d p ∷ before) (rest d b bs))
    where
      right : List Entry
      right = replace_in (depth 0) (new_entries key_of k r) (rest d b bs) d es

      place : Place
      place = search (entry d p ∷ before) (rest d b bs) es

      both : Bool → Place
      both t = cond t (before, entry d p ∷ es) place

      go : (t : Bool) → reverse_aux (entry d p ∷ before) right ≡ insert_into key_of k r place
          → reverse_aux before (cond t (insert_at key_of k r (trailing before) (entry d p ∷ []) ++ es) (entry d p ∷ right))
          ≡ insert_into key_of k r (both t)
      go true e = ap (reverse_aux before) (insert_at_append (trailing before) (entry d p) es)
      go false e = e

  -- What stands for the entry found has its depth last and all others deeper: insertion never changes a page's last depth.
  pub insert_at_closed : (τ : ℕ) (e : Entry) (after : List Entry) → FoundOther key_of k τ (e ∷ after)
      → Closed (depth 0) (depth 0 e) (insert_at key_of k r τ (e ∷ []))
  insert_at_closed τ (entry d none) after h = refl
  insert_at_closed τ (entry d (some old)) after h = go (ltb (first_difference 0 k (key_of old)) (leaf_depth τ d))
    where
      go : (t : Bool) → Closed (depth 0) d (for_leaf t τ d old [])
      go true = (h.deeper, refl)
      go false =
          let b : ℕ = first_difference 0 k (key_of old) in
          dummies_closed d (leaf_depth τ d) b (positions 0 k) (both_leaves (below k (key_of old)) b d r old []) (omega (arith, leaf_depth_max τ d))
          (both_leaves_closed (below k (key_of old)) b d r old h.deeper)

  -- And there are at most as many more as the key has bits.
  pub insert_at_few : (τ : ℕ) (e : Entry) (after : List Entry) → FoundOther key_of k τ (e ∷ after)
      → length (insert_at key_of k r τ (e ∷ [])) ≤ 1 + length k
  insert_at_few τ (entry d none) after h = insert_at_length key_of k r τ (entry d none ∷ []) h
  insert_at_few τ (entry d (some old)) after h = insert_at_length key_of k r τ (entry d (some old) ∷ []) h

  -- So the new entries fit where a search of the leaf list found a dummy or another key's leaf.
  pub new_entries_fit : (found : Found) (place : Place) → FoundAt found place → FoundOther key_of k (trailing place.0) place.1
      → Fits (length k) (new_entries key_of k r) found
  new_entries_fit found place at h =
      let other : FoundOther key_of k found.1 (found.2 ∷ at.after) = rw at.entry_found at (rw (← at.depth_before) at h) in
      let closed = insert_at_closed found.1 found.2 at.after other in
      record {
        closed = closed;
        good = all_unit (insert_at key_of k r found.1 (found.2 ∷ []));
        longer = closed_nonempty (depth 0) (depth 0 found.2) (insert_at key_of k r found.1 (found.2 ∷ [])) closed;
        few = insert_at_few found.1 found.2 at.after other;
      }
