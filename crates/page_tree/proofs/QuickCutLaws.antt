-- In a row whose last depth is below all others, the quick search finds 01's place (02, "Cutting a page more quickly"). Assumes nothing.
use mathlib.Core.Path.{◌≡◌, refl, ap, sym}
use mathlib.Core.Bool.{Bool, true, false, cond, ◌||◌, true≢false}
use mathlib.Core.List.{List, [], ◌∷◌}
use Prim.Native.Nat.{ℕ, suc, ◌<◌}
use native.Mathlib.Omega.{arith}
use lib.Dec.{eqb}
use lib.ListN.{length}
use borrow.Author.Tests.{eqb-true, eqb-false}
use Rattle.page_tree.specs.Rows.{itself, Closed, last_depth, LastBelow}
use Rattle.page_tree.specs.Cutting.{split}
use Rattle.page_tree.specs.QuickCut.{tried, meets, quick_place}
use Rattle.page_tree.proofs.Splitting.{split_here, split_on, split_closed}

-- In depths 3 2 4 2 1 the search stops at the second of five; in 5 3 4 3 1 none is 2, and the first 3 is the place.
pub quick_examples : (quick_place itself (3 ∷ 2 ∷ 4 ∷ 2 ∷ 1 ∷ []) ≡ 2) × (tried itself 1 (3 ∷ 2 ∷ 4 ∷ 2 ∷ 1 ∷ []) ≡ 2)
    × (quick_place itself (5 ∷ 3 ∷ 4 ∷ 3 ∷ 1 ∷ []) ≡ 2) × (tried itself 1 (5 ∷ 3 ∷ 4 ∷ 3 ∷ 1 ∷ []) ≡ 4)
unfolding quick_place meets tried split
quick_examples = (refl, refl, refl, refl)

module _ {A : Type 0} (depth : A → ℕ) where
  -- The shallowest has the depth c + 1, and the left part is as long as the search tried.
  abbrev MetPlace : ℕ → List A → Type 0
  MetPlace c row = ((split depth row).0 ≡ suc c) × (length (split depth row).1 ≡ tried depth c row)

  -- So it is where the depth c + 1 is met: nothing shallower can follow, and all before are deeper.
  met_place : (c : ℕ) (row : List A) → Closed depth c row → meets depth c row ≡ true → MetPlace c row
  unfolding split tried meets
  met_place c [] h m = absurd h
  met_place c (x ∷ []) h m = absurd (true≢false (sym m))
  met_place c (x ∷ y ∷ []) h m = go (eqb (depth x) (suc c)) refl m
    where
      go : (t : Bool) → eqb (depth x) (suc c) ≡ t → (t || false) ≡ true → (depth x ≡ suc c) × (◌≡◌ {A = ℕ} 1 (cond t 1 1))
      go true e m = (eqb-true (depth x) (suc c) e, refl)
      go false e m = absurd (true≢false (sym m))
  met_place c (x ∷ y ∷ z ∷ zs) h m = go (eqb (depth x) (suc c)) refl m (met_place c (y ∷ z ∷ zs) h.1)
    where
      row : List A
      row = y ∷ z ∷ zs

      above : c < (split depth row).0
      above = (split_closed depth c row (omega arith) h.1).0

      go : (t : Bool) → eqb (depth x) (suc c) ≡ t → (t || meets depth c row) ≡ true → (meets depth c row ≡ true → MetPlace c row)
          → ((split depth (x ∷ row)).0 ≡ suc c) × (length (split depth (x ∷ row)).1 ≡ cond t 1 (suc (tried depth c row)))
      go true e m ih =
          let d : depth x ≡ suc c = eqb-true (depth x) (suc c) e in
          rw (split_here depth x row (omega arith) (omega (arith, d, above))) (d, refl)
      go false e m ih =
          let i = ih m in
          let far = eqb-false (depth x) (suc c) e in
          rw (split_on depth x row (omega arith) (omega (arith, i.0, h.0, far))) (i.0, ap suc i.1)

  -- "In every row that insertion cuts, the place found is 01's": in every row whose last depth is below all others.
  pub quick_law : (row : List A) → LastBelow depth row → quick_place depth row ≡ length (split depth row).1
  unfolding quick_place
  quick_law row h = go (meets depth (last_depth depth 0 row) row) refl
    where
      go : (t : Bool) → meets depth (last_depth depth 0 row) row ≡ t → quick_place depth row ≡ length (split depth row).1
      go true e = rw e (sym (met_place (last_depth depth 0 row) row h e).1)
      go false e = rw e refl
