-- How many pages there are after an insertion (01, row 7). Assumes nothing.
use mathlib.Core.Path.{◌≡◌, ap}
use mathlib.Core.Bool.{Bool, true, false, cond}
use mathlib.Core.List.{List, [], ◌∷◌, ◌++◌}
use Prim.Native.Nat.{ℕ, zero, suc, ◌+◌, ◌≤◌}
use native.Mathlib.Omega.{arith}
use lib.Dec.{ltb}
use lib.ListN.{length}
use Rattle.page_tree.specs.Rows.{sum}
use Rattle.page_tree.specs.Tree.{Node, depth, page_count, Tree, pages_of}
use Rattle.page_tree.specs.Cutting.{parts}
use Rattle.page_tree.specs.Walk.{rest, walk}
use Rattle.page_tree.specs.OnPages.{Replacement, replace_in, insert_below, pages_below, insert_tree}
use Rattle.page_tree.proofs.ListLaws.{sum_append, sum_concat}
use Rattle.page_tree.proofs.CuttingLaws.{cut_join, cut_few}
use Rattle.page_tree.proofs.TreeLaws.{entries_pages}
use Rattle.page_tree.proofs.Growing.{grow_pages, pages_above}

-- A sum over a row with the thing found replaced.
pub replace_in_sum : {A : Type 0} (d count : A → ℕ) (new : List ℕ → ℕ → A → List A) (more : List ℕ → ℕ → A → ℕ)
    → ((bs : List ℕ) (τ : ℕ) (x : A) → sum count (new bs τ x) ≡ count x + more bs τ x) → (bs : List ℕ) (τ : ℕ) (xs : List A)
    → sum count (replace_in d new bs τ xs) ≡ sum count xs + walk d (λ bs τ x xs. more bs τ x) (λ x r. r) 0 bs τ xs
replace_in_sum d count new more ok bs τ [] = omega arith
replace_in_sum d count new more ok [] τ (x ∷ xs) = omega (arith, sum_append count (new [] τ x) xs, ok [] τ x)
replace_in_sum d count new more ok (b ∷ bs) τ (x ∷ xs) = step (ltb (d x) b) (replace_in_sum d count new more ok (rest (d x) b bs) (d x) xs)
  where
    m : ℕ
    m = walk d (λ bs τ x xs. more bs τ x) (λ x r. r) 0 (rest (d x) b bs) (d x) xs

    step : (t : Bool) → sum count (replace_in d new (rest (d x) b bs) (d x) xs) ≡ sum count xs + m
        → sum count (cond t (new (b ∷ bs) τ x ++ xs) (x ∷ replace_in d new (rest (d x) b bs) (d x) xs))
        ≡ (count x + sum count xs) + cond t (more (b ∷ bs) τ x) m
    step true i = omega (arith, sum_append count (new (b ∷ bs) τ x) xs, ok (b ∷ bs) τ x)
    step false i = omega arith

module _ (E : ℕ) (new : Replacement) (one : 1 ≤ E) where
  -- The pages below what stands for a thing.
  pub insert_below_pages : (n : ℕ) (bs : List ℕ) (τ : ℕ) (x : Node n)
      → sum (page_count n) (insert_below E new n bs τ x) ≡ page_count n x + pages_below E new n bs τ x
  insert_below_pages zero bs τ x = omega (arith, entries_pages (new bs τ x))
  insert_below_pages (suc n) bs τ x =
      let row : List (Node n) = replace_in (depth n) (insert_below E new n) bs τ x in
      omega (
        arith,
        sum_concat (page_count n) (parts (depth n) E row),
        ap (sum (page_count n)) (cut_join (depth n) E (length row) row),
        (cut_few (depth n) E one (length row) row).0,
        replace_in_sum (depth n) (page_count n) (insert_below E new n) (pages_below E new n) (insert_below_pages n) bs τ x,
      )

  -- How many pages there are afterwards: those before, one for each part but the first at every level, and those of the new levels.
  pub insert_tree_pages : (bs : List ℕ) (t : Tree)
      → (let roots : List (Node (suc t.0)) = insert_below E new (suc t.0) bs 0 t.1 in
      pages_of (insert_tree E new bs t) ≡ pages_of t + pages_below E new (suc t.0) bs 0 t.1 + pages_above E (length roots) t.0 roots)
  insert_tree_pages bs t =
      let row : List (Node t.0) = replace_in (depth t.0) (insert_below E new t.0) bs 0 t.1 in
      let roots : List (Node (suc t.0)) = parts (depth t.0) E row in
      omega (
        arith,
        grow_pages E one (length roots) t.0 roots (cut_few (depth t.0) E one (length row) row).0,
        insert_below_pages (suc t.0) bs 0 t.1,
      )
