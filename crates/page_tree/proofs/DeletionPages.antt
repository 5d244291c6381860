-- Deletion takes no page. Assumes nothing.
use mathlib.Core.Bool.{Bool, true, false, cond}
use mathlib.Core.List.{List, [], ◌∷◌, ◌++◌, map}
use Prim.Native.Nat.{ℕ, zero, suc, ◌+◌, ◌≤◌}
use native.Mathlib.Omega.{arith}
use lib.Dec.{ltb}
use Rattle.leaf_list.specs.Keys.{bits}
use Rattle.leaf_list.specs.Entries.{Entry}
use Rattle.leaf_list.specs.Search.{positions}
use Rattle.page_tree.specs.declared.Unwind.{Unwind}
use Rattle.page_tree.specs.Rows.{flats, sum}
use Rattle.page_tree.specs.Tree.{Node, depth, leaves, page_count, Tree, pages_of}
use Rattle.page_tree.specs.Walk.{rest}
use Rattle.page_tree.specs.Merging.{merge_page}
use Rattle.page_tree.specs.OffPages.{Left, Step, step_entry, over, sweep, unless_empty, step_below, next_depth, strike, strike_in, delete_below, lower, rooted, delete_tree, off_tree}
use Rattle.page_tree.proofs.ListLaws.{sum_append}
use Rattle.page_tree.proofs.TreeLaws.{entries_pages}
use Rattle.page_tree.proofs.MergingLaws.{merge_page_pages}

-- An emptied page is none.
pub unless_empty_pages : (n : ℕ) (row : List (Node n)) → sum (page_count (suc n)) (unless_empty row) ≤ suc (sum (page_count n) row)
unless_empty_pages n [] = omega arith
unless_empty_pages n (x ∷ xs) = omega arith

module _ {A : Type 0} (count : A → ℕ) (step : Step A) (ok : (s : Unwind) (x : A) → sum count (step s x).0 ≤ count x) where
  -- The way back over a row counts no more.
  pub sweep_sum : (s : Unwind) (xs : List A) → sum count (sweep step s xs []).0 ≤ sum count xs
  sweep_sum s [] = omega arith
  sweep_sum s (x ∷ xs) =
      let r : Left A = sweep step s xs [] in
      rw (sum_append count (step r.1 x).0 r.0) (omega (arith, ok r.1 x, sweep_sum s xs))

  -- Nor does figure 11 over a row.
  pub strike_in_sum : (depth_a : A → ℕ) (leaves_a : A → List Entry) (at : ℕ → List ℕ → ℕ → A → Left A)
      → ((ν : ℕ) (bs : List ℕ) (τ : ℕ) (x : A) → sum count (at ν bs τ x).0 ≤ count x)
      → (ν : ℕ) (bs : List ℕ) (τ : ℕ) (xs : List A) → sum count (strike_in depth_a leaves_a step at ν bs τ xs).0 ≤ sum count xs
  strike_in_sum depth_a leaves_a at ok' ν bs τ [] = omega arith
  strike_in_sum depth_a leaves_a at ok' ν [] τ (x ∷ xs) =
      let next = next_depth ν (flats leaves_a xs) in
      rw (sum_append count (at next [] τ x).0 xs) (omega (arith, ok' next [] τ x))
  strike_in_sum depth_a leaves_a at ok' ν (b ∷ bs) τ (x ∷ xs) =
      go (ltb (depth_a x) b) (strike_in_sum depth_a leaves_a at ok' ν (rest (depth_a x) b bs) (depth_a x) xs)
    where
      here : Left A
      here = at (next_depth ν (flats leaves_a xs)) (b ∷ bs) τ x

      right : Left A
      right = strike_in depth_a leaves_a step at ν (rest (depth_a x) b bs) (depth_a x) xs

      both : Bool → Left A
      both t = cond t (here.0 ++ xs, here.1) (over step x right)

      go : (t : Bool) → sum count right.0 ≤ sum count xs → sum count (both t).0 ≤ count x + sum count xs
      go true i = rw (sum_append count here.0 xs) (omega (arith, ok' (next_depth ν (flats leaves_a xs)) (b ∷ bs) τ x))
      go false i = rw (sum_append count (step right.1 x).0 right.0) (omega (arith, ok right.1 x))

-- So at every level: the way back,
pub step_below_pages : (n : ℕ) (s : Unwind) (x : Node n) → sum (page_count n) (step_below n s x).0 ≤ page_count n x
step_below_pages zero s x = omega (arith, entries_pages (step_entry s x).0)
step_below_pages (suc n) s x =
    omega (arith, unless_empty_pages n (sweep (step_below n) s x []).0, sweep_sum (page_count n) (step_below n) (step_below_pages n) s x)

-- and figure 11.
pub delete_below_pages : (n ν : ℕ) (bs : List ℕ) (τ : ℕ) (x : Node n) → sum (page_count n) (delete_below n ν bs τ x).0 ≤ page_count n x
delete_below_pages zero ν bs τ x = omega (arith, entries_pages (strike τ ν x).0)
delete_below_pages (suc n) ν bs τ x =
    omega (
      arith,
      unless_empty_pages n (strike_in (depth n) (leaves n) (step_below n) (delete_below n) ν bs τ x).0,
      strike_in_sum (page_count n) (step_below n) (step_below_pages n) (depth n) (leaves n) (delete_below n) (delete_below_pages n) ν bs τ x,
    )

-- A lower root has no more pages below it.
pub lower_pages : (n : ℕ) (page : Node (suc n)) → pages_of (lower n page) ≤ page_count (suc n) page
lower_pages zero page = omega arith
lower_pages (suc n) [] = omega arith
lower_pages (suc n) (x ∷ []) = omega (arith, lower_pages n x)
lower_pages (suc n) (x ∷ y ∷ ys) = omega arith

-- There are never more pages than before,
pub delete_tree_pages : (E : ℕ) (bs : List ℕ) (t : Tree) → pages_of (delete_tree E bs t) ≤ pages_of t
delete_tree_pages E bs t = go (delete_below (suc t.0) 0 bs 0 t.1).0 (delete_below_pages (suc t.0) 0 bs 0 t.1)
  where
    go : (left : List (Node (suc t.0))) → sum (page_count (suc t.0)) left ≤ pages_of t → pages_of (rooted t.0 (map (merge_page E t.0 bs) left)) ≤ pages_of t
    go [] i = omega arith
    go (x ∷ xs) i = omega (arith, lower_pages t.0 (merge_page E t.0 bs x), merge_page_pages E t.0 bs x)

-- so never after an off.
pub off_tree_pages : (w E key : ℕ) (t : Tree) → pages_of (off_tree w E key t) ≤ pages_of t
off_tree_pages w E key t = delete_tree_pages E (positions 0 (bits w key)) t
