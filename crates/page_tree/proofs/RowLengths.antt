-- How long the rows are that an insertion cuts (01, "the row being split holds at most 319 entries"). Assumes nothing.
use mathlib.Core.List.{List, [], ◌∷◌}
use Prim.Native.Nat.{ℕ, zero, suc, ◌+◌, ◌≤◌, max}
use native.Mathlib.Omega.{arith}
use lib.ListN.{length}
use Rattle.leaf_list.proofs.Positions.{Beyond, Rising}
use Rattle.page_tree.specs.Tree.{Node, depth, Sound}
use Rattle.page_tree.specs.Cutting.{parts}
use Rattle.page_tree.specs.Walk.{walk}
use Rattle.page_tree.specs.Finding.{Found, nowhere, find_below}
use Rattle.page_tree.specs.OnPages.{Replacement, replace_in, insert_below}
use Rattle.page_tree.proofs.WalkLaws.{walk_stop, walk_pass, walk_induction}
use Rattle.page_tree.proofs.Growing.{parts_fewer}
use Rattle.page_tree.proofs.InsertionSound.{Fits, row_in_place}

-- The longest row below an entry, before it is cut.
abbrev pub longest_below : ℕ → Replacement → (n : ℕ) → List ℕ → ℕ → Node n → ℕ
longest_below E new zero bs τ e = 0
longest_below E new (suc n) bs τ page =
    max (length (replace_in (depth n) (insert_below E new n) bs τ page))
    (walk (depth n) (λ bs τ x xs. longest_below E new n bs τ x) (λ x r. r) 0 bs τ page)

-- A replacement that adds at most m entries makes no row longer than E + m, at any level.
pub longest_below_short : (E m : ℕ) (new : Replacement) → 1 ≤ E → (n : ℕ) (bs : List ℕ) (τ : ℕ) (x : Node n) → Sound E n x → Rising bs
    → Beyond (depth n x) bs → Fits m new (find_below n bs τ x) → longest_below E new n bs τ x ≤ E + m
longest_below_short E m new one zero bs τ x s a e q = omega arith
longest_below_short E m new one (suc n) bs τ page s a e q =
    omega (
      arith,
      s.0.1,
      (row_in_place E m new one n bs τ page s a e q).few,
      walk_induction (depth n) (λ bs τ x xs. longest_below E new n bs τ x) (λ x r. r) 0 (Sound E n) (depth (suc n) page)
          (λ bs τ xs l. Fits m new (find_below (suc n) bs τ xs) → l ≤ E + m)
          (λ bs τ x xs cl p a e q. longest_below_short E m new one n bs τ x p.0 a e
          (rw (walk_stop (depth n) find (λ x r. r) nowhere bs τ x xs e) at q))
          (λ b bs τ x y ys r l p h ih q. ih (rw (walk_pass (depth n) find (λ x r. r) nowhere b bs τ x (y ∷ ys) h) at q))
          bs τ page s.0.0 s.1 a e q,
    )
  where
    find : List ℕ → ℕ → Node n → List (Node n) → Found
    find bs τ x xs = find_below n bs τ x

-- The longest row of a new root, before it is cut.
abbrev pub longest_above : ℕ → ℕ → (n : ℕ) → List (Node (suc n)) → ℕ
longest_above E zero n xs = length xs
longest_above E (suc fuel) n [] = 0
longest_above E (suc fuel) n (x ∷ []) = 1
longest_above E (suc fuel) n (x ∷ y ∷ xs) = max (length (x ∷ y ∷ xs)) (longest_above E fuel (suc n) (parts (depth (suc n)) E (x ∷ y ∷ xs)))

-- The first is the longest.
pub longest_above_first : (E : ℕ) → 2 ≤ E → (fuel n : ℕ) (xs : List (Node (suc n))) → longest_above E fuel n xs ≤ length xs
longest_above_first E two zero n xs = omega arith
longest_above_first E two (suc fuel) n [] = omega arith
longest_above_first E two (suc fuel) n (x ∷ []) = omega arith
longest_above_first E two (suc fuel) n (x ∷ y ∷ xs) =
    omega (
      arith,
      parts_fewer (depth (suc n)) E (x ∷ y ∷ xs) two (omega arith),
      longest_above_first E two fuel (suc n) (parts (depth (suc n)) E (x ∷ y ∷ xs)),
    )
