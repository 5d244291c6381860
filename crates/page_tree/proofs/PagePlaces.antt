-- Find, on and off in a page whose row is parted at the place where the walk stops. Assumes nothing.
use mathlib.Core.Path.{◌≡◌, ap}
use mathlib.Core.List.{List, ◌∷◌, ◌++◌}
use Prim.Native.Nat.{ℕ, suc}
use Rattle.page_tree.specs.Rows.{last_depth}
use Rattle.page_tree.specs.Tree.{Node, depth, leaves}
use Rattle.page_tree.specs.Cutting.{parts}
use Rattle.page_tree.specs.Finding.{find_below, nowhere}
use Rattle.page_tree.specs.OnPages.{Replacement, insert_below}
use Rattle.page_tree.specs.OffPages.{Left, sweep, unless_empty, step_below, delete_below}
use Rattle.page_tree.proofs.WalkPlaces.{positions_after, Passes, Stops, find_at, replace_in_at, struck, strike_in_at}

module _ (n : ℕ) (bs : List ℕ) (τ : ℕ) (xs : List (Node n)) (y : Node n) (ys : List (Node n)) (p : Passes (depth n) bs xs)
    (s : Stops (depth n) (positions_after (depth n) bs xs) y) where
  -- The search goes on in the child, with the positions left and the depth before it.
  pub find_below_at : find_below (suc n) bs τ (xs ++ (y ∷ ys)) ≡ find_below n (positions_after (depth n) bs xs) (last_depth (depth n) τ xs) y
  find_below_at = find_at (depth n) (λ bs τ x xs. find_below n bs τ x) nowhere bs τ xs y ys p s

  -- The child's parts stand in its place, and the row is cut.
  pub insert_below_at : (E : ℕ) (new : Replacement)
      → insert_below E new (suc n) bs τ (xs ++ (y ∷ ys))
      ≡ parts (depth n) E (xs ++ (insert_below E new n (positions_after (depth n) bs xs) (last_depth (depth n) τ xs) y ++ ys))
  insert_below_at E new = ap (parts (depth n) E) (replace_in_at (depth n) (insert_below E new n) bs τ xs y ys p s)

  -- What is left of the child stands in its place, and the way back goes over those before it.
  pub delete_below_at : (ν : ℕ)
      → (let o : Left (Node n) = struck (depth n) (leaves n) (delete_below n) ν bs τ xs y ys in
      ◌≡◌ {A = Left (Node (suc n))} (delete_below (suc n) ν bs τ (xs ++ (y ∷ ys)))
      (unless_empty (sweep (step_below n) o.1 xs (o.0 ++ ys)).0, (sweep (step_below n) o.1 xs (o.0 ++ ys)).1))
  delete_below_at ν =
      ap (λ (left : Left (Node n)). (unless_empty left.0, left.1))
      (strike_in_at (depth n) (leaves n) (delete_below n) ν bs τ xs y ys (step_below n) p s)
