-- The search for the place of a cut that stops where nothing shallower can follow (02, "Cutting a page more quickly"). Assumes nothing.
use Rattle.std.specs.Prelude.{Bool, false, cond, ◌||◌, List, [], ◌∷◌, ℕ, suc, eqb, length}
use Rattle.page_tree.specs.Rows.{last_depth}
use Rattle.page_tree.specs.Cutting.{split}

module _ {A : Type 0} (depth : A → ℕ) where
  -- Whether "the first depth one above the page's last" is met; c is the row's last depth.
  unfoldable pub meets : ℕ → List A → Bool
  meets c [] = false
  meets c (x ∷ []) = false
  meets c (x ∷ y ∷ ys) = eqb (depth x) (suc c) || meets c (y ∷ ys)

  -- "how many entries it tried: through that one or, where none is met, all but the last"
  unfoldable pub tried : ℕ → List A → ℕ
  tried c [] = 0
  tried c (x ∷ []) = 0
  tried c (x ∷ y ∷ ys) = cond (eqb (depth x) (suc c)) 1 (suc (tried c (y ∷ ys)))

  -- The place, as the length of the left part: past the entry where "It stops" or, where none is met, past the shallowest, as 01 cuts.
  unfoldable pub quick_place : List A → ℕ
  quick_place row = cond (meets (last_depth depth 0 row) row) (tried (last_depth depth 0 row) row) (length (split depth row).1)
