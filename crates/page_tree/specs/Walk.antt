-- Figure 6 over one row, whatever is done at the place found and on the way back. Assumes nothing.
use Rattle.std.specs.Prelude.{cond, List, [], ◌∷◌, ℕ, ltb, eqb}

-- The positions left after an entry of depth d was passed: an equal position is passed with it.
abbrev pub rest : ℕ → ℕ → List ℕ → List ℕ
rest d b bs = cond (eqb d b) bs (b ∷ bs)

-- found is applied at the place that the search finds, to the positions left, the depth before it, the thing found and those after it;
-- passed on the way back to each thing that was passed; none is the answer of an empty row.
module _ {A B : Type 0} (depth : A → ℕ) (found : List ℕ → ℕ → A → List A → B) (passed : A → B → B) (none : B) where
  abbrev pub walk : List ℕ → ℕ → List A → B
  walk bs τ [] = none
  walk [] τ (x ∷ xs) = found [] τ x xs
  walk (b ∷ bs) τ (x ∷ xs) = cond (ltb (depth x) b) (found (b ∷ bs) τ x xs) (passed x (walk (rest (depth x) b bs) (depth x) xs))
