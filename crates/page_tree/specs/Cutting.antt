-- Cutting a row that is too long (01, "Insertion changes the page of entry i"). Assumes nothing.
use Rattle.std.specs.Prelude.{cond, List, [], ◌∷◌, ◌++◌, ℕ, zero, suc, leb, length}

module _ {A : Type 0} (depth : A → ℕ) where
  -- "cut after its shallowest entry, the last left out of the choice": that depth, and the two parts.
  unfoldable pub split : List A → ℕ × List A × List A
  split [] = (0, [], [])
  split (x ∷ []) = (depth x, x ∷ [], [])
  split (x ∷ y ∷ []) = (depth x, x ∷ [], y ∷ [])
  split (x ∷ y ∷ z ∷ zs) =
      let s : ℕ × List A × List A = split (y ∷ z ∷ zs) in
      cond (leb (depth x) s.0) (depth x, x ∷ [], y ∷ z ∷ zs) (s.0, x ∷ s.1, s.2)

  -- "A page with more than E entries is cut ..; the left part first, then the right, are cut again while too long";
  -- fuel bounds how often, and the row's length is enough.
  unfoldable pub cut : ℕ → ℕ → List A → List (List A)
  cut E zero row = row ∷ []
  cut E (suc fuel) row = cond (leb (length row) E) (row ∷ []) (cut E fuel (split row).1 ++ cut E fuel (split row).2)

  abbrev pub parts : ℕ → List A → List (List A)
  parts E row = cut E (length row) row
