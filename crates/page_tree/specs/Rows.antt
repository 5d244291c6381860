-- Rows of things that have a depth. Assumes nothing.
use Rattle.std.specs.Prelude.{◌≡◌, List, [], ◌∷◌, ◌++◌, ℕ, ◌+◌, ◌≤◌, ◌<◌, length}
pub use Rattle.leaf_list.specs.Lists.{All}

abbrev pub concat : {A : Type 0} → List (List A) → List A
concat [] = []
concat (x ∷ xs) = x ++ concat xs

-- What f gives of each, one after the other.
abbrev pub flats : {A X : Type 0} → (X → List A) → List X → List A
flats f [] = []
flats f (x ∷ xs) = f x ++ flats f xs

abbrev pub sum : {A : Type 0} → (A → ℕ) → List A → ℕ
sum f [] = 0
sum f (x ∷ xs) = f x + sum f xs

-- A depth has itself for its depth: a list of depths is a row too.
abbrev pub itself : ℕ → ℕ
itself d = d

module _ {A : Type 0} (depth : A → ℕ) where
  -- Every depth is above c.
  abbrev pub Deeper : ℕ → List A → Type 0
  Deeper c [] = Unit {0}
  Deeper c (x ∷ xs) = (c < depth x) × Deeper c xs

  -- The row is not empty, its last depth is c, and c is "below all others".
  abbrev pub Closed : ℕ → List A → Type 0
  Closed c [] = ⊥
  Closed c (x ∷ []) = depth x ≡ c
  Closed c (x ∷ y ∷ ys) = (c < depth x) × Closed c (y ∷ ys)

  -- The last depth of a row; τ where the row is empty.
  abbrev pub last_depth : ℕ → List A → ℕ
  last_depth τ [] = τ
  last_depth τ (x ∷ xs) = last_depth (depth x) xs

  -- "the last depth is below all others"
  abbrev pub LastBelow : List A → Type 0
  LastBelow xs = Closed (last_depth 0 xs) xs

  -- "In every page in use the last depth is below all others"; "A page in use has 1 to E entries".
  abbrev pub Page : ℕ → List A → Type 0
  Page E xs = LastBelow xs × (length xs ≤ E)
