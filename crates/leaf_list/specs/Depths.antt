-- What is true of the depths of every leaf list (01, "The leaf list"). Assumes nothing.
use Rattle.std.specs.Prelude.{◌⊎◌, List, [], ◌∷◌, ℕ, ◌≤◌, ◌<◌}
use Rattle.leaf_list.specs.Lists.{All}
use Rattle.leaf_list.specs.Entries.{Entry, depth_of}

module _ {A : Type 0} (depth : A → ℕ) where
  -- None is as deep as d before one is shallower.
  abbrev pub Unmatched : ℕ → List A → Type 0
  Unmatched d [] = Unit {0}
  Unmatched d (x ∷ xs) = (depth x < d) ⊎ ((d < depth x) × Unmatched d xs)

  -- No depth comes again before a shallower one has come: "D(i) sets bit d(i) of D(i-1)", which was clear.
  abbrev pub Unrepeated : List A → Type 0
  Unrepeated [] = Unit {0}
  Unrepeated (x ∷ xs) = Unmatched (depth x) xs × Unrepeated xs

-- No depth is above w.
abbrev pub DepthsWithin : ℕ → List Entry → Type 0
DepthsWithin w = All (λ e. depth_of e ≤ w)

-- Both.
pub record LeafDepths (w : ℕ) (es : List Entry) : Type 0 where
  pub within : DepthsWithin w es
  pub unrepeated : Unrepeated depth_of es
