-- How long a leaf list may get, and what follows a dummy (02, xi, "How long the list may get"). Assumes nothing.
use Rattle.std.specs.Prelude.{◌≡◌, List, [], ◌∷◌, ℕ, ◌+◌, ◌*◌, ◌-◌, ◌^◌, ◌≤◌, ◌<◌, length}
use Rattle.std.proofs.Math.Option.{none, some}
use Rattle.leaf_list.specs.Entries.{Entry, entry, depth_of}
use Rattle.leaf_list.specs.Herd.{Herd, Narrow, Sorted}
use Rattle.leaf_list.specs.LeafList.{leaf_list}

-- "at most 1 + W × (n − 1) leaf entries", n at least 1.
abbrev pub most_entries : ℕ → ℕ → ℕ
most_entries w n = 1 + w * (n - 1)

-- "followed by a deeper entry": what comes behind depth d has a first entry, and it is deeper.
abbrev pub DeeperNext : ℕ → List Entry → Type 0
DeeperNext d [] = ⊥
DeeperNext d (e ∷ es) = d < depth_of e

-- "every dummy is followed by a deeper entry"
abbrev pub DummiesFollowed : List Entry → Type 0
DummiesFollowed [] = Unit {0}
DummiesFollowed (entry d none ∷ es) = DeeperNext d es × DummiesFollowed es
DummiesFollowed (entry d (some r) ∷ es) = DummiesFollowed es

-- What is claimed of the leaf entries es of a herd of n animals, whose keys have w bits.
pub record Bounded (w n : ℕ) (es : List Entry) : Type 0 where
  -- "A herd of n animals, n at least 1, has at most 1 + W × (n − 1) leaf entries"
  pub most : 1 ≤ n → length es ≤ most_entries w n
  -- "every dummy is followed by a deeper entry,
  pub followed : 1 ≤ n → DummiesFollowed es
  -- save the sole entry of an empty herd"
  pub sole : n ≡ 0 → es ≡ entry 0 none ∷ []

-- A herd that holds the two largest keys of w bits, with these records.
abbrev pub largest_two : ℕ → ℕ → ℕ → Herd
largest_two w r r' = (2 ^ w - 2, r) ∷ (2 ^ w - 1, r') ∷ []

-- "two keys reach the bound": a herd of two keys of w bits has as many leaf entries as the bound allows.
pub record TwoReach (w : ℕ) (s : Herd) : Type 0 where
  pub two : length s ≡ 2
  pub narrow : Narrow w s
  pub sorted : Sorted s
  pub reached : length (leaf_list w s) ≡ most_entries w 2
