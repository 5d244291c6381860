-- Entries of the leaf list (01, "The leaf list"). Assumes nothing.
use Rattle.std.specs.Prelude.{Bool, true, false, List, [], ◌∷◌, ℕ}
use Rattle.std.proofs.Math.Option.{Option, none, some}

-- A depth, and the record that the entry points at; none is NIL, and the entry a dummy.
pub data Entry : Type 0 where
  entry : ℕ → Option ℕ → Entry

abbrev pub depth_of : Entry → ℕ
depth_of (entry d p) = d

abbrev pub pointer_of : Entry → Option ℕ
pointer_of (entry d p) = p

abbrev pub is_nil : Option ℕ → Bool
is_nil none = true
is_nil (some r) = false

-- The records of the live entries, from left to right.
abbrev pub live_records : List Entry → List ℕ
live_records [] = []
live_records (entry d none ∷ es) = live_records es
live_records (entry d (some r) ∷ es) = r ∷ live_records es
