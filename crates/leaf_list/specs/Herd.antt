-- The ordered herd: the held keys, each with its record (01, "Histories": the ordered map's state). Assumes nothing.
use Rattle.std.specs.Prelude.{◌≢◌, ◌≡◌, cond, List, [], ◌∷◌, ℕ, ◌^◌, ◌<◌, eqb, ltb}
use Rattle.std.proofs.Math.Option.{Option, none, some}

-- Pairs of a key and its record.
abbrev pub Herd : Type 0
Herd = List (ℕ × ℕ)

-- No key has more than w bits.
abbrev pub Narrow : ℕ → Herd → Type 0
Narrow w [] = Unit {0}
Narrow w (x ∷ s) = (x.0 < 2 ^ w) × Narrow w s

-- Every key is above k.
abbrev pub Above : ℕ → Herd → Type 0
Above k [] = Unit {0}
Above k (x ∷ s) = (k < x.0) × Above k s

-- The keys rise; so no key is held twice.
abbrev pub Sorted : Herd → Type 0
Sorted [] = Unit {0}
Sorted (x ∷ s) = Above x.0 s × Sorted s

-- The key is not held.
abbrev pub Absent : ℕ → Herd → Type 0
Absent k [] = Unit {0}
Absent k (x ∷ s) = (k ≢ x.0) × Absent k s

-- key_of has the key of each record of the herd.
abbrev pub KeysOf : (ℕ → ℕ) → Herd → Type 0
KeysOf key_of [] = Unit {0}
KeysOf key_of (x ∷ s) = (key_of x.1 ≡ x.0) × KeysOf key_of s

-- The record of a held key.
abbrev pub lookup : ℕ → Herd → Option ℕ
lookup k [] = none
lookup k (x ∷ s) = cond (eqb k x.0) (some x.1) (lookup k s)

-- The herd with one key more, in its place.
abbrev pub add : ℕ → ℕ → Herd → Herd
add k r [] = (k, r) ∷ []
add k r (x ∷ s) = cond (ltb k x.0) ((k, r) ∷ x ∷ s) (x ∷ add k r s)

-- The herd without a key.
abbrev pub remove : ℕ → Herd → Herd
remove k [] = []
remove k (x ∷ s) = cond (eqb k x.0) s (x ∷ remove k s)

-- The records in key order.
abbrev pub records_of : Herd → List ℕ
records_of [] = []
records_of (x ∷ s) = x.1 ∷ records_of s
