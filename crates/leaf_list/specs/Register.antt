-- The herd of a register (01, "Pages": "The register is a slice of 64-bit keys and an equally long slice of bytes"). Assumes nothing.
use Rattle.std.specs.Prelude.{Bool, cond, List, [], ◌∷◌, ℕ, zero, suc, eqb, get_or}
use Rattle.leaf_list.specs.Herd.{Herd, add}

-- The key of a record.
abbrev pub key_at : List ℕ → ℕ → ℕ
key_at keys r = get_or keys r 0

-- "1 in use, 0 free"
abbrev pub in_use : List ℕ → ℕ → Bool
in_use used r = eqb (get_or used r 0) 1

-- The herd of the records from r on, whose bytes are given.
abbrev pub herd_from : (ℕ → ℕ) → ℕ → List ℕ → Herd
herd_from key_of r [] = []
herd_from key_of r (u ∷ us) = cond (eqb u 1) (add (key_of r) r (herd_from key_of (suc r) us)) (herd_from key_of (suc r) us)

-- The herd of the records in use.
abbrev pub herd_of : List ℕ → List ℕ → Herd
herd_of keys used = herd_from (key_at keys) 0 used

-- How many records are in use.
abbrev pub count_in_use : List ℕ → ℕ
count_in_use [] = zero
count_in_use (u ∷ us) = cond (eqb u 1) (suc (count_in_use us)) (count_in_use us)
