-- The fields of a line, "parted by one tab" (01, "Day-book program"). Assumes nothing.
use Rattle.std.specs.Prelude.{cond, List, [], ◌∷◌, ℕ, eqb}

-- The byte between two fields.
abbrev pub tab : ℕ
tab = 9

-- A byte in front of the first field.
abbrev pub in_front : ℕ → List (List ℕ) → List (List ℕ)
in_front byte [] = (byte ∷ []) ∷ []
in_front byte (field ∷ fields) = (byte ∷ field) ∷ fields

-- A line, cut at each tab; between two tabs in a row stands an empty field.
unfoldable pub cut_at_tabs : List ℕ → List (List ℕ)
cut_at_tabs [] = [] ∷ []
cut_at_tabs (byte ∷ bytes) = cond (eqb byte tab) ([] ∷ cut_at_tabs bytes) (in_front byte (cut_at_tabs bytes))
