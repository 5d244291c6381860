-- A list written over another from a place on. Assumes nothing.
use Rattle.std.specs.Prelude.{List, ℕ}
use Rattle.std.proofs.lemmas.List.Edits.{sets}

-- The list vs written over l from place i on; the length stays.
unfoldable pub over : {A : Type 0} → List A → ℕ → List A → List A
over l i vs = sets l i vs
