-- The lines of an input (01, "Day-book program"). Assumes nothing.
use Rattle.std.specs.Prelude.{Bool, true, false, cond, List, [], ◌∷◌, ◌++◌, ℕ, suc, eqb, take}

-- The bytes before the first newline; all of them, if there is none.
unfoldable pub up_to_newline : List ℕ → List ℕ
up_to_newline [] = []
up_to_newline (b ∷ s) = cond (eqb b 10) [] (b ∷ up_to_newline s)

-- Whether a newline is among the bytes.
unfoldable pub has_newline : List ℕ → Bool
has_newline [] = false
has_newline (b ∷ s) = cond (eqb b 10) true (has_newline s)

-- How many bytes stand up to the first newline, itself included; all of them, if there is none.
unfoldable pub behind_newline : List ℕ → ℕ
behind_newline [] = 0
behind_newline (b ∷ s) = suc (cond (eqb b 10) 0 (behind_newline s))

-- A line begun stands before the first of these lines; if it is empty there is none.
unfoldable pub begun_before : List ℕ → List (List ℕ) → List (List ℕ)
begun_before [] lines = lines
begun_before (b ∷ s) [] = (b ∷ s) ∷ []
begun_before (b ∷ s) (line ∷ lines) = ((b ∷ s) ++ line) ∷ lines

-- The lines of an input, without their newlines. "A last line without newline counts."
unfoldable pub lines_of : List ℕ → List (List ℕ)
lines_of [] = []
lines_of (b ∷ s) = cond (eqb b 10) ([] ∷ lines_of s) (begun_before (b ∷ []) (lines_of s))

-- A line cut to its first 81 bytes: "A line over 80 bytes, newline not counted, is bad", whatever follows.
abbrev pub cut : List ℕ → List ℕ
cut line = take 81 line

-- The whole lines that are met by reading bytes behind a line begun, each cut,
unfoldable pub lines_met : List ℕ → List ℕ → List (List ℕ)
lines_met begun [] = []
lines_met begun (b ∷ s) = cond (eqb b 10) (begun ∷ lines_met [] s) (lines_met (cut (begun ++ b ∷ [])) s)

-- and the line that is left without its newline.
unfoldable pub left_open : List ℕ → List ℕ → List ℕ
left_open begun [] = begun
left_open begun (b ∷ s) = left_open (cond (eqb b 10) [] (cut (begun ++ b ∷ []))) s
