-- Taking lines from chunks. Assumes nothing.
use Rattle.std.specs.Prelude.{◌≡◌, Bool, List, ◌++◌, ℕ, ◌+◌, ◌≤◌, length, take, drop}
use Rattle.book_input.specs.Lines.{up_to_newline, has_newline, behind_newline, cut, lines_met, left_open}

-- The place lies in the chunk, 81 bytes are lent, and at most these are held.
pub record TakePre (chunk : List ℕ) (from : ℕ) (held : List ℕ) (length₀ : ℕ) : Type 0 where
  pub inside : from ≤ length chunk
  pub lent : length held ≡ 81
  pub room : length₀ ≤ 81

-- How far a line has been gathered: the place behind what was taken of the chunk, the bytes held of the line, and whether its newline was met.
pub record Taken : Type 0 where
  pub at : ℕ
  pub length : ℕ
  pub whole : Bool

-- The first n bytes of a lent slice and a line behind them, as much as there is room for.
abbrev pub kept_of : List ℕ → ℕ → List ℕ → List ℕ
kept_of held n line = take (length held) (take n held ++ line)

-- They stand at the front of the slice, and the other bytes are as they were.
pub record Keeps (held : List ℕ) (n : ℕ) (line held_after : List ℕ) (n_after : ℕ) : Type 0 where
  pub bytes : held_after ≡ kept_of held n line ++ drop (length (kept_of held n line)) held
  pub many : n_after ≡ length (kept_of held n line)

-- The line held, with what the chunk has of it from a place on.
abbrev pub gathered : List ℕ → ℕ → List ℕ → ℕ → List ℕ
gathered chunk from held length₀ = cut (take length₀ held ++ up_to_newline (drop from chunk))

-- The line stands at the front of the lent bytes, and the other bytes are as they were; the place is the one behind what was taken.
pub record Takes (chunk : List ℕ) (from : ℕ) (held : List ℕ) (length₀ : ℕ) (held_after : List ℕ) (r : Taken) : Type 0 where
  pub bytes : held_after ≡ gathered chunk from held length₀ ++ drop (length (gathered chunk from held length₀)) held
  pub many : r.length ≡ length (gathered chunk from held length₀)
  pub place : r.at ≡ from + behind_newline (drop from chunk)
  pub ended : r.whole ≡ has_newline (drop from chunk)

-- From a line begun and bytes to be read to those left later: the lines `done` are met on the way, and behind it the same as before.
pub record Passes (begun rest : List ℕ) (done : List (List ℕ)) (begun₁ rest₁ : List ℕ) : Type 0 where
  pub met : lines_met begun rest ≡ done ++ lines_met begun₁ rest₁
  pub opens : left_open begun rest ≡ left_open begun₁ rest₁
