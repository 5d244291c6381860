-- How far the day book has come in a chunk, line after line. Assumes nothing.
use Rattle.std.specs.Prelude.{◌≡◌, true, false, List, ℕ, ◌+◌}
use Rattle.book_input.specs.declared.Progress.{Progress}
use Rattle.book_input.specs.declared.Next.{Next}
use Rattle.book_input.specs.declared.Next.TheVariants.{Whole, Part}
use Rattle.book_input.specs.Gathering.{Taken, Takes}

-- The largest number of a line; no run comes so far.
abbrev pub last_number : ℕ
last_number = 18446744073709551615

-- How far it has come, with all of the line or a part of it.
abbrev pub progress_of : Next → Progress
progress_of (Whole p) = p
progress_of (Part p) = p

-- What was taken: the place behind it, the bytes held, and whether the newline was met.
abbrev pub taken_by : Next → Taken
taken_by (Whole p) = record { at = p.at; length = p.held; whole = true }
taken_by (Part p) = record { at = p.at; length = p.held; whole = false }

-- From the place on, the line that is held is taken further; no line is answered by that.
pub record TakesNext (chunk held : List ℕ) (p : Progress) (held_after : List ℕ) (r : Next) : Type 0 where
  pub takes : Takes chunk p.at held p.held held_after (taken_by r)
  pub lines : (progress_of r).lines ≡ p.lines
  pub filled : (progress_of r).filled ≡ p.filled

-- One line more is answered, and none is held; the place stays, and the answers reach as far as given.
abbrev pub line_answered : Progress → ℕ → Progress
line_answered p filled = record { lines = p.lines + 1; held = 0; at = p.at; filled = filled }
