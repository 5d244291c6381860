-- What holds of the day book between two reads, and what is told to the library of a chunk. Assumes nothing.
use Rattle.std.specs.Prelude.{◌≡◌, Result, IfOk, List, [], ℕ, suc, ◌+◌, ◌≤◌, ◌<◌, length, take}
use Rattle.std.specs.declared.ops.ControlFlow.{ControlFlow}
use Rattle.std.specs.declared.ops.ControlFlow.TheVariants.{Continue, Break}
use Rattle.tag_index.specs.Tables.{Tables}
use Rattle.tag_index.specs.Histories.{Feed}
use Rattle.book_input.specs.Lines.{begun_before, lines_met, left_open}
use Rattle.day_book.specs.LineAnswers.{Told}
use Rattle.book_input.specs.Progress.{last_number}
use Rattle.book_input.specs.declared.Progress.{Progress}
use Rattle.book_output.specs.declared.Reading.{Reading}

-- 81 bytes are lent for a line, and at most these are held; the buffer has room for one answer at least.
pub record Between (held out : List ℕ) (a : Reading) : Type 0 where
  pub lent : length held ≡ 81
  pub room : a.held ≤ 81
  pub buffer : 256 ≤ length out

-- There are numbers for all lines of a chunk, and for one more.
pub record PiecesReady (chunk held out : List ℕ) (a : Reading) : Type 0 where
  pub between : Between held out a
  pub numbers : suc (a.lines + length chunk) ≤ last_number

-- The progress at the front of a chunk.
abbrev pub at_front : Reading → Progress
at_front a = record { lines = a.lines; held = a.held; at = 0; filled = 0 }

-- How far the day book has come, of its progress in a chunk.
abbrev pub behind : Progress → Reading
behind p = record { lines = p.lines; held = p.held }

-- The line begun.
abbrev pub begun_line : List ℕ → Reading → List ℕ
begun_line held a = take a.held held

-- Each line that is met in the chunk is told to the library, once and in order; the line left open is held.
pub record ChunkTold (t : Tables) (chunk held : List ℕ) (a : Reading) (u : Tables) (held₁ : List ℕ) (r : Reading) : Type 0 where
  pub feeds : List Feed
  pub printed : List ℕ
  pub told : Told t (suc a.lines) (lines_met (begun_line held a) chunk) feeds printed u
  pub counted : r.lines ≡ a.lines + length (lines_met (begun_line held a) chunk)
  pub opens : begun_line held₁ r ≡ left_open (begun_line held a) chunk

-- So it is, unless a write failed. In any case the lent slices and the reading are as they are between two reads.
pub record PiecesDo {E : Type 0} (t : Tables) (chunk held : List ℕ) (a : Reading) (u : Tables) (held₁ out₁ : List ℕ) (b : Reading) (r : Result (Unit {0}) E) : Type 0 where
  pub between : Between held₁ out₁ b
  pub all : IfOk r (λ _. ChunkTold t chunk held a u held₁ b)

-- There is a number for one line more.
pub record EndReady (held out : List ℕ) (a : Reading) : Type 0 where
  pub between : Between held out a
  pub number : a.lines < last_number

-- A line without newline is told to the library, if it is not empty.
pub record EndTells (t : Tables) (held : List ℕ) (a : Reading) (u : Tables) : Type 0 where
  pub feeds : List Feed
  pub printed : List ℕ
  pub told : Told t (suc a.lines) (begun_before (begun_line held a) []) feeds printed u

-- So it is at the end of the input, be the answer written or not.
pub record EndDoes (t : Tables) (held : List ℕ) (a : Reading) (u : Tables) (out₁ : List ℕ) (b : Reading) : Type 0 where
  pub between : Between held out₁ b
  pub tells : EndTells t held a u

-- Whether the day book goes on: it does behind a chunk, all of which is told, and ends where the read gave nothing.
abbrev pub GoesOn : Tables → List ℕ → List ℕ → Reading → Tables → List ℕ → Reading → ControlFlow (Unit {0}) (Unit {0}) → Type 0
GoesOn t chunk held a u held₁ b (Continue tt) = (0 < length chunk) × ChunkTold t chunk held a u held₁ b
GoesOn t chunk held a u held₁ b (Break tt) = length chunk ≡ 0

-- What a read gave: a chunk, or nothing at the end of the input, where the day book ends too. Where a write failed it is not said how many lines of the
-- chunk are told.
pub record ReadDoes {E : Type 0} (t : Tables) (chunk held : List ℕ) (a : Reading) (u : Tables) (held₁ out₁ : List ℕ) (b : Reading) (r : Result (ControlFlow (Unit {0}) (Unit {0})) E) : Type 0 where
  pub between : Between held₁ out₁ b
  pub tells : length chunk ≡ 0 → EndTells t held a u
  pub goes_on : IfOk r (GoesOn t chunk held a u held₁ b)
