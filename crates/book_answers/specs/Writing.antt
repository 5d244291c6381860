-- What the functions that write an answer ask, and what they leave. Assumes nothing.
use Rattle.std.specs.Prelude.{◌≡◌, Bool, List, [], ◌∷◌, ℕ, ◌+◌, ◌≤◌, length, take, drop}
use Rattle.std.proofs.lemmas.List.Edits.{sets}
use Rattle.book_answers.specs.Answers.{answer_line}

-- The bytes written over others from a place on; the length stays.
unfoldable pub over : List ℕ → ℕ → List ℕ → List ℕ
over before at bytes = sets before at bytes

-- The bytes were written from a place on, and end before the place `next`.
pub record Wrote (before : List ℕ) (at : ℕ) (bytes after : List ℕ) (next : ℕ) : Type 0 where
  pub bytes_there : after ≡ over before at bytes
  pub ends : next ≡ at + length bytes

-- Records that a register can have, or the record of a refusal.
abbrev pub RecordNumbers : List ℕ → Type 0
RecordNumbers [] = Unit {0}
RecordNumbers (r ∷ rs) = (r ≤ 65535) × RecordNumbers rs

-- An answer can be written: "at most 32 records", and 256 bytes of room.
pub record Writable (out records : List ℕ) : Type 0 where
  pub few : length records ≤ 32
  pub numbers : RecordNumbers records
  pub room : 256 ≤ length out

-- The line stands at the front, and all else is as before.
pub record AnswerWritten (before : List ℕ) (line number : ℕ) (records : List ℕ) (more : Bool) (after : List ℕ) (size : ℕ) : Type 0 where
  pub front : take size after ≡ answer_line line number records more
  pub rest : drop size after ≡ drop size before
  pub sized : size ≡ length (answer_line line number records more)
  pub small : size ≤ 256
  pub long : length after ≡ length before
