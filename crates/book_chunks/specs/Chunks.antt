-- What is answered of a chunk of input (01, "Day-book program"). Assumes nothing.
use Rattle.std.specs.Prelude.{◌≡◌, List, ◌++◌, ℕ, suc, ◌+◌, ◌-◌, ◌≤◌, ◌<◌, length, take, drop}
use Rattle.tag_index.specs.Tables.{Tables}
use Rattle.tag_index.specs.Histories.{Feed}
use Rattle.book_input.specs.declared.Progress.{Progress}
use Rattle.book_input.specs.Gathering.{Passes}
use Rattle.book_input.specs.Progress.{last_number}
use Rattle.day_book.specs.LineAnswers.{Told}

-- The line begun that is held, and what of the chunk is to be read.
abbrev pub begun : List ℕ → Progress → List ℕ
begun held p = take p.held held

abbrev pub unread : List ℕ → Progress → List ℕ
unread chunk p = drop p.at chunk

-- 81 bytes are lent for a line, and at most these are held; the place lies in the chunk, and the answers in `out`; there are numbers for all lines to come.
pub record Ready (chunk held out : List ℕ) (p : Progress) : Type 0 where
  pub lent : length held ≡ 81
  pub room : p.held ≤ 81
  pub inside : p.at ≤ length chunk
  pub space : p.filled ≤ length out
  pub numbers : p.lines + (length chunk - p.at) ≤ last_number

-- There is something to be read, and room for one answer.
pub record TurnReady (chunk held out : List ℕ) (p : Progress) : Type 0 where
  pub ready : Ready chunk held out p
  pub some : p.at < length chunk
  pub answer : p.filled + 256 ≤ length out

-- There is room for one answer behind those in `out`, and a number for its line.
pub record WithRoom (held out : List ℕ) (p : Progress) : Type 0 where
  pub lent : length held ≡ 81
  pub room : p.held ≤ 81
  pub answer : p.filled + 256 ≤ length out
  pub number : p.lines < last_number

-- Lines are told to the library under the next numbers; what is printed stands behind the answers that were in `out`, and the rest of it is kept.
pub record Answered (t : Tables) (lines : List (List ℕ)) (out : List ℕ) (p : Progress) (u : Tables) (out₁ : List ℕ) (r : Progress) : Type 0 where
  pub feeds : List Feed
  pub printed : List ℕ
  pub told : Told t (suc p.lines) lines feeds printed u
  pub counted : r.lines ≡ p.lines + length lines
  pub front : take r.filled out₁ ≡ take p.filled out ++ printed
  pub rest : drop r.filled out₁ ≡ drop r.filled out
  pub more : p.filled ≤ r.filled
  pub space : r.filled ≤ length out₁
  pub long : length out₁ ≡ length out

-- Lines are answered, and none is held then; the place stays.
pub record Settled (t : Tables) (lines : List (List ℕ)) (out : List ℕ) (p : Progress) (u : Tables) (out₁ : List ℕ) (r : Progress) : Type 0 where
  pub answered : Answered t lines out p u out₁ r
  pub none : r.held ≡ 0
  pub place : r.at ≡ p.at

-- From one place of a chunk to another: each line that is met on the way is answered.
pub record Passed (t : Tables) (chunk held out : List ℕ) (p : Progress) (u : Tables) (held₁ out₁ : List ℕ) (r : Progress) : Type 0 where
  pub lines : List (List ℕ)
  pub passes : Passes (begun held p) (unread chunk p) lines (begun held₁ r) (unread chunk r)
  pub answered : Answered t lines out p u out₁ r
  pub ready : Ready chunk held₁ out₁ r

-- One turn passes something.
pub record TurnDoes (t : Tables) (chunk held out : List ℕ) (p : Progress) (u : Tables) (held₁ out₁ : List ℕ) (r : Progress) : Type 0 where
  pub passed : Passed t chunk held out p u held₁ out₁ r
  pub onward : p.at < r.at

-- A call stops at the end of the chunk, or where `out` has no room for one more answer; with room it goes on.
pub record ChunkDoes (t : Tables) (chunk held out : List ℕ) (p : Progress) (u : Tables) (held₁ out₁ : List ℕ) (r : Progress) : Type 0 where
  pub passed : Passed t chunk held out p u held₁ out₁ r
  pub stops : r.at < length chunk → length out < r.filled + 256
  pub onward : p.at < length chunk → p.filled + 256 ≤ length out → p.at < r.at
