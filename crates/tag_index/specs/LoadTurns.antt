-- One turn of a load's loop, and how many there are: contracts of the functions inside a load. Assumes nothing.
use Rattle.std.specs.Prelude.{◌≡◌, List, ℕ, zero, suc, set}
use Rattle.tag_index.specs.Tables.{Tables}
use Rattle.tag_index.specs.Loads.{MoveDoes}

-- A movement is made, and its number is written at place i of the answers.
pub record OneMoved (t : Tables) (key r on : ℕ) (answers : List ℕ) (i : ℕ) (u : Tables) (answers₁ : List ℕ) : Type 0 where
  pub number : ℕ
  pub does : MoveDoes t key r on u number
  pub stored : answers₁ ≡ set answers i number

-- How many movements are made behind a row: all of them where it is 0, and else none.
abbrev pub turns_of : ℕ → ℕ → ℕ
turns_of zero movements = movements
turns_of (suc row) movements = 0
