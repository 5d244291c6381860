-- The tables that every call is lent: one index table and one register. Assumes nothing.
use Rattle.std.specs.Prelude.{List, ℕ}
use Rattle.index_table.specs.Soundness.{Sound}

-- "one index table and one register"
pub record Tables : Type 0 where
  pub index : List ℕ
  pub keys : List ℕ
  pub used : List ℕ

-- The tables that three slices hold.
abbrev pub tables : List ℕ → List ℕ → List ℕ → Tables
tables index keys used = record { index = index; keys = keys; used = used }

-- The tables are sound.
abbrev pub SoundAt : Tables → Type 0
SoundAt t = Sound t.index t.keys t.used
