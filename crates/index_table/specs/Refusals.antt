-- Why a call is declined (01, "When a call is declined"). Assumes nothing.
use Rattle.std.specs.Prelude.{List, ℕ, codes, Result, Ok, Err}
use Rattle.index_table.specs.declared.refusal.Refusal.{Refusal}
use Rattle.index_table.specs.declared.refusal.Refusal.TheVariants.{NotSound, KeyTooWide, NoSuchRecord, RecordInUse, KeyHeld, KeyNotHeld, OutOfPages, RootTooHigh, OutsideLimits, AnswersTooShort}

-- The number of each row.
abbrev pub number_of : Refusal → ℕ
number_of NotSound = 1
number_of KeyTooWide = 2
number_of NoSuchRecord = 3
number_of RecordInUse = 4
number_of KeyHeld = 5
number_of KeyNotHeld = 6
number_of OutOfPages = 7
number_of RootTooHigh = 8
number_of OutsideLimits = 9
number_of AnswersTooShort = 12

-- "A refusal returns its number", "A done call returns 0".
abbrev pub answer_number : Result (Unit {0}) Refusal → ℕ
answer_number (Ok u) = 0
answer_number (Err refusal) = number_of refusal

-- Each row in words.
abbrev pub words_of : Refusal → List ℕ
words_of NotSound = codes "the tables are not sound"
words_of KeyTooWide = codes "a key of more than W bits"
words_of NoSuchRecord = codes "the record is at or past the register's length"
words_of RecordInUse = codes "the record is in use"
words_of KeyHeld = codes "the key is held"
words_of KeyNotHeld = codes "the key is not held"
words_of OutOfPages = codes "more than P pages would be in use after it"
words_of RootTooHigh = codes "the root would stand above level 15"
words_of OutsideLimits = codes "W, E, P, the records or a table's length outside the limits"
words_of AnswersTooShort = codes "there are fewer answers than movements"
