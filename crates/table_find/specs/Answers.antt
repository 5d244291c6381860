-- What the calls answer (01, "When a call is declined"). Assumes nothing.
use Rattle.std.specs.Prelude.{Bool, false, ℕ, Result, Ok, Err}
use Rattle.std.proofs.Math.Option.{Option, none, some}
use Rattle.index_table.specs.Refusals.{number_of}
use Rattle.index_table.specs.declared.layout.RecordNo.{RecordNo}
use Rattle.index_table.specs.declared.refusal.Refusal.{Refusal}
use Rattle.table_find.specs.declared.answer.Answer.{Answer}
use Rattle.table_find.specs.declared.answer.Counted.{Counted}

-- "A refusal returns its number with count 0, nothing remaining and record 65,535"; "A done call returns 0, and parts of the answer that it
-- doesn't set stand as in a refusal."
abbrev pub plain : ℕ → Answer
plain n = record { number = n; «record» = 65535; count = 0; more = false }

-- "Find sets the record"
abbrev pub with_record : ℕ → Answer
with_record r = record { number = 0; «record» = r; count = 0; more = false }

-- "list the count and whether more remain"
abbrev pub with_count : ℕ → Bool → Answer
with_count n more = record { number = 0; «record» = 65535; count = n; more = more }

-- Row 6: "find, off: key not held".
abbrev pub found : Option ℕ → Answer
found none = plain 6
found (some r) = with_record r

-- The answer of a find and of a list, done or refused. (Of a call that sets nothing but the number it is `plain (answer_number result)`.)
abbrev pub find_answer : Result RecordNo Refusal → Answer
find_answer (Ok r) = with_record r.0
find_answer (Err refusal) = plain (number_of refusal)

abbrev pub list_answer : Result Counted Refusal → Answer
list_answer (Ok counted) = with_count counted.count counted.more
list_answer (Err refusal) = plain (number_of refusal)
