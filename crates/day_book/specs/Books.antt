-- The day book (01, "Day-book program"): what it prints for each line, by the ordered map. Assumes nothing.
use Rattle.std.specs.Prelude.{Result, Ok, Err, Bool, false, cond, List, [], ◌∷◌, ◌++◌, ℕ, suc, eqb, take, replicate}
use Rattle.table_find.specs.declared.answer.Answer.{Answer}
use Rattle.table_find.specs.Answers.{plain}
use Rattle.tag_index.specs.Tables.{Tables}
use Rattle.tag_index.specs.Histories.{on, off, find, list, Reply, answered, sliced, said, OrderedMap, Sizes, Feed, nothing_fed, on_fed, map_reply, map_after}
use Rattle.book_lines.specs.declared.Call.{Call}
use Rattle.book_lines.specs.declared.Call.TheVariants.{On, Off, Find, List as Lists}
use Rattle.book_lines.specs.declared.Declined.{Declined}
use Rattle.book_lines.specs.declared.Declined.TheVariants.{Bad, OutOfRange}
use Rattle.book_lines.specs.Lines.{meaning}
use Rattle.book_answers.specs.Answers.{answer_line}

-- What an answer line shows: the answer number, records, and whether more remain.
pub record Shown : Type 0 where
  pub number : ℕ
  pub records : List ℕ
  pub more : Bool

abbrev pub number_alone : ℕ → Shown
number_alone n = record { number = n; records = []; more = false }

-- "then, if done, for find the record"
abbrev pub find_shown : Answer → Shown
find_shown a = record { number = a.number; records = cond (eqb a.number 0) (a.«record» ∷ []) []; more = false }

-- "for list at most 32 records and `+` if more remain"
abbrev pub slice : List ℕ
slice = replicate 32 0

abbrev pub list_shown : Answer → List ℕ → Shown
list_shown a out = record { number = a.number; records = take a.count out; more = a.more }

-- The parts of a reply.
abbrev pub answer_in : Reply → Answer
answer_in (answered a) = a
answer_in (sliced a out) = a
answer_in (said b) = plain 0

abbrev pub slice_in : Reply → List ℕ
slice_in (answered a) = []
slice_in (sliced a out) = out
slice_in (said b) = []

-- What the map shows for what a line says: "10 .. bad line", "11 .. country above 999, or a field too large for its bits", both before the calls.
abbrev pub map_shown : Sizes → Feed → OrderedMap → Result Call Declined → Shown
map_shown z f m (Ok (On key r)) = number_alone (answer_in (map_reply z f m (on key r))).number
map_shown z f m (Ok (Off key)) = number_alone (answer_in (map_reply z f m (off key))).number
map_shown z f m (Ok (Find key)) = find_shown (answer_in (map_reply z f m (find key)))
map_shown z f m (Ok (Lists a b)) = list_shown (answer_in (map_reply z f m (list a b slice))) (slice_in (map_reply z f m (list a b slice)))
map_shown z f m (Err Bad) = number_alone 10
map_shown z f m (Err OutOfRange) = number_alone 11

-- The map behind it.
abbrev pub map_said : Sizes → Feed → OrderedMap → Result Call Declined → OrderedMap
map_said z f m (Ok (On key r)) = map_after z f m (on key r)
map_said z f m (Ok (Off key)) = map_after z f m (off key)
map_said z f m (Ok (Find key)) = map_after z f m (find key)
map_said z f m (Ok (Lists a b)) = map_after z f m (list a b slice)
map_said z f m (Err declined) = m

-- What the map is fed of the tables that an on gets.
abbrev pub feed_of_said : Tables → Result Call Declined → Feed
feed_of_said t (Ok (On key r)) = on_fed t key r
feed_of_said t (Ok (Off key)) = nothing_fed
feed_of_said t (Ok (Find key)) = nothing_fed
feed_of_said t (Ok (Lists a b)) = nothing_fed
feed_of_said t (Err declined) = nothing_fed

-- "For each line it prints line number from 1, answer number (0 if done), then .."
abbrev pub shown_line : ℕ → Shown → List ℕ
shown_line n s = answer_line n s.number s.records s.more

-- What is printed for lines from line n on, and the map behind them.
abbrev pub printed : Sizes → OrderedMap → ℕ → List (List ℕ) → List Feed → List ℕ
printed z m n [] fs = []
printed z m n (l ∷ ls) [] = []
printed z m n (l ∷ ls) (f ∷ fs) = shown_line n (map_shown z f m (meaning l)) ++ printed z (map_said z f m (meaning l)) (suc n) ls fs

abbrev pub map_behind_lines : Sizes → OrderedMap → List (List ℕ) → List Feed → OrderedMap
map_behind_lines z m [] fs = m
map_behind_lines z m (l ∷ ls) [] = m
map_behind_lines z m (l ∷ ls) (f ∷ fs) = map_behind_lines z (map_said z f m (meaning l)) ls fs
