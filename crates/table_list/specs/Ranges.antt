-- What a list call gives (01, "List writes record numbers for keys from a to b inclusive, in key order"). Assumes nothing.
use Rattle.std.specs.Prelude.{cond, ◌&&◌, List, [], ◌∷◌, ◌++◌, ℕ, min, leb, ltb, length, take, drop}
use Rattle.leaf_list.specs.Herd.{Herd, records_of}
use Rattle.table_find.specs.declared.answer.Answer.{Answer}
use Rattle.table_find.specs.Answers.{with_count}

-- The held keys from a to b inclusive; none if a is above b.
abbrev pub between : ℕ → ℕ → Herd → Herd
between a b [] = []
between a b (x ∷ s) = cond (leb a (x.0) && leb (x.0) b) (x ∷ between a b s) (between a b s)

abbrev pub records_between : ℕ → ℕ → Herd → List ℕ
records_between a b s = records_of (between a b s)

-- "as many as the lent slice holds, gives their count and whether more remain"
abbrev pub listed : List ℕ → ℕ → Answer
listed records room = with_count (min (length records) room) (ltb room (length records))

-- "the rest of that slice is kept"
abbrev pub list_slice : List ℕ → List ℕ → List ℕ
list_slice records out = take (length out) records ++ drop (length records) out
