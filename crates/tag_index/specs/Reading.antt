-- The calls that only read (01, "When a call is declined" and "Histories"). Assumes nothing.
use Rattle.std.specs.Prelude.{◌≡◌, ◌↔◌, Bool, true, cond, ◌||◌, List, ℕ, eqb, length}
use Rattle.leaf_list.specs.Herd.{lookup}
use Rattle.leaf_list.specs.Register.{herd_of}
use Rattle.index_table.specs.Header.{width_of}
use Rattle.index_table.specs.Soundness.{Sound}
use Rattle.table_find.specs.declared.answer.Answer.{Answer}
use Rattle.table_find.specs.Answers.{plain, found}
use Rattle.table_list.specs.Ranges.{records_between, listed, list_slice}
use Rattle.table_change.specs.Changes.{too_wide}

-- Row 1: "tables not sound": sound says whether they are.
pub record Judged (index keys used : List ℕ) : Type 0 where
  pub sound : Bool
  pub decides : (sound ≡ true) ↔ Sound index keys used

-- Rows 1 and 2, the first that applies to the tables and to two keys; 0 if neither does.
abbrev pub first_row : Bool → ℕ → ℕ → ℕ → ℕ
first_row sound w a b = cond sound (cond (too_wide w a || too_wide w b) 2 0) 1

pub record FirstRow (index keys used : List ℕ) (a b : ℕ) (r : ℕ) : Type 0 where
  pub judged : Judged index keys used
  pub number : r ≡ first_row judged.sound (width_of index) a b

-- "A refusal returns its number": the answer behind a row, 0 where none applies.
abbrev pub behind : ℕ → Answer → Answer
behind row done = cond (eqb row 0) done (plain row)

-- "and changes no lent byte"
abbrev pub kept_behind : ℕ → List ℕ → List ℕ → List ℕ
kept_behind row before after = cond (eqb row 0) after before

-- Rows 1, 2 and 6.
pub record FindDoes (index keys used : List ℕ) (key : ℕ) (r : Answer) : Type 0 where
  pub judged : Judged index keys used
  pub answer : r ≡ behind (first_row judged.sound (width_of index) key key) (found (lookup key (herd_of keys used)))

-- Rows 1 and 2, "either end of a list".
pub record ListDoes (index keys used : List ℕ) (a b : ℕ) (out out₁ : List ℕ) (r : Answer) : Type 0 where
  pub judged : Judged index keys used
  pub answer : r ≡ behind (first_row judged.sound (width_of index) a b) (listed (records_between a b (herd_of keys used)) (length out))
  pub slice : out₁ ≡ kept_behind (first_row judged.sound (width_of index) a b) out (list_slice (records_between a b (herd_of keys used)) out)
