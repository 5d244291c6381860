-- The calls that change the herd (01, "When a call is declined" and "What the contracts carry"). Assumes nothing.
use Rattle.std.specs.Prelude.{◌≡◌, ◌≢◌, cond, List, ℕ}
use Rattle.table_find.specs.declared.answer.Answer.{Answer}
use Rattle.table_find.specs.Answers.{plain}
use Rattle.table_change.specs.Changes.{on_row_of, OnDone, off_row_of, OffDone}
use Rattle.tag_index.specs.Reading.{Judged}

-- Row 1 before the others.
abbrev pub row_behind : {index keys used : List ℕ} → Judged index keys used → ℕ → ℕ
row_behind j row = cond j.sound row 1

-- Rows 1 to 5, 8 and 7. "A refusal .. changes no lent byte."
pub record OnDoes (index keys used : List ℕ) (key r : ℕ) (index₁ keys₁ used₁ : List ℕ) (a : Answer) : Type 0 where
  pub judged : Judged index keys used
  pub answer : a ≡ plain (row_behind judged (on_row_of index keys used key r))
  pub refused : row_behind judged (on_row_of index keys used key r) ≢ 0 → (index₁ ≡ index) × (keys₁ ≡ keys) × (used₁ ≡ used)
  pub done : row_behind judged (on_row_of index keys used key r) ≡ 0 → OnDone index keys used key r index₁ keys₁ used₁

-- Rows 1, 2 and 6.
pub record OffDoes (index keys used : List ℕ) (key : ℕ) (index₁ keys₁ used₁ : List ℕ) (a : Answer) : Type 0 where
  pub judged : Judged index keys used
  pub answer : a ≡ plain (row_behind judged (off_row_of index keys used key))
  pub refused : row_behind judged (off_row_of index keys used key) ≢ 0 → (index₁ ≡ index) × (keys₁ ≡ keys) × (used₁ ≡ used)
  pub done : row_behind judged (off_row_of index keys used key) ≡ 0 → OffDone index keys used key index₁ keys₁ used₁
