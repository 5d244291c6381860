-- A lorry load in one call (02, vii). Assumes nothing.
use Rattle.std.specs.Prelude.{◌≡◌, ◌≢◌, Bool, cond, List, [], ◌∷◌, ℕ, zero, suc, ltb, length, take, drop}
use Rattle.table_find.specs.declared.answer.Answer.{Answer}
use Rattle.table_find.specs.Answers.{plain}
use Rattle.table_change.specs.Changes.{OnChanges, OffChanges}
use Rattle.tag_index.specs.declared.load.Movement.{Movement}
use Rattle.tag_index.specs.Reading.{Judged}
use Rattle.tag_index.specs.Tables.{Tables}

-- ---- one movement

-- "Split on and off into the check and the change itself": what a movement does behind the check, off where on is 0 and else on. Its answer's number is n.
abbrev pub MoveDoes : Tables → ℕ → ℕ → ℕ → Tables → ℕ → Type 0
MoveDoes t key r zero u n = OffChanges t.index t.keys t.used key u.index u.keys u.used (plain n)
MoveDoes t key r (suc on) u n = OnChanges t.index t.keys t.used key r u.index u.keys u.used (plain n)

-- ---- all movements

-- "works through the list of movements the yard hands over, writing one answer beside each. A refused movement is passed over and the rest go on": each
-- movement on the tables that the one before it left, with the tables that each left.
pub data Moved : Tables → List Movement → List Tables → List ℕ → Tables → Type 0 where
  end : {t : Tables} → Moved t [] [] [] t
  move : {t u v : Tables} {m : Movement} {n : ℕ} {ms : List Movement} {between : List Tables} {ns : List ℕ}
      → MoveDoes t m.key m.«record» m.on u n → Moved u ms between ns v
      → Moved t (m ∷ ms) (u ∷ between) (n ∷ ns) v

-- ---- the call

-- Row 1, and "12, the answer list is shorter than the list of movements, tested after 1"; 0 if neither applies.
abbrev pub load_row : Bool → ℕ → ℕ → ℕ
load_row sound movements answers = cond sound (cond (ltb answers movements) 12 0) 1

-- The row that applies to a load, by what the check says of the tables.
pub record LoadRow (t : Tables) (movements answers row : ℕ) : Type 0 where
  pub judged : Judged t.index t.keys t.used
  pub number : row ≡ load_row judged.sound movements answers

-- What a load leaves that no row declines; between has the tables that each movement left.
pub record LoadDone (t : Tables) (ms : List Movement) (answers : List ℕ) (between : List Tables) (u : Tables) (answers₁ : List ℕ) : Type 0 where
  pub moved : Moved t ms between (take (length ms) answers₁) u
  -- "Answer entries beyond the last movement are kept."
  pub kept : drop (length ms) answers₁ ≡ drop (length ms) answers

-- Rows 1 and 12. "A refusal .. changes no lent byte." The tables in between are open only in the numbers of new pages, as an on leaves them; of a refused
-- load they say nothing.
pub record LoadDoes (t : Tables) (ms : List Movement) (answers : List ℕ) (u : Tables) (answers₁ : List ℕ) (a : Answer) : Type 0 where
  pub row : ℕ
  pub declines : LoadRow t (length ms) (length answers) row
  pub answer : a ≡ plain row
  pub refused : row ≢ 0 → (u ≡ t) × (answers₁ ≡ answers)
  pub between : List Tables
  pub done : row ≡ 0 → LoadDone t ms answers between u answers₁
