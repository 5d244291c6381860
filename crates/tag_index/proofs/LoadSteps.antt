-- A load on tables that hold a map: it answers as the map does to its movements one by one, and leaves tables that hold the map behind them. Assumes nothing.
use mathlib.Core.Path.{◌≡◌, refl, ap, ap₂, sym, ◌∙◌, subst}
use mathlib.Core.Bool.{Bool, true, false, cond}
use mathlib.Core.List.{List, ◌∷◌, ◌++◌}
use Prim.Native.Nat.{ℕ, zero, suc}
use lib.Dec.{eqb, eqb-suc-zero}
use lib.ListN.{length, drop, take-append-drop}
use borrow.Author.Tests.{eqb-true, eqb-false}
use Rattle.table_find.specs.declared.answer.Answer.{Answer}
use Rattle.table_find.specs.Answers.{plain}
use Rattle.tag_index.specs.declared.load.Movement.{Movement}
use Rattle.tag_index.specs.Tables.{Tables, SoundAt}
use Rattle.tag_index.specs.Changing.{OnDoes, OffDoes}
use Rattle.tag_index.specs.Loads.{MoveDoes, Moved, end, move, LoadDoes}
use Rattle.tag_index.specs.Histories.{load, Reply, answered, sliced, said, OrderedMap, Sizes, Late, late_of, lates_of, nothing_fed, load_fed, map_on_row, map_off_row, map_on, map_off, move_rows, map_moves, map_load_row}
use Rattle.tag_index.proofs.Changes.{on_sound, off_sound}
use Rattle.tag_index.proofs.MapSteps.{Holds, Step, judged_sound, on_does_step, off_does_step}
use Rattle.tag_index.proofs.Runs.{Loads, loads_does}

-- ---- one movement

-- The change of a movement is what the single call does, whose check finds the tables sound.
pub off_behind_check : {t u : Tables} {key n : ℕ} (r : ℕ) → SoundAt t → MoveDoes t key r 0 u n → OffDoes t.index t.keys t.used key u.index u.keys u.used (plain n)
off_behind_check r s d = off_sound true ((λ e. s), (λ e. refl)) refl d

pub on_behind_check : {t u : Tables} {key r n : ℕ} (o : ℕ) → SoundAt t → MoveDoes t key r (suc o) u n → OnDoes t.index t.keys t.used key r u.index u.keys u.used (plain n)
on_behind_check o s d = on_sound true ((λ e. s), (λ e. refl)) refl d

-- A movement is made as the map makes it.
pub record MoveStep (z : Sizes) (l : Late) (m : OrderedMap) (key r o n : ℕ) (u : Tables) : Type 0 where
  pub number : n ≡ cond (eqb o 0) (map_off_row m key) (map_on_row z l m key r)
  pub holds : Holds z (cond (eqb o 0) (map_off m key) (map_on z l m key r)) u

-- The number of an answer.
number_of : Reply → ℕ
number_of (answered a) = a.number
number_of (sliced a out) = a.number
number_of (said b) = 0

move_step : {z : Sizes} {m : OrderedMap} {t u : Tables} (key r o : ℕ) {n : ℕ} → Holds z m t → MoveDoes t key r o u n → MoveStep z (late_of t key r) m key r o n u
unfolding number_of
move_step key r zero h d =
    let step = off_does_step {f = nothing_fed} h (off_behind_check r h.sound d) in
    record { number = ap number_of step.reply; holds = step.holds }
move_step key r (suc o) h d =
    let step = on_does_step h (on_behind_check o h.sound d) in
    record { number = rw (eqb-suc-zero o) (ap number_of step.reply); holds = rw (eqb-suc-zero o) step.holds }

-- ---- all movements

pub record MovesStep (z : Sizes) (m : OrderedMap) (xs : List Movement) (ls : List Late) (ns : List ℕ) (u : Tables) : Type 0 where
  pub numbers : ns ≡ move_rows z m xs ls
  pub holds : Holds z (map_moves z m xs ls) u

pub moves_step : {z : Sizes} {m : OrderedMap} {t u : Tables} {xs : List Movement} {us : List Tables} {ns : List ℕ} → Holds z m t → Moved t xs us ns u
    → MovesStep z m xs (lates_of t xs us) ns u
moves_step h end = record { numbers = refl; holds = h }
moves_step {z = z} {m = m} {t = t} h (move {m = x} d rest) =
    let one = move_step x.key x.«record» x.on h d in
    let all = moves_step {m = cond (eqb x.on 0) (map_off m x.key) (map_on z (late_of t x.key x.«record») m x.key x.«record»)} one.holds rest in
    record { numbers = ap₂ (λ (n : ℕ) (ns : List ℕ). n ∷ ns) one.number all.numbers; holds = all.holds }

-- ---- the call

module _ {z : Sizes} {m : OrderedMap} {t u : Tables} {xs : List Movement} {answers answers₁ : List ℕ} {a : Answer} (h : Holds z m t) (does : LoadDoes t xs answers u answers₁ a) where
  abbrev ls : List Late
  ls = lates_of t xs does.between

  -- The row that applies to the tables is the row that applies to the map.
  load_row : does.row ≡ map_load_row xs answers
  load_row = does.declines.number ∙ rw (judged_sound h.sound does.declines.judged) refl

  -- What is left, by whether a row applies.
  load_left : (b : Bool) → eqb does.row 0 ≡ b
      → (answers₁ ≡ cond b (move_rows z m xs ls ++ drop (length xs) answers) answers) × Holds z (cond b (map_moves z m xs ls) m) u
  load_left true e =
      let done = does.done (eqb-true does.row 0 e) in
      let step = moves_step h done.moved in
      (sym (take-append-drop (length xs) answers₁) ∙ ap₂ (λ (p q : List ℕ). p ++ q) step.numbers done.kept, step.holds)
  load_left false e =
      let same = does.refused (eqb-false does.row 0 e) in
      (same.1, subst (Holds z m) (sym same.0) h)

  pub load_does_step : Step z (load_fed t xs does.between) m (load xs answers) (sliced a answers₁) u
  load_does_step =
      let left = rw load_row at (load_left (eqb does.row 0) refl) in
      record { reply = ap₂ sliced (does.answer ∙ ap plain load_row) left.0; holds = left.1 }

pub loads_step : {z : Sizes} {m : OrderedMap} {t u : Tables} {xs : List Movement} {answers answers₁ : List ℕ} {a : Answer} → Holds z m t → (s : Loads xs answers answers₁ t u a)
    → Step z (load_fed t xs (loads_does s).between) m (load xs answers) (sliced a answers₁) u
loads_step h s = load_does_step h (loads_does s)
