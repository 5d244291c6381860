-- A load from its first movement to its last: what is true after i movements, at the start, from one to the next and at the end. No code is named here.
-- Assumes nothing.
use mathlib.Core.Path.{◌≡◌, refl, sym, ap, ◌∙◌, subst}
use mathlib.Core.Bool.{Bool, true, false, cond}
use mathlib.Core.Logic.{◌↔◌, ◌≢◌}
use Prim.Native.Nat.{ℕ, zero, suc, ◌<◌, ◌≤◌, ◌+◌}
use native.Mathlib.Omega.{arith}
use native.Mathlib.Nat.{not-suc-le-zero}
use mathlib.Core.List.{List, [], ◌∷◌, ◌++◌}
use lib.ListN.{length, take, drop, get_or, set, length-set}
use lib.Seq.{take-suc, take-suc-set, take-length, drop-set-lt, drop-drop}
use lib.Dec.{ltb}
use borrow.Author.Tests.{ltb-false, lt-ltb, le-ltb}
use Rattle.table_find.specs.declared.answer.Answer.{Answer}
use Rattle.table_find.specs.Answers.{plain}
use Rattle.table_change.specs.Changes.{on_row_of, off_row_of, OnChanges, OffChanges}
use Rattle.tag_index.specs.declared.load.Movement.{Movement}
use Rattle.tag_index.specs.Tables.{Tables, SoundAt}
use Rattle.tag_index.specs.Loads.{MoveDoes, Moved, end, move, LoadRow, LoadDone, LoadDoes}
use Rattle.tag_index.specs.LoadTurns.{OneMoved, turns_of}

-- The movement that is read past the end of a list.
abbrev pub empty : Movement
empty = record { key = 0; «record» = 0; on = 0 }

-- ---- one movement

-- An answer that sets its number alone is known by it.
pub plain_number : {n : ℕ} {a : Answer} → a ≡ plain n → a ≡ plain a.number
plain_number e = e ∙ ap (λ (x : Answer). plain x.number) (sym e)

pub moved_off : {t u : Tables} {key : ℕ} (r on : ℕ) {answers : List ℕ} (i : ℕ) {n : ℕ} {a : Answer} → on ≡ 0 → OffChanges t.index t.keys t.used key u.index u.keys u.used (plain n) → a ≡ plain n
    → OneMoved t key r on answers i u (set answers i a.number)
moved_off r zero {answers} i {n} e d q = record { number = n; does = d; stored = ap (λ (x : Answer). set answers i x.number) q }
moved_off r (suc on) i e d q = absurd (omega (arith, e))

pub moved_on : {t u : Tables} {key r : ℕ} (on : ℕ) {answers : List ℕ} (i : ℕ) {n : ℕ} {a : Answer} → on ≢ 0 → OnChanges t.index t.keys t.used key r u.index u.keys u.used (plain n) → a ≡ plain n
    → OneMoved t key r on answers i u (set answers i a.number)
moved_on zero i e d q = absurd (e refl)
moved_on (suc on) {answers} i {n} e d q = record { number = n; does = d; stored = ap (λ (x : Answer). set answers i x.number) q }

-- Tables that are as they were are sound if they were.
sound_same : {t u : Tables} → (u.index ≡ t.index) × (u.keys ≡ t.keys) × (u.used ≡ t.used) → SoundAt t → SoundAt u
sound_same e s = rw (e.0, e.1, e.2) s

-- By whether a row applies.
pub by_row : {X : Type 0} (row : ℕ) → (row ≡ 0 → X) → (row ≢ 0 → X) → X
by_row zero f g = f refl
by_row (suc row) f g = g (λ e. omega (arith, e))

-- A movement leaves sound tables sound.
pub move_sound : {t u : Tables} (key r on n : ℕ) → MoveDoes t key r on u n → SoundAt t → SoundAt u
move_sound {t} {u} key r zero n d s =
    by_row (off_row_of t.index t.keys t.used key) (λ e. (d.done e).sound) (λ e. sound_same {t = t} {u = u} (d.refused e) s)
move_sound {t} {u} key r (suc on) n d s =
    by_row (on_row_of t.index t.keys t.used key r) (λ e. (d.done e).sound) (λ e. sound_same {t = t} {u = u} (d.refused e) s)

-- A movement is made behind others.
pub move_behind : {t u v : Tables} {xs : List Movement} {us : List Tables} {ns : List ℕ} (x : Movement) (n : ℕ) → Moved t xs us ns u → MoveDoes u x.key x.«record» x.on v n
    → Moved t (xs ++ x ∷ []) (us ++ v ∷ []) (ns ++ n ∷ []) v
move_behind x n end d = move d end
move_behind x n (move e rest) d = move e (move_behind x n rest d)

-- ---- the rows of a load

module _ (t : Tables) (movements answers : ℕ) (sound : Bool) (decides : (sound ≡ true) ↔ SoundAt t) where
  pub row_one : sound ≡ false → LoadRow t movements answers 1
  row_one s = record { judged = record { sound = sound; decides = decides }; number = rw s refl }

  pub row_twelve : sound ≡ true → answers < movements → LoadRow t movements answers 12
  row_twelve s l = record { judged = record { sound = sound; decides = decides }; number = rw (s, lt-ltb answers movements l) refl }

  pub row_none : sound ≡ true → movements ≤ answers → LoadRow t movements answers 0
  row_none s l = record { judged = record { sound = sound; decides = decides }; number = rw (s, le-ltb answers movements l) refl }

pub no_turns : (row movements : ℕ) → row ≢ 0 → 0 ≡ turns_of row movements
no_turns zero movements e = absurd (e refl)
no_turns (suc row) movements e = refl

-- A movement is made only where no row applies.
turn_row : (row movements i : ℕ) → i < turns_of row movements → (row ≡ 0) × (i < movements)
turn_row zero movements i l = (refl, l)
turn_row (suc row) movements i l = absurd (not-suc-le-zero l)

-- Where neither row applies, the tables are sound and the answers long enough.
none_applies : (sound short : Bool) → ◌≡◌ {A = ℕ} (cond sound (cond short 12 0) 1) 0 → (sound ≡ true) × (short ≡ false)
none_applies true true e = absurd (omega (arith, e))
none_applies true false e = (refl, refl)
none_applies false short e = absurd (omega (arith, e))

pub none_sound : {t : Tables} {movements answers row : ℕ} → LoadRow t movements answers row → row ≡ 0 → SoundAt t × (movements ≤ answers)
none_sound {t} {movements} {answers} l e =
    let both = none_applies l.judged.sound (ltb answers movements) (sym l.number ∙ e) in
    (l.judged.decides.0 both.0, ltb-false answers movements both.1)

-- ---- the loop

module _ (t : Tables) (xs : List Movement) (answers : List ℕ) (row : ℕ) (declines : LoadRow t (length xs) (length answers) row) where
  abbrev pub turns : ℕ
  turns = turns_of row (length xs)

  -- What is true after i movements.
  pub record Done (i : ℕ) (u : Tables) (now : List ℕ) : Type 0 where
    pub between : List Tables
    pub moved : Moved t (take i xs) between (take i now) u
    pub kept : drop i now ≡ drop i answers
    pub long : length now ≡ length answers
    pub sound : SoundAt t → SoundAt u

  pub starts : Done 0 t answers
  starts = record { between = []; moved = end; kept = refl; long = refl; sound = λ s. s }

  -- What a movement asks for.
  pub may : (i : ℕ) → i < turns → (i < length xs) × (i < length answers) × SoundAt t
  may i l =
      let r = turn_row row (length xs) i l in
      let s = none_sound declines r.0 in
      (r.1, omega (arith, r.1, s.1), s.0)

  pub goes_on : (i : ℕ) {u v : Tables} {now now₁ : List ℕ} → i < turns → Done i u now
      → OneMoved u (get_or xs i empty).key (get_or xs i empty).«record» (get_or xs i empty).on now i v now₁
      → Done (suc i) v now₁
  goes_on i {u} {v} {now} l d m =
      let x = get_or xs i empty in
      let in_now : i < length now = omega (arith, (may i l).1, d.long) in
      let all : take (suc i) xs ≡ take i xs ++ x ∷ [] = take-suc xs i empty (may i l).0 in
      let front : take (suc i) (set now i m.number) ≡ take i now ++ m.number ∷ [] = take-suc-set now i m.number in_now in
      subst (Done (suc i) v) (sym m.stored) (record {
        between = d.between ++ v ∷ [];
        moved = rw (all, front) (move_behind x m.number d.moved m.does);
        kept = drop-set-lt (suc i) now i m.number (omega arith) ∙ one_less now ∙ ap (drop 1) d.kept ∙ sym (one_less answers);
        long = length-set now i m.number ∙ d.long;
        sound = λ s. move_sound x.key x.«record» x.on m.number m.does (d.sound s);
      })
    where
      one_less : (l : List ℕ) → drop (suc i) l ≡ drop 1 (drop i l)
      one_less l = ap (λ (k : ℕ). drop k l) (let k : suc i ≡ i + 1 = omega arith in k) ∙ sym (drop-drop 1 i l)

  -- At the end it is what the contract says.
  refused_at : (r : ℕ) {u : Tables} {now : List ℕ} → r ≢ 0 → Done (turns_of r (length xs)) u now → (u ≡ t) × (now ≡ answers)
  refused_at zero n d = absurd (n refl)
  refused_at (suc r) n d = (unmoved d.moved, d.kept)
    where
      unmoved : {u : Tables} {us : List Tables} → Moved t [] us [] u → u ≡ t
      unmoved end = refl

  done_at : (r : ℕ) {u : Tables} {now : List ℕ} → r ≡ 0 → (d : Done (turns_of r (length xs)) u now) → LoadDone t xs answers d.between u now
  done_at zero {u} {now} e d = record { moved = subst (λ (l : List Movement). Moved t l d.between (take (length xs) now) u) (take-length xs) d.moved; kept = d.kept }
  done_at (suc r) e d = absurd (omega (arith, e))

  pub ends : {u : Tables} {now : List ℕ} {a : Answer} → a ≡ plain row → Done turns u now → LoadDoes t xs answers u now a
  ends e d = record { row = row; declines = declines; answer = e; refused = λ n. refused_at row n d; between = d.between; done = λ z. done_at row z d }
