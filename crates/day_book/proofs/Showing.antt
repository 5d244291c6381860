-- What is shown of each call can be written, and is. Assumes nothing.
use mathlib.Core.Path.{◌≡◌, refl, sym, ap, subst, ◌∙◌}
use mathlib.Core.Bool.{Bool, true, false, cond, ◌&&◌, ◌||◌}
use mathlib.Core.Logic.{◌≢◌}
use mathlib.Core.Option.{Option, none, some}
use mathlib.Core.List.{List, [], ◌∷◌, ◌++◌}
use Prim.Native.Nat.{ℕ, zero, suc, ◌≤◌}
use native.Mathlib.Omega.{arith}
use lib.Dec.{eqb, leb}
use lib.ListN.{length, take, drop, replicate, length-take}
use Rattle.std.specs.Prelude.{Result, Ok, Err}
use borrow.Author.Tests.{ne_eqb}
use Rattle.leaf_list.specs.Herd.{Herd, lookup, records_of}
use Rattle.leaf_list.specs.Register.{in_use, herd_of}
use Rattle.leaf_list.proofs.RegisterHerd.{herd_of_holds, lookup_holds}
use Rattle.leaf_list.proofs.FittingHerds.{AllInUse}
use Rattle.index_table.specs.Header.{width_of}
use Rattle.index_table.specs.Soundness.{Sound}
use Rattle.index_table.proofs.SoundTables.{in_use_inside, herd_in_use}
use Rattle.table_find.specs.declared.answer.Answer.{Answer}
use Rattle.table_find.specs.Answers.{plain, found}
use Rattle.table_list.specs.Ranges.{between, records_between, listed, list_slice}
use Rattle.tag_index.specs.Reading.{first_row, behind, kept_behind, FindDoes, ListDoes}
use Rattle.table_change.specs.Changes.{too_wide}
use Rattle.book_answers.specs.Writing.{RecordNumbers, Writable, AnswerWritten}
use Rattle.day_book.specs.Books.{Shown, number_alone, find_shown, slice}
use Rattle.tag_index.specs.Tables.{Tables}
use Rattle.book_lines.specs.declared.Call.{Call}
use Rattle.book_lines.specs.declared.Declined.{Declined}
use Rattle.book_lines.specs.declared.Declined.TheVariants.{Bad, OutOfRange}
use Rattle.book_lines.specs.Lines.{declined_number, meaning}
use Rattle.day_book.specs.LineAnswers.{ShownAt, Shows, SaidShown, NoneDoes, LineDoes}

-- An answer line that was written shows what it says.
pub shown_at : {n : ℕ} (s : Shown) {out out₁ : List ℕ} {r : ℕ} → AnswerWritten out n s.number s.records s.more out₁ r → ShownAt n s out out₁ r
shown_at s w = record { front = w.front; rest = w.rest; small = w.small; long = w.long }

-- ---- records are numbers that can be written

numbers_take : (k : ℕ) (rs : List ℕ) → RecordNumbers rs → RecordNumbers (take k rs)
numbers_take zero rs h = tt
numbers_take (suc k) [] h = tt
numbers_take (suc k) (r ∷ rs) h = (h.0, numbers_take k rs h.1)

numbers_drop : (k : ℕ) (rs : List ℕ) → RecordNumbers rs → RecordNumbers (drop k rs)
numbers_drop zero rs h = h
numbers_drop (suc k) [] h = tt
numbers_drop (suc k) (r ∷ rs) h = numbers_drop k rs h.1

numbers_append : (rs ss : List ℕ) → RecordNumbers rs → RecordNumbers ss → RecordNumbers (rs ++ ss)
numbers_append [] ss h g = g
numbers_append (r ∷ rs) ss h g = (h.0, numbers_append rs ss h.1 g)

zeros_numbers : (k : ℕ) → RecordNumbers (replicate k 0)
zeros_numbers zero = tt
zeros_numbers (suc k) = (omega arith, zeros_numbers k)

module _ {index keys used : List ℕ} (s : Sound index keys used) where
  -- A record in use.
  record_small : (r : ℕ) → in_use used r ≡ true → r ≤ 65535
  record_small r u = omega (arith, in_use_inside s r u, s.limits.records_high)

  between_numbers : (a b : ℕ) (herd : Herd) → AllInUse (in_use used) (records_of herd) → RecordNumbers (records_between a b herd)
  between_numbers a b [] h = tt
  between_numbers a b (x ∷ herd) h = go (leb a x.0 && leb x.0 b) (between_numbers a b herd h.1)
    where
      go : (t : Bool) → RecordNumbers (records_between a b herd) → RecordNumbers (records_of (cond t (x ∷ between a b herd) (between a b herd)))
      go true i = (record_small x.1 h.0, i)
      go false i = i

-- ---- find

-- A refusal's record, or a record in use.
pub find_small : {index keys used : List ℕ} {key : ℕ} {a : Answer} → FindDoes index keys used key a → a.«record» ≤ 65535
find_small {index} {keys} {used} {key} {a} does = subst (λ (x : Answer). x.«record» ≤ 65535) (sym does.answer) (go does.judged.sound refl (too_wide (width_of index) key))
  where
    record_of : (s : Sound index keys used) (o : Option ℕ) → lookup key (herd_of keys used) ≡ o → (found o).«record» ≤ 65535
    record_of s none e = omega arith
    record_of s (some r) e = record_small s r ((herd_of_holds keys used key r).0 (lookup_holds key r (herd_of keys used) e)).0

    go : (t : Bool) → does.judged.sound ≡ t → (wide : Bool)
        → (behind (cond t (cond (wide || wide) 2 0) 1) (found (lookup key (herd_of keys used)))).«record» ≤ 65535
    go true e true = omega arith
    go true e false = record_of (does.judged.decides.0 e) (lookup key (herd_of keys used)) refl
    go false e wide = omega arith

-- A find that is refused shows its number alone.
pub find_refused : (n : ℕ) → n ≢ 0 → number_alone n ≡ find_shown (plain n)
find_refused n h = rw (ne_eqb n 0 h)

-- ---- list

module _ {index keys used : List ℕ} {a b : ℕ} {out : List ℕ} {r : Answer} (does : ListDoes index keys used a b slice out r) where
  -- The count and the slice, by the row.
  listed_small : (n : ℕ) (t : Bool) (records : List ℕ) → (cond t (listed records 32) (plain n)).count ≤ 32
  listed_small n true records = omega arith
  listed_small n false records = omega arith

  pub count_small : r.count ≤ 32
  count_small = subst (λ (x : Answer). x.count ≤ 32) (sym does.answer) (listed_small (first_row does.judged.sound (width_of index) a b) (eqb (first_row does.judged.sound (width_of index) a b) 0) (records_between a b (herd_of keys used)))

  slice_numbers : (sound wide : Bool) → does.judged.sound ≡ sound → RecordNumbers (kept_behind (cond sound (cond wide 2 0) 1) slice (list_slice (records_between a b (herd_of keys used)) slice))
  slice_numbers true true e = zeros_numbers 32
  slice_numbers true false e =
      let s = does.judged.decides.0 e in
      let records = records_between a b (herd_of keys used) in
      numbers_append (take 32 records) (drop (length records) slice) (numbers_take 32 records (between_numbers s a b (herd_of keys used) (herd_in_use s))) (numbers_drop (length records) slice (zeros_numbers 32))
  slice_numbers false wide e = zeros_numbers 32

  pub list_writable : {page : List ℕ} → 256 ≤ length page → Writable page (take r.count out)
  list_writable room = record {
    few = rw length-take (omega (arith, count_small));
    numbers = numbers_take r.count out (subst RecordNumbers (sym does.slice) (slice_numbers does.judged.sound (too_wide (width_of index) a || too_wide (width_of index) b) refl));
    room = room;
  }

-- ---- a line, by what it says

pub said_line : {t u : Tables} {n : ℕ} {out out₁ : List ℕ} {r : ℕ} (line : List ℕ) (x : Result Call Declined) → x ≡ meaning line → Shows (SaidShown x t u) n out out₁ r → LineDoes t line n out u out₁ r
said_line {t} {u} {n} {out} {out₁} {r} line x e h = record { shows = subst (λ (y : Result Call Declined). Shows (SaidShown y t u) n out out₁ r) e h }

-- A call is asked for.
pub said_call : {t u : Tables} {n : ℕ} {out out₁ : List ℕ} {r : ℕ} (line : List ℕ) (x : Call) {y : Call} → Ok y ≡ meaning line → y ≡ x → Shows (SaidShown (Ok x) t u) n out out₁ r
    → LineDoes t line n out u out₁ r
said_call line x e f h = said_line line (Ok x) (rw (← f) e) h

-- No call is asked for.
pub line_declined : {t : Tables} {n : ℕ} {out out₁ : List ℕ} {r refusal : ℕ} (line : List ℕ) (e : Declined) → Err e ≡ meaning line → refusal ≡ declined_number e
    → NoneDoes refusal n out out₁ r
    → LineDoes t line n out t out₁ r
line_declined line Bad e f h =
    said_line line (Err Bad) e (record { shown = h.shown; does = record { shows = h.does ∙ ap number_alone f; kept = refl }; written = h.written })
line_declined line OutOfRange e f h =
    said_line line (Err OutOfRange) e (record { shown = h.shown; does = record { shows = h.does ∙ ap number_alone f; kept = refl }; written = h.written })
