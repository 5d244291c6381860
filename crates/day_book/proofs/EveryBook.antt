-- Every day book: what is printed is a function of its lines and the ordered map (01, "Day-book program" and "Histories"). Assumes nothing.
use mathlib.Core.Path.{◌≡◌, refl, sym, ap, ap₂, subst, ◌∙◌}
use mathlib.Core.Bool.{true}
use mathlib.Core.List.{List, [], ◌∷◌, ◌++◌}
use Prim.Native.Nat.{ℕ, suc}
use contract.Lifetimes.{Lfts}
use denote.Bor.{Bor}
use denote.MutBor.{MutBor}
use lib.ListN.{length, take}
use Rattle.std.specs.Prelude.{Result, Ok, Err}
use Rattle.index_table.specs.declared.refusal.Refusal.{Refusal}
use Rattle.index_table.specs.Refusals.{answer_number}
use Rattle.table_find.specs.Answers.{plain}
use Rattle.table_format.specs.Format.{format_fits, FormatDoes}
use Rattle.table_format.proofs.EmptySound.{format_sound, format_lengths, format_width, format_empties}
use Rattle.table_format.proofs.format.Reads as format_reads
use Rattle.tag_index.specs.Tables.{Tables}
use Rattle.tag_index.specs.Histories.{Reply, OrderedMap, Sizes, sizes_of, Feed, nothing_fed, empty_map, formats}
use Rattle.tag_index.specs.Claims.{Agrees}
use Rattle.tag_index.proofs.Runs.{Lent}
use Rattle.tag_index.proofs.MapSteps.{Holds, on_does_step, off_does_step, find_does_step, list_does_step}
use Rattle.tag_index.proofs.Histories.{agrees}
use Rattle.book_lines.specs.declared.Call.{Call}
use Rattle.book_lines.specs.declared.Call.TheVariants.{On, Off, Find, List as Lists}
use Rattle.book_lines.specs.declared.Declined.{Declined}
use Rattle.book_lines.specs.declared.Declined.TheVariants.{Bad, OutOfRange}
use Rattle.book_lines.specs.Lines.{meaning}
use Rattle.day_book.specs.Books.{Shown, number_alone, find_shown, list_shown, answer_in, slice_in, map_shown, map_said, feed_of_said, shown_line, printed, map_behind_lines}
use Rattle.day_book.specs.LineAnswers.{SaidShown, LineDoes, Told}
use Rattle.day_book.specs.LineAnswers as told
use Rattle.day_book.proofs.answer_line.Reads as answer_line_reads

-- ---- one line

-- What a line says is answered as the map answers it.
pub record SaidStep (z : Sizes) (f : Feed) (m : OrderedMap) (x : Result Call Declined) (s : Shown) (u : Tables) : Type 0 where
  pub shown : s ≡ map_shown z f m x
  pub holds : Holds z (map_said z f m x) u

pub said_step : {z : Sizes} {m : OrderedMap} {t u : Tables} {s : Shown} → Holds z m t → (x : Result Call Declined) → SaidShown x t u s → SaidStep z (feed_of_said t x) m x s u
said_step h (Ok (On key r)) d =
    let step = on_does_step h d.does in
    record { shown = d.shows ∙ ap (λ (y : Reply). number_alone (answer_in y).number) step.reply; holds = step.holds }
said_step h (Ok (Off key)) d =
    let step = off_does_step {f = nothing_fed} h d.does in
    record { shown = d.shows ∙ ap (λ (y : Reply). number_alone (answer_in y).number) step.reply; holds = step.holds }
said_step {z} {m} h (Ok (Find key)) d =
    let step = find_does_step {f = nothing_fed} h d.does in
    record { shown = d.shows ∙ ap (λ (y : Reply). find_shown (answer_in y)) step.reply; holds = subst (Holds z m) (sym d.kept) step.holds }
said_step {z} {m} h (Ok (Lists a b)) d =
    let step = list_does_step {f = nothing_fed} h d.does in
    record { shown = d.shows ∙ ap (λ (y : Reply). list_shown (answer_in y) (slice_in y)) step.reply; holds = subst (Holds z m) (sym d.kept) step.holds }
said_step {z} {m} h (Err Bad) d = record { shown = d.shows; holds = subst (Holds z m) (sym d.kept) h }
said_step {z} {m} h (Err OutOfRange) d = record { shown = d.shows; holds = subst (Holds z m) (sym d.kept) h }

-- A line is given to the library: the contract of the function that runs, on slices that hold the tables and the line; bytes is the answer line.
pub record Answers (t : Tables) (line : List ℕ) (n : ℕ) (u : Tables) (bytes : List ℕ) : Type 0 where
  pub κs : Lfts 5
  pub before : Lent t
  pub after : Lent u
  pub text : Bor (List ℕ)
  pub text_is : text.now ≡ line
  pub out : MutBor (List ℕ)
  pub out₁ : MutBor (List ℕ)
  pub size : ℕ
  pub post :
      answer_line_reads.Post κs (before.index, (before.keys, (before.used, (text, (n, (out, tt)))))) size
      (after.index, (after.keys, (after.used, (text, (n, (out₁, tt))))))
  pub printed_is : bytes ≡ take size out₁.now

answers_does : {t u : Tables} {line : List ℕ} {n : ℕ} {bytes : List ℕ} → (s : Answers t line n u bytes) → LineDoes t line n s.out.now u s.out₁.now s.size
answers_does s =
    rw (sym s.before.index_is, sym s.before.keys_is, sym s.before.used_is, sym s.after.index_is, sym s.after.keys_is, sym s.after.used_is, sym s.text_is) s.post

-- ---- all lines

-- Lines from line n on, each on the tables as the last one left them; out is all that is printed.
pub data Book : Tables → ℕ → List (List ℕ) → List Feed → List ℕ → Tables → Type 0 where
  end : {t : Tables} {n : ℕ} → Book t n [] [] [] t
  next : {t u v : Tables} {n : ℕ} {line bytes out : List ℕ} {lines : List (List ℕ)} {feeds : List Feed} → Answers t line n u bytes → Book u (suc n) lines feeds out v
      → Book t n (line ∷ lines) (feed_of_said t (meaning line) ∷ feeds) (bytes ++ out) v

-- The lines of a book are told to the library.
book_told : {t v : Tables} {n : ℕ} {lines : List (List ℕ)} {feeds : List Feed} {out : List ℕ} → Book t n lines feeds out v → Told t n lines feeds out v
book_told end = told.end
book_told {t} {v} {n} (next {line = line} {out = out} {lines = lines} {feeds = feeds} s book) =
    let does = (answers_does s).shows in
    subst (λ (bytes : List ℕ). Told t n (line ∷ lines) (feed_of_said t (meaning line) ∷ feeds) (bytes ++ out) v) (sym (s.printed_is ∙ does.written.front))
    (told.next {line = line} does.shown does.does (book_told book))

pub record Follows (z : Sizes) (m : OrderedMap) (n : ℕ) (lines : List (List ℕ)) (feeds : List Feed) (out : List ℕ) (v : Tables) : Type 0 where
  -- All that is printed is the map's.
  pub output : out ≡ printed z m n lines feeds
  -- The tables agree with the map behind the lines.
  pub holds : Holds z (map_behind_lines z m lines feeds) v

pub follows : {z : Sizes} {m : OrderedMap} {t v : Tables} {n : ℕ} {lines : List (List ℕ)} {feeds : List Feed} {out : List ℕ} → Holds z m t → Told t n lines feeds out v
    → Follows z m n lines feeds out v
follows h told.end = record { output = refl; holds = h }
follows {z = z} {m = m} {t = t} {n = n} h (told.next {line = line} s said further) =
    let step = said_step h (meaning line) said in
    let rest = follows {m = map_said z (feed_of_said t (meaning line)) m (meaning line)} step.holds further in
    record { output = ap₂ (λ (a b : List ℕ). a ++ b) (ap (shown_line n) step.shown) rest.output; holds = rest.holds }

-- ---- a whole book

-- "W 64, E 60, P 250, 4,096 records. It starts with format"
pub record Opened (t : Tables) : Type 0 where
  pub κs : Lfts 3
  pub given : Tables
  pub before : Lent given
  pub after : Lent t
  pub result : Result (Unit {0}) Refusal
  pub table_long : length given.index ≡ 45516
  pub keys_long : length given.keys ≡ 4096
  pub used_long : length given.used ≡ 4096
  pub post :
      format_reads.Post κs (before.index, (before.keys, (before.used, (64, (60, (250, tt)))))) result
      (after.index, (after.keys, (after.used, (64, (60, (250, tt))))))

abbrev pub book_sizes : Sizes
book_sizes = record { table = 45516; keys = 4096; used = 4096 }

-- The book's sizes are within format's limits.
room : formats book_sizes 64 60 250 ≡ true
unfolding format_fits
room = refl

opened_holds : {t : Tables} → Opened t → Holds book_sizes (empty_map 64) t
opened_holds {t} o =
    let g = o.given in
    let does : FormatDoes 64 60 250 g.index g.keys g.used t.index t.keys t.used (plain (answer_number o.result)) =
    rw (sym o.before.index_is, sym o.before.keys_is, sym o.before.used_is, sym o.after.index_is, sym o.after.keys_is, sym o.after.used_is) o.post in
    let sizes : sizes_of g ≡ book_sizes = λ i. record { table = o.table_long i; keys = o.keys_long i; used = o.used_long i } in
    let fits : formats (sizes_of g) 64 60 250 ≡ true = ap (λ (z : Sizes). formats z 64 60 250) sizes ∙ room in
    record {
      sizes = (λ i. record { table = (format_lengths does fits).0 i; keys = (format_lengths does fits).1 i; used = (format_lengths does fits).2 i }) ∙ sizes;
      sound = format_sound does fits;
      width = format_width does fits;
      herd = format_empties does fits;
    }

-- Lines told to the library from the first on: the output is the map's, and the tables agree with the map behind it.
pub every_told : {t v : Tables} {lines : List (List ℕ)} {feeds : List Feed} {out : List ℕ} → Opened t → Told t 1 lines feeds out v
    → (out ≡ printed book_sizes (empty_map 64) 1 lines feeds) × Agrees (map_behind_lines book_sizes (empty_map 64) lines feeds) v
every_told o lines =
    let f = follows (opened_holds o) lines in
    (f.output, agrees f.holds)

-- Every book.
pub every_book : {t v : Tables} {lines : List (List ℕ)} {feeds : List Feed} {out : List ℕ} → Opened t → Book t 1 lines feeds out v
    → (out ≡ printed book_sizes (empty_map 64) 1 lines feeds) × Agrees (map_behind_lines book_sizes (empty_map 64) lines feeds) v
every_book o book = every_told o (book_told book)
