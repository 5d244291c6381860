-- What the library does with one line of a day book (01, "Day-book program"). Assumes nothing.
use Rattle.std.specs.Prelude.{Result, Ok, Err, ◌≡◌, List, [], ◌∷◌, ◌++◌, ℕ, suc, ◌≤◌, length, take, drop}
use Rattle.table_find.specs.declared.answer.Answer.{Answer}
use Rattle.tag_index.specs.Changing.{OnDoes, OffDoes}
use Rattle.tag_index.specs.Reading.{FindDoes, ListDoes}
use Rattle.tag_index.specs.Tables.{Tables}
use Rattle.tag_index.specs.Histories.{Feed}
use Rattle.book_lines.specs.declared.Call.{Call}
use Rattle.book_lines.specs.declared.Call.TheVariants.{On, Off, Find, List as Lists}
use Rattle.book_lines.specs.declared.Declined.{Declined}
use Rattle.book_lines.specs.declared.Declined.TheVariants.{Bad, OutOfRange}
use Rattle.book_lines.specs.Lines.{meaning}
use Rattle.day_book.specs.Books.{Shown, number_alone, find_shown, slice, list_shown, feed_of_said, shown_line}

abbrev pub tables : List ℕ → List ℕ → List ℕ → Tables
tables index keys used = record { index = index; keys = keys; used = used }

-- What is shown of each call, which is done as its own contract says.
pub record OnShown (key r : ℕ) (t u : Tables) (s : Shown) : Type 0 where
  pub answer : Answer
  pub does : OnDoes t.index t.keys t.used key r u.index u.keys u.used answer
  pub shows : s ≡ number_alone answer.number

pub record OffShown (key : ℕ) (t u : Tables) (s : Shown) : Type 0 where
  pub answer : Answer
  pub does : OffDoes t.index t.keys t.used key u.index u.keys u.used answer
  pub shows : s ≡ number_alone answer.number

pub record FindShown (key : ℕ) (t u : Tables) (s : Shown) : Type 0 where
  pub answer : Answer
  pub does : FindDoes t.index t.keys t.used key answer
  pub shows : s ≡ find_shown answer
  pub kept : u ≡ t

pub record ListShown (a b : ℕ) (t u : Tables) (s : Shown) : Type 0 where
  pub answer : Answer
  pub out : List ℕ
  pub does : ListDoes t.index t.keys t.used a b slice out answer
  pub shows : s ≡ list_shown answer out
  pub kept : u ≡ t

pub record NoneShown (n : ℕ) (t u : Tables) (s : Shown) : Type 0 where
  pub shows : s ≡ number_alone n
  pub kept : u ≡ t

abbrev pub SaidShown : Result Call Declined → Tables → Tables → Shown → Type 0
SaidShown (Ok (On key r)) t u s = OnShown key r t u s
SaidShown (Ok (Off key)) t u s = OffShown key t u s
SaidShown (Ok (Find key)) t u s = FindShown key t u s
SaidShown (Ok (Lists a b)) t u s = ListShown a b t u s
SaidShown (Err Bad) t u s = NoneShown 10 t u s
SaidShown (Err OutOfRange) t u s = NoneShown 11 t u s

-- What is shown stands at the front of out as an answer line of r bytes; the rest of out is kept.
pub record ShownAt (n : ℕ) (s : Shown) (out out₁ : List ℕ) (r : ℕ) : Type 0 where
  pub front : take r out₁ ≡ shown_line n s
  pub rest : drop r out₁ ≡ drop r out
  pub small : r ≤ 256
  pub long : length out₁ ≡ length out

-- Something is shown of which P holds, and it is written.
pub record Shows (P : Shown → Type 0) (n : ℕ) (out out₁ : List ℕ) (r : ℕ) : Type 0 where
  pub shown : Shown
  pub does : P shown
  pub written : ShownAt n shown out out₁ r

abbrev pub OnLineDoes : ℕ → ℕ → Tables → Tables → ℕ → List ℕ → List ℕ → ℕ → Type 0
OnLineDoes key r t u = Shows (OnShown key r t u)

abbrev pub OffLineDoes : ℕ → Tables → Tables → ℕ → List ℕ → List ℕ → ℕ → Type 0
OffLineDoes key t u = Shows (OffShown key t u)

abbrev pub FindLineDoes : ℕ → Tables → ℕ → List ℕ → List ℕ → ℕ → Type 0
FindLineDoes key t = Shows (FindShown key t t)

abbrev pub ListLineDoes : ℕ → ℕ → Tables → ℕ → List ℕ → List ℕ → ℕ → Type 0
ListLineDoes a b t = Shows (ListShown a b t t)

abbrev pub NoneDoes : ℕ → ℕ → List ℕ → List ℕ → ℕ → Type 0
NoneDoes refusal = Shows (λ s. s ≡ number_alone refusal)

-- A line is answered.
pub record LineDoes (t : Tables) (line : List ℕ) (n : ℕ) (out : List ℕ) (u : Tables) (out₁ : List ℕ) (r : ℕ) : Type 0 where
  pub shows : Shows (SaidShown (meaning line) t u) n out out₁ r

-- Lines are told to the library from line n on, each on the tables as the last one left them: what the map is fed of each, and all that is printed.
pub data Told : Tables → ℕ → List (List ℕ) → List Feed → List ℕ → Tables → Type 0 where
  end : {t : Tables} {n : ℕ} → Told t n [] [] [] t
  next : {t u v : Tables} {n : ℕ} {line out : List ℕ} {lines : List (List ℕ)} {feeds : List Feed} (s : Shown) → SaidShown (meaning line) t u s
      → Told u (suc n) lines feeds out v → Told t n (line ∷ lines) (feed_of_said t (meaning line) ∷ feeds) (shown_line n s ++ out) v
