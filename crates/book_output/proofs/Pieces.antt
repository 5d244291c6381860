-- A chunk in pieces: what is told to the library of all of them. Assumes nothing.
use mathlib.Core.Path.{◌≡◌, refl, sym, ◌∙◌}
use mathlib.Core.List.{List, [], ◌++◌, append-nil}
use Prim.Native.Nat.{ℕ, suc, ◌+◌, ◌-◌, ◌≤◌, ◌<◌}
use native.Mathlib.Omega.{arith}
use lib.ListN.{length, length-append, drop_of_length-le}
use Rattle.tag_index.specs.Tables.{Tables}
use Rattle.tag_index.specs.Histories.{Feed}
use Rattle.book_input.specs.declared.Progress.{Progress}
use Rattle.book_input.specs.Lines.{lines_met, left_open}
use Rattle.book_input.specs.Gathering.{Passes}
use Rattle.book_input.proofs.GatheredLines.{passes_none, passes_both}
use Rattle.day_book.specs.LineAnswers.{Told, end}
use Rattle.day_book.proofs.ToldLines.{told_both}
use Rattle.book_chunks.specs.Chunks.{begun, unread, Ready, ChunkDoes}
use Rattle.book_chunks.proofs.EveryInput.{written}
use Rattle.book_output.specs.declared.Reading.{Reading}
use Rattle.std.specs.Prelude.{Result, Ok, Err}
use Rattle.std.specs.Result.{result_map_both}
use Rattle.std.specs.declared.ops.ControlFlow.TheVariants.{Continue, Break}
use Rattle.book_output.specs.Readings.{at_front, behind, PiecesReady, begun_line, PiecesDo, EndDoes, ReadDoes}

-- From the front of the chunk to a place of it.
pub record Through (t : Tables) (chunk held : List ℕ) (a : Progress) (u : Tables) (held₁ out₁ : List ℕ) (p : Progress) : Type 0 where
  pub lines : List (List ℕ)
  pub feeds : List Feed
  pub printed : List ℕ
  pub told : Told t (suc a.lines) lines feeds printed u
  pub counted : p.lines ≡ a.lines + length lines
  pub passes : Passes (begun held a) chunk lines (begun held₁ p) (unread chunk p)
  pub ready : Ready chunk held₁ out₁ p
  pub buffer : 256 ≤ length out₁
  pub empty : p.filled ≡ 0

pub through_none : {t : Tables} {chunk held out : List ℕ} {a : Reading} → PiecesReady chunk held out a → Through t chunk held (at_front a) t held out (at_front a)
through_none pre = record {
  lines = [];
  feeds = [];
  printed = [];
  told = end;
  counted = omega arith;
  passes = passes_none _ _;
  ready = record { lent = pre.between.lent; room = pre.between.room; inside = omega arith; space = omega arith; numbers = omega (arith, pre.numbers) };
  buffer = pre.between.buffer;
  empty = refl;
}

pub through_piece : {t u v : Tables} {chunk held held₁ held₂ out₁ out₂ : List ℕ} {a p r : Progress} → Through t chunk held a u held₁ out₁ p
    → ChunkDoes u chunk held₁ out₁ p v held₂ out₂ r → Through t chunk held a v held₂ out₂ (written r)
through_piece s does =
    let more = does.passed.answered in
    let ready = does.passed.ready in
    record {
      lines = s.lines ++ does.passed.lines;
      feeds = s.feeds ++ more.feeds;
      printed = s.printed ++ more.printed;
      told = told_both s.told (omega (arith, s.counted)) more.told;
      counted = rw length-append (omega (arith, s.counted, more.counted));
      passes = passes_both s.passes does.passed.passes;
      ready = record { lent = ready.lent; room = ready.room; inside = ready.inside; space = omega arith; numbers = ready.numbers };
      buffer = omega (arith, s.buffer, more.long);
      empty = refl;
    }

-- A piece takes something of the chunk: behind it less is left to read than before it.
pub piece_onward : {t u v : Tables} {chunk held held₁ held₂ out₁ out₂ : List ℕ} {a p r : Progress} → Through t chunk held a u held₁ out₁ p
    → ChunkDoes u chunk held₁ out₁ p v held₂ out₂ r → p.at < length chunk → length chunk - r.at < length chunk - p.at
piece_onward s does some =
    let onward = does.onward some (omega (arith, s.empty, s.buffer)) in
    omega (arith, onward)

-- A failed write, with any error: behind a piece what the pieces of a chunk promise holds, of the reading too.
pub pieces_fail : {E : Type 0} {t u v : Tables} {chunk held held₁ held₂ out₁ out₂ : List ℕ} {a : Reading} {p r : Progress}
    → Through t chunk held (at_front a) u held₁ out₁ p → ChunkDoes u chunk held₁ out₁ p v held₂ out₂ r → (e : E)
    → PiecesDo t chunk held a v held₂ out₂ (behind r) (Err e)
pieces_fail s does e =
    let ready = does.passed.ready in
    record {
      between = record { lent = ready.lent; room = ready.room; buffer = omega (arith, s.buffer, does.passed.answered.long) };
      all = tt;
    }

met_none : (line : List ℕ) → (lines_met line [] ≡ []) × (left_open line [] ≡ line)
unfolding lines_met left_open
met_none line = (refl, refl)

-- The end of the chunk.
pub pieces_end : {E : Type 0} {t u : Tables} {chunk held held₁ out₁ : List ℕ} {a : Reading} {p : Progress} → Through t chunk held (at_front a) u held₁ out₁ p
    → length chunk ≤ p.at → PiecesDo {E = E} t chunk held a u held₁ out₁ (behind p) (Ok tt)
pieces_end {chunk = chunk} {held = held} {held₁ = held₁} {a = a} {p = p} s over =
    let none : unread chunk p ≡ [] = drop_of_length-le chunk over in
    let met : lines_met (begun_line held a) chunk ≡ s.lines = s.passes.met ∙ rw (none, (met_none (begun held₁ p)).0, append-nil) in
    record {
      between = record { lent = s.ready.lent; room = s.ready.room; buffer = s.buffer };
      all = record {
        feeds = s.feeds;
        printed = s.printed;
        told = rw met s.told;
        counted = rw met s.counted;
        opens = sym (s.passes.opens ∙ rw (none, (met_none (begun held₁ p)).1));
      };
    }

-- ---- what a read gave

-- Nothing at the end of the input: there the day book ends, be it behind a write that failed, with any error.
pub read_ends : {E : Type 0} {t u : Tables} {chunk held out₁ : List ℕ} {a b : Reading} → length chunk ≡ 0 → EndDoes t held a u out₁ b
    → ReadDoes {E = E} t chunk held a u held out₁ b (Ok (Break tt)) × ((e : E) → ReadDoes t chunk held a u held out₁ b (Err e))
read_ends none does = (
  record { between = does.between; tells = λ h. does.tells; goes_on = none },
  λ e. record { between = does.between; tells = λ h. does.tells; goes_on = tt },
)

-- Where the read gave something, what the pieces did of the chunk is what the read did, and the day book goes on, unless a write failed.
pub read_chunk : {E : Type 0} {t u : Tables} {chunk held held₁ out₁ : List ℕ} {a b : Reading} {r : Result (Unit {0}) E} → (length chunk ≡ 0 → ⊥)
    → PiecesDo t chunk held a u held₁ out₁ b r → ReadDoes t chunk held a u held₁ out₁ b (result_map_both Continue (λ e. e) r)
read_chunk {r = Ok tt} some does = record { between = does.between; tells = λ h. absurd (some h); goes_on = (omega (arith, some), does.all) }
read_chunk {r = Err e} some does = record { between = does.between; tells = λ h. absurd (some h); goes_on = tt }
