-- Lines answered one after the other, on the way through a chunk. Assumes nothing.
use mathlib.Core.Path.{◌≡◌, refl, ap, subst, ◌∙◌}
use mathlib.Core.List.{List, [], ◌∷◌, ◌++◌, append_assoc, append-nil}
use Prim.Native.Nat.{ℕ, suc, ◌+◌, ◌-◌, ◌≤◌, ◌<◌}
use native.Mathlib.Omega.{arith}
use lib.ListN.{length, take, drop, length-drop, length-append, drop_of_length-le}
use lib.Seq.{take_all, take_at, drop_at, drop-drop, take-add, length-take-le}
use borrow.Rule.Slice.PartMut.{put_mid, mid_of, post_of}
use Rattle.tag_index.specs.Tables.{Tables}
use Rattle.book_input.specs.declared.Progress.{Progress}
use Rattle.book_input.specs.declared.Next.{Next}
use Rattle.book_input.specs.declared.Next.TheVariants.{Whole, Part}
use Rattle.book_input.specs.Lines.{begun_before}
use Rattle.book_input.specs.Progress.{TakesNext, progress_of, line_answered}
use Rattle.book_input.proofs.TakenPlaces.{taken_inside, taken_onward, taken_room, taken_lent}
use Rattle.book_input.proofs.GatheredLines.{passes_none, passes_both, takes_line, takes_part}
use Rattle.book_lines.specs.Lines.{meaning}
use Rattle.day_book.specs.Books.{shown_line, feed_of_said}
use Rattle.day_book.specs.LineAnswers.{LineDoes, end}
use Rattle.day_book.proofs.ToldLines.{told_line, told_both}
use Rattle.book_chunks.specs.Chunks.{begun, Ready, TurnReady, WithRoom, Answered, Settled, Passed, TurnDoes, ChunkDoes}

-- ---- lines answered

-- No line.
pub answered_none : {t : Tables} {out : List ℕ} (p r : Progress) → p.filled ≤ length out → r.lines ≡ p.lines → r.filled ≡ p.filled
    → Answered t [] out p t out r
answered_none p r space lines filled = record {
  feeds = [];
  printed = [];
  told = end;
  counted = omega arith;
  front = rw (filled, append-nil);
  rest = refl;
  more = omega arith;
  space = omega arith;
  long = refl;
}

-- Lines, and more lines behind them.
pub answered_both : {t u v : Tables} {lines more : List (List ℕ)} {out out₁ out₂ : List ℕ} {p q r : Progress} → Answered t lines out p u out₁ q
    → Answered u more out₁ q v out₂ r → Answered t (lines ++ more) out p v out₂ r
answered_both {lines = lines} {more = more} {out = out} {out₁ = out₁} {p = p} {q = q} {r = r} a b =
    let grown : q.filled + (r.filled - q.filled) ≡ r.filled = omega (arith, b.more) in
    let kept : drop r.filled out₁ ≡ drop r.filled out =
    rw (← grown, ← drop-drop (r.filled - q.filled) q.filled out₁, ← drop-drop (r.filled - q.filled) q.filled out, a.rest) in
    record {
      feeds = a.feeds ++ b.feeds;
      printed = a.printed ++ b.printed;
      told = told_both a.told (omega (arith, a.counted)) b.told;
      counted = rw length-append (omega (arith, a.counted, b.counted));
      front = b.front ∙ rw a.front (append_assoc (take p.filled out) a.printed b.printed);
      rest = b.rest ∙ kept;
      more = omega (arith, a.more, b.more);
      space = b.space;
      long = b.long ∙ a.long;
    }

-- The line that is held, behind the answers before.
pub held_settled : (t u : Tables) (held out : List ℕ) (p : Progress) (ys : List ℕ) (m : ℕ) (r : Progress) → WithRoom held out p
    → LineDoes t (begun held p) (p.lines + 1) (mid_of p.filled (length out - p.filled) out) u ys m
    → r ≡ line_answered p (p.filled + m) → Settled t (begun held p ∷ []) out p u (put_mid p.filled (length out - p.filled) out ys) r
held_settled t u held out p ys m r room does e =
    let f : ℕ = p.filled in
    let fits : f + 256 ≤ length out = room.answer in
    let rest : length (drop f out) ≤ length out - f = rw length-drop (omega arith) in
    let after : post_of f (length out - f) out ≡ [] = drop_of_length-le (drop f out) rest in
    let middle : mid_of f (length out - f) out ≡ drop f out = take_all (length out - f) (drop f out) rest in
    let whole : put_mid f (length out - f) out ys ≡ take f out ++ ys = rw (after, append-nil) in
    let front : length (take f out) ≡ f = length-take-le f out (omega arith) in
    let shown = does.shows.shown in
    let written = does.shows.written in
    let long : length ys ≡ length out - f = written.long ∙ ap length middle ∙ length-drop f out in
    let number : p.lines + 1 ≡ suc p.lines = omega arith in
    rw e
    (record {
      answered = record {
        feeds = feed_of_said t (meaning (begun held p)) ∷ [];
        printed = shown_line (p.lines + 1) shown;
        told = rw number (told_line {line = begun held p} shown does.shows.does);
        counted = refl;
        front = rw (whole, take-add f m, take_at (take f out) ys f front, drop_at (take f out) ys f front, written.front);
        rest = rw (whole, ← drop-drop m f (take f out ++ ys), ← drop-drop m f out, drop_at (take f out) ys f front, written.rest, middle);
        more = omega arith;
        space = rw (whole, length-append) (omega (arith, written.small));
        long = rw (whole, length-append) (omega arith);
      };
      none = refl;
      place = refl;
    })

-- At the end of the input: none, or the line that is held.
begun_none : (held : List ℕ) (n : ℕ) → n ≡ 0 → [] ≡ begun_before (take n held) []
unfolding begun_before
begun_none held n none = rw none

pub last_none : {t : Tables} (held out : List ℕ) (p : Progress) → WithRoom held out p → p.held ≡ 0 → Settled t (begun_before (begun held p) []) out p t out p
last_none {t} held out p room none =
    subst (λ (lines : List (List ℕ)). Settled t lines out p t out p) (begun_none held p.held none)
    (record { answered = answered_none p p (omega (arith, room.answer)) refl refl; none = none; place = refl })

begun_only : (line : List ℕ) → 0 < length line → line ∷ [] ≡ begun_before line []
unfolding begun_before
begun_only [] some = absurd (omega arith)
begun_only (b ∷ line) some = refl

pub last_some : {t u : Tables} (held out out₁ : List ℕ) (p r : Progress) → WithRoom held out p → (p.held ≡ 0 → ⊥)
    → Settled t (begun held p ∷ []) out p u out₁ r → Settled t (begun_before (begun held p) []) out p u out₁ r
last_some {t} {u} held out out₁ p r room some settled =
    let many : length (begun held p) ≡ p.held = length-take-le p.held held (omega (arith, room.lent, room.room)) in
    subst (λ (lines : List (List ℕ)). Settled t lines out p u out₁ r) (begun_only (begun held p) (omega arith)) settled

-- ---- through a chunk

-- Nothing is passed.
pub passed_none : {t : Tables} {chunk held out : List ℕ} (p : Progress) → Ready chunk held out p → Passed t chunk held out p t held out p
passed_none p ready = record { lines = []; passes = passes_none _ _; answered = answered_none p p ready.space refl refl; ready = ready }

pub passed_both : {t u v : Tables} {chunk held held₁ held₂ out out₁ out₂ : List ℕ} {p q r : Progress} → Passed t chunk held out p u held₁ out₁ q
    → Passed u chunk held₁ out₁ q v held₂ out₂ r → Passed t chunk held out p v held₂ out₂ r
passed_both a b = record {
  lines = a.lines ++ b.lines;
  passes = passes_both a.passes b.passes;
  answered = answered_both a.answered b.answered;
  ready = b.ready;
}

-- ---- one turn

-- The answer of a line that is taken, or of the part of one, has its room and its number.
pub turn_room : {chunk held out after : List ℕ} {p : Progress} {next : Next} → TurnReady chunk held out p → TakesNext chunk held p after next
    → WithRoom after out (progress_of next)
turn_room {next = Whole q} pre does = record {
  lent = taken_lent does.takes pre.ready.lent;
  room = taken_room does.takes;
  answer = omega (arith, pre.answer, does.filled);
  number = omega (arith, pre.ready.numbers, pre.some, does.lines);
}
turn_room {next = Part q} pre does = record {
  lent = taken_lent does.takes pre.ready.lent;
  room = taken_room does.takes;
  answer = omega (arith, pre.answer, does.filled);
  number = omega (arith, pre.ready.numbers, pre.some, does.lines);
}

module _ {chunk held out after : List ℕ} {p next : Progress} (pre : TurnReady chunk held out p) where
  -- A turn that takes a part of a line,
  pub turn_part : {t : Tables} → TakesNext chunk held p after (Part next) → TurnDoes t chunk held out p t after out next
  turn_part does = record {
    passed = record {
      lines = [];
      passes = takes_part pre.ready.room does.takes refl;
      answered = answered_none p next pre.ready.space does.lines does.filled;
      ready = record {
        lent = taken_lent does.takes pre.ready.lent;
        room = taken_room does.takes;
        inside = taken_inside does.takes pre.ready.inside;
        space = omega (arith, pre.ready.space, does.filled);
        numbers = omega (arith, pre.ready.numbers, does.lines, taken_onward does.takes pre.some);
      };
    };
    onward = taken_onward does.takes pre.some;
  }

  -- and one that takes a line, which is answered.
  pub turn_line : {t u : Tables} {out₁ : List ℕ} {r : Progress} → TakesNext chunk held p after (Whole next) → Settled t (begun after next ∷ []) out next u out₁ r
      → TurnDoes t chunk held out p u after out₁ r
  turn_line {r = r} does settled =
      let onward : p.at < next.at = taken_onward does.takes pre.some in
      let place : r.at ≡ next.at = settled.place in
      let inside : next.at ≤ length chunk = taken_inside does.takes pre.ready.inside in
      let counted : r.lines ≡ p.lines + 1 = settled.answered.counted ∙ ap (λ n. n + 1) does.lines in
      record {
        passed = record {
          lines = begun after next ∷ [];
          passes = rw (settled.none, place) (takes_line pre.ready.room does.takes refl);
          answered = answered_both (answered_none p next pre.ready.space does.lines does.filled) settled.answered;
          ready = record {
            lent = taken_lent does.takes pre.ready.lent;
            room = omega (arith, settled.none);
            inside = omega arith;
            space = settled.answered.space;
            numbers = omega (arith, pre.ready.numbers);
          };
        };
        onward = omega arith;
      }

-- ---- all turns

-- The loop's claim: what was passed, and that answers come of reading on.
pub record Going (t : Tables) (chunk held out : List ℕ) (p : Progress) (u : Tables) (held₁ out₁ : List ℕ) (r : Progress) : Type 0 where
  pub passed : Passed t chunk held out p u held₁ out₁ r
  pub onward : p.at ≤ r.at
  pub answers : p.filled < r.filled → p.at < r.at

pub going_none : {t : Tables} {chunk held out : List ℕ} (p : Progress) → Ready chunk held out p → Going t chunk held out p t held out p
going_none p ready = record { passed = passed_none p ready; onward = omega arith; answers = λ h. absurd (omega arith) }

pub going_turn : {t u v : Tables} {chunk held held₁ held₂ out out₁ out₂ : List ℕ} {p q r : Progress} → Going t chunk held out p u held₁ out₁ q
    → TurnDoes u chunk held₁ out₁ q v held₂ out₂ r → Going t chunk held out p v held₂ out₂ r
going_turn a b = record { passed = passed_both a.passed b.passed; onward = omega (arith, a.onward, b.onward); answers = λ h. omega (arith, a.onward, b.onward) }

pub turn_ready : {t u : Tables} {chunk held held₁ out out₁ : List ℕ} {p q : Progress} → Going t chunk held out p u held₁ out₁ q → q.at < length chunk
    → 256 ≤ length out₁ - q.filled → TurnReady chunk held₁ out₁ q
turn_ready a inside room = record { ready = a.passed.ready; some = inside; answer = omega (arith, a.passed.ready.space) }

-- At the end of the chunk, or without room.
pub chunk_ends : {t u : Tables} {chunk held held₁ out out₁ : List ℕ} {p r : Progress} → Going t chunk held out p u held₁ out₁ r → length chunk ≤ r.at
    → ChunkDoes t chunk held out p u held₁ out₁ r
chunk_ends a over = record { passed = a.passed; stops = λ h. absurd (omega arith); onward = λ some room. omega arith }

pub chunk_full : {t u : Tables} {chunk held held₁ out out₁ : List ℕ} {p r : Progress} → Going t chunk held out p u held₁ out₁ r
    → length out₁ - r.filled < 256 → ChunkDoes t chunk held out p u held₁ out₁ r
chunk_full a full = record {
  passed = a.passed;
  stops = λ h. omega (arith, a.passed.answered.long);
  onward = λ some room. a.answers (omega (arith, a.passed.answered.long));
}
