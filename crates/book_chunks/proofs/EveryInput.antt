-- Every input, in chunks of any sizes: what is written is a function of its lines and the ordered map (01, "Day-book program"). Assumes nothing.
use mathlib.Core.Path.{◌≡◌, sym, ap, subst, ◌∙◌}
use mathlib.Core.List.{List, [], ◌∷◌, ◌++◌, flatten}
use Prim.Native.Nat.{ℕ, suc, ◌≤◌}
use native.Mathlib.Omega.{arith}
use contract.Lifetimes.{Lfts}
use denote.Bor.{Bor}
use denote.MutBor.{MutBor}
use lib.ListN.{length, take, drop_of_length-le}
use Rattle.tag_index.specs.Tables.{Tables}
use Rattle.tag_index.specs.Histories.{Feed, empty_map}
use Rattle.tag_index.specs.Claims.{Agrees}
use Rattle.tag_index.proofs.Runs.{Lent}
use Rattle.book_input.specs.declared.Progress.{Progress}
use Rattle.book_input.specs.Lines.{begun_before, lines_of, lines_met, left_open}
use Rattle.book_input.proofs.GatheredLines.{met_lines, passes_all, passes_behind}
use Rattle.day_book.specs.Books.{printed, map_behind_lines}
use Rattle.day_book.specs.LineAnswers.{Told}
use Rattle.day_book.proofs.ToldLines.{told_both, told_cut}
use Rattle.day_book.proofs.EveryBook.{Opened, book_sizes, every_told}
use Rattle.book_chunks.specs.Chunks.{begun, unread, Answered, Settled, ChunkDoes}
use Rattle.book_chunks.proofs.answer_chunk.Reads as chunk_reads
use Rattle.book_chunks.proofs.answer_last.Reads as last_reads

-- ---- the calls

-- A call on a chunk, with no answer in `out` before it: the contract of the function that runs, on slices that hold the tables, the chunk and the line
-- begun; bytes is what `out` has then.
pub record ChunkCall (t : Tables) (chunk held : List ℕ) (p : Progress) (u : Tables) (held₁ : List ℕ) (r : Progress) (bytes : List ℕ) : Type 0 where
  pub κs : Lfts 6
  pub before : Lent t
  pub after : Lent u
  pub text : Bor (List ℕ)
  pub text_is : text.now ≡ chunk
  pub line : MutBor (List ℕ)
  pub line_is : line.now ≡ held
  pub line₁ : MutBor (List ℕ)
  pub line₁_is : line₁.now ≡ held₁
  pub out : MutBor (List ℕ)
  pub out₁ : MutBor (List ℕ)
  pub post :
      chunk_reads.Post κs (before.index, (before.keys, (before.used, (text, (line, (out, (p, tt))))))) r
      (after.index, (after.keys, (after.used, (text, (line₁, (out₁, (p, tt)))))))
  pub empty : p.filled ≡ 0
  pub bytes_is : bytes ≡ take r.filled out₁.now

-- The call at the end of the input, likewise.
pub record LastCall (t : Tables) (held : List ℕ) (p : Progress) (u : Tables) (bytes : List ℕ) : Type 0 where
  pub κs : Lfts 5
  pub before : Lent t
  pub after : Lent u
  pub line : Bor (List ℕ)
  pub line_is : line.now ≡ held
  pub out : MutBor (List ℕ)
  pub out₁ : MutBor (List ℕ)
  pub result : Progress
  pub post :
      last_reads.Post κs (before.index, (before.keys, (before.used, (line, (out, (p, tt)))))) result
      (after.index, (after.keys, (after.used, (line, (out₁, (p, tt))))))
  pub empty : p.filled ≡ 0
  pub bytes_is : bytes ≡ take result.filled out₁.now

-- The progress once the answers in `out` are written, and at the front of the next chunk.
abbrev pub written : Progress → Progress
written p = record { lines = p.lines; held = p.held; at = p.at; filled = 0 }

abbrev pub next_chunk : Progress → Progress
next_chunk p = record { lines = p.lines; held = p.held; at = 0; filled = 0 }

-- The calls from a place of a chunk on, with more chunks to come; out is all that is written. A chunk is answered in any number of calls, and the next one
-- comes when it is at its end; behind the last chunk comes the last call.
pub data Calls : Tables → List ℕ → List ℕ → Progress → List (List ℕ) → List ℕ → Tables → Type 0 where
  last : {t v : Tables} {chunk held out : List ℕ} {p : Progress} → length chunk ≤ p.at → LastCall t held p v out → Calls t chunk held p [] out v
  next : {t v : Tables} {chunk later held out : List ℕ} {p : Progress} {chunks : List (List ℕ)} → length chunk ≤ p.at
      → Calls t later held (next_chunk p) chunks out v → Calls t chunk held p (later ∷ chunks) out v
  call : {t u v : Tables} {chunk held held₁ bytes out : List ℕ} {p r : Progress} {chunks : List (List ℕ)} → ChunkCall t chunk held p u held₁ r bytes
      → Calls u chunk held₁ (written r) chunks out v → Calls t chunk held p chunks (bytes ++ out) v

-- Before the first chunk no line is answered, and none begun.
abbrev pub start : Progress
start = record { lines = 0; held = 0; at = 0; filled = 0 }

-- ---- the lines of the calls

chunk_does : {t u : Tables} {chunk held held₁ bytes : List ℕ} {p r : Progress} (s : ChunkCall t chunk held p u held₁ r bytes)
    → ChunkDoes t chunk held s.out.now p u held₁ s.out₁.now r
chunk_does s =
    rw (sym s.before.index_is, sym s.before.keys_is, sym s.before.used_is, sym s.after.index_is, sym s.after.keys_is, sym s.after.used_is, sym s.text_is, sym s.line_is, sym s.line₁_is)
    s.post

last_does : {t u : Tables} {held bytes : List ℕ} {p : Progress} (s : LastCall t held p u bytes)
    → Settled t (begun_before (begun held p) []) s.out.now p u s.out₁.now s.result
last_does s =
    rw (sym s.before.index_is, sym s.before.keys_is, sym s.before.used_is, sym s.after.index_is, sym s.after.keys_is, sym s.after.used_is, sym s.line_is)
    s.post

-- What is written after a call is what its lines print.
bytes_printed : {t u : Tables} {lines : List (List ℕ)} {out out₁ bytes : List ℕ} {p r : Progress} (a : Answered t lines out p u out₁ r) → p.filled ≡ 0
    → bytes ≡ take r.filled out₁ → a.printed ≡ bytes
bytes_printed {out = out} a empty e = sym (e ∙ a.front ∙ rw empty)

-- Lines are told to the library, and out is printed.
pub record ToldAll (t : Tables) (n : ℕ) (lines : List (List ℕ)) (out : List ℕ) (v : Tables) : Type 0 where
  pub feeds : List Feed
  pub told : Told t n lines feeds out v

told_all : {t v : Tables} {n : ℕ} {lines lines₁ : List (List ℕ)} {feeds : List Feed} {out out₁ : List ℕ} → Told t n lines feeds out v → lines₁ ≡ lines → out ≡ out₁
    → ToldAll t n lines₁ out₁ v
told_all {feeds = feeds} told same printed = rw (same, ← printed) (record { feeds = feeds; told = told })

-- All lines of bytes behind a line begun, the last one without newline too.
abbrev all_lines : List ℕ → List ℕ → List (List ℕ)
all_lines line s = lines_met line s ++ begun_before (left_open line s) []

last_lines : (line s : List ℕ) → s ≡ [] → begun_before line [] ≡ all_lines line (s ++ [])
unfolding lines_met left_open
last_lines line s none = rw none

calls_told : {t v : Tables} {chunk held out : List ℕ} {p : Progress} {chunks : List (List ℕ)} → Calls t chunk held p chunks out v
    → ToldAll t (suc p.lines) (all_lines (begun held p) (unread chunk p ++ flatten chunks)) out v
unfolding flatten
calls_told {chunk = chunk} {held = held} {p = p} (last over s) =
    let a = (last_does s).answered in
    told_all a.told (sym (last_lines (begun held p) (unread chunk p) (drop_of_length-le chunk over))) (bytes_printed a s.empty s.bytes_is)
calls_told {chunk = chunk} (next over calls) = rw (drop_of_length-le chunk over) (calls_told calls)
calls_told {chunks = chunks} (call {out = out} s calls) =
    let does = (chunk_does s).passed in
    let a = does.answered in
    told_all (told_both a.told (omega (arith, a.counted)) (calls_told calls).told) (passes_all (passes_behind (flatten chunks) does.passes))
    (ap (λ (bytes : List ℕ). bytes ++ out) (bytes_printed a s.empty s.bytes_is))

-- ---- a whole input

-- The lines of the input are told to the library, each once and in order; all that is written is the map's; the tables agree with the map behind the lines.
pub record InputFollows (t : Tables) (input out : List ℕ) (v : Tables) : Type 0 where
  pub feeds : List Feed
  pub told : Told t 1 (lines_of input) feeds out v
  pub output : out ≡ printed book_sizes (empty_map 64) 1 (lines_of input) feeds
  pub agrees : Agrees (map_behind_lines book_sizes (empty_map 64) (lines_of input) feeds) v

-- Every input, in whatever chunks it comes.
pub every_input : {t v : Tables} {held out : List ℕ} {chunks : List (List ℕ)} → Opened t → Calls t [] held start chunks out v → InputFollows t (flatten chunks) out v
every_input {t} {v} {held} {out} {chunks} o calls =
    let all = calls_told calls in
    let lines : Told t 1 (lines_of (flatten chunks)) all.feeds out v =
    told_cut (lines_of (flatten chunks)) (subst (λ (ls : List (List ℕ)). Told t 1 ls all.feeds out v) (met_lines (flatten chunks)) all.told) in
    let follows = every_told o lines in
    record { feeds = all.feeds; told = lines; output = follows.0; agrees = follows.1 }
