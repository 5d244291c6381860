-- The lines that are met in chunks are the lines of the whole input, each cut to its first 81 bytes. Assumes nothing.
use mathlib.Core.Path.{◌≡◌, refl, sym, ap, ◌∙◌}
use mathlib.Core.Bool.{Bool, true, false, cond}
use mathlib.Core.List.{List, [], ◌∷◌, ◌++◌, map, append_assoc, append-nil}
use Prim.Native.Nat.{ℕ, zero, suc, ◌≤◌}
use native.Mathlib.Omega.{arith}
use lib.Dec.{eqb}
use lib.ListN.{length, take, drop, length-take}
use lib.Seq.{take_all, take-take, take-append_seam, drop-drop}
use Rattle.book_input.specs.Lines.{up_to_newline, has_newline, behind_newline, begun_before, lines_of, cut, lines_met, left_open}
use Rattle.book_input.specs.Gathering.{Taken, Takes, Passes}
use Rattle.book_input.proofs.TakenPlaces.{cut_short}

no_newline_there : {A : Type 0} → false ≡ true → A
no_newline_there h = let z : ◌≡◌ {A = ℕ} 1 0 = ap (λ t. cond t 0 1) h in absurd (omega arith)

-- ---- lines begun, and cut

begun_first : (l x : List ℕ) (lines : List (List ℕ)) → begun_before l (x ∷ lines) ≡ (l ++ x) ∷ lines
unfolding begun_before
begun_first [] x lines = refl
begun_first (b ∷ l) x lines = refl

begun_none : (lines : List (List ℕ)) → begun_before [] lines ≡ lines
unfolding begun_before
begun_none lines = refl

-- A line begun twice.
begun_twice : (x y : List ℕ) (lines : List (List ℕ)) → begun_before x (begun_before y lines) ≡ begun_before (x ++ y) lines
unfolding begun_before
begun_twice [] y lines = refl
begun_twice (a ∷ x) [] lines = ap (λ l. begun_before (a ∷ l) lines) (sym (append-nil x))
begun_twice (a ∷ x) (b ∷ y) [] = refl
begun_twice (a ∷ x) (b ∷ y) (l ∷ lines) = ap (λ z. (a ∷ z) ∷ lines) (sym (append_assoc x (b ∷ y) l))

-- A front that is cut already.
take_cut : (n : ℕ) (x y : List ℕ) → take n (take n x ++ y) ≡ take n (x ++ y)
take_cut zero x y = refl
take_cut (suc n) [] y = refl
take_cut (suc n) (b ∷ x) y = ap (λ l. b ∷ l) (take_cut n x y)

begun_cut : (l : List ℕ) (lines : List (List ℕ)) → map cut (begun_before (cut l) lines) ≡ map cut (begun_before l lines)
unfolding begun_before
begun_cut [] lines = refl
begun_cut (b ∷ l) [] = ap (λ x. x ∷ []) (take-take 81 81 (b ∷ l) (omega arith))
begun_cut (b ∷ l) (x ∷ lines) = ap (λ y. y ∷ map cut lines) (take_cut 81 (b ∷ l) x)

begun_short : (l : List ℕ) → length l ≤ 81 → begun_before l [] ≡ map cut (begun_before l [])
unfolding begun_before
begun_short [] h = refl
begun_short (b ∷ l) h = ap (λ x. x ∷ []) (sym (take_all 81 (b ∷ l) h))

-- ---- the lines met, and those of the input

-- The lines met and the line left open are the lines of the bytes behind a line begun, each cut.
met_begun : (begun s : List ℕ) → length begun ≤ 81 → lines_met begun s ++ begun_before (left_open begun s) [] ≡ map cut (begun_before begun (lines_of s))
unfolding lines_met left_open lines_of
met_begun begun [] h = begun_short begun h
met_begun begun (b ∷ s) h = go (eqb b 10) refl (met_begun [] s (omega arith)) (met_begun (cut (begun ++ b ∷ [])) s (cut_short (begun ++ b ∷ []))) where
  go : (t : Bool) → eqb b 10 ≡ t
      → lines_met [] s ++ begun_before (left_open [] s) [] ≡ map cut (begun_before [] (lines_of s))
      → lines_met (cut (begun ++ b ∷ [])) s ++ begun_before (left_open (cut (begun ++ b ∷ [])) s) [] ≡ map cut (begun_before (cut (begun ++ b ∷ [])) (lines_of s))
      → lines_met begun (b ∷ s) ++ begun_before (left_open begun (b ∷ s)) [] ≡ map cut (begun_before begun (lines_of (b ∷ s)))
  go true e ended other = rw (e, begun_first, append-nil, take_all 81 begun h) (ap (λ ls. begun ∷ ls) (ended ∙ ap (map cut) (begun_none (lines_of s))))
  go false e ended other = rw (e, begun_twice, ← begun_cut (begun ++ b ∷ [])) other

-- All lines of an input.
pub met_lines : (s : List ℕ) → lines_met [] s ++ begun_before (left_open [] s) [] ≡ map cut (lines_of s)
met_lines s = met_begun [] s (omega arith) ∙ ap (map cut) (begun_none (lines_of s))

-- ---- from one place to another

met_behind : (begun s x : List ℕ) → lines_met begun (s ++ x) ≡ lines_met begun s ++ lines_met (left_open begun s) x
unfolding lines_met left_open
met_behind begun [] x = refl
met_behind begun (b ∷ s) x = go (eqb b 10) (met_behind [] s x) (met_behind (cut (begun ++ b ∷ [])) s x) where
  go : (t : Bool) → lines_met [] (s ++ x) ≡ lines_met [] s ++ lines_met (left_open [] s) x
      → lines_met (cut (begun ++ b ∷ [])) (s ++ x) ≡ lines_met (cut (begun ++ b ∷ [])) s ++ lines_met (left_open (cut (begun ++ b ∷ [])) s) x
      → cond t (begun ∷ lines_met [] (s ++ x)) (lines_met (cut (begun ++ b ∷ [])) (s ++ x))
      ≡ cond t (begun ∷ lines_met [] s) (lines_met (cut (begun ++ b ∷ [])) s) ++ lines_met (left_open (cond t [] (cut (begun ++ b ∷ []))) s) x
  go true ended other = ap (λ ls. begun ∷ ls) ended
  go false ended other = other

open_behind : (begun s x : List ℕ) → left_open begun (s ++ x) ≡ left_open (left_open begun s) x
unfolding left_open
open_behind begun [] x = refl
open_behind begun (b ∷ s) x = open_behind (cond (eqb b 10) [] (cut (begun ++ b ∷ []))) s x

pub passes_none : (begun rest : List ℕ) → Passes begun rest [] begun rest
passes_none begun rest = record { met = refl; opens = refl }

pub passes_both : {begun rest begun₁ rest₁ begun₂ rest₂ : List ℕ} {done more : List (List ℕ)} → Passes begun rest done begun₁ rest₁
    → Passes begun₁ rest₁ more begun₂ rest₂ → Passes begun rest (done ++ more) begun₂ rest₂
passes_both {begun₂ = begun₂} {rest₂ = rest₂} {done = done} {more = more} a b = record {
  met = a.met ∙ ap (λ ls. done ++ ls) b.met ∙ sym (append_assoc done more (lines_met begun₂ rest₂));
  opens = a.opens ∙ b.opens;
}

-- The same with bytes that come later.
pub passes_behind : {begun rest begun₁ rest₁ : List ℕ} {done : List (List ℕ)} (x : List ℕ) → Passes begun rest done begun₁ rest₁
    → Passes begun (rest ++ x) done begun₁ (rest₁ ++ x)
passes_behind {begun} {rest} {begun₁} {rest₁} {done} x a = record {
  met = rw (met_behind begun rest x, met_behind begun₁ rest₁ x, a.met, a.opens, append_assoc);
  opens = rw (open_behind begun rest x, open_behind begun₁ rest₁ x, a.opens);
}

-- So all lines, the last one without newline too, are those met on the way and all lines from there on.
pub passes_all : {begun rest begun₁ rest₁ : List ℕ} {done : List (List ℕ)} → Passes begun rest done begun₁ rest₁
    → lines_met begun rest ++ begun_before (left_open begun rest) [] ≡ done ++ (lines_met begun₁ rest₁ ++ begun_before (left_open begun₁ rest₁) [])
passes_all {done = done} a = rw (a.met, a.opens, append_assoc)

-- ---- one call

-- A first line that has its newline.
passes_line : (begun s : List ℕ) → length begun ≤ 81 → has_newline s ≡ true → Passes begun s (cut (begun ++ up_to_newline s) ∷ []) [] (drop (behind_newline s) s)
unfolding lines_met left_open has_newline up_to_newline behind_newline
passes_line begun [] h met = no_newline_there met
passes_line begun (b ∷ s) h met = go (eqb b 10) refl (passes_line (cut (begun ++ b ∷ [])) s (cut_short (begun ++ b ∷ []))) where
  go : (t : Bool) → eqb b 10 ≡ t
      → (has_newline s ≡ true → Passes (cut (begun ++ b ∷ [])) s (cut (cut (begun ++ b ∷ []) ++ up_to_newline s) ∷ []) [] (drop (behind_newline s) s))
      → Passes begun (b ∷ s) (cut (begun ++ up_to_newline (b ∷ s)) ∷ []) [] (drop (behind_newline (b ∷ s)) (b ∷ s))
  go true e further = record { met = rw (e, append-nil, take_all 81 begun h); opens = rw e }
  go false e further =
      let rest = further (rw e at met) in
      let line : cut (cut (begun ++ b ∷ []) ++ up_to_newline s) ≡ cut (begun ++ b ∷ up_to_newline s) = take_cut 81 (begun ++ b ∷ []) (up_to_newline s) ∙ rw append_assoc in
      record { met = rw e (rest.met ∙ rw line); opens = rw e rest.opens }

-- A line that has not met its newline.
passes_part : (begun s : List ℕ) → length begun ≤ 81 → has_newline s ≡ false → Passes begun s [] (cut (begun ++ up_to_newline s)) (drop (behind_newline s) s)
unfolding lines_met left_open has_newline up_to_newline behind_newline
passes_part begun [] h unmet = record { met = refl; opens = rw (append-nil, take_all 81 begun h) }
passes_part begun (b ∷ s) h unmet = go (eqb b 10) refl (passes_part (cut (begun ++ b ∷ [])) s (cut_short (begun ++ b ∷ []))) where
  go : (t : Bool) → eqb b 10 ≡ t
      → (has_newline s ≡ false → Passes (cut (begun ++ b ∷ [])) s [] (cut (cut (begun ++ b ∷ []) ++ up_to_newline s)) (drop (behind_newline s) s))
      → Passes begun (b ∷ s) [] (cut (begun ++ up_to_newline (b ∷ s))) (drop (behind_newline (b ∷ s)) (b ∷ s))
  go true e further = no_newline_there (sym (rw e at unmet))
  go false e further =
      let rest = further (rw e at unmet) in
      let line : cut (cut (begun ++ b ∷ []) ++ up_to_newline s) ≡ cut (begun ++ b ∷ up_to_newline s) = take_cut 81 (begun ++ b ∷ []) (up_to_newline s) ∙ rw append_assoc in
      record { met = rw e (rest.met ∙ rw line); opens = rw e (rest.opens ∙ rw line) }

module _ {chunk : List ℕ} {from : ℕ} {held : List ℕ} {n : ℕ} {after : List ℕ} {r : Taken} (room : n ≤ 81) (takes : Takes chunk from held n after r) where
  -- The line stands at the front of the lent bytes.
  held_line : take r.length after ≡ cut (take n held ++ up_to_newline (drop from chunk))
  held_line = rw (takes.bytes, takes.many) (take-append_seam _ _)

  -- What is left of the chunk.
  left_over : drop r.at chunk ≡ drop (behind_newline (drop from chunk)) (drop from chunk)
  left_over = rw (takes.place, drop-drop)

  front_short : length (take n held) ≤ 81
  front_short = rw length-take (omega arith)

  -- A call takes a line, or a part of it.
  pub takes_line : r.whole ≡ true → Passes (take n held) (drop from chunk) (take r.length after ∷ []) [] (drop r.at chunk)
  takes_line met = rw (held_line, left_over) (passes_line (take n held) (drop from chunk) front_short (sym takes.ended ∙ met))

  pub takes_part : r.whole ≡ false → Passes (take n held) (drop from chunk) [] (take r.length after) (drop r.at chunk)
  takes_part unmet = rw (held_line, left_over) (passes_part (take n held) (drop from chunk) front_short (sym takes.ended ∙ unmet))
