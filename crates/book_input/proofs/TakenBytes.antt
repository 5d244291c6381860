-- What a chunk has of a line, by where its first newline is, and what is held of it. Assumes nothing.
use Rattle.std.proofs.Common.{◌≡◌, refl, sym, ap, ◌∙◌, Bool, true, false, cond, List, [], ◌∷◌, ◌++◌, append_assoc, ℕ, suc, ◌+◌, ◌-◌, ◌≤◌, ◌<◌, arith, length, take, drop, min, length-append, position, Some, None, ◌==◌, nat_lt, not, length-drop}
use Rattle.std.proofs.Math.Numerals.{one-add}
use Rattle.std.proofs.lemmas.Bool.{ltb-true, ltb-false}
use Rattle.std.proofs.lemmas.List.{take_min, length-take-le}
use Rattle.std.proofs.Math.Seq.{take-append-add, drop-drop}
use Rattle.std.specs.List.{position_or_len}
use Rattle.book_input.specs.Lines.{up_to_newline, has_newline, behind_newline}
use Rattle.book_input.specs.Gathering.{TakePre, Keeps, kept_of, Takes, gathered}

-- ---- the held bytes

-- They are the held ones and as many of the line as fit behind them.
kept_is : (held line : List ℕ) (n k : ℕ) → n ≤ length held → k ≡ min (length line) (length held - n) → kept_of held n line ≡ take n held ++ take k line
kept_is held line n k h e =
    let front : length (take n held) ≡ n = length-take-le n held h in
    let all : length held ≡ length (take n held) + (length held - n) = omega arith in
    let some : k ≡ min (length held - n) (length line) = omega arith in
    rw (some, take_min) (ap (λ m. take m (take n held ++ line)) all ∙ take-append-add (take n held) line (length held - n))

-- The bytes that are put behind the first n, to the end of the slice at most.
pub keeps : (held line piece : List ℕ) (n k m : ℕ) → n ≤ length held → k ≡ min (length line) (length held - n) → m ≡ k → piece ≡ take k line
    → Keeps held n line (take n held ++ (piece ++ drop m (drop n held))) (n + k)
keeps held line piece n k m h e same p =
    let kept = kept_is held line n k h e in
    let long : n + k ≡ length (kept_of held n line) = rw (kept, length-append, length-take-le n held h, length-take-le k line (omega arith)) refl in
    record { bytes = rw (← long, kept, same, p, append_assoc, ← drop-drop k n held) refl; many = long }

-- ---- the first newline

-- Its place, or the length where there is none.
abbrev newline_place : List ℕ → ℕ
newline_place s = position_or_len (λ (b : ℕ). b == 10) s

-- The line that it ends, and how many bytes stand up to it;
cut_there : (s : List ℕ) → newline_place s < length s
    → (up_to_newline s ≡ take (newline_place s) s) × (has_newline s ≡ true) × (behind_newline s ≡ newline_place s + 1)
unfolding up_to_newline has_newline behind_newline
cut_there [] h = absurd (omega arith)
cut_there (b ∷ s) h = go (b == 10) (cut_there s) h where
  go : (t : Bool) → (newline_place s < length s → (up_to_newline s ≡ take (newline_place s) s) × (has_newline s ≡ true) × (behind_newline s ≡ newline_place s + 1))
      → cond (not t) (1 + newline_place s) 0 < suc (length s)
      → (cond t [] (b ∷ up_to_newline s) ≡ take (cond (not t) (1 + newline_place s) 0) (b ∷ s)) × (cond t true (has_newline s) ≡ true)
      × (suc (cond t 0 (behind_newline s)) ≡ cond (not t) (1 + newline_place s) 0 + 1)
  go true rest h = (refl, refl, refl)
  go false rest h = let r = rest (omega arith) in (rw (one-add, r.0), r.1, omega (arith, r.2))

-- all bytes, where there is none.
cut_nowhere : (s : List ℕ) → length s ≤ newline_place s → (up_to_newline s ≡ s) × (has_newline s ≡ false) × (behind_newline s ≡ length s)
unfolding up_to_newline has_newline behind_newline
cut_nowhere [] h = (refl, refl, refl)
cut_nowhere (b ∷ s) h = go (b == 10) (cut_nowhere s) h where
  go : (t : Bool) → (length s ≤ newline_place s → (up_to_newline s ≡ s) × (has_newline s ≡ false) × (behind_newline s ≡ length s))
      → suc (length s) ≤ cond (not t) (1 + newline_place s) 0
      → (cond t [] (b ∷ up_to_newline s) ≡ b ∷ s) × (cond t true (has_newline s) ≡ false) × (suc (cond t 0 (behind_newline s)) ≡ suc (length s))
  go true rest h = absurd (omega arith)
  go false rest h = let r = rest (omega arith) in (rw r.0, r.1, omega (arith, r.2))

-- What `position` says of it.
place_some : (s : List ℕ) (i : ℕ) → Some i ≡ position (λ (b : ℕ). b == 10) s → (newline_place s < length s) × (newline_place s ≡ i)
place_some s i found = go (nat_lt (newline_place s) (length s)) refl found where
  go : (t : Bool) → nat_lt (newline_place s) (length s) ≡ t → Some i ≡ cond t (Some (newline_place s)) None → (newline_place s < length s) × (newline_place s ≡ i)
  go true e f = (ltb-true _ _ e, cc)
  go false e f = absurd cc

place_none : (s : List ℕ) → None ≡ position (λ (b : ℕ). b == 10) s → length s ≤ newline_place s
place_none s found = go (nat_lt (newline_place s) (length s)) refl found where
  go : (t : Bool) → nat_lt (newline_place s) (length s) ≡ t → None ≡ cond t (Some (newline_place s)) None → length s ≤ newline_place s
  go true e f = absurd cc
  go false e f = ltb-false _ _ e

-- ---- a call, from a place on

module _ {chunk : List ℕ} {at : ℕ} {held : List ℕ} {n : ℕ} {line after : List ℕ} {m : ℕ} (p : TakePre chunk at held n) (k : Keeps held n line after m)
    (rest : List ℕ) (r : rest ≡ drop at chunk) where
  -- What is kept is what was gathered.
  line_gathered : line ≡ up_to_newline (drop at chunk) → kept_of held n line ≡ gathered chunk at held n
  line_gathered e = rw (p.lent, e)

  -- A line that has its newline,
  pub takes_whole : (place : ℕ) → Some place ≡ position (λ (b : ℕ). b == 10) rest → line ≡ take place rest
      → Takes chunk at held n after (record { at = at + place + 1; length = m; whole = true })
  takes_whole place found e =
      let there = place_some (drop at chunk) place (rw r at found) in
      let parts = cut_there (drop at chunk) there.0 in
      let line_is = line_gathered (rw (parts.0, there.1, ← r) e) in
      record { bytes = rw (← line_is) k.bytes; many = rw (← line_is) k.many; place = rw (parts.2, there.1) (omega arith); ended = sym parts.1 }

  -- and the part of a line that has not.
  pub takes_part : None ≡ position (λ (b : ℕ). b == 10) rest → line ≡ rest
      → Takes chunk at held n after (record { at = length chunk; length = m; whole = false })
  takes_part found e =
      let parts = cut_nowhere (drop at chunk) (place_none (drop at chunk) (rw r at found)) in
      let line_is = line_gathered (rw (parts.0, ← r) e) in
      record { bytes = rw (← line_is) k.bytes; many = rw (← line_is) k.many; place = rw (parts.2, length-drop) (omega (arith, p.inside)); ended = sym parts.1 }
