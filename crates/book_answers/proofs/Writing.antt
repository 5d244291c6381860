-- Bytes written one behind the other. Assumes nothing.
use mathlib.Core.Path.{◌≡◌, refl, sym, ap, ◌∙◌}
use mathlib.Core.List.{List, [], ◌∷◌, ◌++◌, append_assoc}
use Prim.Native.Nat.{ℕ, suc, ◌+◌, ◌≤◌}
use native.Mathlib.Omega.{arith}
use lib.ListN.{length, take, drop, set, length-append}
use lib.Seq.{sets, length-sets, sets-eq, take_at, drop_at, drop-drop}
use Rattle.book_answers.specs.Writing.{over, Wrote}

-- One list over another, behind the one before.
over_append : (l : List ℕ) (i : ℕ) (vs ws : List ℕ) → over (over l i vs) (i + length vs) ws ≡ over l i (vs ++ ws)
unfolding over
over_append l i [] ws = ap (λ (k : ℕ). sets l k ws) (let e : i + 0 ≡ i = omega arith in e)
over_append l i (v ∷ vs) ws =
    ap (λ (k : ℕ). sets (sets (set l i v) (suc i) vs) k ws) (let e : i + length (v ∷ vs) ≡ suc i + length vs = omega arith in e)
    ∙ over_append (set l i v) (suc i) vs ws

-- The length stays.
pub wrote_long : {b : List ℕ} {at : ℕ} {xs c : List ℕ} {n : ℕ} → Wrote b at xs c n → length c ≡ length b
unfolding over
wrote_long {b} {at} {xs} w = ap length w.bytes_there ∙ length-sets b at xs

-- Nothing is written.
pub wrote_none : (b : List ℕ) (at : ℕ) → Wrote b at [] b at
unfolding over
wrote_none b at = record { bytes_there = refl; ends = omega arith }

-- One byte is written.
pub wrote_one : (b : List ℕ) (at x : ℕ) → Wrote b at (x ∷ []) (set b at x) (at + 1)
unfolding over
wrote_one b at x = record { bytes_there = refl; ends = omega arith }

-- Bytes are put in the place of as many.
pub wrote_bytes : (b bytes piece : List ℕ) (at m : ℕ) → at + length bytes ≤ length b → m ≡ length bytes → piece ≡ bytes
    → Wrote b at bytes (take at b ++ (piece ++ drop m (drop at b))) (at + length bytes)
unfolding over
wrote_bytes b bytes piece at m h e same = record { bytes_there = rw (same, e, drop-drop, sets-eq bytes b at h, append_assoc) refl; ends = refl }

-- Bytes are written behind others.
pub wrote_then : {b : List ℕ} {at : ℕ} {xs c : List ℕ} {n : ℕ} {ys d : List ℕ} {m : ℕ} → Wrote b at xs c n → Wrote c n ys d m → Wrote b at (xs ++ ys) d m
wrote_then {b} {at} {xs} {c} {n} {ys} {d} {m} v w = record {
  bytes_there = w.bytes_there ∙ rw (v.bytes_there, v.ends) (over_append b at xs ys);
  ends = w.ends ∙ omega (arith, v.ends, length-append xs ys);
}

-- What was written at the front is read there.
pub wrote_front : {b xs c : List ℕ} {n : ℕ} → Wrote b 0 xs c n → length xs ≤ length b → take n c ≡ xs
unfolding over
wrote_front {b} {xs} {c} {n} w h =
    let e : length xs ≡ n = omega (arith, w.ends) in
    rw (w.bytes_there, sets-eq xs b 0 (omega arith)) (take_at xs (drop (0 + length xs) b) n e)

-- The rest is as before.
pub wrote_rest : {b xs c : List ℕ} {n : ℕ} → Wrote b 0 xs c n → length xs ≤ length b → drop n c ≡ drop n b
unfolding over
wrote_rest {b} {xs} {c} {n} w h =
    let e : length xs ≡ n = omega (arith, w.ends) in
    rw (w.bytes_there, sets-eq xs b 0 (omega arith)) (drop_at xs (drop (0 + length xs) b) n e ∙ ap (λ (k : ℕ). drop k b) (sym w.ends))
