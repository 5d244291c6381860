-- Lines told to the library, one after the other. Assumes nothing.
use mathlib.Core.Path.{◌≡◌, sym, subst}
use mathlib.Core.List.{List, [], ◌∷◌, ◌++◌, map, append_assoc, append-nil}
use Prim.Native.Nat.{ℕ, suc, ◌+◌}
use native.Mathlib.Omega.{arith}
use lib.ListN.{length, take}
use Rattle.std.specs.Prelude.{Result}
use Rattle.tag_index.specs.Tables.{Tables}
use Rattle.tag_index.specs.Histories.{Feed}
use Rattle.book_lines.specs.declared.Call.{Call}
use Rattle.book_lines.specs.declared.Declined.{Declined}
use Rattle.book_lines.specs.Lines.{meaning}
use Rattle.book_lines.proofs.LineLaws.{says_cut}
use Rattle.day_book.specs.Books.{Shown, feed_of_said, shown_line}
use Rattle.day_book.specs.LineAnswers.{SaidShown, Told, end, next}

-- One line.
pub told_line : {t u : Tables} {n : ℕ} {line : List ℕ} (s : Shown) → SaidShown (meaning line) t u s
    → Told t n (line ∷ []) (feed_of_said t (meaning line) ∷ []) (shown_line n s) u
told_line {t} {u} {n} {line} s h = subst (λ (out : List ℕ). Told t n (line ∷ []) (feed_of_said t (meaning line) ∷ []) out u) (append-nil (shown_line n s)) (next {line = line} s h end)

-- Lines, and more lines behind them.
pub told_both : {t u v : Tables} {n m : ℕ} {lines more : List (List ℕ)} {feeds others : List Feed} {out later : List ℕ} → Told t n lines feeds out u
    → m ≡ n + length lines → Told u m more others later v → Told t n (lines ++ more) (feeds ++ others) (out ++ later) v
told_both {u = u} {v = v} {n = n} {m = m} {more = more} {others = others} {later = later} end e b =
    let same : m ≡ n = omega arith in subst (λ (k : ℕ). Told u k more others later v) same b
told_both {t} {v = v} {n = n} {more = more} {others = others} {later = later} (next {line = line} {out = out} {lines = lines} {feeds = feeds} s h a) e b =
    subst (λ (bytes : List ℕ). Told t n (line ∷ (lines ++ more)) (feed_of_said t (meaning line) ∷ (feeds ++ others)) bytes v) (sym (append_assoc (shown_line n s) out later))
    (next {line = line} s h (told_both a (omega arith) b))

-- Lines cut to 81 bytes are answered as the whole lines.
pub told_cut : {t v : Tables} {n : ℕ} {feeds : List Feed} {out : List ℕ} (lines : List (List ℕ)) → Told t n (map (take 81) lines) feeds out v → Told t n lines feeds out v
told_cut [] end = end
told_cut {t} {v} {n} {feeds} {out} (line ∷ lines) told = go line lines feeds out (λ u fs ys a. told_cut lines a) told
  where
    go : (line : List ℕ) (lines : List (List ℕ)) (feeds : List Feed) (out : List ℕ)
        → ((u : Tables) (fs : List Feed) (ys : List ℕ) → Told u (suc n) (map (take 81) lines) fs ys v → Told u (suc n) lines fs ys v)
        → Told t n (take 81 line ∷ map (take 81) lines) feeds out v
        → Told t n (line ∷ lines) feeds out v
    go line lines feeds' out' rest (next {u = u} {out = out} {feeds = feeds} s h a) =
        subst (λ (x : Result Call Declined). Told t n (line ∷ lines) (feed_of_said t x ∷ feeds) (shown_line n s ++ out) v) (sym (says_cut line))
        (next {line = line} s (subst (λ (x : Result Call Declined). SaidShown x t u s) (says_cut line) h) (rest u feeds out a))
