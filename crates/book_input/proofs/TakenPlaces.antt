-- Where a call leaves its place. Assumes nothing.
use mathlib.Core.Path.{◌≡◌}
use mathlib.Core.Bool.{Bool, true, false, cond}
use mathlib.Core.List.{List, [], ◌∷◌, ◌++◌}
use Prim.Native.Nat.{ℕ, suc, ◌≤◌, ◌<◌}
use native.Mathlib.Omega.{arith}
use lib.Dec.{eqb}
use lib.ListN.{length, take, drop, length-append, length-take, length-drop}
use Rattle.book_input.specs.Lines.{up_to_newline, behind_newline, cut}
use Rattle.book_input.specs.Gathering.{Taken, Takes}

behind_inside : (c : List ℕ) → behind_newline c ≤ length c
unfolding behind_newline
behind_inside [] = omega arith
behind_inside (b ∷ c) = go (eqb b 10) (behind_inside c) where
  go : (t : Bool) → behind_newline c ≤ length c → suc (cond t 0 (behind_newline c)) ≤ suc (length c)
  go true h = omega arith
  go false h = omega arith

behind_some : (c : List ℕ) → 0 < length c → 0 < behind_newline c
unfolding behind_newline
behind_some [] h = absurd (omega arith)
behind_some (b ∷ c) h = omega arith

-- A line that is cut can be held.
pub cut_short : (l : List ℕ) → length (cut l) ≤ 81
cut_short l = rw length-take (omega arith)

module _ {chunk : List ℕ} {from : ℕ} {held : List ℕ} {n : ℕ} {after : List ℕ} {r : Taken} (takes : Takes chunk from held n after r) where
  -- The place stays in the chunk,
  pub taken_inside : from ≤ length chunk → r.at ≤ length chunk
  taken_inside h = omega (arith, takes.place, behind_inside (drop from chunk), length-drop from chunk)

  -- and goes on where something is left;
  pub taken_onward : from < length chunk → from < r.at
  taken_onward h = omega (arith, takes.place, behind_some (drop from chunk) (rw length-drop (omega arith)))

  -- at most 81 bytes are held.
  pub taken_room : r.length ≤ 81
  taken_room = rw takes.many (cut_short (take n held ++ up_to_newline (drop from chunk)))

  pub taken_lent : length held ≡ 81 → length after ≡ 81
  taken_lent l = rw (takes.bytes, length-append, length-drop) (omega (arith, cut_short (take n held ++ up_to_newline (drop from chunk))))
