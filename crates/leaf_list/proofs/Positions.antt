-- The position list rises. Assumes nothing.
use mathlib.Core.Bool.{false, true}
use mathlib.Core.List.{List, [], ◌∷◌}
use Prim.Native.Nat.{ℕ, ◌<◌, ◌≤◌, suc}
use native.Mathlib.Omega.{arith}
use Rattle.leaf_list.specs.Keys.{Key}
use Rattle.leaf_list.specs.Search.{positions}
use Rattle.leaf_list.proofs.Lists.{All}

-- All positions are past d.
abbrev pub Beyond : ℕ → List ℕ → Type 0
Beyond d = All (λ b. d < b)

-- The positions rise.
abbrev pub Rising : List ℕ → Type 0
Rising [] = Unit {0}
Rising (b ∷ bs) = Beyond b bs × Rising bs

-- The positions of a key are past the l bits that went before.
pub positions_beyond : (c l : ℕ) (k : Key) → c ≤ l → Beyond c (positions l k)
positions_beyond c l [] h = (omega arith, tt)
positions_beyond c l (false ∷ k) h = positions_beyond c (suc l) k (omega arith)
positions_beyond c l (true ∷ k) h = (omega arith, positions_beyond c (suc l) k (omega arith))

-- They rise.
pub positions_rise : (l : ℕ) (k : Key) → Rising (positions l k)
positions_rise l [] = (tt, tt)
positions_rise l (false ∷ k) = positions_rise (suc l) k
positions_rise l (true ∷ k) = (positions_beyond (suc l) (suc l) k (omega arith), positions_rise (suc l) k)
