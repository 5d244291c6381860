-- A row by value as a list of entries, where it is cut, and the ends of its parts (01, "the row being split holds at most 319 entries"; 02, iii).
-- Assumes nothing.
use Rattle.std.specs.Prelude.{◌≡◌, ℕ, suc, ◌+◌, ◌-◌, ◌≤◌, ◌<◌, length, get_or, take}
use mathlib.Core.List.{List, [], ◌∷◌, ◌++◌, zip}
use Rattle.std.proofs.Math.Seq.{slice}
use Rattle.page_tree.specs.declared.Row.{Row}
use Rattle.page_tree.specs.declared.Cut.{Cut}
use Rattle.page_tree.specs.declared.Cuts.{Cuts}
use Rattle.page_tree.specs.Rows.{itself, last_depth, LastBelow}
use Rattle.page_tree.specs.Cutting.{parts}
use Rattle.page_tree.specs.QuickCut.{tried, quick_place}

-- An entry of a row: its depth and its pointer.
abbrev pub Pair : Type 0
Pair = ℕ × ℕ

abbrev pub depth_of : Pair → ℕ
depth_of x = x.0

-- All places of a row, in use or not.
abbrev pub places : Row → List Pair
places r = zip r.depths r.pointers

-- The entries of a row: the first places, as many as count.
abbrev pub row_of : Row → List Pair
row_of r = take r.count (places r)

-- The entries from one place up to another.
abbrev pub part_of : Row → ℕ → ℕ → List Pair
part_of r from to = slice from to (places r)

-- The row has n entries, and they are es.
pub record Holds (r : Row) (n : ℕ) (es : List Pair) : Type 0 where
  pub count : r.count ≡ n
  pub entries : row_of r ≡ es

-- Past the last of each part, where the parts stand one behind the other from a place on.
abbrev pub ends_of : {A : Type 0} → ℕ → List (List A) → List ℕ
ends_of from [] = []
ends_of from (xs ∷ xss) = (from + length xs) ∷ ends_of (from + length xs) xss

-- The ends in use.
abbrev pub ends_in : Cuts → List ℕ
ends_in c = take c.count c.ends

-- What the search gives, of every row: where a part of a row of depths is cut, and how many of its entries were tried.
pub record SplitPost (depths : List ℕ) (from to : ℕ) (cut : Cut) : Type 0 where
  pub place : cut.at ≡ from + quick_place itself (slice from to depths)
  pub count : cut.tried ≡ tried itself (last_depth itself 0 (slice from to depths)) (slice from to depths)

-- A part of a row of depths whose last is below all others is to be cut, with room for the ends of as many parts as there can be.
pub record CutPre (e : ℕ) (depths : List ℕ) (from to : ℕ) (before : Cuts) : Type 0 where
  pub some : from < to
  pub within : to ≤ 319
  pub size : 1 ≤ e
  pub room : before.count + suc ((to - from) - e) ≤ 65
  pub closed : LastBelow itself (slice from to depths)

-- The ends of the parts of a part stand behind the ends before.
pub record CutPost (e : ℕ) (depths : List ℕ) (from to : ℕ) (before after : Cuts) : Type 0 where
  pub ends : ends_in after ≡ ends_in before ++ ends_of from (parts itself e (slice from to depths))
  pub some : before.count < after.count
  pub few : after.count ≤ before.count + suc ((to - from) - e)
  pub places : length after.ends ≡ length before.ends

-- The ends of the parts of a row, at most 65, none past the row.
pub record CutsPost (e : ℕ) (row : Row) (cuts : Cuts) : Type 0 where
  pub ends : ends_in cuts ≡ ends_of 0 (parts depth_of e (row_of row))
  pub count : cuts.count ≡ length (parts depth_of e (row_of row))
  pub some : 1 ≤ cuts.count
  pub few : cuts.count ≤ 65
  pub within : (k : ℕ) → k < cuts.count → get_or cuts.ends k 0 ≤ row.count
