-- Insertion at the found entry (section 5.1; 01, "Insertion"). Assumes nothing.
use Rattle.std.specs.Prelude.{Bool, true, false, cond, ◌&&◌, ℕ, ltb}
use Rattle.std.proofs.Math.Option.{none, some}
use mathlib.Core.List.{List, [], ◌∷◌, reverse_aux}
use Rattle.leaf_list.specs.Keys.{Key, below, first_difference}
use Rattle.leaf_list.specs.Entries.{Entry, entry}
use Rattle.leaf_list.specs.Search.{Place, positions, search}

-- The depth of the entry before, the last of those passed; 0 where there is none.
abbrev pub trailing : List Entry → ℕ
trailing [] = 0
trailing (entry d p ∷ before) = d

-- "let l be the leaf's depth: d(i) if entry i is first in the whole list or d(i) > d(i-1), else d(i-1)"; τ is d(i-1), and 0 before the first.
abbrev pub leaf_depth : ℕ → ℕ → ℕ
leaf_depth τ d = cond (ltb τ d) d τ

-- "insert (p, NIL) for each one-bit p of the key with l < p < b"
abbrev pub dummies : ℕ → ℕ → List ℕ → List Entry → List Entry
dummies l b [] rest = rest
dummies l b (p ∷ ps) rest = let more : List Entry = dummies l b ps rest in cond (ltb l p && ltb p b) (entry p none ∷ more) more

-- "then (b, smaller key), (d(i), larger key)"
abbrev pub both_leaves : Bool → ℕ → ℕ → ℕ → ℕ → List Entry → List Entry
both_leaves true b d new old rest = entry b (some new) ∷ entry d (some old) ∷ rest
both_leaves false b d new old rest = entry b (some old) ∷ entry d (some new) ∷ rest

-- What stands for the found entry and those after it: the key k is new, with the record r; τ is the depth before.
abbrev pub insert_at : (ℕ → Key) → Key → ℕ → ℕ → List Entry → List Entry
insert_at key_of k r τ [] = []
insert_at key_of k r τ (entry d none ∷ rest) = entry d (some r) ∷ rest
insert_at key_of k r τ (entry d (some old) ∷ rest) =
    cond (ltb (first_difference 0 k (key_of old)) (leaf_depth τ d)) (entry (first_difference 0 k (key_of old)) (some old) ∷ entry d (some r) ∷ rest)
    (dummies (leaf_depth τ d) (first_difference 0 k (key_of old)) (positions 0 k)
    (both_leaves (below k (key_of old)) (first_difference 0 k (key_of old)) d r old rest))

abbrev pub insert_into : (ℕ → Key) → Key → ℕ → Place → List Entry
insert_into key_of k r place = reverse_aux place.0 (insert_at key_of k r (trailing place.0) place.1)

-- The list with a new key.
abbrev pub insertion : (ℕ → Key) → Key → ℕ → List Entry → List Entry
insertion key_of k r es = insert_into key_of k r (search [] (positions 0 k) es)
