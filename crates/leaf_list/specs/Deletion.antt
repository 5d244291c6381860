-- Deletion at the found entry (figure 11; 01, "Deletion"), over the whole list. Assumes nothing.
use Rattle.std.specs.Prelude.{cond, ℕ, ltb}
use Rattle.std.proofs.Math.Option.{none, some}
use mathlib.Core.List.{List, [], ◌∷◌, reverse_aux}
use Rattle.leaf_list.specs.Keys.{Key}
use Rattle.leaf_list.specs.Entries.{Entry, entry}
use Rattle.leaf_list.specs.Search.{Place, positions, search}

-- "Remove all dummy entries immediately preceding" that are deeper than d; the entries before stand last first.
abbrev pub drop_dummies : ℕ → List Entry → List Entry
drop_dummies d [] = []
drop_dummies d (entry d' none ∷ before) = cond (ltb d d') (drop_dummies d before) (entry d' none ∷ before)
drop_dummies d (entry d' (some r) ∷ before) = entry d' (some r) ∷ before

-- No 1-leaf: taken out where the next entry is shallower, with the dummies before it, else its pointer set to NIL.
-- "the last has no next", so "A sole entry becomes (0, NIL)".
abbrev pub delete_other : List Entry → ℕ → List Entry → List Entry
delete_other before d [] = reverse_aux before (entry d none ∷ [])
delete_other before d (entry d' p' ∷ rest) =
    cond (ltb d' d) (reverse_aux (drop_dummies d' before) (entry d' p' ∷ rest)) (reverse_aux before (entry d none ∷ entry d' p' ∷ rest))

-- Figure 11: "when a 1-leaf i (d(i) < d(i-1)) is taken out, entry i-1 takes the depth d(i)"; "before the first entry stands no entry".
abbrev pub delete_at : List Entry → List Entry → List Entry
delete_at before [] = reverse_aux before []
delete_at [] (entry d p ∷ rest) = delete_other [] d rest
delete_at (entry d' p' ∷ before) (entry d p ∷ rest) =
    cond (ltb d d') (reverse_aux (drop_dummies d before) (entry d p' ∷ rest)) (delete_other (entry d' p' ∷ before) d rest)

abbrev pub delete_from : Place → List Entry
delete_from place = delete_at place.0 place.1

-- The list without a held key.
abbrev pub deletion : Key → List Entry → List Entry
deletion k es = delete_from (search [] (positions 0 k) es)
