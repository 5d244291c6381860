-- From a search's place on, level by level, stands what stands from it on level 0. Assumes nothing.
use mathlib.Core.Path.{◌≡◌, refl, sym, ap, ◌∙◌}
use mathlib.Core.Bool.{Bool, true, false, cond}
use mathlib.Core.List.{List, [], ◌∷◌, ◌++◌, append_assoc, append-nil}
use Prim.Native.Nat.{ℕ, zero, suc}
use lib.Dec.{ltb}
use lib.ListN.{drop}
use Rattle.leaf_list.specs.Entries.{Entry, entry}
use Rattle.leaf_list.proofs.Positions.{Beyond, Rising}
use Rattle.leaf_list.proofs.Indexed.{found_index}
use Rattle.page_tree.specs.Rows.{flats}
use Rattle.page_tree.specs.Tree.{Node, depth, leaves, Sound}
use Rattle.page_tree.specs.Walk.{rest, walk}
use Rattle.page_tree.proofs.ListLaws.{foldr_same}
use Rattle.page_tree.proofs.WalkLaws.{walk_stop, walk_flats}
use Rattle.page_tree.proofs.TreeLaws.{closed_leaves}
use Rattle.table_list.specs.Listings.{leaves_from}

-- Over a flat list.
abbrev entries_from : List ℕ → ℕ → List Entry → List Entry
entries_from = walk (depth 0) (λ bs τ e es. e ∷ es) (λ e r. r) []

-- They are what is left once the passed entries are dropped.
entries_from_drop : (bs : List ℕ) (τ : ℕ) (es : List Entry) → entries_from bs τ es ≡ drop (found_index bs es) es
entries_from_drop bs τ [] = refl
entries_from_drop [] τ (e ∷ es) = refl
entries_from_drop (b ∷ bs) τ (entry d p ∷ es) = step (ltb d b) (entries_from_drop (rest d b bs) d es)
  where
    step : (t : Bool) → entries_from (rest d b bs) d es ≡ drop (found_index (rest d b bs) es) es
        → cond t (entry d p ∷ es) (entries_from (rest d b bs) d es) ≡ drop (cond t zero (suc (found_index (rest d b bs) es))) (entry d p ∷ es)
    step true ih = refl
    step false ih = ih

-- Below one entry, whatever stands after it on level 0.
leaves_from_after : (E n : ℕ) (bs : List ℕ) (τ : ℕ) (x : Node n) (after : List Entry) → Sound E n x → Rising bs → Beyond (depth n x) bs
    → leaves_from n bs τ x ++ after ≡ entries_from bs τ (leaves n x ++ after)
leaves_from_after E zero bs τ x after s a e = sym (walk_stop (depth 0) (λ bs τ e es. e ∷ es) (λ e r. r) [] bs τ x after e)
leaves_from_after E (suc n) bs τ x after s a e =
    walk_flats (depth 0) (depth n) (leaves n) (Sound E n) (λ bs τ e es. e ∷ es) (λ e r. r) [] (λ bs τ y ys. leaves_from n bs τ y ++ flats (leaves n) ys) (λ y r. r) []
    (λ r. r ++ after) after (closed_leaves E n)
    (λ bs τ y ys p a e. append_assoc (leaves_from n bs τ y) (flats (leaves n) ys) after ∙ leaves_from_after E n bs τ y (flats (leaves n) ys ++ after) p a e)
    (λ y r p. foldr_same (r ++ after) (leaves n y)) (depth (suc n) x) bs τ x s.0.0 s.1 a e

-- The entries from the found one on.
pub leaves_from_drop : (E n : ℕ) (bs : List ℕ) (τ : ℕ) (x : Node n) → Sound E n x → Rising bs → Beyond (depth n x) bs
    → leaves_from n bs τ x ≡ drop (found_index bs (leaves n x)) (leaves n x)
leaves_from_drop E n bs τ x s a e =
    sym (append-nil (leaves_from n bs τ x)) ∙ leaves_from_after E n bs τ x [] s a e ∙ ap (entries_from bs τ) (append-nil (leaves n x)) ∙ entries_from_drop bs τ (leaves n x)
