-- Figure 6 level by level finds what figure 6 finds on level 0 (01, "A walk goes from the root down"). Assumes nothing.
use mathlib.Core.Path.{◌≡◌, refl, ap, sym, ◌∙◌}
use mathlib.Core.Bool.{Bool, true, false, cond}
use mathlib.Core.List.{List, [], ◌∷◌, ◌++◌, append-nil}
use Prim.Native.Nat.{ℕ, zero, suc}
use native.Mathlib.Omega.{arith}
use lib.Dec.{ltb}
use borrow.Author.Tests.{lt-ltb}
use Rattle.leaf_list.specs.Entries.{Entry, entry}
use Rattle.leaf_list.specs.Search.{Place, search}
use Rattle.leaf_list.specs.Insertion.{trailing}
use Rattle.leaf_list.proofs.Positions.{Beyond, Rising}
use Rattle.page_tree.specs.Rows.{flats, Closed}
use Rattle.page_tree.specs.Tree.{Node, depth, leaves, Sound, Tree, leaves_of, SoundTree}
use Rattle.page_tree.specs.Walk.{rest}
use Rattle.page_tree.specs.Finding.{Found, nowhere, find_flat, find_below, find_in}
use Rattle.page_tree.proofs.ListLaws.{foldr_same}
use Rattle.page_tree.proofs.WalkLaws.{rest_beyond, walk_stop, walk_flats}
use Rattle.page_tree.proofs.TreeLaws.{closed_leaves}

-- Below one entry, whatever stands after it on level 0.
pub find_below_leaves : (E n : ℕ) (bs : List ℕ) (τ : ℕ) (x : Node n) (after : List Entry) → Sound E n x → Rising bs → Beyond (depth n x) bs
    → find_below n bs τ x ≡ find_flat bs τ (leaves n x ++ after)
find_below_leaves E zero bs τ x after s a e = sym (walk_stop (depth 0) (λ bs τ e es. (bs, τ, e)) (λ e r. r) nowhere bs τ x after e)
find_below_leaves E (suc n) bs τ x after s a e =
    walk_flats (depth 0) (depth n) (leaves n) (Sound E n) (λ bs τ e es. (bs, τ, e)) (λ e r. r) nowhere (λ bs τ y ys. find_below n bs τ y)
    (λ y r. r) nowhere
    (λ b. b) after (closed_leaves E n) (λ bs τ y ys p a e. find_below_leaves E n bs τ y (flats (leaves n) ys ++ after) p a e)
    (λ y r p. foldr_same r (leaves n y))
    (depth (suc n) x) bs τ x s.0.0 s.1 a e

-- The same entry, with the same positions left and the same depth before it.
pub find_in_leaves : (E : ℕ) (bs : List ℕ) (t : Tree) → SoundTree E t → Rising bs → Beyond (depth (suc t.0) t.1) bs
    → find_in bs t ≡ find_flat bs 0 (leaves_of t)
find_in_leaves E bs t s a e = find_below_leaves E (suc t.0) bs 0 t.1 [] s a e ∙ ap (find_flat bs 0) (append-nil (leaves_of t))

-- What a search found is the place at which the list is parted.
pub record FoundAt (found : Found) (place : Place) : Type 0 where
  pub after : List Entry
  -- the entry found is the first of those not passed,
  pub entry_found : place.1 ≡ found.2 ∷ after
  -- and the depth before it that of the last one passed
  pub depth_before : found.1 ≡ trailing place.0

-- On level 0 it is the search of the leaf list.
pub find_flat_search : (before es : List Entry) (bs : List ℕ) → Closed (depth 0) 0 es → Beyond 0 bs
    → FoundAt (find_flat bs (trailing before) es) (search before bs es)
find_flat_search before [] bs cl e = absurd cl
find_flat_search before (x ∷ es) [] cl e = record { after = es; entry_found = refl; depth_before = refl }
find_flat_search before (entry d p ∷ []) (b ∷ bs) cl e =
    rw (lt-ltb d b (omega (arith, e.0))) (record { after = []; entry_found = refl; depth_before = refl })
find_flat_search before (entry d p ∷ y ∷ es) (b ∷ bs) cl e =
    step (ltb d b) (find_flat_search (entry d p ∷ before) (y ∷ es) (rest d b bs) cl.1 (rest_beyond 0 d b bs e))
  where
    found : Found
    found = find_flat (rest d b bs) d (y ∷ es)

    place : Place
    place = search (entry d p ∷ before) (rest d b bs) (y ∷ es)

    step : (t : Bool) → FoundAt found place → FoundAt (cond t (b ∷ bs, trailing before, entry d p) found) (cond t (before, entry d p ∷ y ∷ es) place)
    step true ih = record { after = y ∷ es; entry_found = refl; depth_before = refl }
    step false ih = ih
