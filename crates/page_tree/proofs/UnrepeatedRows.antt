-- Where no depth on level 0 comes again before a shallower one has come, none does in a row above it. Assumes nothing.
use mathlib.Core.Path.{◌≡◌, refl, subst}
use mathlib.Core.Logic.{◌⊎◌, inl, inr}
use mathlib.Core.List.{List, [], ◌∷◌, ◌++◌, map}
use Prim.Native.Nat.{ℕ, ◌<◌}
use native.Mathlib.Omega.{arith}
use Rattle.leaf_list.specs.Entries.{Entry, entry, depth_of}
use Rattle.leaf_list.specs.Depths.{Unmatched, Unrepeated}
use Rattle.leaf_list.proofs.Unrepeated.{unrepeated_right}
use Rattle.page_tree.specs.Rows.{All, Closed, flats}
use Rattle.page_tree.specs.Tree.{Node, depth, leaves, Sound}
use Rattle.page_tree.proofs.TreeLaws.{closed_leaves}

module _ {A : Type 0} (f : A → ℕ) where
  -- A closed row is passed like one entry, of the depth that closes it.
  closed_unmatched : (c d : ℕ) (xs ys : List A) → Closed f c xs → Unmatched f d (xs ++ ys) → (c < d) ⊎ ((d < c) × Unmatched f d ys)
  closed_unmatched c d [] ys h u = absurd h
  closed_unmatched c d (x ∷ []) ys h u = subst (λ (n : ℕ). (n < d) ⊎ ((d < n) × Unmatched f d ys)) h u
  closed_unmatched c d (x ∷ y ∷ xs) ys h (inl u) = inl (omega (arith, h.0))
  closed_unmatched c d (x ∷ y ∷ xs) ys h (inr u) = closed_unmatched c d (y ∷ xs) ys h.1 u.1

  -- What follows a closed row does not come back to the depth that closes it.
  closed_before : (c : ℕ) (xs ys : List A) → Closed f c xs → Unrepeated f (xs ++ ys) → Unmatched f c ys
  closed_before c [] ys h u = absurd h
  closed_before c (x ∷ []) ys h u = subst (λ (n : ℕ). Unmatched f n ys) h u.0
  closed_before c (x ∷ y ∷ xs) ys h u = closed_before c (y ∷ xs) ys h.1 u.1

  module _ {X : Type 0} (g : X → ℕ) (parts : X → List A) (Good : X → Type 0) (closed : (x : X) → Good x → Closed f (g x) (parts x)) where
    unmatched_flats : (d : ℕ) (xs : List X) → All Good xs → Unmatched f d (flats parts xs) → Unmatched g d xs
    unmatched_flats d [] h u = tt
    unmatched_flats d (x ∷ xs) h u = go (closed_unmatched (g x) d (parts x) (flats parts xs) (closed x h.0) u) (unmatched_flats d xs h.1)
      where
        go : (g x < d) ⊎ ((d < g x) × Unmatched f d (flats parts xs)) → (Unmatched f d (flats parts xs) → Unmatched g d xs) → Unmatched g d (x ∷ xs)
        go (inl l) rest = inl l
        go (inr r) rest = inr (r.0, rest r.1)

    pub unrepeated_flats : (xs : List X) → All Good xs → Unrepeated f (flats parts xs) → Unrepeated g xs
    unrepeated_flats [] h u = tt
    unrepeated_flats (x ∷ xs) h u = (
      unmatched_flats (g x) xs h.1 (closed_before (g x) (parts x) (flats parts xs) (closed x h.0) u),
      unrepeated_flats xs h.1 (unrepeated_right f (parts x) (flats parts xs) u),
    )

-- Things with the same depths.
module _ {A B : Type 0} (f : A → ℕ) (g : B → ℕ) (h : A → B) where
  unmatched_map : (d : ℕ) (xs : List A) → All (λ x. g (h x) ≡ f x) xs → Unmatched g d (map h xs) → Unmatched f d xs
  unmatched_map d [] e u = tt
  unmatched_map d (x ∷ xs) e (inl u) = inl (subst (λ (n : ℕ). n < d) e.0 u)
  unmatched_map d (x ∷ xs) e (inr u) = inr (subst (λ (n : ℕ). d < n) e.0 u.0, unmatched_map d xs e.1 u.1)

  pub unrepeated_map : (xs : List A) → All (λ x. g (h x) ≡ f x) xs → Unrepeated g (map h xs) → Unrepeated f xs
  unrepeated_map [] e u = tt
  unrepeated_map (x ∷ xs) e u = (
    subst (λ (n : ℕ). Unmatched f n xs) e.0 (unmatched_map (g (h x)) xs e.1 u.0),
    unrepeated_map xs e.1 u.1,
  )

same_depth : (e : Entry) → depth_of e ≡ depth 0 e
same_depth (entry d p) = refl

-- The entries of a page, by those on level 0 below it.
pub unrepeated_page : (E n : ℕ) (page : List (Node n)) → All (Sound E n) page → Unrepeated depth_of (flats (leaves n) page) → Unrepeated (depth n) page
unrepeated_page E n page s u =
    unrepeated_flats (depth 0) (depth n) (leaves n) (Sound E n) (closed_leaves E n) page s
    (subst (λ (f : Entry → ℕ). Unrepeated f (flats (leaves n) page)) (λ i e. same_depth e i) u)
