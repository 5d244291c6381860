-- Induction over merging: what merging makes of a row is the row with one thing changed in its place, or joined with a neighbour. Assumes nothing.
use mathlib.Core.Path.{◌≡◌, refl, sym, subst}
use mathlib.Core.Bool.{Bool, true, false, cond}
use mathlib.Core.List.{List, [], ◌∷◌}
use Prim.Native.Nat.{ℕ, ◌+◌, ◌≤◌, ◌<◌}
use lib.Dec.{leb, ltb}
use borrow.Author.Tests.{ltb-true, leb-true}
use Rattle.page_tree.specs.Walk.{rest, walk}
use Rattle.page_tree.specs.Merging.{Offered, sparse, with_right, with_left, offer, beside, accept, settle, merge_in}

-- R is between a row and what becomes of it. It has to hold of the empty row and of a thing alone, which stay; of a row whose first thing is changed
-- by `below`, or changed and joined with the next, or whose second thing is changed and joined with the first; and of a row with one thing more in front.
module _ {A : Type 0} (E : ℕ) (depth size : A → ℕ) (glue : A → A → A) (below : List ℕ → A → A) (R : List A → List A → Type 0)
    (none : R [] []) (alone : (x : A) → R (x ∷ []) (x ∷ []))
    (stay : (bs : List ℕ) (x : A) (xs : List A) → R (x ∷ xs) (below bs x ∷ xs))
    (right : (bs : List ℕ) (x y : A) (ys : List A) → depth y < depth (below bs x) → size (below bs x) + size y ≤ E → R (x ∷ y ∷ ys) (glue (below bs x) y ∷ ys))
    (left : (bs : List ℕ) (z x : A) (xs : List A) → depth (below bs x) < depth z → size z + size (below bs x) ≤ E → R (z ∷ x ∷ xs) (glue z (below bs x) ∷ xs))
    (pass : (z x : A) (xs ys : List A) → R (x ∷ xs) ys → R (z ∷ x ∷ xs) (z ∷ ys)) where
  abbrev tried : A → List A → List A
  tried x xs = with_right E depth size glue x xs

  -- It holds where the right neighbour is tried,
  with_right_lem : (bs : List ℕ) (x : A) (xs : List A) → R (x ∷ xs) (tried (below bs x) xs)
  with_right_lem bs x [] = stay bs x []
  with_right_lem bs x (y ∷ ys) = go (ltb (depth y) (depth (below bs x))) (leb (size (below bs x) + size y) E) refl refl
    where
      go : (t u : Bool) → ltb (depth y) (depth (below bs x)) ≡ t → leb (size (below bs x) + size y) E ≡ u
          → R (x ∷ y ∷ ys) (cond (cond t u false) (glue (below bs x) y ∷ ys) (below bs x ∷ y ∷ ys))
      go true true p q = right bs x y ys (ltb-true (depth y) (depth (below bs x)) p) (leb-true (size (below bs x) + size y) E q)
      go true false p q = stay bs x (y ∷ ys)
      go false u p q = stay bs x (y ∷ ys)

  -- and where the left one is.
  with_left_lem : (bs : List ℕ) (z x : A) (xs : List A) → R (z ∷ x ∷ xs) (with_left E depth size glue z (below bs x) xs)
  with_left_lem bs z x xs = go (ltb (depth (below bs x)) (depth z)) (leb (size z + size (below bs x)) E) refl refl
    where
      passed : R (z ∷ x ∷ xs) (z ∷ tried (below bs x) xs)
      passed = pass z x xs (tried (below bs x) xs) (with_right_lem bs x xs)

      go : (t u : Bool) → ltb (depth (below bs x)) (depth z) ≡ t → leb (size z + size (below bs x)) E ≡ u
          → R (z ∷ x ∷ xs) (cond (cond t u false) (glue z (below bs x) ∷ xs) (z ∷ tried (below bs x) xs))
      go true true p q = left bs z x xs (ltb-true (depth (below bs x)) (depth z) p) (leb-true (size z + size (below bs x)) E q)
      go true false p q = passed
      go false u p q = passed

  -- What the way back has made so far of a row is told by R; or its first thing is changed and still to be joined.
  abbrev So-far : List A → Bool → List A → Type 0
  So-far xs false ys = R xs ys
  So-far [] true ys = ⊥
  So-far (x ∷ xs) true ys = (bs : List ℕ) × (ys ≡ below bs x ∷ xs)

  -- So it is where the walk stops,
  offer_is : (bs : List ℕ) (x : A) (xs : List A) → So-far (x ∷ xs) (sparse E (size (below bs x))) (below bs x ∷ xs)
  offer_is bs x xs = go (sparse E (size (below bs x)))
    where
      go : (t : Bool) → So-far (x ∷ xs) t (below bs x ∷ xs)
      go true = (bs, refl)
      go false = stay bs x xs

  -- with one thing more on the left,
  beside_is : (z x : A) (xs : List A) (t : Bool) (ys : List A) → So-far (x ∷ xs) t ys → R (z ∷ x ∷ xs) (beside E depth size glue z t ys)
  beside_is z x xs false ys h = pass z x xs ys h
  beside_is z x xs true ys h = subst (λ (l : List A). R (z ∷ x ∷ xs) (beside E depth size glue z true l)) (sym h.1) (with_left_lem h.0 z x xs)

  -- and at the row's end.
  settle_is : (xs : List A) (t : Bool) (ys : List A) → So-far xs t ys → R xs (settle E depth size glue t ys)
  settle_is xs false ys h = h
  settle_is [] true ys h = absurd h
  settle_is (x ∷ xs) true ys h = subst (λ (l : List A). R (x ∷ xs) (settle E depth size glue true l)) (sym h.1) (with_right_lem h.0 x xs)

  abbrev walked : List ℕ → ℕ → List A → Offered A
  walked = walk depth (λ bs τ x xs. offer E depth size glue (below bs x) xs) (accept E depth size glue) (false, [])

  walked_is : (bs : List ℕ) (τ : ℕ) (xs : List A) → So-far xs (walked bs τ xs).0 (walked bs τ xs).1
  walked_is bs τ [] = none
  walked_is [] τ (x ∷ xs) = offer_is [] x xs
  walked_is (b ∷ bs) τ (x ∷ []) = go (ltb (depth x) b)
    where
      go : (t : Bool) → (let r : Offered A = cond t (offer E depth size glue (below (b ∷ bs) x) []) (accept E depth size glue x (false, [])) in So-far (x ∷ []) r.0 r.1)
      go true = offer_is (b ∷ bs) x []
      go false = alone x
  walked_is (b ∷ bs) τ (x ∷ y ∷ ys) = go (ltb (depth x) b) (walked_is (rest (depth x) b bs) (depth x) (y ∷ ys))
    where
      r : Offered A
      r = walked (rest (depth x) b bs) (depth x) (y ∷ ys)

      go : (t : Bool) → So-far (y ∷ ys) r.0 r.1
          → (let o : Offered A = cond t (offer E depth size glue (below (b ∷ bs) x) (y ∷ ys)) (accept E depth size glue x r) in So-far (x ∷ y ∷ ys) o.0 o.1)
      go true h = offer_is (b ∷ bs) x (y ∷ ys)
      go false h = beside_is x y ys r.0 r.1 h

  -- Then R holds of every row and what merging makes of it.
  pub merge_induction : (bs : List ℕ) (row : List A) → R row (merge_in E depth size glue below bs row)
  merge_induction bs row = settle_is row (walked bs 0 row).0 (walked bs 0 row).1 (walked_is bs 0 row)
