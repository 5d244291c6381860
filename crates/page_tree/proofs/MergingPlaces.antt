-- Merging at the place where the walk stops: what was passed, the thing found, and what stands after it. Assumes nothing.
use mathlib.Core.Path.{◌≡◌, refl, ap, ◌∙◌}
use mathlib.Core.Bool.{true, false}
use mathlib.Core.List.{List, [], ◌∷◌, ◌++◌, foldr, foldr-append}
use Prim.Native.Nat.{ℕ}
use Rattle.page_tree.specs.Merging.{Offered, sparse, joinable, with_right, offer, accept, settle, merge_in}
use Rattle.page_tree.proofs.WalkPlaces.{positions_after, Passes, Stops, walk_at}

module _ {A : Type 0} (E : ℕ) (depth size : A → ℕ) (glue : A → A → A) where
  -- This is the way back over the things passed, with what was made of the rest.
  abbrev walked_back : List A → Offered A → Offered A
  walked_back xs r = foldr (accept E depth size glue) r xs

  -- This is what becomes of the row around the thing found, with front before it and rest after it.
  abbrev pub placed : List A → A → List A → List A
  placed front x rest =
      let r : Offered A = walked_back front (offer E depth size glue x rest) in
      settle E depth size glue r.0 r.1

  -- Where nothing is to be joined any more, the things passed stay.
  done : (xs ys : List A) → walked_back xs (false, ys) ≡ (false, xs ++ ys)
  done [] ys = refl
  done (z ∷ xs) ys = ap (accept E depth size glue z) (done xs ys)

  -- A thing that is not sparse stays as it is.
  pub placed_calm : (front : List A) (x : A) (rest : List A) → sparse E (size x) ≡ false → placed front x rest ≡ front ++ x ∷ rest
  placed_calm front x rest h = rw h (ap (λ (r : Offered A). settle E depth size glue r.0 r.1) (done front (x ∷ rest)))

  -- For a sparse one that is first the right neighbour is tried.
  pub placed_first : (x : A) (rest : List A) → sparse E (size x) ≡ true → placed [] x rest ≡ with_right E depth size glue x rest
  placed_first x rest h = rw h refl

  module _ (front : List A) (z x : A) (rest : List A) (few : sparse E (size x) ≡ true) where
    -- What the left neighbour makes of it stands behind the others.
    before : (ys : List A) → accept E depth size glue z (true, x ∷ rest) ≡ (false, ys) → placed (front ++ z ∷ []) x rest ≡ front ++ ys
    before ys h =
        rw few
        (ap (λ (r : Offered A). settle E depth size glue r.0 r.1)
        (foldr-append (accept E depth size glue) (true, x ∷ rest) front (z ∷ []) ∙ ap (walked_back front) h ∙ done front ys))

    -- Any other sparse one is joined with the left neighbour, where they may be one;
    pub placed_left : joinable E depth size z x ≡ true → placed (front ++ z ∷ []) x rest ≡ front ++ glue z x ∷ rest
    placed_left h = before (glue z x ∷ rest) (rw h refl)

    -- where they may not, the right one is tried.
    pub placed_right : joinable E depth size z x ≡ false → placed (front ++ z ∷ []) x rest ≡ front ++ z ∷ with_right E depth size glue x rest
    placed_right h = before (z ∷ with_right E depth size glue x rest) (rw h refl)

  -- Merging a row comes to that place: what the walk passes, the thing where it stops, and the rest.
  pub merge_in_at : (below : List ℕ → A → A) (bs : List ℕ) (xs : List A) (y : A) (ys : List A) → Passes depth bs xs → Stops depth (positions_after depth bs xs) y
      → merge_in E depth size glue below bs (xs ++ (y ∷ ys)) ≡ placed xs (below (positions_after depth bs xs) y) ys
  merge_in_at below bs xs y ys p s =
      ap (λ (r : Offered A). settle E depth size glue r.0 r.1)
      (walk_at depth (λ bs τ x xs. offer E depth size glue (below bs x) xs) (accept E depth size glue) (false, []) bs 0 xs y ys p s)
