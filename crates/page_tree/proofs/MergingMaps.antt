-- Rows of other things with the same depths and sizes are merged alike. Assumes nothing.
use mathlib.Core.Path.{◌≡◌, refl, ap, ◌∙◌}
use mathlib.Core.Bool.{Bool, true, false, cond}
use mathlib.Core.List.{List, [], ◌∷◌, map}
use Prim.Native.Nat.{ℕ}
use Rattle.page_tree.specs.Walk.{walk}
use Rattle.page_tree.specs.Merging.{Offered, joinable, with_right, with_left, offer, beside, accept, settle, merge_in}
use Rattle.page_tree.proofs.RowMaps.{walk_map}

-- The rows are of things, and of what f makes of them.
module _ {A B : Type 0} (E : ℕ) (depth : B → ℕ) (f : A → B) (size : A → ℕ) (size' : B → ℕ) (glue : A → A → A) (glue' : B → B → B)
    (below : List ℕ → A → A) (below' : List ℕ → B → B) (sizes : (x : A) → size x ≡ size' (f x))
    (glues : (x y : A) → f (glue x y) ≡ glue' (f x) (f y)) (belows : (bs : List ℕ) (x : A) → f (below bs x) ≡ below' bs (f x)) where
  abbrev depth_a : A → ℕ
  depth_a x = depth (f x)

  -- Each step of merging, in A and in B.
  abbrev right_a : A → List A → List A
  right_a x xs = with_right E depth_a size glue x xs

  abbrev right_b : B → List B → List B
  right_b y ys = with_right E depth size' glue' y ys

  abbrev offer_a : List ℕ → ℕ → A → List A → Offered A
  offer_a bs τ x xs = offer E depth_a size glue (below bs x) xs

  abbrev offer_b : List ℕ → ℕ → B → List B → Offered B
  offer_b bs τ y ys = offer E depth size' glue' (below' bs y) ys

  abbrev offered_map : Offered A → Offered B
  offered_map r = (r.0, map f r.1)

  with_right_map : (x : A) (xs : List A) → map f (right_a x xs) ≡ right_b (f x) (map f xs)
  with_right_map x [] = refl
  with_right_map x (y ∷ ys) = rw (sizes x, sizes y) (go (joinable E depth size' (f x) (f y)))
    where
      go : (t : Bool) → map f (cond t (glue x y ∷ ys) (x ∷ y ∷ ys)) ≡ cond t (glue' (f x) (f y) ∷ map f ys) (f x ∷ f y ∷ map f ys)
      go true = ap (λ (z : B). z ∷ map f ys) (glues x y)
      go false = refl

  with_left_map : (z x : A) (xs : List A) → map f (with_left E depth_a size glue z x xs) ≡ with_left E depth size' glue' (f z) (f x) (map f xs)
  with_left_map z x xs = rw (sizes z, sizes x) (go (joinable E depth size' (f z) (f x)))
    where
      go : (t : Bool) → map f (cond t (glue z x ∷ xs) (z ∷ right_a x xs)) ≡ cond t (glue' (f z) (f x) ∷ map f xs) (f z ∷ right_b (f x) (map f xs))
      go true = ap (λ (y : B). y ∷ map f xs) (glues z x)
      go false = ap (λ (l : List B). f z ∷ l) (with_right_map x xs)

  beside_map : (z : A) (t : Bool) (xs : List A) → map f (beside E depth_a size glue z t xs) ≡ beside E depth size' glue' (f z) t (map f xs)
  beside_map z false xs = refl
  beside_map z true [] = refl
  beside_map z true (x ∷ xs) = with_left_map z x xs

  settle_map : (t : Bool) (xs : List A) → map f (settle E depth_a size glue t xs) ≡ settle E depth size' glue' t (map f xs)
  settle_map false xs = refl
  settle_map true [] = refl
  settle_map true (x ∷ xs) = with_right_map x xs

  offer_map : (bs : List ℕ) (τ : ℕ) (x : A) (xs : List A) → offered_map (offer_a bs τ x xs) ≡ offer_b bs τ (f x) (map f xs)
  offer_map bs τ x xs = rw (sizes (below bs x), belows bs x)

  -- What f makes of the merged row is the merged row of what f makes.
  pub merge_in_map : (bs : List ℕ) (row : List A) → map f (merge_in E depth_a size glue below bs row) ≡ merge_in E depth size' glue' below' bs (map f row)
  merge_in_map bs row =
      let r : Offered A = walk depth_a offer_a (accept E depth_a size glue) (false, []) bs 0 row in
      settle_map r.0 r.1
      ∙ ap (λ (o : Offered B). settle E depth size' glue' o.0 o.1)
      (walk_map depth f offered_map offer_a (accept E depth_a size glue) (false, []) offer_b (accept E depth size' glue') (false, []) offer_map
      (λ x r. ap (λ (l : List B). (false, l)) (beside_map x r.0 r.1)) refl bs 0 row)
