-- Rows of other things with the same depths are closed, walked and cut alike. Assumes nothing.
use mathlib.Core.Path.{◌≡◌, refl, ap, sym, ◌∙◌}
use mathlib.Core.Bool.{Bool, true, false, cond}
use mathlib.Core.List.{List, [], ◌∷◌, ◌++◌, map, map-append}
use Prim.Native.Nat.{ℕ, zero, suc}
use native.Mathlib.Omega.{arith}
use lib.Dec.{leb, ltb}
use lib.ListN.{length, length-map}
use Rattle.page_tree.specs.Rows.{All, Closed, last_depth}
use Rattle.page_tree.specs.Walk.{rest, walk}
use Rattle.page_tree.specs.Cutting.{split, cut, parts}
use Rattle.page_tree.proofs.ListLaws.{all_left, all_right}
use Rattle.page_tree.proofs.Splitting.{split_join}
use Rattle.page_tree.proofs.WalkPlaces.{positions_after, Passes}

-- Walks over a row of things and over what f makes of them, with what g makes of the answers.
module _ {A B X Y : Type 0} (depth : B → ℕ) (f : A → B) (g : X → Y) (found : List ℕ → ℕ → A → List A → X) (passed : A → X → X) (none : X)
    (found' : List ℕ → ℕ → B → List B → Y) (passed' : B → Y → Y) (none' : Y)
    (at_found : (bs : List ℕ) (τ : ℕ) (x : A) (xs : List A) → g (found bs τ x xs) ≡ found' bs τ (f x) (map f xs))
    (at_passed : (x : A) (r : X) → g (passed x r) ≡ passed' (f x) (g r)) (at_none : g none ≡ none') where
  -- The two walks stop at the same place.
  pub walk_map : (bs : List ℕ) (τ : ℕ) (xs : List A)
      → g (walk (λ x. depth (f x)) found passed none bs τ xs) ≡ walk depth found' passed' none' bs τ (map f xs)
  walk_map bs τ [] = at_none
  walk_map [] τ (x ∷ xs) = at_found [] τ x xs
  walk_map (b ∷ bs) τ (x ∷ xs) = step (ltb (depth (f x)) b) (walk_map (rest (depth (f x)) b bs) (depth (f x)) xs)
    where
      r : X
      r = walk (λ x. depth (f x)) found passed none (rest (depth (f x)) b bs) (depth (f x)) xs

      r' : Y
      r' = walk depth found' passed' none' (rest (depth (f x)) b bs) (depth (f x)) (map f xs)

      step : (t : Bool) → g r ≡ r'
          → g (cond t (found (b ∷ bs) τ x xs) (passed x r)) ≡ cond t (found' (b ∷ bs) τ (f x) (map f xs)) (passed' (f x) r')
      step true ih = at_found (b ∷ bs) τ x xs
      step false ih = at_passed x r ∙ ap (passed' (f x)) ih

module _ {A B : Type 0} (depth : A → ℕ) (depth' : B → ℕ) (f : A → B) where
  -- The things of the row have the same depth as what f makes of them.
  abbrev pub SameDepths : List A → Type 0
  SameDepths row = All (λ x. depth' (f x) ≡ depth x) row

  -- The same last depth.
  pub last_depth_map : (τ : ℕ) (row : List A) → SameDepths row → last_depth depth' τ (map f row) ≡ last_depth depth τ row
  last_depth_map τ [] h = refl
  last_depth_map τ (x ∷ xs) h = ap (λ (d : ℕ). last_depth depth' d (map f xs)) h.0 ∙ last_depth_map (depth x) xs h.1

  -- Closed by the same depth,
  pub closed_map : (c : ℕ) (row : List A) → SameDepths row → Closed depth c row → Closed depth' c (map f row)
  closed_map c [] h g = g
  closed_map c (x ∷ []) h g = h.0 ∙ g
  closed_map c (x ∷ y ∷ ys) h g = (omega (arith, h.0, g.0), closed_map c (y ∷ ys) h.1 g.1)

  -- and back.
  pub closed_unmap : (c : ℕ) (row : List A) → SameDepths row → Closed depth' c (map f row) → Closed depth c row
  closed_unmap c [] h g = g
  closed_unmap c (x ∷ []) h g = sym h.0 ∙ g
  closed_unmap c (x ∷ y ∷ ys) h g = (omega (arith, h.0, g.0), closed_unmap c (y ∷ ys) h.1 g.1)

  -- The same positions are left,
  pub positions_after_map : (bs : List ℕ) (row : List A) → SameDepths row → positions_after depth' bs (map f row) ≡ positions_after depth bs row
  positions_after_map bs [] h = refl
  positions_after_map [] (x ∷ xs) h = refl
  positions_after_map (b ∷ bs) (x ∷ xs) h =
      ap (λ (d : ℕ). positions_after depth' (rest d b bs) (map f xs)) h.0 ∙ positions_after_map (rest (depth x) b bs) xs h.1

  -- where both are passed.
  pub passes_map : (bs : List ℕ) (row : List A) → SameDepths row → Passes depth bs row → Passes depth' bs (map f row)
  passes_map bs [] h g = tt
  passes_map [] (x ∷ xs) h g = absurd g
  passes_map (b ∷ bs) (x ∷ xs) h g = (omega (arith, h.0, g.0), rw h.0 (passes_map (rest (depth x) b bs) xs h.1 g.1))

  -- The same split.
  pub split_map : (row : List A) → SameDepths row
      → split depth' (map f row) ≡ ((split depth row).0, map f (split depth row).1, map f (split depth row).2)
  unfolding split
  split_map [] h = refl
  split_map (x ∷ []) h = rw h.0
  split_map (x ∷ y ∷ []) h = rw h.0
  split_map (x ∷ y ∷ z ∷ zs) h = rw (h.0, split_map (y ∷ z ∷ zs) h.1) (step (leb (depth x) s.0))
    where
      s : ℕ × List A × List A
      s = split depth (y ∷ z ∷ zs)

      r : Bool → ℕ × List A × List A
      r t = cond t (depth x, x ∷ [], y ∷ z ∷ zs) (s.0, x ∷ s.1, s.2)

      step : (t : Bool)
          → ◌≡◌ {A = ℕ × List B × List B} (cond t (depth x, f x ∷ [], f y ∷ f z ∷ map f zs) (s.0, f x ∷ map f s.1, map f s.2))
          ((r t).0, map f (r t).1, map f (r t).2)
      step true = refl
      step false = refl

  -- The same parts.
  pub cut_map : (E fuel : ℕ) (row : List A) → SameDepths row → cut depth' E fuel (map f row) ≡ map (map f) (cut depth E fuel row)
  unfolding cut
  cut_map E zero row h = refl
  cut_map E (suc fuel) row h =
      rw (length-map row f, split_map row h)
      (step (leb (length row) E) (cut_map E fuel s.1 (all_left _ s.1 s.2 k)) (cut_map E fuel s.2 (all_right _ s.1 s.2 k)))
    where
      s : ℕ × List A × List A
      s = split depth row

      k : SameDepths (s.1 ++ s.2)
      k = rw (split_join depth row) h

      step : (t : Bool) → cut depth' E fuel (map f s.1) ≡ map (map f) (cut depth E fuel s.1)
          → cut depth' E fuel (map f s.2) ≡ map (map f) (cut depth E fuel s.2)
          → cond t (map f row ∷ []) (cut depth' E fuel (map f s.1) ++ cut depth' E fuel (map f s.2))
          ≡ map (map f) (cond t (row ∷ []) (cut depth E fuel s.1 ++ cut depth E fuel s.2))
      step true p q = refl
      step false p q = rw (p, q) (sym (map-append (map f) (cut depth E fuel s.1) (cut depth E fuel s.2)))

  -- So too with all the fuel that is needed.
  pub parts_map : (E : ℕ) (row : List A) → SameDepths row → parts depth' E (map f row) ≡ map (map f) (parts depth E row)
  parts_map E row h = rw (length-map row f) (cut_map E (length row) row h)
