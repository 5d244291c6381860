-- The fuel of cutting and growing is enough: more of it changes nothing, so that both may be read without it. Assumes nothing.
use mathlib.Core.Path.{◌≡◌, refl, ap}
use mathlib.Core.List.{List, [], ◌∷◌}
use Prim.Native.Nat.{ℕ, zero, suc, ◌+◌, ◌≤◌, ◌<◌}
use native.Mathlib.Omega.{arith}
use lib.ListN.{length}
use Rattle.leaf_list.proofs.Lists.{all_append}
use Rattle.page_tree.specs.Rows.{All}
use Rattle.page_tree.specs.Cutting.{cut, parts}
use Rattle.page_tree.specs.Numbered.{Numbered, numbered_depth, under, grow_numbered, grown_numbered}
use Rattle.page_tree.proofs.Splitting.{split_sizes}
use Rattle.page_tree.proofs.CuttingLaws.{cut_induction, cut_fuel, whole_fits}
use Rattle.page_tree.proofs.Growing.{parts_fewer}

-- ---- cutting

module _ {A : Type 0} (depth : A → ℕ) (E : ℕ) (one : 1 ≤ E) where
  -- With at least as much fuel as the row is long, the parts are the same,
  pub cut_enough : (more : ℕ) (row : List A) → length row ≤ more → cut depth E more row ≡ parts depth E row
  cut_enough more row h = cut_fuel depth E one more row (omega arith) (length row) (omega arith)

  -- and no part is too long.
  pub parts_short : (row : List A) → All (λ (part : List A). length part ≤ E) (parts depth E row)
  parts_short row =
      cut_induction depth E (λ fuel row ps. length row ≤ fuel + E → All (λ (part : List A). length part ≤ E) ps)
      (λ fuel row h g. (whole_fits depth E fuel row h g, tt))
      (λ fuel row ls rs h p q g.
      let n = split_sizes depth row (omega arith) in
      all_append (λ (part : List A). length part ≤ E) ls rs (p (omega (arith, n.1, n.2))) (q (omega (arith, n.0, n.2))))
      (length row) row (omega arith)

-- ---- growing

-- As many as there are rows.
pub length_under : {A : Type 0} (ps : List ℕ) (xs : List A) → length (under ps xs) ≡ length xs
length_under ps [] = refl
length_under [] (x ∷ xs) = ap suc (length_under [] xs)
length_under (p ∷ ps) (x ∷ xs) = ap suc (length_under ps xs)

module _ (E : ℕ) (two : 2 ≤ E) (fresh : ℕ → List ℕ) where
  -- The parts of a new root's row, under their numbers: fewer than they were, so that growing ends.
  abbrev upper : (n : ℕ) → List (Numbered (suc n)) → List (Numbered (suc (suc n)))
  upper n row = under (fresh (suc n)) (parts (numbered_depth (suc n)) E row)

  upper_fewer : (n : ℕ) (x y : Numbered (suc n)) (xs : List (Numbered (suc n))) → length (upper n (x ∷ y ∷ xs)) < length (x ∷ y ∷ xs)
  upper_fewer n x y xs =
      omega (
        arith,
        length_under (fresh (suc n)) (parts (numbered_depth (suc n)) E (x ∷ y ∷ xs)),
        parts_fewer (numbered_depth (suc n)) E (x ∷ y ∷ xs) two (omega arith),
      )

  grow_numbered_fuel : (fuel more n : ℕ) (xs : List (Numbered (suc n))) → length xs ≤ suc fuel → length xs ≤ suc more → grow_numbered E fresh fuel n xs ≡ grow_numbered E fresh more n xs
  grow_numbered_fuel zero zero n xs h g = refl
  grow_numbered_fuel zero (suc more) n [] h g = refl
  grow_numbered_fuel zero (suc more) n (x ∷ []) h g = refl
  grow_numbered_fuel zero (suc more) n (x ∷ y ∷ xs) h g = absurd (omega arith)
  grow_numbered_fuel (suc fuel) zero n [] h g = refl
  grow_numbered_fuel (suc fuel) zero n (x ∷ []) h g = refl
  grow_numbered_fuel (suc fuel) zero n (x ∷ y ∷ xs) h g = absurd (omega arith)
  grow_numbered_fuel (suc fuel) (suc more) n [] h g = refl
  grow_numbered_fuel (suc fuel) (suc more) n (x ∷ []) h g = refl
  grow_numbered_fuel (suc fuel) (suc more) n (x ∷ y ∷ xs) h g =
      let l = upper_fewer n x y xs in grow_numbered_fuel fuel more (suc n) (upper n (x ∷ y ∷ xs)) (omega arith) (omega arith)

  -- With more fuel the tree is the same.
  pub grow_enough : (more n : ℕ) (xs : List (Numbered (suc n))) → length xs ≤ more → grow_numbered E fresh more n xs ≡ grown_numbered E fresh n xs
  grow_enough more n xs h = grow_numbered_fuel more (length xs) n xs (omega arith) (omega arith)

  -- "above a cut root comes a new root, itself cut while too long": one part is the root,
  pub grown_numbered_one : (n : ℕ) (x : Numbered (suc n)) → grown_numbered E fresh n (x ∷ []) ≡ (n, x)
  grown_numbered_one n x = refl

  -- and over two or more stands a new level. No fuel is seen.
  pub grown_numbered_again : (n : ℕ) (xs : List (Numbered (suc n))) → 2 ≤ length xs
      → grown_numbered E fresh n xs ≡ grown_numbered E fresh (suc n) (under (fresh (suc n)) (parts (numbered_depth (suc n)) E xs))
  grown_numbered_again n [] h = absurd (omega arith)
  grown_numbered_again n (x ∷ []) h = absurd (omega arith)
  grown_numbered_again n (x ∷ y ∷ xs) h =
      let l = upper_fewer n x y xs in
      grow_numbered_fuel (suc (length xs)) (length (upper n (x ∷ y ∷ xs))) (suc n) (upper n (x ∷ y ∷ xs)) (omega arith) (omega arith)
