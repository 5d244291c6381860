-- New roots with their numbers: only those of higher levels are looked at, and fuel that is enough is not seen. Assumes nothing.
use mathlib.Core.Path.{◌≡◌, refl, ap, ◌∙◌}
use mathlib.Core.List.{List, [], ◌∷◌}
use Prim.Native.Nat.{ℕ, zero, suc, ◌≤◌, ◌<◌}
use native.Mathlib.Omega.{arith}
use lib.ListN.{length}
use Rattle.page_tree.specs.Tree.{Node}
use Rattle.page_tree.specs.Cutting.{parts}
use Rattle.page_tree.specs.OnPages.{grow}
use Rattle.page_tree.specs.Numbered.{Numbered, numbered_depth, under, grow_numbered, grown_numbered}
use Rattle.page_tree.proofs.Growing.{parts_fewer, grow_induction}
use Rattle.table_insert.proofs.NumberedInsertion.{length_under}

-- A root stands no lower than the pages that it stands above.
pub grow_level : (E fuel n : ℕ) (xs : List (Node (suc n))) → n ≤ (grow E fuel n xs).0
grow_level E =
    grow_induction E (λ fuel n xs t. n ≤ t.0) (λ fuel n. omega arith) (λ fuel n x. omega arith) (λ n x y xs. omega arith) (λ fuel n x y xs ih. omega (arith, ih))

module _ (E : ℕ) where
  -- Only the numbers of the levels above n are looked at.
  pub grow_numbered_ext : (f g : ℕ → List ℕ) (fuel n : ℕ) (xs : List (Numbered (suc n))) → ((k : ℕ) → n < k → f k ≡ g k) → grow_numbered E f fuel n xs ≡ grow_numbered E g fuel n xs
  grow_numbered_ext f g zero n [] h = refl
  grow_numbered_ext f g zero n (x ∷ []) h = refl
  grow_numbered_ext f g zero n (x ∷ y ∷ xs) h = refl
  grow_numbered_ext f g (suc fuel) n [] h = refl
  grow_numbered_ext f g (suc fuel) n (x ∷ []) h = refl
  grow_numbered_ext f g (suc fuel) n (x ∷ y ∷ xs) h =
      ap (λ (ps : List ℕ). grow_numbered E f fuel (suc n) (under ps (parts (numbered_depth (suc n)) E (x ∷ y ∷ xs)))) (h (suc n) (omega arith))
      ∙ grow_numbered_ext f g fuel (suc n) (under (g (suc n)) (parts (numbered_depth (suc n)) E (x ∷ y ∷ xs))) (λ k l. h k (omega arith))

  module _ (two : 2 ≤ E) (fresh : ℕ → List ℕ) where
    -- The parts of a new root's row, under their numbers: fewer than they were.
    abbrev upper : (n : ℕ) → List (Numbered (suc n)) → List (Numbered (suc (suc n)))
    upper n row = under (fresh (suc n)) (parts (numbered_depth (suc n)) E row)

    upper_fewer : (n : ℕ) (x y : Numbered (suc n)) (xs : List (Numbered (suc n))) → length (upper n (x ∷ y ∷ xs)) < length (x ∷ y ∷ xs)
    upper_fewer n x y xs =
        omega (
          arith,
          length_under (fresh (suc n)) (parts (numbered_depth (suc n)) E (x ∷ y ∷ xs)),
          parts_fewer (numbered_depth (suc n)) E (x ∷ y ∷ xs) two (omega arith),
        )

    grow_numbered_fuel : (fuel more n : ℕ) (xs : List (Numbered (suc n))) → length xs ≤ suc fuel → length xs ≤ suc more → grow_numbered E fresh fuel n xs ≡ grow_numbered E fresh more n xs
    grow_numbered_fuel zero zero n xs h g = refl
    grow_numbered_fuel zero (suc more) n [] h g = refl
    grow_numbered_fuel zero (suc more) n (x ∷ []) h g = refl
    grow_numbered_fuel zero (suc more) n (x ∷ y ∷ xs) h g = absurd (omega arith)
    grow_numbered_fuel (suc fuel) zero n [] h g = refl
    grow_numbered_fuel (suc fuel) zero n (x ∷ []) h g = refl
    grow_numbered_fuel (suc fuel) zero n (x ∷ y ∷ xs) h g = absurd (omega arith)
    grow_numbered_fuel (suc fuel) (suc more) n [] h g = refl
    grow_numbered_fuel (suc fuel) (suc more) n (x ∷ []) h g = refl
    grow_numbered_fuel (suc fuel) (suc more) n (x ∷ y ∷ xs) h g =
        let l = upper_fewer n x y xs in grow_numbered_fuel fuel more (suc n) (upper n (x ∷ y ∷ xs)) (omega arith) (omega arith)

    -- Over two or more pages stands a new level.
    pub grown_numbered_again : (n : ℕ) (xs : List (Numbered (suc n))) → 2 ≤ length xs
        → grown_numbered E fresh n xs ≡ grown_numbered E fresh (suc n) (under (fresh (suc n)) (parts (numbered_depth (suc n)) E xs))
    grown_numbered_again n [] h = absurd (omega arith)
    grown_numbered_again n (x ∷ []) h = absurd (omega arith)
    grown_numbered_again n (x ∷ y ∷ xs) h =
        let l = upper_fewer n x y xs in
        grow_numbered_fuel (suc (length xs)) (length (upper n (x ∷ y ∷ xs))) (suc n) (upper n (x ∷ y ∷ xs)) (omega arith) (omega arith)
