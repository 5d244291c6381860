-- Insertion in pages with their numbers: how many pages it makes, and that it looks at the new numbers level by level. Assumes nothing.
use mathlib.Core.Path.{◌≡◌, refl, ap, sym, ◌∙◌}
use mathlib.Core.List.{List, [], ◌∷◌}
use Prim.Native.Nat.{ℕ, zero, suc, ◌<◌}
use native.Mathlib.Omega.{arith}
use lib.ListN.{length, length-map}
use Rattle.page_tree.specs.Rows.{All}
use Rattle.page_tree.specs.Cutting.{parts}
use Rattle.page_tree.specs.OnPages.{Replacement, replace_in, insert_below}
use Rattle.page_tree.specs.Numbered.{Numbered, aside, numbered_depth, under, insert_numbered}
use Rattle.page_tree.proofs.NumberedLaws.{insert_aside}

-- As many as there are rows.
pub length_under : {A : Type 0} (ps : List ℕ) (xs : List A) → length (under ps xs) ≡ length xs
length_under ps [] = refl
length_under [] (x ∷ xs) = ap suc (length_under [] xs)
length_under (p ∷ ps) (x ∷ xs) = ap suc (length_under ps xs)

-- Things that f keeps the depths of.
pub same_depths : {A B : Type 0} (d : B → ℕ) (f : A → B) (xs : List A) → All (λ x. d (f x) ≡ d (f x)) xs
same_depths d f [] = tt
same_depths d f (x ∷ xs) = (refl, same_depths d f xs)

module _ (E : ℕ) (new : Replacement) where
  -- It makes as many pages as an insertion without page numbers.
  pub insert_numbered_length : (fresh : ℕ → List ℕ) (n : ℕ) (bs : List ℕ) (τ : ℕ) (x : Numbered n)
      → length (insert_numbered E fresh new n bs τ x) ≡ length (insert_below E new n bs τ (aside n x))
  insert_numbered_length fresh n bs τ x = sym (length-map (insert_numbered E fresh new n bs τ x) (aside n)) ∙ ap length (insert_aside E fresh new n bs τ x)

  -- Only the numbers of the levels below n are looked at.
  pub insert_numbered_ext : (f g : ℕ → List ℕ) (n : ℕ) → ((k : ℕ) → k < n → f k ≡ g k) → insert_numbered E f new n ≡ insert_numbered E g new n
  insert_numbered_ext f g zero h = refl
  insert_numbered_ext f g (suc n) h = λ i. λ bs τ page. under (page.0 ∷ h n (omega arith) i) (parts (numbered_depth n) E (replace_in (numbered_depth n) (insert_numbered_ext f g n (λ k l. h k (omega arith)) i) bs τ page.1))
