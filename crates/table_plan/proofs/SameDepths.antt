-- The last depths of the parts of a row depend on the row's depths alone. Assumes nothing.
use mathlib.Core.Path.{◌≡◌, refl, sym, ap, ap₂, subst, ◌∙◌}
use mathlib.Core.List.{List, [], ◌∷◌, map}
use Prim.Native.Nat.{ℕ}
use lib.ListN.{length, length-map}
use Rattle.page_tree.specs.Rows.{All, Closed, last_depth}
use Rattle.page_tree.specs.Cutting.{parts}
use Rattle.page_tree.proofs.RowMaps.{last_depth_map, closed_map, closed_unmap, parts_map}

-- A depth as a thing that has it.
abbrev itself : ℕ → ℕ
itself d = d

-- The last depths of the parts of a row of depths.
abbrev lasts : ℕ → List ℕ → List ℕ
lasts E ds = map (last_depth itself 0) (parts itself E ds)

module _ {A : Type 0} (d : A → ℕ) where
  all_same : (xs : List A) → All (λ x. d x ≡ d x) xs
  all_same [] = tt
  all_same (x ∷ xs) = (refl, all_same xs)

  last_depths : (τ : ℕ) (xs : List A) → last_depth itself τ (map d xs) ≡ last_depth d τ xs
  last_depths τ xs = last_depth_map d itself d τ xs (all_same xs)

  each_last : (xss : List (List A)) → map (last_depth itself 0) (map (map d) xss) ≡ map (last_depth d 0) xss
  each_last [] = refl
  each_last (xs ∷ xss) = ap₂ (λ (m : ℕ) (l : List ℕ). m ∷ l) (last_depths 0 xs) (each_last xss)

  lasts_of : (E : ℕ) (xs : List A) → lasts E (map d xs) ≡ map (last_depth d 0) (parts d E xs)
  lasts_of E xs = ap (map (last_depth itself 0)) (parts_map d itself d E xs (all_same xs)) ∙ each_last (parts d E xs)

module _ {A B : Type 0} (d : A → ℕ) (d' : B → ℕ) (xs : List A) (ys : List B) (same : map d xs ≡ map d' ys) where
  -- Two rows with the same depths: as many things,
  pub same_count : length xs ≡ length ys
  same_count = sym (length-map xs d) ∙ ap length same ∙ length-map ys d'

  -- closed alike,
  pub same_closed : (c : ℕ) → Closed d' c ys → Closed d c xs
  same_closed c h =
      closed_unmap d itself d c xs (all_same d xs) (subst (Closed itself c) (sym same) (closed_map d' itself d' c ys (all_same d' ys) h))

  -- the same last depths of their parts,
  pub same_lasts : (E : ℕ) → map (last_depth d 0) (parts d E xs) ≡ map (last_depth d' 0) (parts d' E ys)
  same_lasts E = sym (lasts_of d E xs) ∙ ap (lasts E) same ∙ lasts_of d' E ys

  -- and as many parts.
  pub same_parts : (E : ℕ) → length (parts d E xs) ≡ length (parts d' E ys)
  same_parts E = sym (length-map (parts d E xs) (last_depth d 0)) ∙ ap length (same_lasts E) ∙ length-map (parts d' E ys) (last_depth d' 0)
