-- What is read with page numbers is, these aside, what is read without them. Assumes nothing.
use mathlib.Core.Path.{◌≡◌, refl, ap₂}
use mathlib.Core.List.{List, [], ◌∷◌, map}
use Prim.Native.Nat.{ℕ, zero, suc}
use Rattle.page_tree.specs.Numbered.{aside, tree_aside}
use Rattle.index_table.specs.Layout.{Ref}
use Rattle.index_table.specs.Pages.{Pages, node_at, numbered_at, tree_at, numbered_tree_at}

module _ (nil : ℕ) (pages : Pages) where
  each : (n : ℕ) → ((x : Ref) → aside n (numbered_at nil n pages x) ≡ node_at nil n pages x) → (row : List Ref)
      → map (aside n) (map (numbered_at nil n pages) row) ≡ map (node_at nil n pages) row
  each n f [] = refl
  each n f (x ∷ row) = ap₂ (λ y l. y ∷ l) (f x) (each n f row)

  pub numbered_aside : (n : ℕ) (x : Ref) → aside n (numbered_at nil n pages x) ≡ node_at nil n pages x
  unfolding node_at numbered_at
  numbered_aside zero x = refl
  numbered_aside (suc n) x = each n (numbered_aside n) (pages x.1)

  pub numbereds_aside : (n : ℕ) (row : List Ref) → map (aside n) (map (numbered_at nil n pages) row) ≡ map (node_at nil n pages) row
  numbereds_aside n row = each n (numbered_aside n) row

  pub tree_aside_lem : (level root : ℕ) → tree_aside (numbered_tree_at nil pages level root) ≡ tree_at nil pages level root
  tree_aside_lem level root = λ i. (level, numbered_aside (suc level) (0, root) i)
