-- Rows whose last depth is below all others (01, "In every page in use the last depth is below all others"). Assumes nothing.
use mathlib.Core.Path.{◌≡◌, refl}
use mathlib.Core.List.{List, [], ◌∷◌, ◌++◌, append-nil}
use Prim.Native.Nat.{ℕ, ◌≤◌, ◌<◌}
use native.Mathlib.Omega.{arith}
use lib.ListN.{length}
use Rattle.leaf_list.proofs.Depths.{closed_cons}
use Rattle.page_tree.specs.Rows.{Deeper, Closed, last_depth, LastBelow, Page}

module _ {A : Type 0} (depth : A → ℕ) where
  -- The last depth of a closed row.
  pub closed_last : (c τ : ℕ) (xs : List A) → Closed depth c xs → last_depth depth τ xs ≡ c
  closed_last c τ [] h = absurd h
  closed_last c τ (x ∷ []) h = h
  closed_last c τ (x ∷ y ∷ ys) h = closed_last c (depth x) (y ∷ ys) h.1

  -- The last depth of two rows.
  pub last_depth_append : (τ : ℕ) (xs ys : List A) → last_depth depth τ (xs ++ ys) ≡ last_depth depth (last_depth depth τ xs) ys
  last_depth_append τ [] ys = refl
  last_depth_append τ (x ∷ xs) ys = last_depth_append (depth x) xs ys

  -- Deeper things in front.
  pub closed_append : (c : ℕ) (xs ys : List A) → Deeper depth c xs → Closed depth c ys → Closed depth c (xs ++ ys)
  closed_append c [] ys h g = g
  closed_append c (x ∷ xs) ys h g = closed_cons depth c x (xs ++ ys) h.0 (closed_append c xs ys h.1 g)

  -- A row closed by more than b is deeper than b.
  pub closed_deeper : (b c : ℕ) (xs : List A) → b < c → Closed depth c xs → Deeper depth b xs
  closed_deeper b c [] h g = absurd g
  closed_deeper b c (x ∷ []) h g = (omega arith, tt)
  closed_deeper b c (x ∷ y ∷ ys) h g = (omega (arith, g.0), closed_deeper b c (y ∷ ys) h g.1)

  -- A row in the place of a thing whose depth closes it.
  pub closed_replace : (c : ℕ) (x : A) (ys xs : List A) → Closed depth c (x ∷ xs) → Closed depth (depth x) ys → Closed depth c (ys ++ xs)
  closed_replace c x ys [] h g = rw (append-nil ys, ← h) g
  closed_replace c x ys (z ∷ zs) h g = closed_append c ys (z ∷ zs) (closed_deeper c (depth x) ys h.0 g) h.1

  -- One thing less in front.
  closed_uncons : (c : ℕ) (x : A) (l : List A) → 1 ≤ length l → Closed depth c (x ∷ l) → (c < depth x) × Closed depth c l
  closed_uncons c x [] h g = absurd (omega arith)
  closed_uncons c x (y ∷ l) h g = g

  -- The same, with things before.
  pub closed_splice : (c : ℕ) (xs : List A) (y : A) (ys zs : List A) → Closed depth c (xs ++ y ∷ zs) → Closed depth (depth y) ys → Closed depth c (xs ++ ys ++ zs)
  closed_splice c [] y ys zs h g = closed_replace c y ys zs h g
  closed_splice c (x ∷ xs) y ys zs h g =
      let u = closed_uncons c x (xs ++ y ∷ zs) (some xs) h in
      closed_cons depth c x (xs ++ ys ++ zs) u.0 (closed_splice c xs y ys zs u.1 g)
    where
      some : (xs : List A) → 1 ≤ length (xs ++ y ∷ zs)
      some [] = omega arith
      some (x ∷ xs) = omega arith

  -- A closed row is not empty.
  pub closed_nonempty : (c : ℕ) (xs : List A) → Closed depth c xs → 1 ≤ length xs
  closed_nonempty c [] h = absurd h
  closed_nonempty c (x ∷ xs) h = omega arith

  -- In a closed row the last depth is below all others.
  pub closed_below : (c : ℕ) (xs : List A) → Closed depth c xs → LastBelow depth xs
  closed_below c xs h = rw (closed_last c 0 xs h) h

  -- A closed row that is short enough is a page.
  pub closed_page : (E c : ℕ) (xs : List A) → Closed depth c xs → length xs ≤ E → Page depth E xs
  closed_page E c xs h g = (closed_below c xs h, g)
