-- Level 0 below a page: it is a closed row, it is no page, and folds go over it. Assumes nothing.
use mathlib.Core.Path.{◌≡◌, refl, sym, ◌∙◌}
use mathlib.Core.List.{List, [], ◌∷◌, append-nil, foldl, foldl-append}
use Prim.Native.Nat.{ℕ, zero, suc}
use native.Mathlib.Omega.{arith}
use Rattle.leaf_list.specs.Entries.{Entry}
use Rattle.page_tree.specs.Rows.{All, flats, sum, Closed}
use Rattle.page_tree.specs.Tree.{Node, depth, leaves, Sound, page_count}
use Rattle.page_tree.proofs.ClosedRows.{closed_append, closed_deeper}

-- The leaves of a closed row of things, each with closed leaves.
pub closed_flats : {X : Type 0} (depth_x : X → ℕ) (leaves_x : X → List Entry) (Good : X → Type 0)
    → ((x : X) → Good x → Closed (depth 0) (depth_x x) (leaves_x x))
    → (c : ℕ) (xs : List X) → Closed depth_x c xs → All Good xs → Closed (depth 0) c (flats leaves_x xs)
closed_flats depth_x leaves_x Good cl c [] h p = absurd h
closed_flats depth_x leaves_x Good cl c (x ∷ []) h p = rw (append-nil (leaves_x x), ← h) (cl x p.0)
closed_flats depth_x leaves_x Good cl c (x ∷ y ∷ xs) h p =
    closed_append (depth 0) c (leaves_x x) (flats leaves_x (y ∷ xs)) (closed_deeper (depth 0) c (depth_x x) (leaves_x x) h.0 (cl x p.0))
    (closed_flats depth_x leaves_x Good cl c (y ∷ xs) h.1 p.1)

-- "the last depth is below all others", on level 0 below every page too.
pub closed_leaves : (E n : ℕ) (x : Node n) → Sound E n x → Closed (depth 0) (depth n x) (leaves n x)
closed_leaves E zero x s = refl
closed_leaves E (suc n) page s = closed_flats (depth n) (leaves n) (Sound E n) (closed_leaves E n) (depth (suc n) page) page s.0.0 s.1

-- Entries are no pages.
pub entries_pages : (es : List Entry) → sum (page_count 0) es ≡ 0
entries_pages [] = omega arith
entries_pages (e ∷ es) = omega (arith, entries_pages es)

module _ {S : Type 0} (f : S → Entry → S) where
  -- A fold over all below a page, from left to right.
  abbrev pub fold_below : (n : ℕ) → S → Node n → S
  fold_below zero s e = f s e
  fold_below (suc n) s page = foldl (fold_below n) s page

  -- Row by row is all in a row.
  pub foldl_flats : {X : Type 0} (g : S → X → S) (leaves_x : X → List Entry) → ((s : S) (x : X) → g s x ≡ foldl f s (leaves_x x))
      → (s : S) (xs : List X) → foldl g s xs ≡ foldl f s (flats leaves_x xs)
  foldl_flats g leaves_x e s [] = refl
  foldl_flats g leaves_x e s (x ∷ xs) =
      rw (e s x) (foldl_flats g leaves_x e (foldl f s (leaves_x x)) xs) ∙ sym (foldl-append f s (leaves_x x) (flats leaves_x xs))

  -- The fold over the pages is the fold over level 0.
  pub fold_leaves : (n : ℕ) (s : S) (x : Node n) → fold_below n s x ≡ foldl f s (leaves n x)
  fold_leaves zero s x = refl
  fold_leaves (suc n) s x = foldl_flats (fold_below n) (leaves n) (fold_leaves n) s x
