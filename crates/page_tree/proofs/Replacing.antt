-- A row in the place of a row, made by replacing the thing that the search finds. Assumes nothing.
use mathlib.Core.List.{List, [], ◌∷◌, ◌++◌}
use Prim.Native.Nat.{ℕ, ◌+◌, ◌≤◌}
use native.Mathlib.Omega.{arith}
use lib.ListN.{length, length-append}
use Rattle.leaf_list.proofs.Positions.{Beyond, Rising}
use Rattle.leaf_list.proofs.Lists.{all_append}
use Rattle.leaf_list.proofs.Depths.{closed_cons}
use Rattle.page_tree.specs.Rows.{All, Closed}
use Rattle.page_tree.specs.Walk.{walk}
use Rattle.page_tree.specs.Finding.{Found, nowhere}
use Rattle.page_tree.specs.OnPages.{replace_in}
use Rattle.page_tree.proofs.ClosedRows.{closed_replace}
use Rattle.page_tree.proofs.WalkLaws.{walk_stop, walk_pass, walk_induction}

-- The row ys may stand in the place of the row xs that c closes.
pub record InPlace {A : Type 0} (depth : A → ℕ) (Good : A → Type 0) (m c : ℕ) (xs ys : List A) : Type 0 where
  -- c closes it too,
  pub closed : Closed depth c ys
  -- its things are good,
  pub good : All Good ys
  -- it is no shorter,
  pub longer : length xs ≤ length ys
  -- and at most m longer
  pub few : length ys ≤ length xs + m

module _ {A : Type 0} (depth : A → ℕ) (Good : A → Type 0) (m : ℕ) where
  -- What may stand in the place of a thing, before the rest of its row.
  pub in_place_front : (c : ℕ) (x : A) (xs ys : List A) → Closed depth c (x ∷ xs) → All Good xs → InPlace depth Good m (depth x) (x ∷ []) ys
      → InPlace depth Good m c (x ∷ xs) (ys ++ xs)
  in_place_front c x xs ys cl p o =
      record {
        closed = closed_replace depth c x ys xs cl o.closed;
        good = all_append Good ys xs o.good p;
        longer = rw (length-append ys xs) (omega (arith, o.longer));
        few = rw (length-append ys xs) (omega (arith, o.few));
      }

  -- new puts a row in the place of the thing found, if At holds of what at finds there.
  module _ (new : List ℕ → ℕ → A → List A) (at : List ℕ → ℕ → A → Found) (At : Found → Type 0)
      (ok : (bs : List ℕ) (τ : ℕ) (x : A) → Good x → Rising bs → Beyond (depth x) bs → At (at bs τ x)
      → InPlace depth Good m (depth x) (x ∷ []) (new bs τ x)) where
    -- So it does with a row.
    pub replace_in_in_place : (c : ℕ) (bs : List ℕ) (τ : ℕ) (xs : List A) → Closed depth c xs → All Good xs → Rising bs → Beyond c bs
        → At (walk depth (λ bs τ x xs. at bs τ x) (λ x r. r) nowhere bs τ xs) → InPlace depth Good m c xs (replace_in depth new bs τ xs)
    replace_in_in_place c =
        walk_induction depth (λ bs τ x xs. new bs τ x ++ xs) (λ x r. x ∷ r) [] Good c
        (λ bs τ xs row. At (walk depth (λ bs τ x xs. at bs τ x) (λ x r. r) nowhere bs τ xs) → InPlace depth Good m c xs row)
        (λ bs τ x xs cl p a e q.
        in_place_front c x xs (new bs τ x) cl p.1
        (ok bs τ x p.0 a e (rw (walk_stop depth (λ bs τ x xs. at bs τ x) (λ x r. r) nowhere bs τ x xs e) at q)))
        (λ b bs τ x y ys row l p h ih q.
        let o = ih (rw (walk_pass depth (λ bs τ x xs. at bs τ x) (λ x r. r) nowhere b bs τ x (y ∷ ys) h) at q) in
        record {
          closed = closed_cons depth c x row l o.closed;
          good = (p.0, o.good);
          longer = omega (arith, o.longer);
          few = omega (arith, o.few);
        })
