-- Lists: what holds of each element, one put in place of another, rows of rows, sums. Assumes nothing.
use mathlib.Core.Path.{◌≡◌, refl, ap, sym}
use mathlib.Core.List.{List, [], ◌∷◌, ◌++◌, append_assoc, foldr}
use Prim.Native.Nat.{ℕ, zero, suc, ◌+◌, ◌<◌}
use native.Mathlib.Omega.{arith}
use lib.ListN.{length, drop, set}
use Rattle.page_tree.specs.Rows.{All, concat, flats, sum}

-- What holds of each of a joined list holds of the first list,
pub all_left : {A : Type 0} (P : A → Type 0) (xs ys : List A) → All P (xs ++ ys) → All P xs
all_left P [] ys h = tt
all_left P (x ∷ xs) ys h = (h.0, all_left P xs ys h.1)

-- and of the second.
pub all_right : {A : Type 0} (P : A → Type 0) (xs ys : List A) → All P (xs ++ ys) → All P ys
all_right P [] ys h = h
all_right P (x ∷ xs) ys h = all_right P xs ys h.1

-- Nothing is asked of any.
pub all_unit : {A : Type 0} (xs : List A) → All (λ x. Unit {0}) xs
all_unit [] = tt
all_unit (x ∷ xs) = (tt, all_unit xs)

-- The elements from a place on, where another was put there.
pub drop_set : {A : Type 0} (l : List A) (i : ℕ) (a : A) → i < length l → drop i (set l i a) ≡ a ∷ drop (suc i) l
drop_set [] i a h = absurd (omega arith)
drop_set (x ∷ xs) zero a h = refl
drop_set (x ∷ xs) (suc i) a h = drop_set xs i a (omega arith)

-- Two lists of rows.
pub concat_append : {A : Type 0} (xs ys : List (List A)) → concat (xs ++ ys) ≡ concat xs ++ concat ys
concat_append [] ys = refl
concat_append (x ∷ xs) ys = rw (concat_append xs ys, append_assoc)

module _ {A X : Type 0} (f : X → List A) where
  -- What f gives of two lists.
  pub flats_append : (xs ys : List X) → flats f (xs ++ ys) ≡ flats f xs ++ flats f ys
  flats_append [] ys = refl
  flats_append (x ∷ xs) ys = rw (flats_append xs ys, append_assoc)

  -- What f gives row by row.
  pub flats_concat : (xs : List (List X)) → flats (flats f) xs ≡ flats f (concat xs)
  flats_concat [] = refl
  flats_concat (x ∷ xs) = rw (flats_concat xs) (sym (flats_append x (concat xs)))

-- Each element alone.
pub flats_single : {A : Type 0} (xs : List A) → flats (λ x. x ∷ []) xs ≡ xs
flats_single [] = refl
flats_single (x ∷ xs) = ap (λ y. x ∷ y) (flats_single xs)

-- Joining is a fold.
pub append_foldr : {A : Type 0} (xs ys : List A) → xs ++ ys ≡ foldr (λ x r. x ∷ r) ys xs
append_foldr [] ys = refl
append_foldr (x ∷ xs) ys = ap (λ r. x ∷ r) (append_foldr xs ys)

-- A fold that passes its value on.
pub foldr_same : {A B : Type 0} (b : B) (xs : List A) → b ≡ foldr (λ x r. r) b xs
foldr_same b [] = refl
foldr_same b (x ∷ xs) = foldr_same b xs

module _ {A : Type 0} (f : A → ℕ) where
  -- The sum over two lists.
  pub sum_append : (xs ys : List A) → sum f (xs ++ ys) ≡ sum f xs + sum f ys
  sum_append [] ys = omega arith
  sum_append (x ∷ xs) ys = omega (arith, sum_append xs ys)

  -- The sum row by row, with one for each row.
  pub sum_concat : (xs : List (List A)) → sum (λ x. suc (sum f x)) xs ≡ length xs + sum f (concat xs)
  sum_concat [] = omega arith
  sum_concat (x ∷ xs) = omega (arith, sum_concat xs, sum_append x (concat xs))
