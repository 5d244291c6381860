-- Facts that every element of a list has. Assumes nothing.
use mathlib.Core.Path.{subst, sym}
use mathlib.Core.List.{List, [], ◌∷◌, ◌++◌, map, Memᴰ}
use Prim.Native.Nat.{ℕ, zero, suc, ◌<◌}
use native.Mathlib.Omega.{arith}
use lib.ListN.{length, get_or}
pub use Rattle.leaf_list.specs.Lists.{All}

module _ {A : Type 0} where
  -- Two lists in a row.
  pub all_append : (P : A → Type 0) (xs ys : List A) → All P xs → All P ys → All P (xs ++ ys)
  all_append P [] ys h g = g
  all_append P (x ∷ xs) ys h g = (h.0, all_append P xs ys h.1 g)

  -- A weaker fact.
  pub all_weaker : (P Q : A → Type 0) (xs : List A) → ((x : A) → P x → Q x) → All P xs → All Q xs
  all_weaker P Q [] f h = tt
  all_weaker P Q (x ∷ xs) f h = (f x h.0, all_weaker P Q xs f h.1)

  -- The elements of a mapped list.
  pub all_map : {B : Type 0} (P : B → Type 0) (f : A → B) (xs : List A) → All (λ x. P (f x)) xs → All P (map f xs)
  all_map P f [] h = tt
  all_map P f (x ∷ xs) h = (h.0, all_map P f xs h.1)

  -- A member has it.
  pub all_member : (P : A → Type 0) {x : A} {xs : List A} → Memᴰ x xs → All P xs → P x
  all_member P (Memᴰ.head e) h = subst P (sym e) h.0
  all_member P (Memᴰ.tail m) h = all_member P m h.1

  -- What holds of every element holds of the one at a place.
  pub all_at : (P : A → Type 0) (xs : List A) (i : ℕ) (d : A) → i < length xs → All P xs → P (get_or xs i d)
  all_at P [] i d h a = absurd (omega arith)
  all_at P (x ∷ xs) zero d h a = a.0
  all_at P (x ∷ xs) (suc i) d h a = all_at P xs i d (omega arith) a.1
