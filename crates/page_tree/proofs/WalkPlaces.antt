-- A row parted at the place where the walk stops: what was passed, the thing found, and what stands after it. Assumes nothing.
use mathlib.Core.Path.{◌≡◌, refl, ap, sym, ◌∙◌}
use mathlib.Core.List.{List, [], ◌∷◌, ◌++◌, foldr, foldr-append}
use Prim.Native.Nat.{ℕ, ◌≤◌, ◌<◌}
use borrow.Author.Tests.{lt-ltb, le-ltb}
use Rattle.leaf_list.specs.Entries.{Entry}
use Rattle.leaf_list.proofs.Positions.{Beyond, Rising}
use Rattle.page_tree.specs.declared.Unwind.{Unwind}
use Rattle.page_tree.specs.declared.Unwind.TheVariants.{Idle}
use Rattle.page_tree.specs.Rows.{flats, last_depth}
use Rattle.page_tree.specs.Walk.{rest, walk}
use Rattle.page_tree.specs.OnPages.{replace_in}
use Rattle.page_tree.specs.OffPages.{Left, Step, over, sweep, next_depth, strike_in}
use Rattle.page_tree.proofs.ListLaws.{append_foldr, foldr_same}
use Rattle.page_tree.proofs.WalkLaws.{rest_rising, first_beyond}

-- The way back over two rows is the way back over the second, and then over the first.
pub sweep_append : {A : Type 0} (step : Step A) (s : Unwind) (xs ys zs : List A)
    → sweep step s (xs ++ ys) zs ≡ sweep step (sweep step s ys zs).1 xs (sweep step s ys zs).0
sweep_append step s xs ys zs = foldr-append (over step) (zs, s) xs ys

module _ {A : Type 0} (depth : A → ℕ) where
  -- The positions left after a row is passed.
  abbrev pub positions_after : List ℕ → List A → List ℕ
  positions_after bs [] = bs
  positions_after [] (x ∷ xs) = []
  positions_after (b ∷ bs) (x ∷ xs) = positions_after (rest (depth x) b bs) xs

  -- Every thing of the row is passed.
  abbrev pub Passes : List ℕ → List A → Type 0
  Passes bs [] = Unit {0}
  Passes [] (x ∷ xs) = ⊥
  Passes (b ∷ bs) (x ∷ xs) = (b ≤ depth x) × Passes (rest (depth x) b bs) xs

  -- The thing stops the walk.
  abbrev pub Stops : List ℕ → A → Type 0
  Stops [] x = Unit {0}
  Stops (b ∷ bs) x = depth x < b

  -- Where no position is left, none is.
  positions_after_none : (xs : List A) → positions_after [] xs ≡ []
  positions_after_none [] = refl
  positions_after_none (x ∷ xs) = refl

  -- Two rows passed, one after the other.
  pub positions_after_append : (bs : List ℕ) (xs ys : List A) → positions_after bs (xs ++ ys) ≡ positions_after (positions_after bs xs) ys
  positions_after_append bs [] ys = refl
  positions_after_append [] (x ∷ xs) ys = sym (positions_after_none ys)
  positions_after_append (b ∷ bs) (x ∷ xs) ys = positions_after_append (rest (depth x) b bs) xs ys

  -- Both are passed.
  pub passes_append : (bs : List ℕ) (xs ys : List A) → Passes bs xs → Passes (positions_after bs xs) ys → Passes bs (xs ++ ys)
  passes_append bs [] ys p q = q
  passes_append [] (x ∷ xs) ys p q = absurd p
  passes_append (b ∷ bs) (x ∷ xs) ys p q = (p.0, passes_append (rest (depth x) b bs) xs ys p.1 q)

  -- The positions left still rise,
  pub positions_after_rising : (bs : List ℕ) (xs : List A) → Rising bs → Rising (positions_after bs xs)
  positions_after_rising bs [] a = a
  positions_after_rising [] (x ∷ xs) a = tt
  positions_after_rising (b ∷ bs) (x ∷ xs) a = positions_after_rising (rest (depth x) b bs) xs (rest_rising (depth x) b bs a)

  -- and all are past the thing that stops the walk.
  pub stops_beyond : (bs : List ℕ) (x : A) → Rising bs → Stops bs x → Beyond (depth x) bs
  stops_beyond [] x a s = tt
  stops_beyond (b ∷ bs) x a s = first_beyond (depth x) b bs s a

  module _ {B : Type 0} (found : List ℕ → ℕ → A → List A → B) (passed : A → B → B) (none : B) where
    -- The walk from the start is what was passed and the walk over the rest of the row.
    pub walk_passes : (bs : List ℕ) (τ : ℕ) (xs ys : List A) → Passes bs xs
        → walk depth found passed none bs τ (xs ++ ys)
        ≡ foldr passed (walk depth found passed none (positions_after bs xs) (last_depth depth τ xs) ys) xs
    walk_passes bs τ [] ys p = refl
    walk_passes [] τ (x ∷ xs) ys p = absurd p
    walk_passes (b ∷ bs) τ (x ∷ xs) ys p = rw (le-ltb (depth x) b p.0) (ap (passed x) (walk_passes (rest (depth x) b bs) (depth x) xs ys p.1))

    -- The walk at the place where it stops.
    pub walk_at : (bs : List ℕ) (τ : ℕ) (xs : List A) (y : A) (ys : List A) → Passes bs xs → Stops (positions_after bs xs) y
        → walk depth found passed none bs τ (xs ++ (y ∷ ys)) ≡ foldr passed (found (positions_after bs xs) (last_depth depth τ xs) y ys) xs
    walk_at bs τ xs y ys p s =
        walk_passes bs τ xs (y ∷ ys) p ∙ ap (λ (r : B). foldr passed r xs) (stop (positions_after bs xs) (last_depth depth τ xs) s)
      where
        stop : (bs : List ℕ) (τ : ℕ) → Stops bs y → walk depth found passed none bs τ (y ∷ ys) ≡ found bs τ y ys
        stop [] τ s = refl
        stop (b ∷ bs) τ s = rw (lt-ltb (depth y) b s)

  -- A search: what is found there.
  pub find_at : {B : Type 0} (found : List ℕ → ℕ → A → List A → B) (none : B) (bs : List ℕ) (τ : ℕ) (xs : List A) (y : A) (ys : List A)
      → Passes bs xs → Stops (positions_after bs xs) y
      → walk depth found (λ x r. r) none bs τ (xs ++ (y ∷ ys)) ≡ found (positions_after bs xs) (last_depth depth τ xs) y ys
  find_at found none bs τ xs y ys p s =
      walk_at found (λ x r. r) none bs τ xs y ys p s ∙ sym (foldr_same (found (positions_after bs xs) (last_depth depth τ xs) y ys) xs)

  -- An insertion: the row that stands for the thing found, between what was passed and what stands after it.
  pub replace_in_at : (new : List ℕ → ℕ → A → List A) (bs : List ℕ) (τ : ℕ) (xs : List A) (y : A) (ys : List A) → Passes bs xs
      → Stops (positions_after bs xs) y → replace_in depth new bs τ (xs ++ (y ∷ ys)) ≡ xs ++ (new (positions_after bs xs) (last_depth depth τ xs) y ++ ys)
  replace_in_at new bs τ xs y ys p s =
      walk_at (λ bs τ x xs. new bs τ x ++ xs) (λ x r. x ∷ r) [] bs τ xs y ys p s ∙ sym
      (append_foldr xs (new (positions_after bs xs) (last_depth depth τ xs) y ++ ys))

  module _ (leaves : A → List Entry) (at : ℕ → List ℕ → ℕ → A → Left A) (ν : ℕ) (bs : List ℕ) (τ : ℕ) (xs : List A) (y : A) (ys : List A) where
    -- What is left of the thing found, with the depths before and after it.
    abbrev pub struck : Left A
    struck = at (next_depth ν (flats leaves ys)) (positions_after bs xs) (last_depth depth τ xs) y

    -- A deletion: the way back to the left from there.
    pub strike_in_at : (step : Step A) → Passes bs xs → Stops (positions_after bs xs) y
        → strike_in depth leaves step at ν bs τ (xs ++ (y ∷ ys)) ≡ sweep step struck.1 xs (struck.0 ++ ys)
    strike_in_at step p s =
        walk_at (λ bs τ x xs. ((at (next_depth ν (flats leaves xs)) bs τ x).0 ++ xs, (at (next_depth ν (flats leaves xs)) bs τ x).1)) (over step)
        ([], Idle)
        bs τ xs y ys p s
