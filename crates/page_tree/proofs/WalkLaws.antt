-- Figure 6 over a row of closed rows is figure 6 over the flat row. Assumes nothing.
use mathlib.Core.Path.{◌≡◌, refl, ap, sym, ◌∙◌}
use mathlib.Core.Bool.{Bool, true, false, cond}
use mathlib.Core.List.{List, [], ◌∷◌, ◌++◌, append_assoc, foldr}
use Prim.Native.Nat.{ℕ, ◌≤◌, ◌<◌}
use native.Mathlib.Omega.{arith}
use lib.Dec.{ltb, eqb}
use borrow.Author.Tests.{ltb-true, ltb-false, lt-ltb, le-ltb, ne_eqb}
use Rattle.leaf_list.proofs.Lists.{all_weaker}
use Rattle.leaf_list.proofs.Positions.{Beyond, Rising}
use Rattle.page_tree.specs.Rows.{All, flats, Closed}
use Rattle.page_tree.specs.Walk.{rest, walk}

-- Positions past more are past less.
pub beyond_less : (c d : ℕ) (bs : List ℕ) → c ≤ d → Beyond d bs → Beyond c bs
beyond_less c d bs h = all_weaker (λ b. d < b) (λ b. c < b) bs (λ b g. omega arith)

-- The positions left after an entry still rise,
pub rest_rising : (d b : ℕ) (bs : List ℕ) → Rising (b ∷ bs) → Rising (rest d b bs)
rest_rising d b bs h = step (eqb d b)
  where
    step : (t : Bool) → Rising (cond t bs (b ∷ bs))
    step true = h.1
    step false = h

-- and are past what they were past.
pub rest_beyond : (c d b : ℕ) (bs : List ℕ) → Beyond c (b ∷ bs) → Beyond c (rest d b bs)
rest_beyond c d b bs h = step (eqb d b)
  where
    step : (t : Bool) → Beyond c (cond t bs (b ∷ bs))
    step true = h.1
    step false = h

-- A position past d is the first of rising ones: all are past d.
pub first_beyond : (d b : ℕ) (bs : List ℕ) → d < b → Rising (b ∷ bs) → Beyond d (b ∷ bs)
first_beyond d b bs h g = (h, beyond_less d b bs (omega arith) g.0)

module _ {A B : Type 0} (depth : A → ℕ) (found : List ℕ → ℕ → A → List A → B) (passed : A → B → B) (none : B) where
  -- The walk stops at an entry that is shallower than the positions.
  pub walk_stop : (bs : List ℕ) (τ : ℕ) (x : A) (xs : List A) → Beyond (depth x) bs → walk depth found passed none bs τ (x ∷ xs) ≡ found bs τ x xs
  walk_stop [] τ x xs h = refl
  walk_stop (b ∷ bs) τ x xs h = rw (lt-ltb (depth x) b h.0)

  -- It passes any other.
  pub walk_pass : (b : ℕ) (bs : List ℕ) (τ : ℕ) (x : A) (xs : List A) → b ≤ depth x
      → walk depth found passed none (b ∷ bs) τ (x ∷ xs) ≡ passed x (walk depth found passed none (rest (depth x) b bs) (depth x) xs)
  walk_pass b bs τ x xs h = rw (le-ltb (depth x) b h)

  -- A closed row is passed whole, as one entry of its last depth is.
  pub walk_row : (c b : ℕ) (bs : List ℕ) (τ : ℕ) (ys R : List A) → Closed depth c ys → b ≤ c
      → walk depth found passed none (b ∷ bs) τ (ys ++ R) ≡ foldr passed (walk depth found passed none (rest c b bs) c R) ys
  walk_row c b bs τ [] R h g = absurd h
  walk_row c b bs τ (x ∷ []) R h g = walk_pass b bs τ x R (omega arith) ∙ rw h
  walk_row c b bs τ (x ∷ y ∷ ys) R h g =
      walk_pass b bs τ x (y ∷ ys ++ R) (omega (arith, h.0))
      ∙ rw (ne_eqb (depth x) b (omega (arith, h.0))) (ap (passed x) (walk_row c b bs (depth x) (y ∷ ys) R h.1 g))

  -- What holds where the walk stops, and of a row with one thing more that is passed, holds of every row that c closes.
  module _ (Good : A → Type 0) (c : ℕ) (P : List ℕ → ℕ → List A → B → Type 0)
      (stop : (bs : List ℕ) (τ : ℕ) (x : A) (xs : List A) → Closed depth c (x ∷ xs) → All Good (x ∷ xs) → Rising bs → Beyond (depth x) bs
      → P bs τ (x ∷ xs) (found bs τ x xs))
      (pass : (b : ℕ) (bs : List ℕ) (τ : ℕ) (x y : A) (ys : List A) (r : B) → c < depth x → All Good (x ∷ y ∷ ys) → b ≤ depth x
      → P (rest (depth x) b bs) (depth x) (y ∷ ys) r → P (b ∷ bs) τ (x ∷ y ∷ ys) (passed x r)) where
    pub walk_induction : (bs : List ℕ) (τ : ℕ) (xs : List A) → Closed depth c xs → All Good xs → Rising bs → Beyond c bs
        → P bs τ xs (walk depth found passed none bs τ xs)
    walk_induction bs τ [] cl p a e = absurd cl
    walk_induction [] τ (x ∷ xs) cl p a e = stop [] τ x xs cl p tt tt
    walk_induction (b ∷ bs) τ (x ∷ []) cl p a e =
        let g = beyond_less (depth x) c (b ∷ bs) (omega arith) e in
        rw (lt-ltb (depth x) b g.0) (stop (b ∷ bs) τ x [] cl p a g)
    walk_induction (b ∷ bs) τ (x ∷ y ∷ ys) cl p a e =
        step (ltb (depth x) b) refl (walk_induction (rest (depth x) b bs) (depth x) (y ∷ ys) cl.1 p.1 (rest_rising (depth x) b bs a)
        (rest_beyond c (depth x) b bs e))
      where
        step : (t : Bool) → ltb (depth x) b ≡ t
            → P (rest (depth x) b bs) (depth x) (y ∷ ys) (walk depth found passed none (rest (depth x) b bs) (depth x) (y ∷ ys))
            → P (b ∷ bs) τ (x ∷ y ∷ ys)
            (cond t (found (b ∷ bs) τ x (y ∷ ys)) (passed x (walk depth found passed none (rest (depth x) b bs) (depth x) (y ∷ ys))))
        step true q ih = stop (b ∷ bs) τ x (y ∷ ys) cl p a (first_beyond (depth x) b bs (ltb-true (depth x) b q) a)
        step false q ih = pass b bs τ x y ys _ cl.0 p (ltb-false (depth x) b q) ih

-- The walk over a row of things, each a closed row of A's by its leaves, with what stands after them; through is what the answers mean below.
module _ {A X B Y : Type 0} (depth : A → ℕ) (depth_x : X → ℕ) (leaves : X → List A) (Good : X → Type 0)
    (found : List ℕ → ℕ → A → List A → B) (passed : A → B → B) (none : B) (found_x : List ℕ → ℕ → X → List X → Y) (passed_x : X → Y → Y) (none_x : Y)
    (through : Y → B) (after : List A) (closed : (x : X) → Good x → Closed depth (depth_x x) (leaves x))
    (at_found : (bs : List ℕ) (τ : ℕ) (x : X) (xs : List X) → Good x → Rising bs → Beyond (depth_x x) bs
    → through (found_x bs τ x xs) ≡ walk depth found passed none bs τ (leaves x ++ (flats leaves xs ++ after)))
    (at_passed : (x : X) (y : Y) → Good x → through (passed_x x y) ≡ foldr passed (through y) (leaves x)) where
  -- The walk over the row is the walk over all the leaves.
  pub walk_flats : (c : ℕ) (bs : List ℕ) (τ : ℕ) (xs : List X) → Closed depth_x c xs → All Good xs → Rising bs → Beyond c bs
      → through (walk depth_x found_x passed_x none_x bs τ xs) ≡ walk depth found passed none bs τ (flats leaves xs ++ after)
  walk_flats c =
      walk_induction depth_x found_x passed_x none_x Good c (λ bs τ xs y. through y ≡ walk depth found passed none bs τ (flats leaves xs ++ after))
      (λ bs τ x xs cl p a e. at_found bs τ x xs p.0 a e ∙ rw append_assoc)
      (λ b bs τ x y ys r l p h ih. at_passed x r p.0
      ∙ ap (λ (v : B). foldr passed v (leaves x)) ih
      ∙ sym (walk_row depth found passed none (depth_x x) b bs τ (leaves x) (flats leaves (y ∷ ys) ++ after) (closed x p.0) h)
      ∙ rw (append_assoc (leaves x) (flats leaves (y ∷ ys)) after))
