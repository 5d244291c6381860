-- Deletion keeps the pages' rules (01, "an emptied page is freed and its parent entry removed; parent depths follow"). Assumes nothing.
use mathlib.Core.Path.{◌≡◌, refl}
use mathlib.Core.Bool.{Bool, true, false, cond}
use mathlib.Core.Option.{none}
use mathlib.Core.List.{List, [], ◌∷◌, ◌++◌, append-nil}
use Prim.Native.Nat.{ℕ, zero, suc, ◌≤◌, ◌<◌}
use native.Mathlib.Omega.{arith}
use lib.Dec.{ltb}
use lib.ListN.{length, length-append}
use borrow.Author.Tests.{ltb-true, ltb-false}
use Rattle.leaf_list.specs.Entries.{Entry, entry}
use Rattle.leaf_list.proofs.Positions.{Beyond, Rising}
use Rattle.leaf_list.proofs.Depths.{Neighbours}
use Rattle.leaf_list.proofs.Lists.{all_append}
use Rattle.page_tree.specs.declared.Unwind.{Unwind}
use Rattle.page_tree.specs.declared.Unwind.TheVariants.{Idle, Give, Clear}
use Rattle.page_tree.specs.Rows.{All, flats, Closed}
use Rattle.page_tree.specs.Tree.{Node, depth, leaves, Sound}
use Rattle.page_tree.specs.OffPages.{Left, Step, over, unless_empty, step_below, next_depth, strike_in, delete_below}
use Rattle.page_tree.proofs.ClosedRows.{closed_append, closed_deeper, closed_replace}
use Rattle.page_tree.proofs.WalkLaws.{walk_induction}
use Rattle.page_tree.proofs.DeletionLeaves.{onto}
use Rattle.page_tree.proofs.DeletionSteps.{neighbours_left, neighbours_right, Stays, Calm, StepLaws, over_calm, stays_page, step_below_laws}

-- Nothing is left of what c closed, after an entry of depth τ: a 1-leaf went, whose depth c is to be taken; or another entry, no 1-leaf.
abbrev pub Gone : ℕ → ℕ → Unwind → Type 0
Gone τ c Idle = ⊥
Gone τ c (Give d) = (d ≡ c) × (c < τ)
Gone τ c (Clear d) = (τ ≤ c) × (d < c)

-- Something is left that c closes: a depth that the entry before is to take lies between.
abbrev pub Asked : ℕ → ℕ → Unwind → Type 0
Asked τ c Idle = Unit {0}
Asked τ c (Give d) = (c < d) × (d < τ)
Asked τ c (Clear d) = Unit {0}

-- What remains of a row that c closed, after an entry of depth τ; at most m things.
abbrev pub Remains : {A : Type 0} → (A → ℕ) → (A → Type 0) → ℕ → ℕ → ℕ → List A → Unwind → Type 0
Remains depth_a Good τ c m [] s = Gone τ c s
Remains depth_a Good τ c m (x ∷ xs) s = Stays depth_a Good c m (x ∷ xs) × Asked τ c s

-- A row that stays, with what is asked.
pub remains_stays : {A : Type 0} (depth_a : A → ℕ) (Good : A → Type 0) (τ c m : ℕ) (xs : List A) (s : Unwind) → Stays depth_a Good c m xs → Asked τ c s
    → Remains depth_a Good τ c m xs s
remains_stays depth_a Good τ c m [] s q a = absurd q.closed
remains_stays depth_a Good τ c m (x ∷ xs) s q a = (q, a)

-- Where no depth waits, nothing is asked but dummies to go.
pub calm_asked : (τ c : ℕ) (s : Unwind) → Calm s → Asked τ c s
calm_asked τ c Idle h = tt
calm_asked τ c (Give d) h = absurd h
calm_asked τ c (Clear d) h = tt

-- What goes asks no more of a row closed by less.
pub gone_asked : (τ b c : ℕ) (s : Unwind) → c < b → Gone τ b s → Asked τ c s
gone_asked τ b c Idle h g = tt
gone_asked τ b c (Give d) h g = (omega (arith, g.0), omega (arith, g.0, g.1))
gone_asked τ b c (Clear d) h g = tt

-- Nor does what stays.
pub asked_less : (τ b c : ℕ) (s : Unwind) → c ≤ b → Asked τ b s → Asked τ c s
asked_less τ b c Idle h g = tt
asked_less τ b c (Give d) h g = (omega (arith, g.0), g.1)
asked_less τ b c (Clear d) h g = tt

-- The last depth of a row is no deeper than its first.
first_least : {A : Type 0} (depth_a : A → ℕ) (c : ℕ) (x : A) (xs : List A) → Closed depth_a c (x ∷ xs) → c ≤ depth_a x
first_least depth_a c x [] h = omega arith
first_least depth_a c x (y ∷ ys) h = omega (arith, h.0)

-- What remains of the thing found, before the rest of its row.
pub remains_front : {A : Type 0} (depth_a : A → ℕ) (Good : A → Type 0) (τ c : ℕ) (x : A) (xs left : List A) (s : Unwind) → Closed depth_a c (x ∷ xs)
    → All Good xs → Remains depth_a Good τ (depth_a x) 1 left s → Remains depth_a Good τ c (suc (length xs)) (left ++ xs) s
remains_front depth_a Good τ c x [] [] s h p w = rw h at w
remains_front depth_a Good τ c x (z ∷ zs) [] s h p w = (record { closed = h.1; good = p; short = omega arith }, gone_asked τ (depth_a x) c s h.0 w)
remains_front depth_a Good τ c x xs (y ∷ ys) s h p w = (
  record {
    closed = closed_replace depth_a c x (y ∷ ys) xs h w.0.closed;
    good = all_append Good (y ∷ ys) xs w.0.good p;
    short = omega (arith, length-append ys xs, w.0.short);
  },
  asked_less τ (depth_a x) c s (first_least depth_a c x xs h) w.1,
)

module _ {A : Type 0} (depth_a : A → ℕ) (leaves_a : A → List Entry) (Good : A → Type 0) (step : Step A) (k : StepLaws depth_a leaves_a Good step) where
  -- One thing more on the left of a row that stays, where no depth waits.
  calm_remains : (τ c m : ℕ) (x : A) (ys : List A) (s : Unwind) → Good x → Neighbours (leaves_a x) → c < depth_a x → Stays depth_a Good c m ys → Calm s
      → Remains depth_a Good τ c (suc m) ((step s x).0 ++ ys) (step s x).1
  calm_remains τ c m x ys s p r h q a =
      let o = over_calm depth_a leaves_a Good step k c m x ys s p r h q a in
      remains_stays depth_a Good τ c (suc m) ((step s x).0 ++ ys) (step s x).1 o.0 (calm_asked τ c (step s x).1 o.1)

  -- One thing more on the left of what remains.
  pub over_remains : (τ c m : ℕ) (x : A) (ys : List A) (s : Unwind) → Good x → Neighbours (leaves_a x) → c < depth_a x
      → Remains depth_a Good (depth_a x) c m ys s → Remains depth_a Good τ c (suc m) ((step s x).0 ++ ys) (step s x).1
  over_remains τ c m x [] Idle p r h q = absurd q
  over_remains τ c m x [] (Clear d) p r h q = absurd (omega (arith, q.0))
  over_remains τ c m x [] (Give d) p r h q =
      let o = k.give x p r d (omega (arith, q.0)) in
      rw (append-nil (step (Give d) x).0)
      (remains_stays depth_a Good τ c (suc m) (step (Give d) x).0 (step (Give d) x).1
      (record { closed = rw (← q.0) o.0.closed; good = o.0.good; short = omega (arith, o.0.short) })
      (calm_asked τ c (step (Give d) x).1 o.1))
  over_remains τ c m x (y ∷ ys) (Give d) p r h q =
      let o = k.give x p r d q.1.1 in
      let g = (step (Give d) x).0 in
      remains_stays depth_a Good τ c (suc m) (g ++ y ∷ ys) (step (Give d) x).1
      (record {
        closed = closed_append depth_a c g (y ∷ ys) (closed_deeper depth_a c d g q.1.0 o.0.closed) q.0.closed;
        good = all_append Good g (y ∷ ys) o.0.good q.0.good;
        short = omega (arith, length-append g (y ∷ ys), o.0.short, q.0.short);
      })
      (calm_asked τ c (step (Give d) x).1 o.1)
  over_remains τ c m x (y ∷ ys) Idle p r h q = calm_remains τ c m x (y ∷ ys) Idle p r h q.0 tt
  over_remains τ c m x (y ∷ ys) (Clear d) p r h q = calm_remains τ c m x (y ∷ ys) (Clear d) p r h q.0 tt

  -- at does figure 11 below the thing found.
  module _ (at : ℕ → List ℕ → ℕ → A → Left A)
      (ok : (ν : ℕ) (bs : List ℕ) (τ : ℕ) (x : A) → Good x → Neighbours (leaves_a x) → Rising bs → Beyond (depth_a x) bs
      → Remains depth_a Good τ (depth_a x) 1 (at ν bs τ x).0 (at ν bs τ x).1) where
    -- So it does over a row.
    pub strike_in_remains : (c ν : ℕ) (bs : List ℕ) (τ : ℕ) (xs : List A) → Closed depth_a c xs → All Good xs → Neighbours (flats leaves_a xs)
        → Rising bs → Beyond c bs
        → Remains depth_a Good τ c (length xs) (strike_in depth_a leaves_a step at ν bs τ xs).0 (strike_in depth_a leaves_a step at ν bs τ xs).1
    strike_in_remains c ν bs τ xs h p r a e =
        walk_induction depth_a (λ bs τ x xs. onto (at (next_depth ν (flats leaves_a xs)) bs τ x) xs) (over step) ([], Idle) Good c
        (λ bs τ xs left. Neighbours (flats leaves_a xs) → Remains depth_a Good τ c (length xs) left.0 left.1)
        (λ bs τ x xs cl p a e r.
        let next = next_depth ν (flats leaves_a xs) in
        remains_front depth_a Good τ c x xs (at next bs τ x).0 (at next bs τ x).1 cl p.1
        (ok next bs τ x p.0 (neighbours_left (leaves_a x) (flats leaves_a xs) r) a e))
        (λ b bs τ x y ys left l p h ih r.
        over_remains τ c (suc (length ys)) x left.0 left.1 p.0 (neighbours_left (leaves_a x) (flats leaves_a (y ∷ ys)) r) l
        (ih (neighbours_right (leaves_a x) (flats leaves_a (y ∷ ys)) r)))
        bs τ xs h p a e r

-- What remains of a page's row is a page or nothing.
pub remains_page : (E n τ c m : ℕ) (xs : List (Node n)) (s : Unwind) → m ≤ E → Remains (depth n) (Sound E n) τ c m xs s
    → Remains (depth (suc n)) (Sound E (suc n)) τ c 1 (unless_empty xs) s
remains_page E n τ c m [] s h q = q
remains_page E n τ c m (x ∷ xs) s h q = (stays_page E n c m (x ∷ xs) h q.0, q.1)

-- Figure 11 below a thing, at every level.
pub delete_below_remains : (E n ν : ℕ) (bs : List ℕ) (τ : ℕ) (x : Node n) → Sound E n x → Neighbours (leaves n x) → Rising bs → Beyond (depth n x) bs
    → Remains (depth n) (Sound E n) τ (depth n x) 1 (delete_below n ν bs τ x).0 (delete_below n ν bs τ x).1
delete_below_remains E zero ν bs τ (entry a p) s r y e = go (ltb a τ) (ltb ν a) refl refl
  where
    here : Bool → Bool → Left Entry
    here t u = cond t ([], Give a) (cond u ([], Clear ν) (entry a none ∷ [], Idle))

    go : (t u : Bool) → ltb a τ ≡ t → ltb ν a ≡ u → Remains (depth 0) (Sound E 0) τ a 1 (here t u).0 (here t u).1
    go true u l m = (refl, ltb-true a τ l)
    go false true l m = (ltb-false a τ l, ltb-true ν a m)
    go false false l m = (record { closed = refl; good = (tt, tt); short = omega arith }, tt)
delete_below_remains E (suc n) ν bs τ x s r a e =
    remains_page E n τ (depth (suc n) x) (length x) (strike_in (depth n) (leaves n) (step_below n) (delete_below n) ν bs τ x).0
    (strike_in (depth n) (leaves n) (step_below n) (delete_below n) ν bs τ x).1
    s.0.1
    (strike_in_remains (depth n) (leaves n) (Sound E n) (step_below n) (step_below_laws E n) (delete_below n) (delete_below_remains E n)
    (depth (suc n) x) ν bs τ x s.0.0 s.1 r a e)
