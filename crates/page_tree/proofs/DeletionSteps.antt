-- The way back to the left keeps the pages' rules. Assumes nothing.
use mathlib.Core.Path.{◌≡◌, refl, ap, ◌∙◌}
use mathlib.Core.Logic.{◌⊎◌, inl, inr}
use mathlib.Core.Bool.{Bool, true, false, cond}
use mathlib.Core.Option.{none, some}
use mathlib.Core.List.{List, [], ◌∷◌, ◌++◌, append-nil}
use Prim.Native.Nat.{ℕ, zero, suc, ◌≤◌, ◌<◌}
use native.Mathlib.Omega.{arith}
use lib.Dec.{ltb}
use lib.ListN.{length}
use Rattle.leaf_list.specs.Entries.{Entry, entry}
use Rattle.leaf_list.proofs.Depths.{closed_cons, Neighbours, neighbours_tail}
use Rattle.page_tree.specs.declared.Unwind.{Unwind}
use Rattle.page_tree.specs.declared.Unwind.TheVariants.{Idle, Give, Clear}
use Rattle.page_tree.specs.Rows.{All, flats, Closed, last_depth}
use Rattle.page_tree.specs.Tree.{Node, depth, leaves, Sound}
use Rattle.page_tree.specs.OffPages.{Left, Step, step_entry, over, sweep, unless_empty, step_below}
use Rattle.page_tree.proofs.ClosedRows.{closed_last, closed_page}
use Rattle.page_tree.proofs.TreeLaws.{closed_leaves}

-- The neighbours in the second of two lists,
pub neighbours_right : (xs ys : List Entry) → Neighbours (xs ++ ys) → Neighbours ys
neighbours_right [] ys h = h
neighbours_right (x ∷ xs) ys h = neighbours_right xs ys (neighbours_tail x (xs ++ ys) h)

-- and in the first.
pub neighbours_left : (xs ys : List Entry) → Neighbours (xs ++ ys) → Neighbours xs
neighbours_left [] ys h = tt
neighbours_left (x ∷ []) ys h = tt
neighbours_left (x ∷ y ∷ xs) ys h = (h.0, neighbours_left (y ∷ xs) ys h.1)

-- A dummy is deeper than the entry before it.
pub dummy_after : (d : ℕ) (x : Entry) (xs : List Entry) → Neighbours (x ∷ xs ++ entry d none ∷ []) → last_depth (depth 0) (depth 0 x) xs < d
dummy_after d (entry a p) [] g = g.0.before_dummy refl
dummy_after d x (y ∷ ys) g = dummy_after d y ys g.1

-- So after a row that c closes.
pub dummy_deeper : (d c : ℕ) (xs : List Entry) → Closed (depth 0) c xs → Neighbours (xs ++ entry d none ∷ []) → c < d
dummy_deeper d c [] h g = absurd h
dummy_deeper d c (x ∷ xs) h g = omega (arith, dummy_after d x xs g, closed_last (depth 0) c 0 (x ∷ xs) h)

-- A row that stays: c closes it, its things are good, and it has at most m.
pub record Stays {A : Type 0} (depth_a : A → ℕ) (Good : A → Type 0) (c m : ℕ) (xs : List A) : Type 0 where
  pub closed : Closed depth_a c xs
  pub good : All Good xs
  pub short : length xs ≤ m

-- No depth waits to be taken.
abbrev pub Calm : Unwind → Type 0
Calm Idle = Unit {0}
Calm (Give d) = ⊥
Calm (Clear d) = Unit {0}

-- Of a thing all goes, and it was one dummy; or nothing does.
abbrev pub Cleared : {A : Type 0} → (A → ℕ) → (A → List Entry) → Step A → A → ℕ → Type 0
Cleared depth_a leaves_a step x d =
    ((step (Clear d) x ≡ ([], Clear d)) × (leaves_a x ≡ entry (depth_a x) none ∷ [])) ⊎ (step (Clear d) x ≡ (x ∷ [], Idle))

-- So for a row that c closes.
abbrev pub RowCleared : {A : Type 0} → ℕ → (A → List Entry) → Step A → List A → ℕ → Type 0
RowCleared c leaves_a step xs d =
    ((sweep step (Clear d) xs [] ≡ ([], Clear d)) × (flats leaves_a xs ≡ entry c none ∷ [])) ⊎ (sweep step (Clear d) xs [] ≡ (xs, Idle))

-- What a step to the left does to good things.
pub record StepLaws {A : Type 0} (depth_a : A → ℕ) (leaves_a : A → List Entry) (Good : A → Type 0) (step : Step A) : Type 0 where
  -- a good thing is closed on level 0;
  pub closed : (x : A) → Good x → Closed (depth 0) (depth_a x) (leaves_a x)
  -- it stays as it is where nothing is asked;
  pub idle : (x : A) → Good x → step Idle x ≡ (x ∷ [], Idle)
  -- it goes whole or not at all where dummies are to go;
  pub clear : (x : A) → Good x → Neighbours (leaves_a x) → (d : ℕ) → Cleared depth_a leaves_a step x d
  -- and it takes a smaller depth over
  pub give : (x : A) → Good x → Neighbours (leaves_a x) → (d : ℕ) → d < depth_a x
      → Stays depth_a Good d 1 (step (Give d) x).0 × Calm (step (Give d) x).1

module _ {A : Type 0} (depth_a : A → ℕ) (leaves_a : A → List Entry) (Good : A → Type 0) (step : Step A) (k : StepLaws depth_a leaves_a Good step) where
  -- A row stays as it is where nothing is asked.
  pub sweep_idle : (xs : List A) → All Good xs → sweep step Idle xs [] ≡ (xs, Idle)
  sweep_idle [] p = refl
  sweep_idle (x ∷ xs) p = rw (sweep_idle xs p.1, k.idle x p.0)

  -- A row goes whole, and was one dummy, or it stays whole: a dummy that is last in it is alone in it.
  pub sweep_clear : (c : ℕ) (xs : List A) → Closed depth_a c xs → All Good xs → Neighbours (flats leaves_a xs) → (d : ℕ)
      → RowCleared c leaves_a step xs d
  sweep_clear c [] h p r d = absurd h
  sweep_clear c (x ∷ []) h p r d = go (k.clear x p.0 (rw (append-nil (leaves_a x)) at r) d)
    where
      go : Cleared depth_a leaves_a step x d → RowCleared c leaves_a step (x ∷ []) d
      go (inl w) = inl (rw w.0, rw (append-nil (leaves_a x), w.1, h))
      go (inr w) = inr (rw w)
  sweep_clear c (x ∷ y ∷ ys) h p r d = go (sweep_clear c (y ∷ ys) h.1 p.1 (neighbours_right (leaves_a x) (flats leaves_a (y ∷ ys)) r) d)
    where
      go : RowCleared c leaves_a step (y ∷ ys) d → RowCleared c leaves_a step (x ∷ y ∷ ys) d
      go (inl w) = absurd (omega (arith, h.0, dummy_deeper c (depth_a x) (leaves_a x) (k.closed x p.0) (rw w.1 at r)))
      go (inr w) = inr (ap (over step x) w ∙ rw (k.idle x p.0))

  -- One thing more on the left of a row that stays, where no depth waits.
  pub over_calm : (c m : ℕ) (x : A) (ys : List A) (s : Unwind) → Good x → Neighbours (leaves_a x) → c < depth_a x → Stays depth_a Good c m ys → Calm s
      → Stays depth_a Good c (suc m) ((step s x).0 ++ ys) × Calm (step s x).1
  over_calm c m x ys Idle p r h q a =
      rw (k.idle x p) (record { closed = closed_cons depth_a c x ys h q.closed; good = (p, q.good); short = omega (arith, q.short) }, tt)
  over_calm c m x ys (Give d) p r h q a = absurd a
  over_calm c m x ys (Clear d) p r h q a = go (k.clear x p r d)
    where
      go : Cleared depth_a leaves_a step x d → Stays depth_a Good c (suc m) ((step (Clear d) x).0 ++ ys) × Calm (step (Clear d) x).1
      go (inl w) = rw w.0 (record { closed = q.closed; good = q.good; short = omega (arith, q.short) }, tt)
      go (inr w) = rw w (record { closed = closed_cons depth_a c x ys h q.closed; good = (p, q.good); short = omega (arith, q.short) }, tt)

  -- A row takes a smaller depth over.
  pub sweep_give : (c d : ℕ) (xs : List A) → Closed depth_a c xs → All Good xs → Neighbours (flats leaves_a xs) → d < c
      → Stays depth_a Good d (length xs) (sweep step (Give d) xs []).0 × Calm (sweep step (Give d) xs []).1
  sweep_give c d [] h p r l = absurd h
  sweep_give c d (x ∷ []) h p r l = rw (append-nil (step (Give d) x).0) (k.give x p.0 (rw (append-nil (leaves_a x)) at r) d (omega arith))
  sweep_give c d (x ∷ y ∷ ys) h p r l =
      let o = sweep_give c d (y ∷ ys) h.1 p.1 (neighbours_right (leaves_a x) (flats leaves_a (y ∷ ys)) r) l in
      over_calm d (suc (length ys)) x (sweep step (Give d) (y ∷ ys) []).0 (sweep step (Give d) (y ∷ ys) []).1 p.0
      (neighbours_left (leaves_a x) (flats leaves_a (y ∷ ys)) r)
      (omega (arith, h.0)) o.0 o.1

-- What stays of a page's row is a page.
pub stays_page : (E n c m : ℕ) (xs : List (Node n)) → m ≤ E → Stays (depth n) (Sound E n) c m xs
    → Stays (depth (suc n)) (Sound E (suc n)) c 1 (unless_empty xs)
stays_page E n c m [] h q = absurd q.closed
stays_page E n c m (x ∷ xs) h q =
    record {
      closed = closed_last (depth n) c 0 (x ∷ xs) q.closed;
      good = ((closed_page (depth n) E c (x ∷ xs) q.closed (omega (arith, q.short)), q.good), tt);
      short = omega arith;
    }

-- A closed row is no emptied page.
pub unless_empty_closed : {A : Type 0} (depth_a : A → ℕ) (c : ℕ) (xs : List A) → Closed depth_a c xs → unless_empty xs ≡ xs ∷ []
unless_empty_closed depth_a c [] h = absurd h
unless_empty_closed depth_a c (x ∷ xs) h = refl

-- The steps over pages have these laws, at every level.
pub step_below_laws : (E n : ℕ) → StepLaws (depth n) (leaves n) (Sound E n) (step_below n)
step_below_laws E zero =
    record {
      closed = closed_leaves E 0;
      idle = λ x s. refl;
      clear = λ x s r d. clears x d;
      give = λ x s r d l. gives x d;
    }
  where
    clears : (x : Entry) (d : ℕ) → Cleared (depth 0) (leaves 0) step_entry x d
    clears (entry a none) d = go (ltb d a)
      where
        go : (t : Bool)
            → ((◌≡◌ {A = Left Entry} (cond t ([], Clear d) (entry a none ∷ [], Idle)) ([], Clear d)) × (entry a none ∷ [] ≡ entry a none ∷ []))
            ⊎ (◌≡◌ {A = Left Entry} (cond t ([], Clear d) (entry a none ∷ [], Idle)) (entry a none ∷ [], Idle))
        go true = inl (refl, refl)
        go false = inr refl
    clears (entry a (some q)) d = inr refl

    gives : (x : Entry) (d : ℕ) → Stays (depth 0) (Sound E 0) d 1 (step_entry (Give d) x).0 × Calm (step_entry (Give d) x).1
    gives (entry a p) d = (record { closed = refl; good = (tt, tt); short = omega arith }, tt)
step_below_laws E (suc n) = up (step_below_laws E n)
  where
    up : StepLaws (depth n) (leaves n) (Sound E n) (step_below n) → StepLaws (depth (suc n)) (leaves (suc n)) (Sound E (suc n)) (step_below (suc n))
    up k =
        record {
          closed = closed_leaves E (suc n);
          idle = λ page s. rw (sweep_idle (depth n) (leaves n) (Sound E n) (step_below n) k page s.1, kept page s);
          clear = λ page s r d.
              clears page s d (sweep_clear (depth n) (leaves n) (Sound E n) (step_below n) k (depth (suc n) page) page s.0.0 s.1 r d);
          give = λ page s r d l.
              let o = sweep_give (depth n) (leaves n) (Sound E n) (step_below n) k (depth (suc n) page) d page s.0.0 s.1 r l in
              (stays_page E n d (length page) (sweep (step_below n) (Give d) page []).0 s.0.1 o.0, o.1);
        }
      where
        kept : (page : Node (suc n)) → Sound E (suc n) page → unless_empty page ≡ page ∷ []
        kept page s = unless_empty_closed (depth n) (depth (suc n) page) page s.0.0

        clears : (page : Node (suc n)) → Sound E (suc n) page → (d : ℕ) → RowCleared (depth (suc n) page) (leaves n) (step_below n) page d
            → Cleared (depth (suc n)) (leaves (suc n)) (step_below (suc n)) page d
        clears page s d (inl w) = inl (rw w.0, w.1)
        clears page s d (inr w) = inr (rw (w, kept page s))
