-- The quick search of a part of a row of depths, entry by entry from the left (02, "Cutting a page more quickly"). Assumes nothing.
use mathlib.Core.Path.{◌≡◌, refl, ap, ap₂, sym, ◌∙◌}
use mathlib.Core.Logic.{◌≢◌}
use mathlib.Core.Bool.{Bool, true, false, cond}
use mathlib.Core.List.{List, [], ◌∷◌}
use Prim.Native.Nat.{ℕ, suc, ◌+◌, ◌-◌, ◌≤◌, ◌<◌}
use native.Mathlib.Omega.{arith}
use native.Mathlib.Numerals.{add-one}
use lib.Dec.{leb, ltb}
use lib.ListN.{length, get_or}
use lib.Seq.{slice, slice-cons, slice_empty, length-slice}
use borrow.Author.Tests.{eq-eqb, ne_eqb, lt-ltb, le-ltb, leb-true, leb-false, ltb-true, ltb-false}
use Rattle.page_tree.specs.Rows.{itself, last_depth}
use Rattle.page_tree.specs.Cutting.{split}
use Rattle.page_tree.specs.QuickCut.{tried, meets, quick_place}
use Rattle.page_tree.proofs.RowLaws.{last_slice}
use Rattle.page_tree.proofs.Splitting.{split_here, split_on}

module _ {A : Type 0} (depth : A → ℕ) where
  -- The search of the entries left, where no depth stops it: past the first shallowest, the last left out, if its depth is below m, and else p; i
  -- entries went before.
  unfoldable pub pick : ℕ → ℕ → ℕ → List A → ℕ
  pick m p i [] = p
  pick m p i (x ∷ []) = p
  pick m p i (x ∷ y ∷ ys) = cond (ltb (depth x) m) (pick (depth x) (suc i) (suc i) (y ∷ ys)) (pick m p (suc i) (y ∷ ys))

  -- It finds 01's place.
  pick_split : (row : List A) (m p i : ℕ) → 2 ≤ length row → pick m p i row ≡ cond (ltb (split depth row).0 m) (i + length (split depth row).1) p
  unfolding pick split
  pick_split [] m p i n = absurd (omega arith)
  pick_split (x ∷ []) m p i n = absurd (omega arith)
  pick_split (x ∷ y ∷ []) m p i n = ap (λ (k : ℕ). cond (ltb (depth x) m) k p) (omega arith)
  pick_split (x ∷ y ∷ z ∷ zs) m p i n =
      go (ltb (depth x) m) refl (leb (depth x) (split depth row).0) refl (pick_split (y ∷ z ∷ zs) (depth x) (suc i) (suc i) (omega arith))
      (pick_split (y ∷ z ∷ zs) m p (suc i) (omega arith))
    where
      row : List A
      row = y ∷ z ∷ zs

      long : 2 ≤ length row
      long = omega arith

      go : (t : Bool) → ltb (depth x) m ≡ t → (b : Bool) → leb (depth x) (split depth row).0 ≡ b
          → pick (depth x) (suc i) (suc i) row ≡ cond (ltb (split depth row).0 (depth x)) (suc i + length (split depth row).1) (suc i)
          → pick m p (suc i) row ≡ cond (ltb (split depth row).0 m) (suc i + length (split depth row).1) p
          → cond t (pick (depth x) (suc i) (suc i) row) (pick m p (suc i) row)
          ≡ cond (ltb (split depth (x ∷ row)).0 m) (i + length (split depth (x ∷ row)).1) p
      go true e true f here on =
          let k = leb-true (depth x) (split depth row).0 f in
          rw (split_here depth x row long k, e, here, le-ltb (split depth row).0 (depth x) k) (omega arith)
      go true e false f here on =
          let k = leb-false (depth x) (split depth row).0 f in
          let l = ltb-true (depth x) m e in
          rw (split_on depth x row long k, here, lt-ltb (split depth row).0 (depth x) k, lt-ltb (split depth row).0 m (omega (arith, k, l))) (omega arith)
      go false e true f here on =
          let k = leb-true (depth x) (split depth row).0 f in
          let l = ltb-false (depth x) m e in
          rw (split_here depth x row long k, e, on, le-ltb (split depth row).0 m (omega (arith, k, l))) refl
      go false e false f here on =
          let k = leb-false (depth x) (split depth row).0 f in
          rw (split_on depth x row long k, on) (ap (λ (j : ℕ). cond (ltb (split depth row).0 m) j p) (omega arith))

  -- Begun at the first entry.
  pick_first : (x : A) (row : List A) (i : ℕ) → 1 ≤ length row → pick (depth x) (suc i) i (x ∷ row) ≡ i + length (split depth (x ∷ row)).1
  unfolding pick split
  pick_first x [] i l = absurd (omega arith)
  pick_first x (y ∷ []) i l = rw (le-ltb (depth x) (depth x) (omega arith)) (omega arith)
  pick_first x (y ∷ z ∷ zs) i l = rw (le-ltb (depth x) (depth x) (omega arith)) (go (leb (depth x) (split depth row).0) refl)
    where
      row : List A
      row = y ∷ z ∷ zs

      on : pick (depth x) (suc i) (suc i) row ≡ cond (ltb (split depth row).0 (depth x)) (suc i + length (split depth row).1) (suc i)
      on = pick_split row (depth x) (suc i) (suc i) (omega arith)

      go : (b : Bool) → leb (depth x) (split depth row).0 ≡ b → pick (depth x) (suc i) (suc i) row ≡ i + length (split depth (x ∷ row)).1
      go true f =
          let k = leb-true (depth x) (split depth row).0 f in
          rw (split_here depth x row (omega arith) k, on, le-ltb (split depth row).0 (depth x) k) (omega arith)
      go false f =
          let k = leb-false (depth x) (split depth row).0 f in
          rw (split_on depth x row (omega arith) k, on, lt-ltb (split depth row).0 (depth x) k) (omega arith)

-- The place and the number of entries tried are those of the definition.
abbrev pub Answer : List ℕ → ℕ → ℕ → ℕ → ℕ → Type 0
Answer ds from to at n = (at ≡ from + quick_place itself (slice from to ds)) × (n ≡ tried itself (last_depth itself 0 (slice from to ds)) (slice from to ds))

-- The search of the depths from one place up to another has come to i; the least so far is before the place at; c is the last.
pub record Trying (ds : List ℕ) (from to c i at least : ℕ) : Type 0 where
  pub low : from ≤ i
  pub high : i < to
  pub within : to ≤ length ds
  pub met : meets itself c (slice from to ds) ≡ meets itself c (slice i to ds)
  pub count : tried itself c (slice from to ds) ≡ (i - from) + tried itself c (slice i to ds)
  pub place : from + length (split itself (slice from to ds)).1 ≡ pick itself least at i (slice i to ds)

module _ (ds : List ℕ) (from to : ℕ) where
  -- At the first entry.
  pub trying_begun : (c least : ℕ) → least ≡ get_or ds from 0 → from + 2 ≤ to → to ≤ 319 → length ds ≡ 319 → Trying ds from to c from (from + 1) least
  trying_begun c least is h g full = record {
    low = omega arith;
    high = omega arith;
    within = omega arith;
    met = refl;
    count = omega arith;
    place =
        rw (is, add-one from, slice-cons from to ds 0 (omega arith) (omega arith))
        (sym (pick_first itself (get_or ds from 0) (slice (suc from) to ds) from (omega (arith, length-slice (suc from) to ds (omega arith)))));
  }

  module _ (c i at least : ℕ) (h : Trying ds from to c i at least) (inside : i + 1 < to) (d : ℕ) (is : d ≡ get_or ds i 0) where
    -- Two entries at least are left.
    one : slice (suc i) to ds ≡ get_or ds (suc i) 0 ∷ slice (suc (suc i)) to ds
    one = slice-cons (suc i) to ds 0 (omega arith) h.within

    two : slice i to ds ≡ d ∷ get_or ds (suc i) 0 ∷ slice (suc (suc i)) to ds
    two = slice-cons i to ds 0 h.high h.within ∙ ap₂ (λ (x : ℕ) l. x ∷ l) (sym is) one

    -- It stops here.
    met_here : d ≡ suc c → (meets itself c (slice from to ds) ≡ true) × (tried itself c (slice from to ds) ≡ (i - from) + 1)
    unfolding meets tried
    met_here e = (h.met ∙ rw (two, eq-eqb d (suc c) e) refl, h.count ∙ rw (two, eq-eqb d (suc c) e) refl)

    module _ (far : d ≢ suc c) where
      -- It does not stop: what is left is searched.
      next_met : meets itself c (slice from to ds) ≡ meets itself c (slice (suc i) to ds)
      unfolding meets
      next_met = h.met ∙ rw (two, one, ne_eqb d (suc c) far) refl

      next_count : tried itself c (slice from to ds) ≡ (suc i - from) + tried itself c (slice (suc i) to ds)
      unfolding tried
      next_count = h.count ∙ rw (two, one, ne_eqb d (suc c) far) (omega (arith, h.low))

      -- The entry is shallower than the least so far,
      pub trying_better : d < least → (past : ℕ) → past ≡ i + 1 → Trying ds from to c (i + 1) past d
      unfolding pick
      trying_better l past past_is = rw (past_is, add-one i) (record {
        low = omega (arith, h.low);
        high = omega arith;
        within = h.within;
        met = next_met;
        count = next_count;
        place = h.place ∙ rw (two, one, lt-ltb d least l) refl;
      })

      -- or not.
      pub trying_on : least ≤ d → Trying ds from to c (i + 1) at least
      unfolding pick
      trying_on l = rw (add-one i) (record {
        low = omega (arith, h.low);
        high = omega arith;
        within = h.within;
        met = next_met;
        count = next_count;
        place = h.place ∙ rw (two, one, le-ltb d least l) refl;
      })

  -- What the search gives, where it stops,
  pub trying_met : (i at least : ℕ) (h : Trying ds from to (get_or ds (to - 1) 0) i at least) → i + 1 < to → (d : ℕ) → d ≡ get_or ds i 0
      → d ≡ suc (get_or ds (to - 1) 0) → Answer ds from to (i + 1) (i + 1 - from)
  unfolding quick_place
  trying_met i at least h inside d is m =
      let last = last_slice itself 0 0 ds from to (omega (arith, h.low)) h.within in
      let t = met_here (get_or ds (to - 1) 0) i at least h inside d is m in
      rw (last, t.0, t.1) (omega (arith, h.low), omega (arith, h.low))

  -- and where it does not: all but the last were tried.
  pub trying_all : (i at least : ℕ) (h : Trying ds from to (get_or ds (to - 1) 0) i at least) → i + 1 ≡ to → Answer ds from to at (to - 1 - from)
  unfolding quick_place meets tried pick
  trying_all i at least h e =
      let last = last_slice itself 0 0 ds from to (omega (arith, h.low)) h.within in
      let one : slice i to ds ≡ get_or ds i 0 ∷ [] =
      slice-cons i to ds 0 h.high h.within ∙ ap (λ (k : ℕ). get_or ds i 0 ∷ slice k to ds) (sym (add-one i) ∙ e)
      ∙ ap (λ l. get_or ds i 0 ∷ l) (slice_empty to ds) in
      let none : meets itself (get_or ds (to - 1) 0) (slice from to ds) ≡ false = h.met ∙ rw one refl in
      let place : from + length (split itself (slice from to ds)).1 ≡ at = h.place ∙ rw one refl in
      rw (last, none) (sym place, sym (h.count ∙ rw one (omega (arith, h.low))))
