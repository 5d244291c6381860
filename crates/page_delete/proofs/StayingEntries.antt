-- The entries of a page of level 0 that stay where dummies go from the right. Assumes nothing.
use mathlib.Core.Path.{◌≡◌, refl, sym, ap, ap₂, ◌∙◌}
use mathlib.Core.List.{List, [], ◌∷◌, ◌++◌, append_assoc, map-append}
use Prim.Native.Nat.{ℕ, zero, suc, ◌+◌, ◌-◌, ◌≤◌, ◌<◌}
use native.Mathlib.Omega.{arith}
use lib.ListN.{length, take}
use borrow.Author.Tests.{lt-ltb, le-ltb, eq-eqb, ne_eqb}
use Rattle.leaf_list.specs.Entries.{Entry}
use Rattle.page_tree.specs.declared.Unwind.{Unwind}
use Rattle.page_tree.specs.declared.Unwind.TheVariants.{Idle, Clear}
use Rattle.page_tree.specs.OffPages.{Left, step_entry, sweep}
use Rattle.page_tree.proofs.WalkPlaces.{sweep_append}
use Rattle.index_table.specs.Layout.{layout_of, Ref, page_bytes, ref_at}
use Rattle.index_table.specs.Pages.{pages_at, leaf_of}
use Rattle.index_table.proofs.PageRows.{length_refs, take_refs}
use Rattle.page_delete.specs.OnePage.{leaf_row, asked_before, Staying}

-- ---- one entry on the way back

-- The last entry of a row is passed.
pub sweep_last : (s : Unwind) (xs : List Ref) (x : Ref) (ys : List Entry) (o : Left Entry) → step_entry s (leaf_of 65535 x) ≡ o
    → sweep step_entry s (leaf_row (xs ++ x ∷ [])) ys ≡ sweep step_entry o.1 (leaf_row xs) (o.0 ++ ys)
sweep_last s xs x ys o e =
    ap (λ (l : List Entry). sweep step_entry s l ys) (map-append (leaf_of 65535) xs (x ∷ [])) ∙ sweep_append step_entry s (leaf_row xs) (leaf_of 65535 x ∷ []) ys
    ∙ ap (λ (r : Left Entry). sweep step_entry r.1 (leaf_row xs) (r.0 ++ ys)) e

-- Nothing is asked: all stay.
pub idle_leaves : (xs : List Entry) (ys : List Entry) → sweep step_entry Idle xs ys ≡ (xs ++ ys, Idle)
idle_leaves [] ys = refl
idle_leaves (x ∷ xs) ys = rw (idle_leaves xs ys) refl

-- A deeper dummy goes.
dummy_goes : (g : ℕ) (x : Ref) → x.1 ≡ 65535 → g < x.0 → step_entry (Clear g) (leaf_of 65535 x) ≡ ([], Clear g)
dummy_goes g x z l = rw (eq-eqb x.1 65535 z, lt-ltb g x.0 l) refl

-- A live entry stays,
live_stays : (g : ℕ) (x : Ref) → (x.1 ≡ 65535 → ⊥) → step_entry (Clear g) (leaf_of 65535 x) ≡ (leaf_of 65535 x ∷ [], Idle)
live_stays g x n = rw (ne_eqb x.1 65535 n) refl

-- and so does a dummy that is not deeper.
shallow_stays : (g : ℕ) (x : Ref) → x.1 ≡ 65535 → x.0 ≤ g → step_entry (Clear g) (leaf_of 65535 x) ≡ (leaf_of 65535 x ∷ [], Idle)
shallow_stays g x z l = rw (eq-eqb x.1 65535 z, le-ltb g x.0 l) refl

-- ---- the entries that stay

-- The entries from i up to n go.
pub record Going (row : List Ref) (n g i : ℕ) : Type 0 where
  pub few : i ≤ n
  pub gone : (ys : List Entry) → sweep step_entry (Clear g) (leaf_row (take n row)) ys ≡ sweep step_entry (Clear g) (leaf_row (take i row)) ys

-- An entry that stays is the last that is asked.
asked_some : (g r : ℕ) → 1 ≤ r → asked_before g r ≡ Idle
asked_some g zero l = absurd (omega arith)
asked_some g (suc r) l = refl

module _ (e : ℕ) (b : List ℕ) (p : ℕ) {n g i : ℕ} (h : Going (pages_at (layout_of e) b p) n g i) (some : 0 < i) (inside : n ≤ length (pages_at (layout_of e) b p)) where
  abbrev page : List ℕ
  page = page_bytes (layout_of e) b p

  abbrev x : Ref
  x = ref_at (layout_of e) page (i - 1)

  last_is : take i (pages_at (layout_of e) b p) ≡ take (i - 1) (pages_at (layout_of e) b p) ++ x ∷ []
  last_is =
      ap (λ (k : ℕ). take k (pages_at (layout_of e) b p)) (let z : i ≡ suc (i - 1) = omega arith in z)
      ∙ take_refs (layout_of e) page (i - 1) (let f = h.few in omega (arith, f, length_refs (layout_of e) page))

  -- One more goes.
  pub going_more : {q d : ℕ} → q ≡ x.1 → q ≡ 65535 → d ≡ x.0 → g < d → Going (pages_at (layout_of e) b p) n g (i - 1)
  going_more q z d l = record {
    few = (let f = h.few in omega (arith, f));
    gone = λ ys. h.gone ys ∙ ap (λ (r : List Ref). sweep step_entry (Clear g) (leaf_row r) ys) last_is
        ∙ sweep_last (Clear g) (take (i - 1) (pages_at (layout_of e) b p)) x ys ([], Clear g) (dummy_goes g x (sym q ∙ z) (omega (arith, d, l)));
  }

  stays : step_entry (Clear g) (leaf_of 65535 x) ≡ (leaf_of 65535 x ∷ [], Idle) → Staying (pages_at (layout_of e) b p) n g (i - 1 + 1)
  stays s = rw (let z : i - 1 + 1 ≡ i = omega (arith, some) in z) (record {
    few = h.few;
    swept = λ ys.
        h.gone ys ∙ ap (λ (r : List Ref). sweep step_entry (Clear g) (leaf_row r) ys) last_is
        ∙ sweep_last (Clear g) (take (i - 1) (pages_at (layout_of e) b p)) x ys (leaf_of 65535 x ∷ [], Idle) s
        ∙ idle_leaves (leaf_row (take (i - 1) (pages_at (layout_of e) b p))) (leaf_of 65535 x ∷ ys)
        ∙ ap₂ (λ (r : List Entry) (s : Unwind). (r, s))
        (sym (append_assoc (leaf_row (take (i - 1) (pages_at (layout_of e) b p))) (leaf_of 65535 x ∷ []) ys)
        ∙ ap (λ (r : List Entry). r ++ ys) (sym (map-append (leaf_of 65535) (take (i - 1) (pages_at (layout_of e) b p)) (x ∷ [])) ∙ ap leaf_row (sym last_is)))
        (sym (asked_some g i (omega arith)));
  })

  -- A live entry stays.
  pub going_live : {q : ℕ} → q ≡ x.1 → (q ≡ 65535 → ⊥) → Staying (pages_at (layout_of e) b p) n g (i - 1 + 1)
  going_live q n = stays (live_stays g x (λ z. n (q ∙ z)))

  -- A dummy that is not deeper stays.
  pub going_shallow : {q d : ℕ} → q ≡ x.1 → q ≡ 65535 → d ≡ x.0 → d ≤ g → Staying (pages_at (layout_of e) b p) n g (i - 1 + 1)
  going_shallow q z d l = stays (shallow_stays g x (sym q ∙ z) (omega (arith, d, l)))
