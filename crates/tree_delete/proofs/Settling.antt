-- A page after the change of its row: stored, or freed where nothing is left. Assumes nothing.
use mathlib.Core.Path.{◌≡◌, refl, sym, ap, ◌∙◌, subst}
use mathlib.Core.Logic.{◌⊎◌, inl, inr}
use mathlib.Core.List.{List, [], ◌∷◌}
use Prim.Native.Nat.{ℕ, suc, ◌+◌, ◌≤◌, ◌<◌}
use native.Mathlib.Omega.{arith}
use lib.ListN.{length, take, length-replicate}
use Rattle.page_tree.specs.Rows.{All}
use Rattle.page_tree.specs.Numbered.{Numbered, kept_under}
use Rattle.index_table.specs.Layout.{Layout, layout_of, Ref, Within, Fitting, page_size, page_bytes, level_of, refs_of}
use Rattle.index_table.specs.Pages.{pages_at, numbered_at, same, met, met_all, in_use}
use Rattle.index_table.specs.Soundness.{Cleared}
use Rattle.index_table.proofs.PageBytes.{page_stored, other_page, length_store, front_store}
use Rattle.index_table.proofs.PageRows.{length_page_of, refs_page_of}
use Rattle.index_table.proofs.PageCounts.{same_self, same_cases}
use Rattle.index_table.proofs.Frames.{UnchangedRow, unchanged_row, Keeps}
use Rattle.index_write.specs.Standing.{Owned}
use Rattle.index_write.proofs.StoredRows.{zeros_refs, zeros_cleared, row_page_head, page_of_level, page_of_cleared}
use Rattle.tree_delete.specs.Keeping.{numbers_at, Linked, Kept}
use Rattle.tree_delete.specs.Rows.{settled_page, settled, entry_for}
use Rattle.tree_delete.proofs.Frames.{linked_row}

-- ---- one page

module _ (e n : ℕ) (b : List ℕ) (p : ℕ) (row : List Ref) (within : Within (layout_of e) b p) (few : length row ≤ e) (fit : Fitting 2 row) where
  sized : (l : List Ref) → length l ≤ e → length (settled_page e n l) ≡ page_size (layout_of e)
  sized [] h = length-replicate {A = ℕ} (page_size (layout_of e)) 0
  sized (x ∷ l) h = length_page_of (layout_of e) (n ∷ length (x ∷ l) ∷ []) (x ∷ l) refl h

  -- The page's bytes,
  pub settled_bytes : page_bytes (layout_of e) (settled e n b p row) p ≡ settled_page e n row
  settled_bytes = page_stored (layout_of e) b p (settled_page e n row) (sized row few) within

  -- those of every other,
  pub settled_other : (q : ℕ) → (p ≡ q → ⊥) → page_bytes (layout_of e) (settled e n b p row) q ≡ page_bytes (layout_of e) b q
  settled_other q ne = other_page (layout_of e) b p (settled_page e n row) (sized row few) q ne

  read_back : (l : List Ref) → Fitting 2 l → refs_of (layout_of e) (settled_page e n l) ≡ l
  read_back [] f = zeros_refs (layout_of e) (page_size (layout_of e))
  read_back (x ∷ l) f = refs_page_of (layout_of e) (n ∷ length (x ∷ l) ∷ []) (x ∷ l) refl (omega arith) refl f

  -- the row that is read,
  pub settled_refs : pages_at (layout_of e) (settled e n b p row) p ≡ row
  settled_refs = ap (refs_of (layout_of e)) settled_bytes ∙ read_back row fit

  page_cleared : (l : List Ref) → Cleared (layout_of e) (settled_page e n l)
  page_cleared [] = zeros_cleared (layout_of e) (page_size (layout_of e))
  page_cleared (x ∷ l) = page_of_cleared (row_page_head e n (x ∷ l)) (omega arith)

  -- and what is not in use is zero.
  pub settled_cleared : (q : ℕ) → Cleared (layout_of e) (page_bytes (layout_of e) b q) → Cleared (layout_of e) (page_bytes (layout_of e) (settled e n b p row) q)
  settled_cleared q c = go (same_cases p q)
    where
      go : (p ≡ q) ⊎ ((p ≡ q → ⊥) × (same p q ≡ 0)) → Cleared (layout_of e) (page_bytes (layout_of e) (settled e n b p row) q)
      go (inl s) = subst (λ (r : ℕ). Cleared (layout_of e) (page_bytes (layout_of e) (settled e n b p row) r)) s (rw settled_bytes (page_cleared row))
      go (inr s) = rw (settled_other q s.0) c

  -- The length and the header stay.
  pub settled_long : length (settled e n b p row) ≡ length b
  settled_long = length_store (layout_of e) b p (settled_page e n row)

  -- So does what stands before the pages.
  pub settled_front : take 16 (settled e n b p row) ≡ take 16 b
  settled_front = front_store (layout_of e) b p (settled_page e n row)

-- ---- the row below x is shortened, and its page settled

module _ (e P n : ℕ) (b : List ℕ) (x : Ref) (number : x.1 < P) (own : Owned (layout_of e) b (met (suc n) (pages_at (layout_of e) b) x)) (b₁ : List ℕ) (row : List Ref)
    (h : Kept (layout_of e) P n b (met_all n (pages_at (layout_of e) b) (pages_at (layout_of e) b x.1)) b₁ row) (within : Within (layout_of e) b₁ x.1) (few : length row ≤ e) (fit : Fitting 2 row) where
  abbrev L : Layout
  L = layout_of e

  unfoldable b₂ : List ℕ
  b₂ = settled e n b₁ x.1 row

  opened : (q : ℕ) → met (suc n) (pages_at L b) x q ≡ same x.1 q + met_all n (pages_at L b) (pages_at L b x.1) q
  unfolding met
  opened q = refl

  apart : (met_all n (pages_at L b) (pages_at L b x.1) x.1 ≡ 0) × (met_all n (pages_at L b₁) row x.1 ≡ 0) × (in_use (pages_at L b x.1) ≡ 1)
  apart =
      let o = own x.1 in
      let m = opened x.1 in
      let s = same_self x.1 in
      let p = h.pages x.1 in
      (omega arith, omega arith, omega arith)

  other : (q : ℕ) → (x.1 ≡ q → ⊥) → page_bytes L b₂ q ≡ page_bytes L b₁ q
  unfolding b₂
  other q ne = settled_other e n b₁ x.1 row within few fit q ne

  keeps : Keeps L b₁ b₂ (met_all n (pages_at L b₁) row)
  keeps q l = other q (λ z. let l' : 1 ≤ met_all n (pages_at L b₁) row x.1 = subst (λ (t : ℕ). 1 ≤ met_all n (pages_at L b₁) row t) (sym z) l in omega (arith, l', apart.1))

  row_stays : UnchangedRow L n b₁ b₂ row
  row_stays = unchanged_row L b₁ b₂ n row keeps

  other_used : (q : ℕ) → (x.1 ≡ q → ⊥) → in_use (pages_at L b₂ q) ≡ in_use (pages_at L b₁ q)
  other_used q ne = ap (λ (l : List ℕ). in_use (refs_of L l)) (other q ne)

  here : pages_at L b₂ x.1 ≡ row
  unfolding b₂
  here = settled_refs e n b₁ x.1 row within few fit

  here_used : in_use (pages_at L b₂ x.1) ≡ in_use row
  here_used = ap in_use here

  -- What the parent's entry meets: the page, if it is kept, and what is met below the row.
  abbrev page_met : List Ref → ℕ → ℕ
  page_met [] q = 0
  page_met (y ∷ l) q = same x.1 q

  meets : (l : List Ref) → row ≡ l → (q : ℕ) → met_all (suc n) (pages_at L b₂) (entry_for x.1 l) q ≡ page_met l q + met_all n (pages_at L b₁) row q
  unfolding met
  meets [] z q = rw z (omega arith)
  meets (y ∷ l) z q = rw here (omega (arith, row_stays.meets q))

  met_here : (l : List Ref) → page_met l x.1 ≡ in_use l
  met_here [] = omega arith
  met_here (y ∷ l) = same_self x.1 ∙ omega arith

  met_other : (l : List Ref) (q : ℕ) → same x.1 q ≡ 0 → page_met l q ≡ 0
  met_other [] q z = refl
  met_other (y ∷ l) q z = z

  pages : (l : List Ref) → row ≡ l → (q : ℕ) → met_all (suc n) (pages_at L b₂) (entry_for x.1 l) q + in_use (pages_at L b q) ≡ met (suc n) (pages_at L b) x q + in_use (pages_at L b₂ q)
  pages l z q = go (same_cases x.1 q)
    where
      go : (x.1 ≡ q) ⊎ ((x.1 ≡ q → ⊥) × (same x.1 q ≡ 0)) → met_all (suc n) (pages_at L b₂) (entry_for x.1 l) q + in_use (pages_at L b q) ≡ met (suc n) (pages_at L b) x q + in_use (pages_at L b₂ q)
      go (inl s) =
          subst (λ (r : ℕ). met_all (suc n) (pages_at L b₂) (entry_for x.1 l) r + in_use (pages_at L b r) ≡ met (suc n) (pages_at L b) x r + in_use (pages_at L b₂ r)) s
          (let u : in_use row ≡ in_use l = ap in_use z in omega (arith, meets l z x.1, met_here l, same_self x.1, opened x.1, apart.0, apart.1, apart.2, here_used, u))
      go (inr s) = omega (arith, meets l z q, met_other l q s.1, opened q, s.1, h.pages q, other_used q s.0)

  unchanged_page : (q : ℕ) → met (suc n) (pages_at L b) x q ≡ 0 → page_bytes L b₂ q ≡ page_bytes L b q
  unchanged_page q z = other q ne ∙ h.same q (omega (arith, opened q))
    where
      ne : x.1 ≡ q → ⊥
      ne s = let z' : met (suc n) (pages_at L b) x x.1 ≡ 0 = subst (λ (r : ℕ). met (suc n) (pages_at L b) x r ≡ 0) (sym s) z in omega (arith, z', opened x.1, same_self x.1)

  here_level : (y : Ref) (l : List Ref) → row ≡ y ∷ l → level_of (page_bytes L b₂ x.1) ≡ n
  unfolding b₂
  here_level y l z = ap level_of (settled_bytes e n b₁ x.1 row within few fit ∙ ap (settled_page e n) z) ∙ page_of_level (row_page_head e n (y ∷ l))

  linked : (l : List Ref) → row ≡ l → All (Linked L P (suc n) b₂) (entry_for x.1 l)
  linked [] z = tt
  linked (y ∷ l) z = (
    (
      record { number = number; level = here_level y l z; some = rw (here, z) (omega arith); few = rw here few },
      rw (here, z) refl,
      rw here (linked_row L P n b₁ b₂ row keeps h.linked),
    ),
    tt,
  )

  numbers : (l : List Ref) → row ≡ l → numbers_at (suc n) (pages_at L b₂) (entry_for x.1 l) ≡ kept_under x.1 (numbers_at n (pages_at L b₁) l)
  unfolding numbered_at
  numbers [] z = refl
  numbers (y ∷ l) z = ap (λ (t : List (Numbered n)). (x.1, t) ∷ []) (rw here (row_stays.numbereds 65535 ∙ ap (numbers_at n (pages_at L b₁)) z))

  -- The parent's entry stands for what x stood for.
  pub settled_kept : Kept (layout_of e) P (suc n) b (met (suc n) (pages_at (layout_of e) b) x) (settled e n b₁ x.1 row) (entry_for x.1 row)
  unfolding b₂
  settled_kept = record {
    long = settled_long e n b₁ x.1 row within few fit ∙ h.long;
    front = settled_front e n b₁ x.1 row within few fit ∙ h.front;
    pages = pages row refl;
    same = unchanged_page;
    cleared = λ q c. settled_cleared e n b₁ x.1 row within few fit q (h.cleared q c);
    linked = linked row refl;
  }

  -- What is read there.
  pub settled_numbers : numbers_at (suc n) (pages_at (layout_of e) (settled e n b₁ x.1 row)) (entry_for x.1 row) ≡ kept_under x.1 (numbers_at n (pages_at (layout_of e) b₁) row)
  unfolding b₂
  settled_numbers = numbers row refl
