-- Rows stored in pages one after the other: one page, then more in free pages. Assumes nothing.
use mathlib.Core.Path.{◌≡◌, refl, ap, ◌∙◌}
use mathlib.Core.Logic.{◌⊎◌, inl, inr}
use mathlib.Core.List.{List, [], ◌∷◌, ◌++◌, map, map-append}
use Prim.Native.Nat.{ℕ, suc, ◌+◌, ◌≤◌, ◌<◌}
use native.Mathlib.Omega.{arith}
use lib.ListN.{length, take, length-append}
use Rattle.leaf_list.proofs.Lists.{all_append, all_weaker}
use Rattle.page_tree.specs.Rows.{All, sum, last_depth}
use Rattle.page_tree.proofs.ListLaws.{sum_append}
use Rattle.page_tree.specs.Row.{depth_of}
use Rattle.index_table.specs.Layout.{Layout, layout_of, Ref, page_size, page_start, Within, page_bytes, Fitting, row_page, store}
use Rattle.index_table.specs.Pages.{pages_at, same, in_use, used_pages}
use Rattle.index_table.specs.Soundness.{Cleared}
use Rattle.index_table.proofs.PageBytes.{within_table, length_store, front_store, page_stored, other_page}
use Rattle.index_table.proofs.PageCounts.{same_self, same_cases}
use Rattle.index_table.proofs.PageRows.{length_page_of}
use Rattle.index_table.proofs.Frames.{stored_refs}
use Rattle.index_table.proofs.UsedPages.{used_store}
use Rattle.index_write.proofs.StoredRows.{row_page_head, page_of_level, page_of_cleared}
use Rattle.table_insert.specs.Placing.{Each, Holding, owned, Placed}

-- ---- lists element by element

-- Two pairs of lists, one behind the other.
pub each_append : {A B : Type 0} (R : A → B → Type 0) (xs xs' : List A) (ys ys' : List B) → Each R xs ys → Each R xs' ys' → Each R (xs ++ xs') (ys ++ ys')
each_append R [] xs' [] ys' h g = g
each_append R [] xs' (y ∷ ys) ys' h g = absurd h
each_append R (x ∷ xs) xs' [] ys' h g = absurd h
each_append R (x ∷ xs) xs' (y ∷ ys) ys' h g = (h.0, each_append R xs xs' ys ys' h.1 g)

-- A weaker relation.
pub each_weaker : {A B : Type 0} (R S : A → B → Type 0) (xs : List A) (ys : List B) → ((x : A) (y : B) → R x y → S x y) → Each R xs ys → Each S xs ys
each_weaker R S [] [] f h = tt
each_weaker R S [] (y ∷ ys) f h = absurd h
each_weaker R S (x ∷ xs) [] f h = absurd h
each_weaker R S (x ∷ xs) (y ∷ ys) f h = (f x y h.0, each_weaker R S xs ys f h.1)

-- They are of one length.
pub each_length : {A B : Type 0} (R : A → B → Type 0) (xs : List A) (ys : List B) → Each R xs ys → length xs ≡ length ys
each_length R [] [] h = refl
each_length R [] (y ∷ ys) h = absurd h
each_length R (x ∷ xs) [] h = absurd h
each_length R (x ∷ xs) (y ∷ ys) h = ap suc (each_length R xs ys h.1)

-- ---- one row in one page

-- A page that keeps its bytes holds what it held.
pub holding_kept : {L : Layout} {P n : ℕ} {b b' : List ℕ} {x : Ref} {row : List Ref} → page_bytes L b' x.1 ≡ page_bytes L b x.1 → Holding L P n b x row → Holding L P n b' x row
holding_kept e h = record { number = h.number; level = rw e h.level; refs = rw e h.refs; some = h.some; depth = h.depth }

module _ (e P n : ℕ) (b : List ℕ) (p : ℕ) (row : List Ref) (few : length row ≤ e) (some : 1 ≤ length row) (fit : Fitting 2 row) (table : page_start (layout_of e) P ≤ length b) (below : p < P) where
  abbrev L : Layout
  L = layout_of e

  abbrev after : List ℕ
  after = store L b p (row_page e n row)

  within : Within L b p
  within = within_table L P p b table below

  sized : length (row_page e n row) ≡ page_size L
  sized = length_page_of L (n ∷ length row ∷ []) row refl few

  bytes : page_bytes L after p ≡ row_page e n row
  bytes = page_stored L b p (row_page e n row) sized within

  refs : pages_at L after p ≡ row
  refs = stored_refs L b p (n ∷ length row ∷ []) row refl (omega arith) refl few fit within

  used : in_use (pages_at L after p) ≡ 1
  used = let l : length (pages_at L after p) ≡ length row = ap length refs in omega arith

  other : (q : ℕ) → (p ≡ q → ⊥) → page_bytes L after q ≡ page_bytes L b q
  other q h = other_page L b p (row_page e n row) sized q h

  -- The page holds the row.
  pub one_holds : (d : ℕ) → d ≡ last_depth depth_of 0 row → Holding L P n after (d, p) row
  one_holds d h = record { number = below; level = rw bytes (page_of_level (row_page_head e n row)); refs = refs; some = some; depth = h }

  -- The page is in use then, and every other page as before.
  pub one_pages : (q : ℕ) → same p q + in_use (pages_at L b q) ≡ owned L b p q + in_use (pages_at L after q)
  one_pages q = go (same_cases p q)
    where
      go : (p ≡ q) ⊎ ((p ≡ q → ⊥) × (same p q ≡ 0)) → same p q + in_use (pages_at L b q) ≡ owned L b p q + in_use (pages_at L after q)
      go (inl i) = rw (← i) (omega (arith, used, same_self p))
      go (inr i) = rw (other q i.0) (omega (arith, i.1))

  -- No page is freed.
  pub one_more : (q : ℕ) → in_use (pages_at L b q) ≤ in_use (pages_at L after q)
  one_more q = omega (arith, one_pages q)

  -- Every other page keeps its bytes.
  pub one_kept : (q : ℕ) → owned L b p q ≡ 0 → in_use (pages_at L b q) ≡ in_use (pages_at L after q) → page_bytes L after q ≡ page_bytes L b q
  one_kept q z u = go (same_cases p q)
    where
      go : (p ≡ q) ⊎ ((p ≡ q → ⊥) × (same p q ≡ 0)) → page_bytes L after q ≡ page_bytes L b q
      go (inl i) = absurd (let s : same p q ≡ 1 = rw (← i) (same_self p) in let v : in_use (pages_at L after q) ≡ 1 = rw (← i) used in omega arith)
      go (inr i) = other q i.0

  -- Cleared pages are cleared then.
  pub one_cleared : (q : ℕ) → Cleared L (page_bytes L b q) → Cleared L (page_bytes L after q)
  one_cleared q h = go (same_cases p q)
    where
      go : (p ≡ q) ⊎ ((p ≡ q → ⊥) × (same p q ≡ 0)) → Cleared L (page_bytes L after q)
      go (inl i) = rw (← i, bytes) (page_of_cleared (row_page_head e n row) some)
      go (inr i) = rw (other q i.0) h

  -- How many pages are in use then.
  pub one_total : used_pages P (pages_at L after) + in_use (pages_at L b p) ≡ used_pages P (pages_at L b) + 1
  one_total = omega (arith, used_store L P b p (row_page e n row) sized below, used)

  -- The table is as long as before.
  pub one_long : length after ≡ length b
  one_long = length_store L b p (row_page e n row)

  -- What stands before the pages stays.
  pub one_front : take L.front after ≡ take L.front b
  one_front = front_store L b p (row_page e n row)

-- ---- rows in free pages

-- The rows stand in pages of level n that were free.
pub record PlacedFree (L : Layout) (P n : ℕ) (b b' : List ℕ) (refs : List Ref) (rows : List (List Ref)) : Type 0 where
  pub long : length b' ≡ length b
  pub front : take L.front b' ≡ take L.front b
  pub pages : (q : ℕ) → sum (λ (x : Ref). same x.1 q) refs + in_use (pages_at L b q) ≡ in_use (pages_at L b' q)
  pub kept : (q : ℕ) → in_use (pages_at L b q) ≡ in_use (pages_at L b' q) → page_bytes L b' q ≡ page_bytes L b q
  pub cleared : (q : ℕ) → Cleared L (page_bytes L b q) → Cleared L (page_bytes L b' q)
  pub holds : Each (Holding L P n b') refs rows
  pub free : All (λ q. in_use (pages_at L b q) ≡ 0) (map (λ (x : Ref). x.1) refs)
  pub total : used_pages P (pages_at L b') ≡ used_pages P (pages_at L b) + length rows

-- No rows.
pub free_none : (L : Layout) (P n : ℕ) (b : List ℕ) → PlacedFree L P n b b [] []
free_none L P n b = record { long = refl; front = refl; pages = λ q. omega arith; kept = λ q u. refl; cleared = λ q h. h; holds = tt; free = tt; total = omega arith }

-- One more, in a page that is free now.
pub free_more : {e P n : ℕ} {b b₁ : List ℕ} {refs : List Ref} {rows : List (List Ref)} → PlacedFree (layout_of e) P n b b₁ refs rows
    → (p : ℕ) (row : List Ref) → length row ≤ e → 1 ≤ length row → Fitting 2 row → page_start (layout_of e) P ≤ length b → p < P → length (pages_at (layout_of e) b₁ p) ≡ 0
    → (d : ℕ) → d ≡ last_depth depth_of 0 row → PlacedFree (layout_of e) P n b (store (layout_of e) b₁ p (row_page e n row)) (refs ++ (d, p) ∷ []) (rows ++ row ∷ [])
free_more {e} {P} {n} {b} {b₁} {refs} {rows} h p row few some fit table below free d last = record {
  long = one_long e P n b₁ p row few some fit table₁ below ∙ h.long;
  front = one_front e P n b₁ p row few some fit table₁ below ∙ h.front;
  pages = λ q. omega (arith, sum_append (λ (x : Ref). same x.1 q) refs ((d, p) ∷ []), h.pages q, step q, unowned q);
  kept = λ q u.
      one_kept e P n b₁ p row few some fit table₁ below q (unowned q) (omega (arith, h.pages q, step q, unowned q))
      ∙ h.kept q (omega (arith, h.pages q, step q, unowned q));
  cleared = λ q c. one_cleared e P n b₁ p row few some fit table₁ below q (h.cleared q c);
  holds =
      each_append (Holding (layout_of e) P n (store (layout_of e) b₁ p (row_page e n row))) refs ((d, p) ∷ []) rows (row ∷ [])
      (each_weaker (Holding (layout_of e) P n b₁) (Holding (layout_of e) P n (store (layout_of e) b₁ p (row_page e n row))) refs rows stays h.holds)
      (one_holds e P n b₁ p row few some fit table₁ below d last, tt);
  free = rw (map-append (λ (x : Ref). x.1) refs ((d, p) ∷ [])) (all_append (λ q. in_use (pages_at (layout_of e) b q) ≡ 0) (map (λ (x : Ref). x.1) refs) (p ∷ []) h.free (omega (arith, h.pages p), tt));
  total = omega (arith, h.total, one_total e P n b₁ p row few some fit table₁ below, length-append rows (row ∷ []));
}
  where
    table₁ : page_start (layout_of e) P ≤ length b₁
    table₁ = omega (arith, h.long)

    step : (q : ℕ) → same p q + in_use (pages_at (layout_of e) b₁ q) ≡ owned (layout_of e) b₁ p q + in_use (pages_at (layout_of e) (store (layout_of e) b₁ p (row_page e n row)) q)
    step q = one_pages e P n b₁ p row few some fit table₁ below q

    unowned : (q : ℕ) → owned (layout_of e) b₁ p q ≡ 0
    unowned q = go (same_cases p q)
      where
        go : (p ≡ q) ⊎ ((p ≡ q → ⊥) × (same p q ≡ 0)) → owned (layout_of e) b₁ p q ≡ 0
        go (inl i) = rw (← i) (omega arith)
        go (inr i) = omega (arith, i.1)

    stays : (x : Ref) (l : List Ref) → Holding (layout_of e) P n b₁ x l → Holding (layout_of e) P n (store (layout_of e) b₁ p (row_page e n row)) x l
    stays x l k =
        let u : length (pages_at (layout_of e) b₁ x.1) ≡ length l = ap length k.refs in
        let s = k.some in
        holding_kept (one_kept e P n b₁ p row few some fit table₁ below x.1 (unowned x.1) (omega (arith, one_more e P n b₁ p row few some fit table₁ below x.1))) k

-- ---- the first row in the own page, the others in free pages

-- One page of its own, then free pages.
pub own_then_free : {e P n : ℕ} {b b' : List ℕ} {refs : List Ref} {rows : List (List Ref)} (own : ℕ) (row : List Ref) → length row ≤ e → 1 ≤ length row → Fitting 2 row
    → page_start (layout_of e) P ≤ length b → own < P → (d : ℕ) → d ≡ last_depth depth_of 0 row
    → PlacedFree (layout_of e) P n (store (layout_of e) b own (row_page e n row)) b' refs rows → Placed (layout_of e) P n b own b' ((d, own) ∷ refs) (row ∷ rows)
own_then_free {e} {P} {n} {b} {b'} {refs} {rows} own row few some fit table below d last h = record {
  long = h.long ∙ one_long e P n b own row few some fit table below;
  front = h.front ∙ one_front e P n b own row few some fit table below;
  pages = λ q. omega (arith, h.pages q, step q);
  more = λ q. omega (arith, h.pages q, step q);
  kept = λ q z u.
      h.kept q (omega (arith, h.pages q, step q))
      ∙ one_kept e P n b own row few some fit table below q z (omega (arith, h.pages q, step q));
  cleared = λ q c. h.cleared q (one_cleared e P n b own row few some fit table below q c);
  holds = (holding_kept (h.kept own (omega (arith, h.pages own, one_used))) (one_holds e P n b own row few some fit table below d last), h.holds);
  fresh = map (λ (x : Ref). x.1) refs;
  numbers = refl;
  free = all_weaker (λ q. in_use (pages_at (layout_of e) (store (layout_of e) b own (row_page e n row)) q) ≡ 0) (λ q. pages_at (layout_of e) b q ≡ []) (map (λ (x : Ref). x.1) refs) (λ q z. none (pages_at (layout_of e) b q) (omega (arith, z, step q))) h.free;
  total = omega (arith, h.total, one_total e P n b own row few some fit table below);
}
  where
    step : (q : ℕ) → same own q + in_use (pages_at (layout_of e) b q) ≡ owned (layout_of e) b own q + in_use (pages_at (layout_of e) (store (layout_of e) b own (row_page e n row)) q)
    step q = one_pages e P n b own row few some fit table below q

    one_used : in_use (pages_at (layout_of e) (store (layout_of e) b own (row_page e n row)) own) ≡ 1
    one_used = used e P n b own row few some fit table below

    none : (l : List Ref) → in_use l ≡ 0 → l ≡ []
    none [] z = refl
    none (x ∷ l) z = absurd (omega arith)
