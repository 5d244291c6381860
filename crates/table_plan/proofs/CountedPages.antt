-- The pages in use, counted page by page. Assumes nothing.
use mathlib.Core.Path.{◌≡◌, refl}
use mathlib.Core.List.{List}
use Prim.Native.Nat.{ℕ, ◌+◌, ◌≤◌}
use native.Mathlib.Omega.{arith}
use native.Mathlib.Numerals.{add-one}
use Rattle.index_table.specs.Layout.{Layout, page_bytes, count_of}
use Rattle.index_table.specs.Pages.{pages_at, sum_to, used_pages}
use Rattle.index_table.proofs.PageRows.{length_refs}

-- None of none.
pub used_none : (L : Layout) (b : List ℕ) → 0 ≡ used_pages 0 (pages_at L b)
unfolding sum_to
used_none L b = refl

module _ (L : Layout) (b : List ℕ) (i used used' k : ℕ) (h : used ≡ used_pages i (pages_at L b)) (read : k ≡ count_of (page_bytes L b i)) where
  -- Page i is in use,
  pub used_more : (k ≡ 0 → ⊥) → used' ≡ used + 1 → used' ≡ used_pages (i + 1) (pages_at L b)
  unfolding sum_to
  used_more n e = rw (add-one i) (omega (arith, length_refs L (page_bytes L b i), n))

  -- or free.
  pub used_same : k ≡ 0 → used' ≡ used → used' ≡ used_pages (i + 1) (pages_at L b)
  unfolding sum_to
  used_same z e = rw (add-one i) (omega (arith, length_refs L (page_bytes L b i)))

-- All are counted.
pub used_all : (L : Layout) (b : List ℕ) (used i P : ℕ) → used ≡ used_pages i (pages_at L b) → i ≤ P → P ≤ i → used ≡ used_pages P (pages_at L b)
used_all L b used i P h l g = let e : i ≡ P = omega arith in rw e at h
