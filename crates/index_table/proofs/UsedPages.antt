-- How many pages are in use: as many as the tree has, and what storing a page changes. Assumes nothing.
use mathlib.Core.Path.{◌≡◌, sym, ap, ◌∙◌}
use mathlib.Core.Logic.{◌⊎◌, inl, inr}
use mathlib.Core.List.{List, [], ◌∷◌, map}
use Prim.Native.Nat.{ℕ, zero, suc, ◌+◌, ◌≤◌, ◌<◌}
use native.Mathlib.Omega.{arith}
use lib.ListN.{length}
use Rattle.page_tree.specs.Rows.{All, sum}
use Rattle.page_tree.specs.Tree.{page_count, pages_of}
use Rattle.index_table.specs.Layout.{Layout, Ref, page_size, store}
use Rattle.index_table.specs.Pages.{Pages, pages_at, node_at, tree_at, root_ref, same, met, met_all, in_use, sum_to, used_pages}
use Rattle.index_table.specs.Soundness.{SoundBelow, SoundPages}
use Rattle.index_table.proofs.PageCounts.{same_cases, sum_to_ext, sum_to_add, sum_to_zero, sum_to_same}
use Rattle.index_table.proofs.Frames.{other_refs}

-- ---- the tree's pages

module _ (nil : ℕ) (L : Layout) (P : ℕ) (b : List ℕ) where
  each : (n : ℕ) → ((x : Ref) → SoundBelow L P n b x → sum_to P (met n (pages_at L b) x) ≡ page_count n (node_at nil n (pages_at L b) x))
      → (row : List Ref) → All (SoundBelow L P n b) row → sum_to P (met_all n (pages_at L b) row) ≡ sum (page_count n) (map (node_at nil n (pages_at L b)) row)
  each n f [] h = sum_to_zero P
  each n f (x ∷ row) h = sum_to_add P (met n (pages_at L b) x) (met_all n (pages_at L b) row) ∙ omega (arith, f x h.0, each n f row h.1)

  -- All pages met below an entry are the pages of what it stands for.
  pub met_count : (n : ℕ) (x : Ref) → SoundBelow L P n b x → sum_to P (met n (pages_at L b) x) ≡ page_count n (node_at nil n (pages_at L b) x)
  unfolding met node_at
  met_count zero x h = sum_to_zero P
  met_count (suc n) x h =
      sum_to_add P (same x.1) (met_all n (pages_at L b) (pages_at L b x.1))
      ∙ omega (arith, sum_to_same P x.1 h.0.number, each n (met_count n) (pages_at L b x.1) h.2)

  -- The pages in use are the tree's.
  pub used_tree : (level root : ℕ) → SoundPages L P b level root → used_pages P (pages_at L b) ≡ pages_of (tree_at nil (pages_at L b) level root)
  used_tree level root h =
      sum_to_ext P (λ q. in_use (pages_at L b q)) (met (suc level) (pages_at L b) (root_ref root)) (λ q l. sym (h.once q)) ∙ met_count (suc level) (root_ref root) h.below

-- ---- one page changes

-- Two sums that differ at one place.
pub sum_to_change : (n p : ℕ) (f g : ℕ → ℕ) → p < n → ((q : ℕ) → (p ≡ q → ⊥) → f q ≡ g q) → sum_to n f + g p ≡ sum_to n g + f p
unfolding sum_to
sum_to_change zero p f g h e = absurd (omega arith)
sum_to_change (suc k) p f g h e = go (same_cases p k) (λ l. sum_to_change k p f g l e)
  where
    go : (p ≡ k) ⊎ ((p ≡ k → ⊥) × (same p k ≡ 0)) → (p < k → sum_to k f + g p ≡ sum_to k g + f p) → sum_to k f + f k + g p ≡ sum_to k g + g k + f p
    go (inl i) r = rw i (omega (arith, sum_to_ext k f g (λ q l. e q (λ z. omega arith))))
    go (inr n) r = omega (arith, e k n.0, r (let m = n.0 in omega arith))

-- A page that is stored changes the number of pages in use by itself.
pub used_store : (L : Layout) (P : ℕ) (b : List ℕ) (p : ℕ) (page : List ℕ) → length page ≡ page_size L → p < P
    → used_pages P (pages_at L (store L b p page)) + in_use (pages_at L b p) ≡ used_pages P (pages_at L b) + in_use (pages_at L (store L b p page) p)
used_store L P b p page sized h =
    sum_to_change P p (λ q. in_use (pages_at L (store L b p page) q)) (λ q. in_use (pages_at L b q)) h (λ q n. ap (λ (l : List Ref). in_use l) (other_refs L b p page sized q n))

-- No more pages are in use than there are.
pub used_few : (P : ℕ) (pages : Pages) → used_pages P pages ≤ P
unfolding sum_to
used_few zero pages = omega arith
used_few (suc P) pages = omega (arith, used_few P pages)
