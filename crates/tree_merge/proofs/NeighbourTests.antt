-- The neighbours of an entry's page, as the code tries them: first the left one, then the right one. Assumes nothing.
use mathlib.Core.Path.{◌≡◌, refl, sym, ap, ◌∙◌, subst}
use mathlib.Core.Bool.{Bool, true, false, true≢false}
use mathlib.Core.List.{List}
use Prim.Native.Nat.{ℕ, suc, ◌+◌, ◌-◌, ◌≤◌, ◌<◌}
use native.Mathlib.Omega.{arith}
use lib.ListN.{length}
use Rattle.index_table.specs.Layout.{layout_of, Ref, Within, page_bytes, count_of}
use Rattle.index_table.specs.Pages.{pages_at}
use Rattle.table_search.specs.Places.{sparse_at}
use Rattle.tree_merge.specs.Merges.{PairPre, JoinPost, PlacePre, SparsePre, LeftShut, LeftPost, RightPre, BesidePost}
use Rattle.tree_merge.proofs.EntryReads.{row_below, entry_below, read_below, sparse_below, joinable_below, count_read, pointer_read, child_within}
use Rattle.tree_merge.proofs.NeighbourLaws.{beside_calm, beside_left, beside_last, beside_none, beside_right}

-- ---- whether the page is sparse

module _ {e P n : ℕ} {b : List ℕ} {x : Ref} {i : ℕ} (pre : PlacePre e P n b x i) where
  module _ {p : ℕ} (p_is : p ≡ (read_below e b x i).1) where
    page_is : p ≡ (entry_below e b x i).1
    page_is = pointer_read pre.back i pre.inside p_is

    -- The entry's page can be read.
    pub below_within : Within (layout_of e) b p
    below_within = child_within pre.back i pre.inside page_is

    module _ {r : Bool} (r_is : r ≡ sparse_at e (pages_at (layout_of e) b) p) where
      tested : sparse_below e b x i ≡ r
      tested = sym (r_is ∙ ap (sparse_at e (pages_at (layout_of e) b)) page_is)

      -- A page that is not sparse stays;
      pub place_calm : r ≡ false → BesidePost e P n b x i b
      place_calm h = beside_calm pre (tested ∙ h)

      -- of a sparse one the neighbours are tried.
      pub place_sparse : r ≡ true → SparsePre e P n b x i
      place_sparse h = record { place = pre; few = tested ∙ h }

-- ---- the left neighbour

module _ {e P n : ℕ} {b : List ℕ} {x : Ref} {i : ℕ} (pre : SparsePre e P n b x i) where
  none_joined : LeftShut e (pages_at (layout_of e) b) x.1 i → LeftPost e P n b x i b false
  none_joined s = record { done = λ y. absurd (true≢false (sym y)); none = λ y. (refl, s) }

  -- The first entry has none.
  pub left_first : i ≡ 0 → LeftPost e P n b x i b false
  left_first z = none_joined (subst (LeftShut e (pages_at (layout_of e) b) x.1) (sym z) tt)

  module _ (ne : i ≡ 0 → ⊥) where
    is : suc (i - 1) ≡ i
    is = omega (arith, ne)

    -- Any other has one,
    pub left_pair : PairPre e P n b x (i - 1)
    left_pair = record { back = pre.place.back; inside = omega (arith, is, pre.place.inside) }

    module _ {r : Bool} (r_is : r ≡ joinable_below e b x (i - 1)) where
      -- with which its page may not be one,
      pub left_shut : r ≡ false → LeftPost e P n b x i b false
      left_shut h = none_joined (subst (LeftShut e (pages_at (layout_of e) b) x.1) is (sym r_is ∙ h))

      -- or is joined.
      pub left_done : r ≡ true → (b' : List ℕ) → JoinPost e P n b x (i - 1) b' → LeftPost e P n b x i b' true
      left_done h b' g = record { done = λ y. beside_left pre.place pre.few (i - 1) (sym is) (sym r_is ∙ h) b' g; none = λ y. absurd (true≢false y) }

-- ---- the right neighbour

-- Where nothing is joined on the left, no byte is changed, and the right one is tried.
pub then_right : {e P n : ℕ} {b b' : List ℕ} {x : Ref} {i : ℕ} → SparsePre e P n b x i → (b' ≡ b) × LeftShut e (pages_at (layout_of e) b) x.1 i → RightPre e P n b' x i
then_right {e} {P} {n} {x = x} {i} s h = subst (λ (t : List ℕ). RightPre e P n t x i) (sym h.0) (record { sparse = s; shut = h.1 })

module _ {e P n : ℕ} {b : List ℕ} {x : Ref} {i : ℕ} (pre : RightPre e P n b x i) {k c : ℕ} (k_is : k ≡ c) (c_is : c ≡ count_of (page_bytes (layout_of e) b x.1)) where
  count_is : k ≡ length (row_below e b x)
  count_is = count_read e b k_is c_is refl

  -- The last entry has none.
  pub right_last : k ≤ i + 1 → BesidePost e P n b x i b
  right_last h = beside_last pre.sparse.place pre.sparse.few pre.shut (omega (arith, h, count_is))

  module _ (more : i + 1 < k) where
    next : suc i < length (row_below e b x)
    next = omega (arith, more, count_is)

    -- Any other has one,
    pub right_pair : PairPre e P n b x i
    right_pair = record { back = pre.sparse.place.back; inside = next }

    module _ {r : Bool} (r_is : r ≡ joinable_below e b x i) where
      -- with which its page may not be one,
      pub right_shut : r ≡ false → BesidePost e P n b x i b
      right_shut h = beside_none pre.sparse.place pre.sparse.few pre.shut next (sym r_is ∙ h)

      -- or is joined.
      pub right_done : r ≡ true → (b' : List ℕ) → JoinPost e P n b x i b' → BesidePost e P n b x i b'
      right_done h b' g = beside_right pre.sparse.place pre.sparse.few pre.shut next (sym r_is ∙ h) b' g
