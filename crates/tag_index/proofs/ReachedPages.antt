-- Reached pages of sound tables: the pages that are met from the root down (01, "Every reached page is in use, and every other is all zero"). Assumes nothing.
use mathlib.Core.Path.{◌≡◌, refl, subst}
use mathlib.Core.Logic.{◌⊎◌, inl, inr}
use mathlib.Core.List.{List, [], ◌∷◌}
use Prim.Native.Nat.{ℕ, zero, suc, ◌≤◌, ◌<◌}
use native.Mathlib.Omega.{arith}
use Rattle.page_tree.specs.Rows.{All}
use Rattle.index_table.specs.Bytes.{AllZero}
use Rattle.index_table.specs.Layout.{Layout, Ref, layout_of, count_of}
use Rattle.index_table.specs.Header.{entries_of, pages_of, root_of}
use Rattle.index_table.specs.Pages.{Pages, pages_at, met, met_all, same, root_ref}
use Rattle.index_table.specs.Soundness.{SoundBelow, Sound, root_level}
use Rattle.index_table.proofs.PageCounts.{same_cases}
use Rattle.index_table.proofs.PageRows.{length_refs}
use Rattle.tag_index.specs.Claims.{bytes_of_page, PointsAt, Reached, root, child, InUse}

module _ {index keys used : List ℕ} (s : Sound index keys used) where
  abbrev L : Layout
  L = layout_of (entries_of index)

  abbrev pages : Pages
  pages = pages_at (layout_of (entries_of index)) index

  -- ---- reached pages are sound

  -- A page that an entry of a sound row points at is sound.
  pointed_sound : (n q : ℕ) (row : List Ref) → All (SoundBelow (layout_of (entries_of index)) (pages_of index) n index) row → PointsAt q row
      → (x : Ref) × (x.1 ≡ q) × SoundBelow (layout_of (entries_of index)) (pages_of index) n index x
  pointed_sound n q [] h p = absurd p
  pointed_sound n q (x ∷ row) h (inl e) = (x, e, h.0)
  pointed_sound n q (x ∷ row) h (inr p) = pointed_sound n q row h.1 p

  -- A reached page is a sound page of some level.
  reached_sound : (q : ℕ) → Reached index q
      → (n : ℕ) × (x : Ref) × (x.1 ≡ q) × SoundBelow (layout_of (entries_of index)) (pages_of index) (suc n) index x
  reached_sound q root = (root_level index, root_ref (root_of index), refl, s.pages.below)
  reached_sound q (child {p} _ r above points) = below (reached_sound p r)
    where
      go : (n : ℕ) (x : Ref) → x.1 ≡ p → SoundBelow (layout_of (entries_of index)) (pages_of index) (suc n) index x
          → (n : ℕ) × (x : Ref) × (x.1 ≡ q) × SoundBelow (layout_of (entries_of index)) (pages_of index) (suc n) index x
      go zero x e h = absurd (omega (arith, above, rw e at h.0.level))
      go (suc n) x e h =
          let y = pointed_sound (suc n) q (pages x.1) h.2 (rw (← e) at points) in
          (n, y.0, y.1, y.2)

      below : ((n : ℕ) × (x : Ref) × (x.1 ≡ p) × SoundBelow (layout_of (entries_of index)) (pages_of index) (suc n) index x)
          → (n : ℕ) × (x : Ref) × (x.1 ≡ q) × SoundBelow (layout_of (entries_of index)) (pages_of index) (suc n) index x
      below o = go o.0 o.1 o.2 o.3

  -- "Every reached page is in use"
  pub reached_in_use : (q : ℕ) → Reached index q → InUse index q
  reached_in_use q r z =
      let o = reached_sound q r in
      absurd (omega (arith, rw o.2 at o.3.0.some, length_refs L (bytes_of_page index q), z))

  -- ---- pages that are met are reached

  -- An entry of a sound row that meets a page.
  pub record Meets (n q : ℕ) (row : List Ref) : Type 0 where
    pub entry : Ref
    pub inside : PointsAt entry.1 row
    pub sound : SoundBelow (layout_of (entries_of index)) (pages_of index) n index entry
    pub meets : 1 ≤ met n (pages_at (layout_of (entries_of index)) index) entry q

  -- A row that meets a page has one.
  row_meets : (n q : ℕ) (row : List Ref) → All (SoundBelow (layout_of (entries_of index)) (pages_of index) n index) row → 1 ≤ met_all n pages row q → Meets n q row
  row_meets n q [] a h = absurd (omega (arith, h))
  row_meets n q (x ∷ row) a h = go (met n pages x q) refl (row_meets n q row a.1)
    where
      go : (k : ℕ) → met n pages x q ≡ k → (1 ≤ met_all n pages row q → Meets n q row) → Meets n q (x ∷ row)
      go zero e ih =
          let m = ih (omega (arith, h, e)) in
          record { entry = m.entry; inside = inr m.inside; sound = m.sound; meets = m.meets }
      go (suc k) e ih = record { entry = x; inside = inl refl; sound = a.0; meets = omega (arith, e) }

  -- Entries on level 0 meet no page.
  unmet : (q : ℕ) (row : List Ref) → met_all 0 pages row q ≡ 0
  unfolding met
  unmet q [] = refl
  unmet q (x ∷ row) = omega (arith, unmet q row)

  -- What is met below a reached page is reached.
  met_reached : (n q : ℕ) (x : Ref) → SoundBelow (layout_of (entries_of index)) (pages_of index) (suc n) index x → Reached index x.1
      → 1 ≤ met (suc n) pages x q
      → Reached index q
  unfolding met
  met_reached zero q x h r m = go (same_cases x.1 q)
    where
      go : (x.1 ≡ q) ⊎ ((x.1 ≡ q → ⊥) × (same x.1 q ≡ 0)) → Reached index q
      go (inl e) = subst (Reached index) e r
      go (inr e) = absurd (omega (arith, m, e.1, unmet q (pages x.1)))
  met_reached (suc n) q x h r m = go (same_cases x.1 q) (met_reached n q)
    where
      go : (x.1 ≡ q) ⊎ ((x.1 ≡ q → ⊥) × (same x.1 q ≡ 0))
          → ((y : Ref) → SoundBelow (layout_of (entries_of index)) (pages_of index) (suc n) index y → Reached index y.1 → 1 ≤ met (suc n) pages y q → Reached index q)
          → Reached index q
      go (inl e) ih = subst (Reached index) e r
      go (inr e) ih =
          let y = row_meets (suc n) q (pages x.1) h.2 (omega (arith, m, e.1)) in
          ih y.entry y.sound (child y.entry.1 r (omega (arith, h.0.level)) y.inside) y.meets

  -- "and every other is all zero"
  pub other_zero : (q : ℕ) → q < pages_of index → (Reached index q → ⊥) → AllZero (bytes_of_page index q)
  other_zero q inside not = (s.pages.cleared q inside).free (go (count_of (bytes_of_page index q)) refl)
    where
      go : (k : ℕ) → count_of (bytes_of_page index q) ≡ k → k ≡ 0
      go zero e = refl
      go (suc k) e =
          absurd
          (not (met_reached (root_level index) q (root_ref (root_of index)) s.pages.below root
          (omega (arith, s.pages.once q, length_refs L (bytes_of_page index q), e))))
