-- From a page to the one below it that covers the key, and back: what is merged there, and then the two pages beside it. Assumes nothing.
use mathlib.Core.Path.{◌≡◌, refl, sym, ap, ap₂, ◌∙◌}
use mathlib.Core.Bool.{Bool, true, false, cond, true≢false}
use mathlib.Core.List.{List, [], ◌∷◌}
use Prim.Native.Nat.{ℕ, zero, suc, ◌-◌, ◌≤◌, ◌<◌}
use native.Mathlib.Omega.{arith}
use lib.Dec.{ltb}
use borrow.Author.Tests.{lt-ltb, le-ltb}
use lib.ListN.{length, get_or, take, drop}
use Rattle.page_tree.specs.Walk.{rest, walk}
use Rattle.page_tree.specs.Merging.{sparse, Offered, offer, accept, settle, merge_in}
use Rattle.page_tree.specs.Numbered.{Numbered, numbered_depth, join_numbered, merge_numbered}
use Rattle.page_tree.proofs.WalkPlaces.{find_at}
use Rattle.page_tree.proofs.MergingPlaces.{placed, merge_in_at}
use Rattle.index_table.specs.Layout.{Layout, layout_of, Ref, page_bytes, ref_at}
use Rattle.index_table.specs.Pages.{Pages, pages_at, numbered_at, met}
use Rattle.index_write.specs.Standing.{Owned}
use Rattle.table_search.specs.declared.Spot.{Spot}
use Rattle.table_search.specs.Places.{left_from, SeekPre, Stopped}
use Rattle.table_search.proofs.Stops.{read_entry}
use Rattle.tree_delete.specs.Keeping.{numbers_at, Kept}
use Rattle.tree_delete.specs.Removing.{RemovePre}
use Rattle.tree_delete.proofs.Frames.{kept_one, kept_self, kept_then}
use Rattle.tree_delete.proofs.SweepTurns.{paged_then}
use Rattle.tree_delete.proofs.FoundPlaces.{found_down, found_left, found_passes, found_stops, found_numbers}
use Rattle.tree_delete.proofs.EntryStays.{row_same, entry_kept, front_stays, rest_stays}
use Rattle.tree_delete.proofs.Removals.{locate_seek}
use Rattle.tree_merge.specs.Merges.{PlacePre, beside_at, BesidePost, missed, none_missed, Covered, MergePre, Merged}

-- ---- a row whose thing found is not sparse, and stays below

-- A test that comes out true: its first part says no, its second yes.
neither : (t u : Bool) → cond t false u ≡ true → (t ≡ false) × (u ≡ true)
neither true u h = absurd (true≢false (sym h))
neither false u h = (refl, h)

module _ {A : Type 0} (E : ℕ) (depth size : A → ℕ) (glue : A → A → A) (below : List ℕ → A → A) (ok : List ℕ → A → Bool)
    (same : (bs : List ℕ) (x : A) → ok bs x ≡ true → below bs x ≡ x) where
  abbrev tested : List ℕ → ℕ → List A → Bool
  tested = walk depth (λ bs τ x xs. cond (sparse E (size x)) false (ok bs x)) (λ x r. r) true

  abbrev offered : List ℕ → ℕ → List A → Offered A
  offered = walk depth (λ bs τ x xs. offer E depth size glue (below bs x) xs) (accept E depth size glue) (false, [])

  calm_found : (bs : List ℕ) (x : A) (xs : List A) → cond (sparse E (size x)) false (ok bs x) ≡ true → offer E depth size glue (below bs x) xs ≡ (false, x ∷ xs)
  calm_found bs x xs h =
      let k = neither (sparse E (size x)) (ok bs x) h in
      ap (λ (y : A). offer E depth size glue y xs) (same bs x k.1) ∙ ap (λ (t : Bool). (t, x ∷ xs)) k.0

  calm_walk : (bs : List ℕ) (τ : ℕ) (row : List A) → tested bs τ row ≡ true → offered bs τ row ≡ (false, row)
  calm_walk bs τ [] h = refl
  calm_walk [] τ (x ∷ xs) h = calm_found [] x xs h
  calm_walk (c ∷ bs) τ (x ∷ xs) h = go (ltb (depth x) c) (calm_walk (rest (depth x) c bs) (depth x) xs) h
    where
      go : (t : Bool) → (tested (rest (depth x) c bs) (depth x) xs ≡ true → offered (rest (depth x) c bs) (depth x) xs ≡ (false, xs))
          → cond t (cond (sparse E (size x)) false (ok (c ∷ bs) x)) (tested (rest (depth x) c bs) (depth x) xs) ≡ true
          → cond t (offer E depth size glue (below (c ∷ bs) x) xs) (accept E depth size glue x (offered (rest (depth x) c bs) (depth x) xs)) ≡ (false, x ∷ xs)
      go true f h = calm_found (c ∷ bs) x xs h
      go false f h = ap (accept E depth size glue x) (f h)

-- A page of a level under `lowest` stays as it is, where no page below it is missed.
page_calm : (e lowest n : ℕ) → n < lowest → (bs : List ℕ) (page : Numbered (suc n)) → none_missed e lowest n bs page ≡ true → merge_numbered e n bs page ≡ page
page_calm e lowest zero l bs page h = refl
page_calm e lowest (suc n) l bs page h =
    ap (λ (r : Offered (Numbered (suc n))). (page.0, settle e (numbered_depth (suc n)) size (join_numbered n) r.0 r.1))
    (calm_walk e (numbered_depth (suc n)) size (join_numbered n) (merge_numbered e n) (none_missed e lowest n) (page_calm e lowest n (omega arith)) bs 0 page.1
    (rw (lt-ltb (suc n) lowest l) at h))
  where
    size : Numbered (suc n) → ℕ
    size z = length z.1

-- Where merging begins with level 1, none is missed.
walk_true : {A : Type 0} (depth : A → ℕ) (found : List ℕ → A → Bool) → ((bs : List ℕ) (x : A) → found bs x ≡ true) → (bs : List ℕ) (τ : ℕ) (row : List A)
    → walk depth (λ bs τ x xs. found bs x) (λ x r. r) true bs τ row ≡ true
walk_true depth found all bs τ [] = refl
walk_true depth found all [] τ (x ∷ xs) = all [] x
walk_true depth found all (c ∷ bs) τ (x ∷ xs) = go (ltb (depth x) c) (walk_true depth found all (rest (depth x) c bs) (depth x) xs)
  where
    go : (t : Bool) → walk depth (λ bs τ x xs. found bs x) (λ x r. r) true (rest (depth x) c bs) (depth x) xs ≡ true
        → cond t (found (c ∷ bs) x) (walk depth (λ bs τ x xs. found bs x) (λ x r. r) true (rest (depth x) c bs) (depth x) xs) ≡ true
    go true h = all (c ∷ bs) x
    go false h = h

none_missed_lem : (e n : ℕ) (bs : List ℕ) (page : Numbered (suc n)) → none_missed e 1 n bs page ≡ true
none_missed_lem e zero bs page = refl
none_missed_lem e (suc n) bs page =
    walk_true (numbered_depth (suc n)) (λ bs x. cond (missed e 1 n x) false (none_missed e 1 n bs x)) (λ bs x. rw (le-ltb (suc n) 1 (omega arith)) (none_missed_lem e n bs x)) bs 0 page.1

pub covered_all : {e n : ℕ} {b : List ℕ} {x : Ref} {bs : List ℕ} → Covered e n b x bs 1
covered_all {e} {n} {b} {x} {bs} = record { some = omega arith; none = none_missed_lem e n bs (numbered_at 65535 (suc n) (pages_at (layout_of e) b) x) }

-- ---- one entry

-- From a page of a level under `lowest` nothing is merged.
pub merge_low : (n : ℕ) {e P : ℕ} {b : List ℕ} {x : Ref} {w key position lowest : ℕ} → n < lowest → MergePre e P n b x w key position lowest → Merged e P n b x (left_from w key position) b
merge_low n {e} {P} {b} {x} {w} {key} {position} {lowest} l h = record {
  kept = kept_self (layout_of e) P (suc n) b x h.remove.back.linked;
  number = sym (page_calm e lowest n l (left_from w key position) (numbered_at 65535 (suc n) (pages_at (layout_of e) b) x) h.covered.none);
}

-- Above, there is a page below.
pub merge_above : {e P n : ℕ} {b : List ℕ} {x : Ref} {w key position lowest : ℕ} → MergePre e P n b x w key position lowest → lowest ≤ n → n ≡ 0 → ⊥
merge_above h l z = omega (arith, h.covered.some, l, z)

module _ {e P n : ℕ} {b : List ℕ} {x : Ref} {w key position : ℕ} (h : RemovePre e P (suc n) b x w key position) where
  -- The page can be searched.
  pub merge_seek : SeekPre b e x.1 w key position
  merge_seek = locate_seek h

-- ---- a page of level n + 1

-- Whether a page is missed on the way is told by the entry found, and then below it.
pub missed_at : {e P n : ℕ} {b : List ℕ} {x : Ref} {w key position τ : ℕ} (lowest : ℕ) (h : RemovePre e P (suc (suc n)) b x w key position) (s : Spot)
    (a : Stopped w key position τ (pages_at (layout_of e) b x.1) s)
    → (let y : Numbered (suc n) = numbered_at 65535 (suc n) (pages_at (layout_of e) b) (get_or (pages_at (layout_of e) b x.1) s.at (0, 0)) in
    none_missed e lowest (suc n) (left_from w key position) (numbered_at 65535 (suc (suc n)) (pages_at (layout_of e) b) x)
    ≡ cond (missed e lowest n y) false (none_missed e lowest n (left_from w key s.position) y))
unfolding numbered_at
missed_at {e} {P} {n} {b} {x} {w} {key} {position} lowest h s a =
    let pages = pages_at (layout_of e) b in
    let row = pages x.1 in
    let y = numbered_at 65535 (suc n) pages (get_or row s.at (0, 0)) in
    let told : List ℕ → Numbered (suc n) → Bool = λ bs z. cond (missed e lowest n z) false (none_missed e lowest n bs z) in
    ap (walk (numbered_depth (suc n)) (λ bs τ z zs. told bs z) (λ z r. r) true (left_from w key position) 0) (found_numbers h s a)
    ∙ find_at (numbered_depth (suc n)) (λ bs τ z zs. told bs z) true (left_from w key position) 0 (numbers_at (suc n) pages (take s.at row)) y (numbers_at (suc n) pages (drop (suc s.at) row))
    (found_passes h s a) (found_stops h s a)
    ∙ ap (λ (bs : List ℕ). told bs y) (found_left h s a)

module _ {e P n : ℕ} {b : List ℕ} {x : Ref} {w key position τ : ℕ} (h : RemovePre e P (suc (suc n)) b x w key position) (s : Spot) (a : Stopped w key position τ (pages_at (layout_of e) b x.1) s)
    (b₁ : List ℕ) (m : Merged e P n b (get_or (pages_at (layout_of e) b x.1) s.at (0, 0)) (left_from w key s.position) b₁) where
  abbrev L : Layout
  L = layout_of e

  abbrev pages : Pages
  pages = pages_at L b

  abbrev pages₁ : Pages
  pages₁ = pages_at L b₁

  abbrev row : List Ref
  row = pages x.1

  abbrev y : Ref
  y = get_or row s.at (0, 0)

  row_is : pages₁ x.1 ≡ row
  row_is = row_same h s a b₁ m.kept

  above_kept : Kept L P (suc (suc n)) b (met (suc (suc n)) pages x) b₁ (x ∷ [])
  above_kept = entry_kept h s a b₁ m.kept

  own_now : Owned L b₁ (met (suc (suc n)) pages₁ x)
  own_now q = omega (arith, above_kept.pages q, h.back.own q)

  -- Its neighbours can be looked at.
  pub merge_place : PlacePre e P n b₁ x s.at
  merge_place = record {
    back = record { paged = paged_then m.kept.long h.back.paged; linked = above_kept.linked.0; own = own_now };
    inside = rw row_is a.inside;
  }

  abbrev size : Numbered (suc n) → ℕ
  size z = length z.1

  abbrev placed_at : List (Numbered (suc n)) → Numbered (suc n) → List (Numbered (suc n)) → List (Numbered (suc n))
  placed_at fs z rs = placed e (numbered_depth (suc n)) size (join_numbered n) fs z rs

  -- The row as it reads before the neighbours are looked at.
  row_now : beside_at e n pages₁ (pages₁ x.1) s.at
      ≡ placed_at (numbers_at (suc n) pages (take s.at row)) (merge_numbered e n (left_from w key s.position) (numbered_at 65535 (suc n) pages y)) (numbers_at (suc n) pages (drop (suc s.at) row))
  row_now =
      ap (λ (l : List Ref). beside_at e n pages₁ l s.at) row_is
      ∙ ap₂ (λ (fs rs : List (Numbered (suc n))). placed_at fs (numbered_at 65535 (suc n) pages₁ y) rs) ((front_stays h s a b₁ m.kept).numbereds 65535) ((rest_stays h s a b₁ m.kept).numbereds 65535)
      ∙ ap (λ (z : Numbered (suc n)). placed_at (numbers_at (suc n) pages (take s.at row)) z (numbers_at (suc n) pages (drop (suc s.at) row))) m.number

  -- The definition at the place found.
  merged_is : merge_in e (numbered_depth (suc n)) size (join_numbered n) (merge_numbered e n) (left_from w key position) (numbers_at (suc n) pages row)
      ≡ placed_at (numbers_at (suc n) pages (take s.at row)) (merge_numbered e n (left_from w key s.position) (numbered_at 65535 (suc n) pages y)) (numbers_at (suc n) pages (drop (suc s.at) row))
  merged_is =
      ap (merge_in e (numbered_depth (suc n)) size (join_numbered n) (merge_numbered e n) (left_from w key position)) (found_numbers h s a)
      ∙ merge_in_at e (numbered_depth (suc n)) size (join_numbered n) (merge_numbered e n) (left_from w key position) (numbers_at (suc n) pages (take s.at row)) (numbered_at 65535 (suc n) pages y)
      (numbers_at (suc n) pages (drop (suc s.at) row)) (found_passes h s a) (found_stops h s a)
      ∙ ap (λ (bs : List ℕ). placed_at (numbers_at (suc n) pages (take s.at row)) (merge_numbered e n bs (numbered_at 65535 (suc n) pages y)) (numbers_at (suc n) pages (drop (suc s.at) row))) (found_left h s a)

  -- What is left of it.
  pub merge_post : (b₂ : List ℕ) → BesidePost e P n b₁ x s.at b₂ → Merged e P (suc n) b x (left_from w key position) b₂
  unfolding numbered_at
  merge_post b₂ g = record {
    kept = kept_then above_kept (kept_one x g.kept);
    number = g.number ∙ ap (λ (l : List (Numbered (suc n))). (x.1, l)) (row_now ∙ sym merged_is);
  }

-- ---- as the code takes the step

module _ (n : ℕ) {e P : ℕ} {b : List ℕ} {x : Ref} {w key position τ : ℕ} {lowest : ℕ} (pre : MergePre e P n b x w key position lowest) (s : Spot) (a : Stopped w key position τ (pages_at (layout_of e) b x.1) s)
    (ne : n ≡ 0 → ⊥) {c p : ℕ} (c_is : c ≡ (ref_at (layout_of e) (page_bytes (layout_of e) b x.1) s.at).0) (p_is : p ≡ (ref_at (layout_of e) (page_bytes (layout_of e) b x.1) s.at).1) where
  above : suc (n - 1) ≡ n
  above = omega (arith, ne)

  entry_at : ref_at (layout_of e) (page_bytes (layout_of e) b x.1) s.at ≡ get_or (pages_at (layout_of e) b x.1) s.at (0, 0)
  entry_at = read_entry (layout_of e) b x.1 s.at a.inside

  h_at : RemovePre e P (suc (suc (n - 1))) b x w key position
  h_at = rw above pre.remove

  cover_down : Covered e (n - 1) b (get_or (pages_at (layout_of e) b x.1) s.at (0, 0)) (left_from w key s.position) lowest
  cover_down =
      let y : Numbered (suc (n - 1)) = numbered_at 65535 (suc (n - 1)) (pages_at (layout_of e) b) (get_or (pages_at (layout_of e) b x.1) s.at (0, 0)) in
      let c = rw (← above) at pre.covered in
      record {
        some = c.some;
        none = (neither (missed e lowest (n - 1) y) (none_missed e lowest (n - 1) (left_from w key s.position) y) (sym (missed_at lowest h_at s a) ∙ c.none)).1;
      }

  -- The page below is one to merge from,
  pub merge_down : MergePre e P (n - 1) b (c, p) w key s.position lowest
  merge_down = rw (c_is, p_is, entry_at) (record { remove = found_down h_at s a; covered = cover_down })

  module _ {b₁ : List ℕ} (m : Merged e P (n - 1) b (c, p) (left_from w key s.position) b₁) where
    m_at : Merged e P (n - 1) b (get_or (pages_at (layout_of e) b x.1) s.at (0, 0)) (left_from w key s.position) b₁
    m_at = rw (c_is, p_is, entry_at) at m

    -- then its neighbours are looked at,
    pub merge_beside : PlacePre e P (n - 1) b₁ x s.at
    merge_beside = merge_place h_at s a b₁ m_at

    -- and what is left of the page is told.
    pub merge_up : {b₂ : List ℕ} → BesidePost e P (n - 1) b₁ x s.at b₂ → Merged e P n b x (left_from w key position) b₂
    merge_up {b₂} g = rw above at (merge_post h_at s a b₁ m_at b₂ g)
