-- Merging keeps level 0 and the pages' rules, and takes no page (02, request (i): "The leaf list that an off leaves is what it would have been without merging"). Assumes nothing.
use mathlib.Core.Path.{◌≡◌, refl, ap, ◌∙◌}
use mathlib.Core.List.{List, [], ◌∷◌, ◌++◌, append_assoc}
use Prim.Native.Nat.{ℕ, zero, suc, ◌+◌, ◌≤◌, ◌<◌}
use native.Mathlib.Omega.{arith}
use lib.ListN.{length, length-append}
use Rattle.leaf_list.specs.Entries.{Entry}
use Rattle.leaf_list.proofs.Depths.{closed_cons}
use Rattle.leaf_list.proofs.Lists.{all_append}
use Rattle.page_tree.specs.Rows.{All, flats, sum, Closed, last_depth}
use Rattle.page_tree.specs.Tree.{Node, depth, leaves, Sound, page_count}
use Rattle.page_tree.specs.Merging.{merge_in, merge_page}
use Rattle.page_tree.proofs.ListLaws.{flats_append, sum_append}
use Rattle.page_tree.proofs.ClosedRows.{closed_last, last_depth_append, closed_append, closed_deeper, closed_page}
use Rattle.page_tree.proofs.DeletionSteps.{Stays}
use Rattle.page_tree.proofs.MergingRows.{merge_induction}

module _ {A : Type 0} (E : ℕ) (depth_a size : A → ℕ) (glue : A → A → A) (below : List ℕ → A → A) where
  -- ---- level 0

  module _ (leaves_a : A → List Entry) (glued : (x y : A) → leaves_a (glue x y) ≡ leaves_a x ++ leaves_a y)
      (kept : (bs : List ℕ) (x : A) → leaves_a (below bs x) ≡ leaves_a x) where
    -- A merged row has the leaves that it had.
    pub merge_in_leaves : (bs : List ℕ) (row : List A) → flats leaves_a (merge_in E depth_a size glue below bs row) ≡ flats leaves_a row
    merge_in_leaves =
        merge_induction E depth_a size glue below (λ xs ys. flats leaves_a ys ≡ flats leaves_a xs) refl (λ x. refl)
        (λ bs x xs. ap (λ (l : List Entry). l ++ flats leaves_a xs) (kept bs x))
        (λ bs x y ys d f. rw (glued (below bs x) y, kept bs x, append_assoc))
        (λ bs z x xs d f. rw (glued z (below bs x), kept bs x, append_assoc))
        (λ z x xs ys h. ap (λ (l : List Entry). leaves_a z ++ l) h)

  -- ---- the pages' rules

  module _ (Good : A → Type 0)
      (glue_depth : (x y : A) → Good y → depth_a (glue x y) ≡ depth_a y)
      (glue_good : (x y : A) → Good x → Good y → depth_a y < depth_a x → size x + size y ≤ E → Good (glue x y))
      (below_depth : (bs : List ℕ) (x : A) → Good x → depth_a (below bs x) ≡ depth_a x)
      (below_good : (bs : List ℕ) (x : A) → Good x → Good (below bs x)) where
    -- Of a row of good things that c closes, this stays: c closes it, its things are good, and it is no longer than it was.
    abbrev Kept : List A → List A → Type 0
    Kept xs ys = (c : ℕ) → Closed depth_a c xs → All Good xs → Stays depth_a Good c (length xs) ys

    -- In a row that c closes, another thing of the same depth may stand first.
    replaced : (c : ℕ) (x x' : A) (xs : List A) → depth_a x' ≡ depth_a x → Closed depth_a c (x ∷ xs) → Closed depth_a c (x' ∷ xs)
    replaced c x x' [] e h = e ∙ h
    replaced c x x' (y ∷ ys) e h = (omega (arith, h.0), h.1)

    -- That stays of a merged row.
    pub merge_in_stays : (bs : List ℕ) (row : List A) (c : ℕ) → Closed depth_a c row → All Good row
        → Stays depth_a Good c (length row) (merge_in E depth_a size glue below bs row)
    merge_in_stays =
        merge_induction E depth_a size glue below Kept (λ c h p. absurd h)
        (λ x c h p. record { closed = h; good = p; short = omega arith })
        (λ bs x xs c h p. record { closed = replaced c x (below bs x) xs (below_depth bs x p.0) h; good = (below_good bs x p.0, p.1); short = omega arith })
        (λ bs x y ys d f c h p.
        record {
          closed = replaced c y (glue (below bs x) y) ys (glue_depth (below bs x) y p.1.0) h.1;
          good = (glue_good (below bs x) y (below_good bs x p.0) p.1.0 d f, p.1.1);
          short = omega arith;
        })
        (λ bs z x xs d f c h p.
        record {
          closed =
              replaced c x (glue z (below bs x)) xs (glue_depth z (below bs x) (below_good bs x p.1.0) ∙ below_depth bs x p.1.0) h.1;
          good = (glue_good z (below bs x) p.0 (below_good bs x p.1.0) d f, p.1.1);
          short = omega arith;
        })
        (λ z x xs ys k c h p.
        let q : Stays depth_a Good c (suc (length xs)) ys = k c h.1 p.1 in
        record { closed = closed_cons depth_a c z ys h.0 q.closed; good = (p.0, q.good); short = omega (arith, q.short) })

  -- ---- how many pages

  module _ (count : A → ℕ) (glued : (x y : A) → count (glue x y) ≤ count x + count y)
      (kept : (bs : List ℕ) (x : A) → count (below bs x) ≤ count x) where
    -- A merged row counts no more than it did.
    pub merge_in_sum : (bs : List ℕ) (row : List A) → sum count (merge_in E depth_a size glue below bs row) ≤ sum count row
    merge_in_sum =
        merge_induction E depth_a size glue below (λ xs ys. sum count ys ≤ sum count xs) (omega arith) (λ x. omega arith)
        (λ bs x xs. omega (arith, kept bs x))
        (λ bs x y ys d f. omega (arith, glued (below bs x) y, kept bs x))
        (λ bs z x xs d f. omega (arith, glued z (below bs x), kept bs x))
        (λ z x xs ys h. omega arith)

-- ---- pages

-- Level 0 below a page is as it was.
pub merge_page_leaves : (E n : ℕ) (bs : List ℕ) (page : Node (suc n)) → leaves (suc n) (merge_page E n bs page) ≡ leaves (suc n) page
merge_page_leaves E zero bs page = refl
merge_page_leaves E (suc n) bs page =
    merge_in_leaves E (depth (suc n)) length (λ x y. x ++ y) (merge_page E n) (leaves (suc n)) (flats_append (leaves n)) (merge_page_leaves E n) bs page

-- Two pages joined have the right one's last depth.
joined_depth : (E n : ℕ) (x y : Node (suc n)) → Sound E (suc n) y → depth (suc n) (x ++ y) ≡ depth (suc n) y
joined_depth E n x y s =
    last_depth_append (depth n) 0 x y ∙ closed_last (depth n) (depth (suc n) y) (last_depth (depth n) 0 x) y s.0.0

-- Two sound pages, the left one closed by more, are one sound page if they fit.
joined_sound : (E n : ℕ) (x y : Node (suc n)) → Sound E (suc n) x → Sound E (suc n) y → depth (suc n) y < depth (suc n) x → length x + length y ≤ E
    → Sound E (suc n) (x ++ y)
joined_sound E n x y s t d f = (
  closed_page (depth n) E (depth (suc n) y) (x ++ y)
      (closed_append (depth n) (depth (suc n) y) x y (closed_deeper (depth n) (depth (suc n) y) (depth (suc n) x) x d s.0.0) t.0.0)
      (omega (arith, length-append x y)),
  all_append (Sound E n) x y s.1 t.1,
)

-- The page page' stands for page: it is sound, and its last depth is the same.
pub record MergedPage (E n : ℕ) (page page' : Node (suc n)) : Type 0 where
  pub sound : Sound E (suc n) page'
  pub same : depth (suc n) page' ≡ depth (suc n) page

-- A sound page that is merged stays so.
pub merge_page_sound : (E n : ℕ) (bs : List ℕ) (page : Node (suc n)) → Sound E (suc n) page → MergedPage E n page (merge_page E n bs page)
merge_page_sound E zero bs page s = record { sound = s; same = refl }
merge_page_sound E (suc n) bs page s =
    let c = depth (suc (suc n)) page in
    let page' = merge_page E (suc n) bs page in
    let q = merge_in_stays E (depth (suc n)) length (λ x y. x ++ y) (merge_page E n) (Sound E (suc n)) (joined_depth E n) (joined_sound E n)
    (λ bs x s. (merge_page_sound E n bs x s).same) (λ bs x s. (merge_page_sound E n bs x s).sound) bs page c s.0.0 s.1 in
    record {
      sound = (closed_page (depth (suc n)) E c page' q.closed (omega (arith, q.short, s.0.1)), q.good);
      same = closed_last (depth (suc n)) c 0 page' q.closed;
    }

-- Merging keeps the last depth of a page, so no depth changes above the parent of joined pages.
pub merge_page_depth : (E n : ℕ) (bs : List ℕ) (page : Node (suc n)) → Sound E (suc n) page → depth (suc n) (merge_page E n bs page) ≡ depth (suc n) page
merge_page_depth E n bs page s = (merge_page_sound E n bs page s).same

-- There are never more pages than before.
pub merge_page_pages : (E n : ℕ) (bs : List ℕ) (page : Node (suc n)) → page_count (suc n) (merge_page E n bs page) ≤ page_count (suc n) page
merge_page_pages E zero bs page = omega arith
merge_page_pages E (suc n) bs page =
    omega (
      arith,
      merge_in_sum E (depth (suc n)) length (λ x y. x ++ y) (merge_page E n) (page_count (suc n)) (λ x y. omega (arith, sum_append (page_count n) x y))
          (merge_page_pages E n) bs page,
    )
