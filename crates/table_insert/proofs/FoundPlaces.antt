-- The place that figure 6 finds in a page's row, and the row with others there. Assumes nothing.
use mathlib.Core.Path.{◌≡◌, sym, ap, subst, ◌∙◌}
use mathlib.Core.Logic.{◌⊎◌, inl, inr}
use mathlib.Core.List.{List, [], ◌∷◌, ◌++◌, map, map-append, append_assoc}
use Prim.Native.Nat.{ℕ, zero, suc, ◌<◌}
use native.Mathlib.Omega.{arith}
use lib.ListN.{length, get_or, take, drop}
use lib.Seq.{split_at}
use Rattle.leaf_list.proofs.Lists.{all_at}
use Rattle.page_tree.specs.Rows.{All, Closed, last_depth}
use Rattle.page_tree.specs.OnPages.{replace_in}
use Rattle.page_tree.specs.Row.{depth_of}
use Rattle.page_tree.proofs.ListLaws.{all_left}
use Rattle.page_tree.proofs.RowMaps.{last_depth_map, positions_after_map, passes_map}
use Rattle.page_tree.proofs.WalkPlaces.{positions_after, Stops, replace_in_at}
use Rattle.index_table.specs.Layout.{Ref}
use Rattle.table_search.specs.declared.Spot.{Spot}
use Rattle.table_search.specs.Places.{left_from, Stopped}

-- ---- closed rows

module _ {A : Type 0} (d : A → ℕ) where
  -- The last thing of a closed row closes it.
  pub closed_end : (c : ℕ) (xs : List A) (i : ℕ) (none : A) → Closed d c xs → suc i ≡ length xs → d (get_or xs i none) ≡ c
  closed_end c [] i none h e = absurd h
  closed_end c (x ∷ []) zero none h e = h
  closed_end c (x ∷ []) (suc i) none h e = absurd (omega arith)
  closed_end c (x ∷ y ∷ xs) zero none h e = absurd (omega arith)
  closed_end c (x ∷ y ∷ xs) (suc i) none h e = closed_end c (y ∷ xs) i none h.1 (omega arith)

-- ---- the place found

module _ {w key position τ : ℕ} {row : List Ref} {s : Spot} (stop : Stopped w key position τ row s) where
  abbrev y : Ref
  y = get_or row s.at (0, 0)

  abbrev before : List Ref
  before = take s.at row

  abbrev after : List Ref
  after = drop (suc s.at) row

  -- The row parted there.
  pub found_parted : row ≡ before ++ y ∷ after
  found_parted = split_at row s.at (0, 0) stop.inside

  -- The entry found is before the next position, where the row's closing depth is before the first.
  pub found_before : (c : ℕ) → Closed depth_of c row → c < position → y.0 < s.position
  found_before c closed less = go stop.stops
    where
      go : (suc s.at ≡ length row) ⊎ (y.0 < s.position) → y.0 < s.position
      go (inl h) = omega (arith, closed_end depth_of c row s.at (0, 0) closed h, stop.rise)
      go (inr h) = h

  -- A row of things with the entries' depths, with the thing found replaced.
  pub found_replaced : {A : Type 0} (d : A → ℕ) (f : Ref → A) (new : List ℕ → ℕ → A → List A) → All (λ x. d (f x) ≡ depth_of x) row → y.0 < s.position
      → replace_in d new (left_from w key position) τ (map f row) ≡ map f before ++ new (left_from w key s.position) s.trail (f y) ++ map f after
  found_replaced d f new same less =
      ap (replace_in d new (left_from w key position) τ) (ap (map f) found_parted ∙ map-append f before (y ∷ after))
      ∙ replace_in_at d new (left_from w key position) τ (map f before) (f y) (map f after)
      (passes_map depth_of d f (left_from w key position) before passed stop.passes)
      (subst (λ (bs : List ℕ). Stops d bs (f y)) (sym left) (rw (all_at (λ x. d (f x) ≡ depth_of x) row s.at (0, 0) stop.inside same) less))
      ∙ (λ i. map f before ++ (new (left i) (trail i) (f y) ++ map f after))
      ∙ sym (append_assoc (map f before) (new (left_from w key s.position) s.trail (f y)) (map f after))
    where
      passed : All (λ x. d (f x) ≡ depth_of x) before
      passed = all_left (λ x. d (f x) ≡ depth_of x) before (y ∷ after) (subst (All (λ x. d (f x) ≡ depth_of x)) found_parted same)

      left : positions_after d (left_from w key position) (map f before) ≡ left_from w key s.position
      left = positions_after_map depth_of d f (left_from w key position) before passed ∙ stop.left

      trail : last_depth d τ (map f before) ≡ s.trail
      trail = last_depth_map depth_of d f τ before passed ∙ stop.trail
