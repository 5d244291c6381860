-- The place that figure 6 finds in the page below an entry, and what figure 11 makes of the page's row there. Assumes nothing.
use mathlib.Core.Path.{◌≡◌, refl, sym, ap, ap₂, ◌∙◌}
use mathlib.Core.Logic.{◌⊎◌, inl, inr}
use mathlib.Core.List.{List, [], ◌∷◌, ◌++◌, map, map-append}
use Prim.Native.Nat.{ℕ, zero, suc, ◌<◌}
use native.Mathlib.Omega.{arith}
use lib.ListN.{length, get_or, take, drop}
use lib.Seq.{split_at}
use Rattle.leaf_list.specs.Entries.{Entry}
use Rattle.leaf_list.specs.Depths.{LeafDepths}
use Rattle.leaf_list.proofs.Lists.{all_at}
use Rattle.page_tree.specs.Rows.{All, Closed, flats, last_depth}
use Rattle.page_tree.specs.Row.{depth_of}
use Rattle.page_tree.specs.Tree.{depth, leaves}
use Rattle.page_tree.specs.OffPages.{Left, sweep, next_depth, strike_in}
use Rattle.page_tree.specs.Numbered.{Numbered, numbered_depth, numbered_leaves, step_numbered, delete_numbered}
use Rattle.page_tree.proofs.ListLaws.{all_left}
use Rattle.page_tree.proofs.RowMaps.{last_depth_map, positions_after_map, passes_map}
use Rattle.page_tree.proofs.WalkPlaces.{positions_after, Passes, Stops, strike_in_at}
use Rattle.index_table.specs.Layout.{Layout, layout_of, Ref}
use Rattle.index_table.specs.Pages.{Pages, pages_at, node_at, numbered_at, met_all}
use Rattle.index_table.specs.Soundness.{SoundBelow}
use Rattle.index_table.proofs.SoundNodes.{sound_depth}
use Rattle.index_table.proofs.NumberedPages.{numbered_aside}
use Rattle.index_write.specs.Standing.{Owned}
use Rattle.table_search.specs.declared.Spot.{Spot}
use Rattle.table_search.specs.Places.{left_from, Stopped}
use Rattle.table_search.proofs.Descents.{depths_at}
use Rattle.tree_delete.specs.Keeping.{numbers_at, Linked}
use Rattle.tree_delete.specs.Removing.{following_at, RemovePre}
use Rattle.tree_delete.proofs.Sweeps.{row_owned}
use Rattle.tree_delete.proofs.SweepTurns.{mid_back}

-- The last entry of a closed row closes it.
closed_end : (c : ℕ) (row : List Ref) (i : ℕ) → Closed depth_of c row → suc i ≡ length row → (get_or row i (0, 0)).0 ≡ c
closed_end c [] i h e = absurd h
closed_end c (x ∷ []) zero h e = h
closed_end c (x ∷ []) (suc i) h e = absurd (omega arith)
closed_end c (x ∷ y ∷ row) zero h e = absurd (omega arith)
closed_end c (x ∷ y ∷ row) (suc i) h e = closed_end c (y ∷ row) i h.1 (omega arith)

module _ {e P n : ℕ} {b : List ℕ} {x : Ref} {w key position τ : ℕ} (h : RemovePre e P (suc n) b x w key position) (s : Spot) (a : Stopped w key position τ (pages_at (layout_of e) b x.1) s) where
  abbrev L : Layout
  L = layout_of e

  abbrev pages : Pages
  pages = pages_at L b

  abbrev row : List Ref
  row = pages x.1

  abbrev i : ℕ
  i = s.at

  abbrev front : List Ref
  front = take i row

  abbrev y : Ref
  y = get_or row i (0, 0)

  abbrev rest : List Ref
  rest = drop (suc i) row

  -- The row around the entry found.
  pub found_parted : row ≡ front ++ y ∷ rest
  found_parted = split_at row i (0, 0) a.inside

  -- Its entries are linked,
  pub found_linked : All (Linked L P n b) (front ++ y ∷ rest)
  found_linked = rw found_parted at h.back.linked.2

  -- and the pages below them may be changed.
  pub found_owned : Owned L b (met_all n pages (front ++ y ∷ rest))
  found_owned = rw found_parted at (row_owned e P n b x h.back)

  -- The entry found is before the next position.
  found_before : y.0 < s.position
  found_before = go a.stops
    where
      go : (suc i ≡ length row) ⊎ (y.0 < s.position) → y.0 < s.position
      go (inl z) = omega (arith, closed_end x.0 row i h.sound.1 z, h.before, a.rise)
      go (inr z) = z

  row_low : LeafDepths w (flats (leaves n) (map (node_at 65535 n pages) row))
  unfolding node_at
  row_low = h.depths

  -- The entry found is one to remove from.
  pub found_down : RemovePre e P n b y w key s.position
  found_down = record {
    back = mid_back front y rest h.back.paged found_linked found_owned;
    sound = all_at (SoundBelow L P n b) row i (0, 0) a.inside h.sound.2;
    before = found_before;
    depths = depths_at w n (node_at 65535 n pages) row i a.inside row_low;
    width = h.width;
    narrow = h.narrow;
    high = a.high;
  }

  -- ---- the definition at the place found

  abbrev number : Ref → Numbered n
  number z = numbered_at 65535 n pages z

  number_depth : (z : Ref) → SoundBelow L P n b z → numbered_depth n (number z) ≡ z.0
  number_depth z s = ap (depth n) (numbered_aside 65535 pages n z) ∙ sound_depth 65535 L P b n z s

  same_depths : (zs : List Ref) → All (SoundBelow L P n b) zs → All (λ z. numbered_depth n (number z) ≡ depth_of z) zs
  same_depths [] s = tt
  same_depths (z ∷ zs) s = (number_depth z s.0, same_depths zs s.1)

  front_depths : All (λ z. numbered_depth n (number z) ≡ depth_of z) front
  front_depths = same_depths front (all_left (SoundBelow L P n b) front (y ∷ rest) (rw found_parted at h.sound.2))

  abbrev left : List ℕ
  left = left_from w key s.position

  -- The positions left there,
  pub found_left : positions_after (numbered_depth n) (left_from w key position) (numbers_at n pages front) ≡ left
  found_left = positions_after_map depth_of (numbered_depth n) number (left_from w key position) front front_depths ∙ a.left

  trail_is : last_depth (numbered_depth n) τ (numbers_at n pages front) ≡ s.trail
  trail_is = last_depth_map depth_of (numbered_depth n) number τ front front_depths ∙ a.trail

  leaves_are : (zs : List Ref) → flats (numbered_leaves n) (numbers_at n pages zs) ≡ flats (leaves n) (map (node_at 65535 n pages) zs)
  leaves_are [] = refl
  leaves_are (z ∷ zs) = ap₂ (λ (s t : List Entry). s ++ t) (ap (leaves n) (numbered_aside 65535 pages n z)) (leaves_are zs)

  -- what is passed,
  pub found_passes : Passes (numbered_depth n) (left_from w key position) (numbers_at n pages front)
  found_passes = passes_map depth_of (numbered_depth n) number (left_from w key position) front front_depths a.passes

  -- where the walk stops,
  pub found_stops : Stops (numbered_depth n) (positions_after (numbered_depth n) (left_from w key position) (numbers_at n pages front)) (number y)
  found_stops = rw found_left (omega (arith, number_depth y found_down.sound, found_before))

  -- and what the row stands for.
  pub found_numbers : numbers_at n pages row ≡ numbers_at n pages front ++ (number y ∷ numbers_at n pages rest)
  found_numbers = ap (numbers_at n pages) found_parted ∙ map-append number front (y ∷ rest)

  abbrev answer : Left (Numbered n) → Left (Numbered n)
  answer o = sweep (step_numbered n) o.1 (numbers_at n pages front) (o.0 ++ numbers_at n pages rest)

  -- Figure 11 over the row: at the entry found, with the depth that follows it, and back to the left.
  pub found_strike : (ν next : ℕ) → next ≡ following_at n pages ν rest
      → strike_in (numbered_depth n) (numbered_leaves n) (step_numbered n) (delete_numbered n) ν (left_from w key position) τ (numbers_at n pages row)
      ≡ answer (delete_numbered n next left s.trail (number y))
  found_strike ν next f =
      let next_is : next_depth ν (flats (numbered_leaves n) (numbers_at n pages rest)) ≡ next = ap (next_depth ν) (leaves_are rest) ∙ sym f in
      ap (strike_in (numbered_depth n) (numbered_leaves n) (step_numbered n) (delete_numbered n) ν (left_from w key position) τ) found_numbers
      ∙ strike_in_at (numbered_depth n) (numbered_leaves n) (delete_numbered n) ν (left_from w key position) τ (numbers_at n pages front) (number y) (numbers_at n pages rest) (step_numbered n)
      found_passes found_stops
      ∙ ap (λ (v : ℕ). answer (delete_numbered n v (positions_after (numbered_depth n) (left_from w key position) (numbers_at n pages front)) (last_depth (numbered_depth n) τ (numbers_at n pages front)) (number y))) next_is
      ∙ ap (λ (bs : List ℕ). answer (delete_numbered n next bs (last_depth (numbered_depth n) τ (numbers_at n pages front)) (number y))) found_left
      ∙ ap (λ (t : ℕ). answer (delete_numbered n next left t (number y))) trail_is
