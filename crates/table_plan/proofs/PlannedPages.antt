-- The plan of a page from the plan below the entry found, in terms of the tree that the pages are read as. Assumes nothing.
use mathlib.Core.Path.{◌≡◌, refl, sym, ap, ap₂, subst, ◌∙◌}
use mathlib.Core.Logic.{◌⊎◌, inl, inr}
use mathlib.Core.Bool.{Bool, true, false, cond}
use mathlib.Core.List.{List, [], ◌∷◌, ◌++◌, map, map-append, append_assoc}
use Prim.Native.Nat.{ℕ, zero, suc, ◌*◌, ◌-◌, ◌≤◌, ◌<◌}
use native.Mathlib.Omega.{arith}
use lib.Dec.{leb}
use lib.ListN.{length, get_or, take, drop, length-map, length-take}
use lib.Seq.{split_at}
use Rattle.leaf_list.specs.Keys.{Key, bits}
use Rattle.leaf_list.specs.Entries.{Entry, entry, depth_of as entry_depth}
use Rattle.leaf_list.specs.Search.{positions}
use Rattle.leaf_list.proofs.Lists.{all_at}
use Rattle.leaf_list.proofs.Positions.{Rising, positions_beyond, positions_rise}
use Rattle.page_tree.specs.Row.{depth_of, places, row_of}
use Rattle.page_tree.specs.Rows.{All, Closed, last_depth, LastBelow}
use Rattle.page_tree.specs.Tree.{Node, depth, Sound}
use Rattle.page_tree.specs.Finding.{Found, find_below}
use Rattle.page_tree.specs.OnPages.{Replacement, replace_in, insert_below, pages_below}
use Rattle.page_tree.specs.declared.Row.{Row}
use Rattle.page_tree.proofs.ListLaws.{all_left, all_right, all_unit}
use Rattle.page_tree.proofs.ClosedRows.{closed_last, closed_below, closed_nonempty}
use Rattle.page_tree.proofs.RowMaps.{closed_map, last_depth_map, positions_after_map, passes_map}
use Rattle.page_tree.proofs.WalkLaws.{first_beyond}
use Rattle.page_tree.proofs.WalkPlaces.{positions_after, Stops, replace_in_at}
use Rattle.page_tree.proofs.Replacing.{InPlace}
use Rattle.page_tree.proofs.InsertionSound.{Fits, insert_below_in_place}
use Rattle.index_table.specs.Layout.{Ref, layout_of, page_bytes, ref_at}
use Rattle.index_table.specs.Pages.{pages_at, leaf_of, node_at}
use Rattle.index_table.specs.Soundness.{SoundBelow}
use Rattle.index_table.proofs.SoundNodes.{sound_depth, sound_depths, sound_node}
use Rattle.index_write.specs.Storing.{new_leaves, spliced_at}
use Rattle.table_search.specs.declared.Spot.{Spot}
use Rattle.table_search.specs.Places.{later, left_from, Stopped}
use Rattle.table_search.proofs.Stops.{read_entry}
use Rattle.table_search.proofs.Descents.{descend_within, descend_walk, descend_step, descend_child}
use Rattle.table_plan.specs.declared.Plan.{Plan}
use Rattle.table_plan.specs.Plans.{PartsPre, PartsPost, PlanPre, PlanPost, fresh_pages}
use Rattle.table_plan.proofs.SameDepths.{same_closed, same_lasts, same_parts}
use Rattle.table_plan.proofs.SplicedRows.{last_at}

-- The positions that are left rise.
pub left_rising : (w key b : ℕ) → Rising (left_from w key b)
left_rising w key b = go (leb b w) (drop b (bits w key))
  where
    go : (t : Bool) (k : Key) → Rising (b ∷ cond t (positions b k) [])
    go true k = (positions_beyond b b k (omega arith), positions_rise b k)
    go false k = (tt, tt)

-- The depth of an entry, as a node.
entry_depth_lem : (x : Entry) → depth 0 x ≡ entry_depth x
entry_depth_lem (entry d p) = refl

-- Stored entries are leaves of the same depths.
leaf_depths : (row : List Ref) → All (λ x. depth 0 (leaf_of 65535 x) ≡ depth_of x) row
leaf_depths [] = tt
leaf_depths (x ∷ row) = (refl, leaf_depths row)

-- Things of the same depths.
depths_map : {A B : Type 0} (d : A → ℕ) (d' : B → ℕ) (f : A → B) (xs : List A) → All (λ x. d' (f x) ≡ d x) xs → map d xs ≡ map d' (map f xs)
depths_map d d' f [] h = refl
depths_map d d' f (x ∷ xs) h = ap₂ (λ (m : ℕ) (l : List ℕ). m ∷ l) (sym h.0) (depths_map d d' f xs h.1)

-- The new entries may stand in the place of the entry found.
pub news_fit : (w : ℕ) (news : Row) (found : Found) → news.count ≤ suc w → Closed depth_of (entry_depth found.2) (row_of news) → Fits w (new_leaves news) found
news_fit w news found few closed =
    let long = length-map (row_of news) (leaf_of 65535) in
    record {
      closed = rw (entry_depth_lem found.2) (closed_map depth_of (depth 0) (leaf_of 65535) (entry_depth found.2) (row_of news) (leaf_depths (row_of news)) closed);
      good = all_unit (map (leaf_of 65535) (row_of news));
      longer = omega (arith, long, closed_nonempty depth_of (entry_depth found.2) (row_of news) closed);
      few = omega (arith, long, length-take news.count (places news));
    }

-- What will stand in the place of an entry of rank n: its depths as a row, and the pages more.
pub record Below (e n : ℕ) (news : Row) (bs : List ℕ) (τ : ℕ) (x : Node n) (row : Row) (fresh : ℕ) : Type 0 where
  pub depths : map depth_of (row_of row) ≡ map (depth n) (insert_below e (new_leaves news) n bs τ x)
  pub pages : fresh ≡ pages_below e (new_leaves news) n bs τ x
  pub some : 1 ≤ row.count
  pub few : row.count ≤ 65
  pub small : fresh ≤ 64 * n

module _ {b : List ℕ} {e P n page w key position trail : ℕ} {news : Row} (pre : PlanPre b e P n page w key position trail news) where
  abbrev refs : List Ref
  refs = pages_at (layout_of e) b page

  abbrev node : Ref → Node n
  node x = node_at 65535 n (pages_at (layout_of e) b) x

  abbrev bs : List ℕ
  bs = left_from w key position

  abbrev new : Replacement
  new = new_leaves news

  same : All (λ x. depth n (node x) ≡ x.0) refs
  same = sound_depths 65535 (layout_of e) P b n refs pre.place.sound.2

  -- What will stand in the place of the page is 1 to 65 pages.
  whole : InPlace (depth (suc n)) (Sound e (suc n)) w (depth (suc n) (map node refs)) (map node refs ∷ []) (insert_below e new (suc n) bs trail (map node refs))
  unfolding node_at
  whole =
      let x : Ref = (pre.place.closing, page) in
      insert_below_in_place e w new (omega (arith, pre.two)) (suc n) bs trail (map node refs) (sound_node 65535 (layout_of e) P b (suc n) x pre.place.sound)
      (left_rising w key position)
      (first_beyond (depth (suc n) (map node refs)) position (later w key position)
      (rw (sound_depth 65535 (layout_of e) P b (suc n) x pre.place.sound) pre.place.before) (left_rising w key position))
      (news_fit w news (find_below (suc n) bs trail (map node refs)) pre.few pre.closed)

  -- In the row of their depths the last is below all others.
  pub planned_closed : (r : Plan) → PlanPost b e n page w key position trail news r → LastBelow depth_of (row_of r.row)
  unfolding node_at
  planned_closed r post =
      let c : ℕ = depth (suc n) (map node refs) in
      closed_below depth_of c (row_of r.row)
      (same_closed depth_of (depth (suc n)) (row_of r.row) (insert_below e new (suc n) bs trail (map node refs)) post.depths c whole.closed)

  module _ (s : Spot) (stop : Stopped w key position trail refs s) where
    abbrev y : Ref
    y = get_or refs s.at (0, 0)

    abbrev bs' : List ℕ
    bs' = left_from w key s.position

    abbrev before : List Ref
    before = take s.at refs

    abbrev after : List Ref
    after = drop (suc s.at) refs

    -- The entry found is before the next position.
    y_before : y.0 < s.position
    y_before = go stop.stops
      where
        go : (suc s.at ≡ length refs) ⊎ (y.0 < s.position) → y.0 < s.position
        go (inl h) =
            omega (
              arith,
              last_at 0 refs s.at h,
              closed_last depth_of pre.place.closing 0 refs pre.place.sound.1,
              pre.place.before,
              stop.rise,
            )
        go (inr h) = h

    y_depth : depth n (node y) ≡ y.0
    y_depth = all_at (λ x. depth n (node x) ≡ x.0) refs s.at (0, 0) stop.inside same

    parted : refs ≡ before ++ y ∷ after
    parted = split_at refs s.at (0, 0) stop.inside

    same_parted : All (λ x. depth n (node x) ≡ x.0) (before ++ y ∷ after)
    same_parted = subst (All (λ x. depth n (node x) ≡ x.0)) parted same

    same_before : All (λ x. depth n (node x) ≡ x.0) before
    same_before = all_left (λ x. depth n (node x) ≡ x.0) before (y ∷ after) same_parted

    same_after : All (λ x. depth n (node x) ≡ x.0) after
    same_after = (all_right (λ x. depth n (node x) ≡ x.0) before (y ∷ after) same_parted).1

    left_is : positions_after (depth n) bs (map node before) ≡ bs'
    left_is = positions_after_map depth_of (depth n) node bs before same_before ∙ stop.left

    trail_is : last_depth (depth n) trail (map node before) ≡ s.trail
    trail_is = last_depth_map depth_of (depth n) node trail before same_before ∙ stop.trail

    abbrev found : List (Node n)
    found = insert_below e new n bs' s.trail (node y)

    -- The page's row, once all below the entry found is done.
    replaced : replace_in (depth n) (insert_below e new n) bs trail (map node refs) ≡ map node before ++ (found ++ map node after)
    replaced =
        ap (replace_in (depth n) (insert_below e new n) bs trail) (ap (map node) parted ∙ map-append node before (y ∷ after))
        ∙ replace_in_at (depth n) (insert_below e new n) bs trail (map node before) (node y) (map node after)
        (passes_map depth_of (depth n) node bs before same_before stop.passes)
        (subst (λ (l : List ℕ). Stops (depth n) l (node y)) (sym left_is) (rw y_depth y_before))
        ∙ (λ i. map node before ++ (insert_below e new n (left_is i) (trail_is i) (node y) ++ map node after))

    -- What the search finds below the page is what it finds below the entry.
    found_closed : Closed depth_of (entry_depth (find_below n bs' s.trail (node y)).2) (row_of news)
    found_closed = subst (λ (f : Found). Closed depth_of (entry_depth f.2) (row_of news)) (descend_step pre.place s stop) pre.closed

    -- What will stand in the place of the entry found ends in its depth, which is below all others.
    found_closes : Closed (depth n) y.0 found
    found_closes =
        rw y_depth at
        (insert_below_in_place e w new (omega (arith, pre.two)) n bs' s.trail (node y)
        (sound_node 65535 (layout_of e) P b n y (all_at (SoundBelow (layout_of e) P n b) refs s.at (0, 0) stop.inside pre.place.sound.2))
        (left_rising w key s.position)
        (first_beyond (depth n (node y)) s.position (later w key s.position) (rw y_depth y_before) (left_rising w key s.position))
        (news_fit w news (find_below n bs' s.trail (node y)) pre.few found_closed)).closed

    module _ (row : Row) (fresh : ℕ) (below : Below e n news bs' s.trail (node y) row fresh) where
      -- The row may stand in the place of the entry found.
      pub plan_parts_pre : n ≤ 255 → PartsPre b e page s.at row fresh
      plan_parts_pre byte = record {
        two = pre.two;
        within = descend_within pre.place;
        few = pre.place.sound.0.few;
        inside = stop.inside;
        some = below.some;
        room = below.few;
        closed = same_closed depth_of (depth n) (row_of row) found below.depths y.0 found_closes;
        page_closed = closed_below depth_of pre.place.closing refs pre.place.sound.1;
        small = omega (arith, below.small);
      }

      -- The page's row has the depths of what it will be.
      same_row : map depth_of (spliced_at s.at (row_of row) refs) ≡ map (depth n) (replace_in (depth n) (insert_below e new n) bs trail (map node refs))
      same_row =
          map-append depth_of (before ++ row_of row) after
          ∙ ap₂ (λ (l r : List ℕ). l ++ r)
          (map-append depth_of before (row_of row) ∙ ap₂ (λ (l r : List ℕ). l ++ r) (depths_map depth_of (depth n) node before same_before) below.depths)
          (depths_map depth_of (depth n) node after same_after)
          ∙ append_assoc (map (depth n) (map node before)) (map (depth n) found) (map (depth n) (map node after))
          ∙ sym (ap (map (depth n)) replaced ∙ map-append (depth n) (map node before) (found ++ map node after)
          ∙ ap (λ (l : List ℕ). map (depth n) (map node before) ++ l) (map-append (depth n) found (map node after)))

      -- So its parts are planned.
      pub plan_parts_post : (r : Plan) → PartsPost e (spliced_at s.at (row_of row) refs) fresh r → PlanPost b e n page w key position trail news r
      unfolding node_at
      plan_parts_post r post =
          let ps : List (Node (suc n)) = insert_below e new (suc n) bs trail (map node refs) in
          let lasts = same_lasts depth_of (depth n) (spliced_at s.at (row_of row) refs) (replace_in (depth n) (insert_below e new n) bs trail (map node refs)) same_row e in
          let many = same_parts depth_of (depth n) (spliced_at s.at (row_of row) refs) (replace_in (depth n) (insert_below e new n) bs trail (map node refs)) same_row e in
          let under = descend_walk pre.place s stop (λ bs τ x xs. pages_below e new n bs τ x) 0 in
          let few : length ps ≤ 65 = omega (arith, whole.few, pre.place.width) in
          let some : 1 ≤ length ps = omega (arith, whole.longer) in
          let fresh_is : r.fresh ≡ fresh_pages b e n page w key position trail news = omega (arith, post.fresh, many, under, below.pages) in
          record {
            count = post.count ∙ many;
            depths = post.depths ∙ lasts;
            fresh = fresh_is;
            some = omega (arith, post.count, many);
            few = omega (arith, post.count, many);
            small = omega (arith, post.fresh, many, below.small);
          }

-- On level 0 the new entries stand there themselves.
pub below_leaf : {b : List ℕ} {e P page w key position trail : ℕ} {news : Row} (level : ℕ) → level ≡ 0 → PlanPre b e P level page w key position trail news → (s : Spot)
    → Below e level news (left_from w key s.position) s.trail (node_at 65535 level (pages_at (layout_of e) b) (get_or (pages_at (layout_of e) b page) s.at (0, 0))) news 0
below_leaf (suc n) h pre s = absurd (omega arith)
below_leaf {news = news} zero h pre s = record {
  depths = depths_map depth_of (depth 0) (leaf_of 65535) (row_of news) (leaf_depths (row_of news));
  pages = refl;
  some = pre.some;
  few = omega (arith, pre.few, pre.place.width);
  small = omega arith;
}

-- Above it, the child is a page of the way down,
module _ {b : List ℕ} {e P page w key position trail : ℕ} {news : Row} (n : ℕ) (pre : PlanPre b e P (suc n) page w key position trail news) (s : Spot)
    (stop : Stopped w key position trail (pages_at (layout_of e) b page) s) (child : ℕ) (is : child ≡ (ref_at (layout_of e) (page_bytes (layout_of e) b page) s.at).1) where
  abbrev x : Ref
  x = get_or (pages_at (layout_of e) b page) s.at (0, 0)

  abbrev node_of : ℕ → Node (suc n)
  node_of p = node_at 65535 (suc n) (pages_at (layout_of e) b) (0, p)

  pointed : child ≡ x.1
  pointed = is ∙ ap (λ (z : Ref). z.1) (read_entry (layout_of e) b page s.at stop.inside)

  child_node : node_of child ≡ node_at 65535 (suc n) (pages_at (layout_of e) b) x
  unfolding node_at
  child_node = ap node_of pointed

  child_pre : PlanPre b e P n child w key s.position s.trail news
  child_pre = record {
    place = descend_child n pre.place s stop child is;
    two = pre.two;
    some = pre.some;
    few = pre.few;
    closed = subst (λ (z : Node (suc n)). Closed depth_of (entry_depth (find_below (suc n) (left_from w key s.position) s.trail z).2) (row_of news)) (sym child_node) (found_closed pre s stop);
  }

  -- whose parts will stand in the place of the entry.
  child_below : (r : Plan) → PlanPost b e n child w key s.position s.trail news r
      → Below e (suc n) news (left_from w key s.position) s.trail (node_at 65535 (suc n) (pages_at (layout_of e) b) x) r.row r.fresh
  child_below r post =
      subst (λ (z : Node (suc n)). Below e (suc n) news (left_from w key s.position) s.trail z r.row r.fresh) child_node
      (record { depths = post.depths; pages = post.fresh; some = post.some; few = post.few; small = post.small })

-- The same, from a level above 0 to the one below it.
module _ {b : List ℕ} {e P page w key position trail : ℕ} {news : Row} where
  pub plan_down : (level : ℕ) → (level ≡ 0 → ⊥) → (pre : PlanPre b e P level page w key position trail news) (s : Spot) → Stopped w key position trail (pages_at (layout_of e) b page) s
      → (child : ℕ) → child ≡ (ref_at (layout_of e) (page_bytes (layout_of e) b page) s.at).1 → PlanPre b e P (level - 1) child w key s.position s.trail news
  plan_down zero z pre s stop child is = absurd (z refl)
  plan_down (suc n) z pre s stop child is =
      let m : n ≡ suc n - 1 = omega arith in
      subst (λ (l : ℕ). PlanPre b e P l child w key s.position s.trail news) m (child_pre n pre s stop child is)

  pub below_page : (level : ℕ) → (level ≡ 0 → ⊥) → (pre : PlanPre b e P level page w key position trail news) (s : Spot) → Stopped w key position trail (pages_at (layout_of e) b page) s
      → (child : ℕ) → child ≡ (ref_at (layout_of e) (page_bytes (layout_of e) b page) s.at).1 → (r : Plan) → PlanPost b e (level - 1) child w key s.position s.trail news r
      → Below e level news (left_from w key s.position) s.trail (node_at 65535 level (pages_at (layout_of e) b) (get_or (pages_at (layout_of e) b page) s.at (0, 0))) r.row r.fresh
  below_page zero z pre s stop child is r post = absurd (z refl)
  below_page (suc n) z pre s stop child is r post =
      let m : suc n - 1 ≡ n = omega arith in
      child_below n pre s stop child is r (subst (λ (l : ℕ). PlanPost b e l child w key s.position s.trail news r) m post)
