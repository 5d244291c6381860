-- The search from a page down: one level of it, in terms of the tree that the pages are read as. Assumes nothing.
use mathlib.Core.Path.{◌≡◌, refl, sym, ap, subst, ◌∙◌}
use mathlib.Core.Logic.{◌⊎◌, inl, inr}
use mathlib.Core.Bool.{Bool}
use mathlib.Core.List.{List, [], ◌∷◌, ◌++◌, map, map-append}
use Prim.Native.Nat.{ℕ, zero, suc, ◌+◌, ◌-◌, ◌≤◌, ◌<◌}
use native.Mathlib.Omega.{arith}
use lib.ListN.{length, get_or, take, drop}
use lib.Seq.{split_at}
use Rattle.leaf_list.specs.Entries.{Entry, entry, depth_of as entry_depth}
use Rattle.page_tree.specs.Rows.{All, Closed, flats, last_depth}
use Rattle.page_tree.specs.Tree.{Node, depth, leaves}
use Rattle.page_tree.specs.Walk.{walk}
use Rattle.page_tree.specs.Finding.{find_below, nowhere}
use Rattle.leaf_list.specs.Depths.{Unrepeated, LeafDepths}
use Rattle.leaf_list.proofs.Lists.{all_at}
use Rattle.leaf_list.proofs.Unrepeated.{unrepeated_left, unrepeated_right}
use Rattle.page_tree.proofs.RowMaps.{last_depth_map, positions_after_map, passes_map}
use Rattle.page_tree.proofs.ListLaws.{all_left, all_right}
use Rattle.page_tree.proofs.UnrepeatedRows.{unrepeated_map, unrepeated_page}
use Rattle.page_tree.proofs.WalkPlaces.{positions_after, Stops, find_at}
use Rattle.index_table.specs.Layout.{Ref, Within, layout_of, page_bytes, ref_at}
use Rattle.index_table.specs.Pages.{pages_at, node_at, record_of}
use Rattle.index_table.specs.Soundness.{SoundBelow}
use Rattle.index_table.proofs.PageBytes.{within_table}
use Rattle.index_table.proofs.SoundNodes.{sound_depths, sound_nodes}
use Rattle.table_search.specs.declared.Spot.{Spot}
use Rattle.table_search.specs.declared.Leaf.{Leaf}
use Rattle.table_search.specs.Places.{left_from, depth_of, SeekPre, Stopped, sparse_at, Ends, DescendPre, Way, Descended}
use Rattle.table_search.proofs.Stops.{read_entry}

-- The depths of what stands above level 0 are depths of level 0.
last_low : (w n τ : ℕ) (page : List (Node n)) → ((x : Node n) → All (λ e. entry_depth e ≤ w) (leaves n x) → depth n x ≤ w) → τ ≤ w
    → All (λ e. entry_depth e ≤ w) (flats (leaves n) page) → last_depth (depth n) τ page ≤ w
last_low w n τ [] f h a = h
last_low w n τ (x ∷ page) f h a =
    last_low w n (depth n x) page f (f x (all_left (λ e. entry_depth e ≤ w) (leaves n x) (flats (leaves n) page) a))
    (all_right (λ e. entry_depth e ≤ w) (leaves n x) (flats (leaves n) page) a)

pub depth_low : (w n : ℕ) (x : Node n) → All (λ e. entry_depth e ≤ w) (leaves n x) → depth n x ≤ w
depth_low w zero (entry d p) a = a.0
depth_low w (suc n) page a = last_low w n 0 page (depth_low w n) (omega arith) a

-- What holds of all leaves of a row holds of the leaves of one thing in it.
pub leaves_at : (Q : Entry → Type 0) (n : ℕ) (f : Ref → Node n) (row : List Ref) (i : ℕ) → i < length row → All Q (flats (leaves n) (map f row))
    → All Q (leaves n (f (get_or row i (0, 0))))
leaves_at Q n f [] i h a = absurd (omega arith)
leaves_at Q n f (x ∷ row) zero h a = all_left Q (leaves n (f x)) (flats (leaves n) (map f row)) a
leaves_at Q n f (x ∷ row) (suc i) h a = leaves_at Q n f row i (omega arith) (all_right Q (leaves n (f x)) (flats (leaves n) (map f row)) a)

-- So do their depths.
pub depths_at : (w n : ℕ) (f : Ref → Node n) (row : List Ref) (i : ℕ) → i < length row → LeafDepths w (flats (leaves n) (map f row)) → LeafDepths w (leaves n (f (get_or row i (0, 0))))
depths_at w n f row i h a =
    record { within = leaves_at (λ e. entry_depth e ≤ w) n f row i h a.within; unrepeated = unrepeated_at row i h a.unrepeated }
  where
    unrepeated_at : (row : List Ref) (i : ℕ) → i < length row → Unrepeated entry_depth (flats (leaves n) (map f row)) → Unrepeated entry_depth (leaves n (f (get_or row i (0, 0))))
    unrepeated_at [] i h u = absurd (omega arith)
    unrepeated_at (x ∷ row) zero h u = unrepeated_left entry_depth (leaves n (f x)) (flats (leaves n) (map f row)) u
    unrepeated_at (x ∷ row) (suc i) h u = unrepeated_at row i (omega arith) (unrepeated_right entry_depth (leaves n (f x)) (flats (leaves n) (map f row)) u)

depths_low : (w n : ℕ) (f : Ref → Node n) (row : List Ref) → All (λ x. depth n (f x) ≡ x.0) row → All (λ e. entry_depth e ≤ w) (flats (leaves n) (map f row)) → All (λ x. x.0 ≤ w) row
depths_low w n f [] h a = tt
depths_low w n f (x ∷ row) h a = (
  subst (λ (m : ℕ). m ≤ w) h.0 (depth_low w n (f x) (all_left (λ e. entry_depth e ≤ w) (leaves n (f x)) (flats (leaves n) (map f row)) a)),
  depths_low w n f row h.1 (all_right (λ e. entry_depth e ≤ w) (leaves n (f x)) (flats (leaves n) (map f row)) a),
)

-- The last entry of a closed row closes it.
closed_end : (c : ℕ) (row : List Ref) (i : ℕ) → Closed depth_of c row → suc i ≡ length row → (get_or row i (0, 0)).0 ≡ c
closed_end c [] i h e = absurd h
closed_end c (x ∷ []) zero h e = h
closed_end c (x ∷ []) (suc i) h e = absurd (omega arith)
closed_end c (x ∷ y ∷ row) zero h e = absurd (omega arith)
closed_end c (x ∷ y ∷ row) (suc i) h e = closed_end c (y ∷ row) i h.1 (omega arith)

-- All others are above it.
closed_inner : (c : ℕ) (row : List Ref) (i : ℕ) → Closed depth_of c row → i + 1 < length row → c < (get_or row i (0, 0)).0
closed_inner c [] i h l = absurd h
closed_inner c (x ∷ []) i h l = absurd (omega arith)
closed_inner c (x ∷ y ∷ row) zero h l = h.0
closed_inner c (x ∷ y ∷ row) (suc i) h l = closed_inner c (y ∷ row) i h.1 (omega arith)

module _ {b : List ℕ} {e P n page w key position : ℕ} (pre : DescendPre b e P n page w key position) where
  abbrev row : List Ref
  row = pages_at (layout_of e) b page

  abbrev node : Ref → Node n
  node x = node_at 65535 n (pages_at (layout_of e) b) x

  same : All (λ x. depth n (node x) ≡ x.0) row
  same = sound_depths 65535 (layout_of e) P b n row pre.sound.2

  low : LeafDepths w (flats (leaves n) (map node row))
  unfolding node_at
  low = pre.depths

  pub descend_within : Within (layout_of e) b page
  descend_within = within_table (layout_of e) P page b pre.table pre.sound.0.number

  -- A page of the way down can be searched.
  pub descend_seek : SeekPre b e page w key position
  descend_seek =
      record {
        within = descend_within;
        some = pre.sound.0.some;
        few = pre.sound.0.few;
        depths = depths_low w n node row same low.within;
        inner = λ i h. omega (arith, closed_inner pre.closing row i pre.sound.1 h);
        unrepeated =
            unrepeated_map depth_of (depth n) node row same
            (unrepeated_page e n (map node row) (sound_nodes 65535 (layout_of e) P b n row pre.sound.2) low.unrepeated);
        width = pre.width;
        narrow = pre.narrow;
        low = omega (arith, pre.before);
        high = pre.high;
      }

  module _ {τ : ℕ} (s : Spot) (stop : Stopped w key position τ row s) where
    abbrev y : Ref
    y = get_or row s.at (0, 0)

    pub descend_inside : s.at < e
    descend_inside = omega (arith, stop.inside, pre.sound.0.few)

    -- The entry found is before the next position.
    stop_before : y.0 < s.position
    stop_before = go stop.stops
      where
        go : (suc s.at ≡ length row) ⊎ (y.0 < s.position) → y.0 < s.position
        go (inl h) = omega (arith, closed_end pre.closing row s.at pre.sound.1 h, pre.before, stop.rise)
        go (inr h) = h

    same_passed : All (λ x. depth n (node x) ≡ x.0) (take s.at row)
    same_passed = all_left (λ x. depth n (node x) ≡ x.0) (take s.at row) (y ∷ drop (suc s.at) row) (subst (All (λ x. depth n (node x) ≡ x.0)) (split_at row s.at (0, 0) stop.inside) same)

    parted : map node row ≡ map node (take s.at row) ++ (node y ∷ map node (drop (suc s.at) row))
    parted = ap (map node) (split_at row s.at (0, 0) stop.inside) ∙ map-append node (take s.at row) (y ∷ drop (suc s.at) row)

    left_is : positions_after (depth n) (left_from w key position) (map node (take s.at row)) ≡ left_from w key s.position
    left_is = positions_after_map depth_of (depth n) node (left_from w key position) (take s.at row) same_passed ∙ stop.left

    trail_is : last_depth (depth n) τ (map node (take s.at row)) ≡ s.trail
    trail_is = last_depth_map depth_of (depth n) node τ (take s.at row) same_passed ∙ stop.trail

    -- A search of the page ends at that entry, with the positions and the depth carried on, whatever is asked there.
    pub descend_walk : {B : Type 0} (found : List ℕ → ℕ → Node n → List (Node n) → B) (none : B)
        → walk (depth n) found (λ x r. r) none (left_from w key position) τ (map node row) ≡ found (left_from w key s.position) s.trail (node y) (map node (drop (suc s.at) row))
    descend_walk found none =
        ap (walk (depth n) found (λ x r. r) none (left_from w key position) τ) parted
        ∙ find_at (depth n) found none (left_from w key position) τ (map node (take s.at row)) (node y) (map node (drop (suc s.at) row))
        (passes_map depth_of (depth n) node (left_from w key position) (take s.at row) same_passed stop.passes)
        (subst (λ (bs : List ℕ). Stops (depth n) bs (node y)) (sym left_is) (rw (all_at (λ x. depth n (node x) ≡ x.0) row s.at (0, 0) stop.inside same) stop_before))
        ∙ (λ i. found (left_is i) (trail_is i) (node y) (map node (drop (suc s.at) row)))

    -- The search below the page is the search below that entry.
    pub descend_step : find_below (suc n) (left_from w key position) τ (node_at 65535 (suc n) (pages_at (layout_of e) b) (0, page))
        ≡ find_below n (left_from w key s.position) s.trail (node y)
    unfolding node_at
    descend_step = descend_walk (λ bs t x xs. find_below n bs t x) nowhere

-- On level 0 the entry is the answer.
pub descend_leaf : {b : List ℕ} {e P page w key position τ : ℕ} (n : ℕ) (pre : DescendPre b e P n page w key position) → n ≡ 0
    → (few : Bool) (r : Leaf) → Ends w key position τ page few (pages_at (layout_of e) b page) r → Descended w key position τ n few e (pages_at (layout_of e) b) page r
unfolding node_at
descend_leaf (suc n) pre z few r ends = absurd (omega arith)
descend_leaf {b} {e} {P} {page} {w} {key} {position} {τ} zero pre z few r ends =
    record {
      next = ends.next;
      found =
          descend_step pre (record { at = r.at; position = ends.next; trail = r.trail }) ends.place
          ∙ ap (λ (x : Ref). (left_from w key ends.next, r.trail, entry x.0 (record_of 65535 x.1))) ends.entry_is;
      way = ends;
    }

-- Above it, the child is a page of the way down, and what is found below it is what is found.
module _ {b : List ℕ} {e P page w key position τ : ℕ} (n : ℕ) (pre : DescendPre b e P (suc n) page w key position) (s : Spot) (stop : Stopped w key position τ (pages_at (layout_of e) b page) s)
    (below : ℕ) (is : below ≡ (ref_at (layout_of e) (page_bytes (layout_of e) b page) s.at).1) where
  abbrev x : Ref
  x = get_or (pages_at (layout_of e) b page) s.at (0, 0)

  pointed : below ≡ x.1
  pointed = is ∙ ap (λ (z : Ref). z.1) (read_entry (layout_of e) b page s.at stop.inside)

  pub descend_child : DescendPre b e P n below w key s.position
  unfolding node_at
  descend_child =
      subst (λ (m : ℕ). DescendPre b e P n m w key s.position) (sym pointed)
      (record {
        closing = x.0;
        sound = all_at (SoundBelow (layout_of e) P (suc n) b) (pages_at (layout_of e) b page) s.at (0, 0) stop.inside pre.sound.2;
        before = stop_before pre s stop;
        table = pre.table;
        depths = depths_at w (suc n) (node_at 65535 (suc n) (pages_at (layout_of e) b)) (pages_at (layout_of e) b page) s.at stop.inside pre.depths;
        width = pre.width;
        narrow = pre.narrow;
        high = stop.high;
      })

  pub descend_found : (few : Bool) (r : Leaf) → Descended w key s.position s.trail n (sparse_at e (pages_at (layout_of e) b) page) e (pages_at (layout_of e) b) below r
      → Descended w key position τ (suc n) few e (pages_at (layout_of e) b) page r
  unfolding node_at
  descend_found few r d =
      record {
        next = d.next;
        found = descend_step pre s stop ∙ ap (λ (m : ℕ). find_below (suc n) (left_from w key s.position) s.trail (node_at 65535 (suc n) (pages_at (layout_of e) b) (0, m))) (sym pointed) ∙ d.found;
        way = (s, stop, subst (λ (m : ℕ). Way w key e (pages_at (layout_of e) b) n m s.position s.trail (sparse_at e (pages_at (layout_of e) b) page) r) pointed d.way);
      }

-- The same, from a level above 0 to the one below it.
pub descend_down : {b : List ℕ} {e P page w key position τ : ℕ} (level : ℕ) → (level ≡ 0 → ⊥) → (pre : DescendPre b e P level page w key position) (s : Spot)
    → Stopped w key position τ (pages_at (layout_of e) b page) s → (below : ℕ) → below ≡ (ref_at (layout_of e) (page_bytes (layout_of e) b page) s.at).1
    → DescendPre b e P (level - 1) below w key s.position
descend_down zero z pre s stop below is = absurd (z refl)
descend_down {b} {e} {P} {page} {w} {key} {position} {τ} (suc n) z pre s stop below is =
    let m : n ≡ suc n - 1 = omega arith in
    subst (λ (l : ℕ). DescendPre b e P l below w key s.position) m (descend_child n pre s stop below is)

pub descend_up : {b : List ℕ} {e P page w key position τ : ℕ} (level : ℕ) → (level ≡ 0 → ⊥) → (pre : DescendPre b e P level page w key position) (s : Spot)
    → Stopped w key position τ (pages_at (layout_of e) b page) s → (below : ℕ) → below ≡ (ref_at (layout_of e) (page_bytes (layout_of e) b page) s.at).1
    → (few : Bool) (r : Leaf) → Descended w key s.position s.trail (level - 1) (sparse_at e (pages_at (layout_of e) b) page) e (pages_at (layout_of e) b) below r
    → Descended w key position τ level few e (pages_at (layout_of e) b) page r
descend_up zero z pre s stop below is few r d = absurd (z refl)
descend_up {b} {e} {P} {page} {w} {key} {position} {τ} (suc n) z pre s stop below is few r d =
    let m : suc n - 1 ≡ n = omega arith in
    descend_found n pre s stop below is few r (subst (λ (l : ℕ). Descended w key s.position s.trail l (sparse_at e (pages_at (layout_of e) b) page) e (pages_at (layout_of e) b) below r) m d)
