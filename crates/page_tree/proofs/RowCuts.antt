-- The ends of the parts of a row, part by part. Assumes nothing.
use mathlib.Core.Path.{◌≡◌, refl, sym, ap, ◌∙◌}
use mathlib.Core.List.{List, [], ◌∷◌, ◌++◌, map, append_assoc}
use Prim.Native.Nat.{ℕ, suc, ◌+◌, ◌-◌, ◌≤◌, ◌<◌}
use native.Mathlib.Omega.{arith}
use native.Mathlib.Numerals.{add-one}
use lib.ListN.{length, get_or, set, take, length-map, length-set}
use lib.Seq.{slice, take-suc-set, length-slice, length-take-le, get_or-take, take-length}
use Rattle.page_tree.specs.declared.Row.{Row}
use Rattle.page_tree.specs.declared.Cut.{Cut}
use Rattle.page_tree.specs.declared.Cuts.{Cuts}
use Rattle.page_tree.specs.Rows.{All, concat, itself, last_depth, LastBelow}
use Rattle.page_tree.specs.Cutting.{split, parts}
use Rattle.page_tree.specs.Row.{Pair, depth_of, places, row_of, part_of, ends_of, ends_in, SplitPost, CutPre, CutPost, CutsPost}
use Rattle.leaf_list.proofs.Lists.{all_at, all_weaker}
use Rattle.page_tree.proofs.ListLaws.{all_unit}
use Rattle.page_tree.proofs.RowMaps.{closed_map, parts_map}
use Rattle.page_tree.proofs.CuttingLaws.{cut_fits, cut_join}
use Rattle.page_tree.proofs.ClosedRows.{closed_below}
use Rattle.page_tree.proofs.Splitting.{split_join, split_shallowest, split_closed}
use Rattle.page_tree.proofs.QuickCutLaws.{quick_law}
use Rattle.page_tree.proofs.PartEnds.{slice_left, slice_right, start_of, length_ends, end_at, end_within, part_at, start_next, parts_sizes, ends_long}
use Rattle.page_tree.proofs.RowLaws.{Full, length_zip, depths_zip, place_at, length_row, part_of_row, last_slice}

-- A part is cut at m, inside it, and both its parts can be cut again, one behind the other.
pub record Inside (e : ℕ) (ds : List ℕ) (from to m : ℕ) (before : Cuts) : Type 0 where
  pub after : from < m
  pub ahead : m < to
  pub left_part : CutPre e ds from m before
  pub right_part : (left : Cuts) → CutPost e ds from m before left → CutPre e ds m to left

module _ {e from to : ℕ} {before : Cuts} (ds : List ℕ) (full : length ds ≡ 319) (pre : CutPre e ds from to before) where
  -- The part is inside the row.
  fits : to ≤ length ds
  fits = omega (arith, pre.within)

  -- One part: its end is stored.
  pub cut_one : length before.ends ≡ 65 → to - from ≤ e
      → CutPost e ds from to before (record { ends = set before.ends before.count to; count = before.count + 1 })
  cut_one l h =
      let n = length-slice from to ds fits in
      let end : from + length (slice from to ds) ≡ to = omega (arith, pre.some) in
      record {
        ends =
            rw (add-one before.count, cut_fits itself e (length (slice from to ds)) (slice from to ds) (omega arith), end)
            (take-suc-set before.ends before.count to (omega (arith, pre.room)));
        some = omega arith;
        few = omega arith;
        places = length-set before.ends before.count to;
      }

  -- The part, and the two in which 01 cuts it.
  abbrev whole : List ℕ
  whole = slice from to ds

  abbrev lower : List ℕ
  lower = (split itself whole).1

  abbrev upper : List ℕ
  upper = (split itself whole).2

  -- Cut where the search found: the left part, then the right.
  module _ (long : e < to - from) (cut : Cut) (found : SplitPost ds from to cut) where
    abbrev m : ℕ
    m = cut.at

    -- The place found is 01's.
    at : m ≡ from + length lower
    at = found.place ∙ ap (λ (k : ℕ). from + k) (quick_law itself whole pre.closed)

    -- Where it is, and the ends of both parts.
    halves : (from < m) × (m < to)
        × (ends_of from (parts itself e whole) ≡ ends_of from (parts itself e (slice from m ds)) ++ ends_of m (parts itself e (slice m to ds)))
    halves = ends_long itself e pre.size ds from to m (omega (arith, pre.some)) fits long at

    two : 2 ≤ length whole
    two = omega (arith, length-slice from to ds fits, pre.size)

    -- In both the last depth is below all others.
    left_closed : LastBelow itself (slice from m ds)
    left_closed =
        rw (slice_left from m to ds lower upper (omega (arith, halves.1)) fits at (sym (split_join itself whole)))
        (closed_below itself (split itself whole).0 lower (split_shallowest itself whole two).first)

    right_closed : LastBelow itself (slice m to ds)
    right_closed =
        rw (slice_right from m to ds lower upper at (sym (split_join itself whole)))
        (closed_below itself (last_depth itself 0 whole) upper (split_closed itself (last_depth itself 0 whole) whole two pre.closed).1)

    -- What both calls ask.
    pub cut_inside : Inside e ds from to m before
    cut_inside = record {
      after = halves.0;
      ahead = halves.1;
      left_part = record {
        some = halves.0;
        within = omega (arith, pre.within, halves.1);
        size = pre.size;
        room = omega (arith, pre.room, halves.1);
        closed = left_closed;
      };
      right_part = λ left h. record {
        some = halves.1;
        within = pre.within;
        size = pre.size;
        room = omega (arith, pre.room, pre.size, h.few, halves.0, halves.1);
        closed = right_closed;
      };
    }

    -- What they leave.
    pub cut_both : (left after : Cuts) → CutPost e ds from m before left → CutPost e ds m to left after → CutPost e ds from to before after
    cut_both left after h g = record {
      ends =
          g.ends ∙ ap (λ l. l ++ ends_of m (parts itself e (slice m to ds))) h.ends
          ∙ append_assoc (ends_in before) (ends_of from (parts itself e (slice from m ds))) (ends_of m (parts itself e (slice m to ds)))
          ∙ ap (λ l. ends_in before ++ l) (sym halves.2);
      some = omega (arith, h.some, g.some);
      few = omega (arith, pre.size, h.few, g.few, halves.0, halves.1);
      places = g.places ∙ h.places;
    }

-- An end that is in use.
end_read : (cuts : Cuts) (es : List ℕ) (k : ℕ) → ends_in cuts ≡ es → k < cuts.count → get_or cuts.ends k 0 ≡ get_or es k 0
end_read cuts es k h l = sym (get_or-take cuts.count cuts.ends k 0 l) ∙ ap (λ r. get_or r k 0) h

-- Parts of other things are as long.
ends_map : {A B : Type 0} (f : A → B) (from : ℕ) (xss : List (List A)) → ends_of from (map (map f) xss) ≡ ends_of from xss
ends_map f from [] = refl
ends_map f from (xs ∷ xss) = rw (length-map xs f) (ap (λ l. (from + length xs) ∷ l) (ends_map f (from + length xs) xss))

module _ (e : ℕ) (row : Row) (full : Full row.depths row.pointers) where
  -- The depths of the entries.
  row_depths : map depth_of (row_of row) ≡ take row.count row.depths
  row_depths = depths_zip row.count row.depths row.pointers (full.0 ∙ sym full.1)

  own_depths : All (λ x. depth_of x ≡ depth_of x) (row_of row)
  own_depths = all_weaker (λ x. Unit {0}) (λ x. depth_of x ≡ depth_of x) (row_of row) (λ x u. refl) (all_unit (row_of row))

  -- The row can be cut, by its depths.
  pub cut_start : {none : Cuts} → 2 ≤ e → e ≤ 255 → 1 ≤ row.count → row.count ≤ e + 64 → LastBelow depth_of (row_of row) → none.count ≡ 0
      → CutPre e row.depths 0 row.count none
  cut_start low byte some most closed no_end = record {
    some = some;
    within = omega arith;
    size = omega arith;
    room = omega arith;
    closed =
        rw (← row_depths)
        (closed_below itself (last_depth depth_of 0 (row_of row)) (map depth_of (row_of row))
        (closed_map depth_of itself depth_of (last_depth depth_of 0 (row_of row)) (row_of row) own_depths closed));
  }

  -- The ends are those of its parts.
  same_ends : ends_of 0 (parts itself e (take row.count row.depths)) ≡ ends_of 0 (parts depth_of e (row_of row))
  same_ends =
      ap (λ l. ends_of 0 (parts itself e l)) (sym row_depths) ∙ ap (ends_of 0) (parts_map depth_of itself depth_of e (row_of row) own_depths)
      ∙ ends_map depth_of 0 (parts depth_of e (row_of row))

-- The whole row, with no end before.
pub cut_all : {e : ℕ} {row : Row} {none after : Cuts} → Full row.depths row.pointers → row.count ≤ 319 → row.count ≤ e + 64
    → length after.ends ≡ 65 → none.count ≡ 0 → CutPost e row.depths 0 row.count none after → CutsPost e row after
cut_all {e} {row} {none} {after} full small most l no_end h =
    let ps = parts depth_of e (row_of row) in
    let ends : ends_in after ≡ ends_of 0 ps =
    h.ends ∙ ap (λ (n : ℕ). take n none.ends ++ ends_of 0 (parts itself e (take row.count row.depths))) no_end ∙ same_ends e row full in
    let few : after.count ≤ 65 = omega (arith, h.few) in
    let count : after.count ≡ length ps = sym (length-take-le after.count after.ends (omega arith)) ∙ ap length ends ∙ length_ends 0 ps in
    let whole : length (concat ps) ≡ row.count = ap length (cut_join depth_of e (length (row_of row)) (row_of row)) ∙ length_row row full small in
    record {
      ends = ends;
      count = count;
      some = omega (arith, h.some);
      few = few;
      within = λ k b. omega (arith, end_read after (ends_of 0 ps) k ends b, end_within 0 ps k (omega arith));
    }

-- Part k of the parts ps of a row stands from one place up to another.
pub record Part (e : ℕ) (row : Row) (ps : List (List Pair)) (k from to : ℕ) : Type 0 where
  pub entries : part_of row from to ≡ get_or ps k []
  pub next : to ≡ start_of ps (suc k)
  pub some : from < to
  pub few : to ≤ from + e
  pub within : to ≤ row.count

-- What stands between an end and the one before is the part, with 1 to e entries.
pub cuts_part : {e : ℕ} {row : Row} {cuts : Cuts} → 1 ≤ e → 1 ≤ length (row_of row) → CutsPost e row cuts → (k : ℕ) → k < cuts.count
    → (from : ℕ) → from ≡ start_of (parts depth_of e (row_of row)) k → Part e row (parts depth_of e (row_of row)) k from (get_or cuts.ends k 0)
cuts_part {e} {row} {cuts} one some h k l from f =
    let ps = parts depth_of e (row_of row) in
    let to = get_or cuts.ends k 0 in
    let b : k < length ps = omega (arith, h.count) in
    let end : to ≡ start_of ps (suc k) = end_read cuts (ends_of 0 ps) k h.ends l ∙ end_at 0 ps k b ∙ omega arith in
    let sized = all_at (λ xs. (1 ≤ length xs) × (length xs ≤ e)) ps k [] b (parts_sizes depth_of e one (row_of row) some) in
    let step = start_next ps k b in
    record {
      entries =
          rw (f, end) (sym (part_at ps k b
          ∙ ap (slice (start_of ps k) (start_of ps (suc k))) (cut_join depth_of e (length (row_of row)) (row_of row))
          ∙ sym (part_of_row row (start_of ps k) (start_of ps (suc k)) (rw end at (h.within k l)))));
      next = end;
      some = omega (arith, sized.0);
      few = omega (arith, sized.1);
      within = h.within k l;
    }

-- Behind the last part the row ends.
pub cuts_end : {e : ℕ} {row : Row} {cuts : Cuts} → Full row.depths row.pointers → row.count ≤ 319 → CutsPost e row cuts
    → start_of (parts depth_of e (row_of row)) cuts.count ≡ row.count
cuts_end {e} {row} {cuts} full small h =
    let ps = parts depth_of e (row_of row) in
    ap (λ (k : ℕ). start_of ps k) h.count ∙ ap (λ xss. length (concat xss)) (take-length ps)
    ∙ ap length (cut_join depth_of e (length (row_of row)) (row_of row)) ∙ length_row row full small

-- The depth of a part in its parent is that of its last entry.
pub part_last : (row : Row) → Full row.depths row.pointers → (from to τ : ℕ) → from < to → to ≤ 319
    → last_depth depth_of τ (part_of row from to) ≡ get_or row.depths (to - 1) 0
part_last row full from to τ h l =
    last_slice depth_of τ (0, 0) (places row) from to h (omega (arith, length_zip row.depths row.pointers full))
    ∙ ap depth_of (place_at row.depths row.pointers full (to - 1) (omega arith))
