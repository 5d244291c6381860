-- The last depths of the parts of a row, gathered part by part. Assumes nothing.
use mathlib.Core.Path.{◌≡◌, refl, sym, ap, ap₂, ◌∙◌}
use mathlib.Core.List.{List, [], ◌∷◌, ◌++◌, map, map-append, zip}
use Prim.Native.Nat.{ℕ, ◌+◌, ◌-◌, ◌≤◌, ◌<◌}
use native.Mathlib.Omega.{arith}
use native.Mathlib.Numerals.{add-one}
use lib.ListN.{length, get_or, set, take}
use lib.Seq.{take-suc, take-length, get_or-take}
use Rattle.page_tree.specs.Row.{depth_of, row_of, ends_in, CutsPost}
use Rattle.page_tree.specs.Rows.{last_depth}
use Rattle.page_tree.specs.Cutting.{parts}
use Rattle.page_tree.specs.declared.Row.{Row}
use Rattle.page_tree.specs.declared.Cuts.{Cuts}
use Rattle.page_tree.proofs.PartEnds.{start_of, length_ends}
use Rattle.page_tree.proofs.RowLaws.{Full, full_set, stored_behind, length_row}
use Rattle.page_tree.proofs.RowCuts.{Part, cuts_part, part_last}
use Rattle.table_plan.specs.Plans.{LastDepths}

-- The first k places have the last depths of the first k parts of a row.
pub record Gathered (e : ℕ) (row : Row) (k : ℕ) (ds ps : List ℕ) : Type 0 where
  pub full : Full ds ps
  pub depths : map depth_of (take k (zip ds ps)) ≡ map (last_depth depth_of 0) (take k (parts depth_of e (row_of row)))

module _ {e : ℕ} {row : Row} {cuts : Cuts} (full : Full row.depths row.pointers) (two : 2 ≤ e) (some : 1 ≤ row.count)
    (short : row.count ≤ 319) (post : CutsPost e row cuts) where
  -- The ends in use are as many as the parts.
  in_use : length (ends_in cuts) ≡ cuts.count
  in_use = ap length post.ends ∙ length_ends 0 (parts depth_of e (row_of row)) ∙ sym post.count

  -- Part k stands in the row up to its end.
  pub part_at : (k : ℕ) → k < length (ends_in cuts) → Part e row (parts depth_of e (row_of row)) k (start_of (parts depth_of e (row_of row)) k) (get_or (ends_in cuts) k 0)
  part_at k l =
      let used : k < cuts.count = omega (arith, in_use) in
      rw (get_or-take cuts.count cuts.ends k 0 used) (cuts_part (omega arith) (omega (arith, length_row row full short)) post k used (start_of (parts depth_of e (row_of row)) k) refl)

  -- So its end has an entry before it.
  pub end_inside : (k : ℕ) → k < length (ends_in cuts) → (1 ≤ get_or (ends_in cuts) k 0) × (get_or (ends_in cuts) k 0 ≤ 319)
  end_inside k l = (omega (arith, (part_at k l).some), omega (arith, (part_at k l).within))

  -- One depth more.
  pub gathered_more : (k : ℕ) → k < length (ends_in cuts) → (ds ps : List ℕ) → Gathered e row k ds ps
      → Gathered e row (k + 1) (set ds k (get_or row.depths (get_or (ends_in cuts) k 0 - 1) 0)) (set ps k 0)
  gathered_more k l ds ps g =
      let d = get_or row.depths (get_or (ends_in cuts) k 0 - 1) 0 in
      let xss = parts depth_of e (row_of row) in
      let p = part_at k l in
      let last : d ≡ last_depth depth_of 0 (get_or xss k []) =
      sym (part_last row full (start_of xss k) (get_or (ends_in cuts) k 0) 0 p.some (end_inside k l).1) ∙ ap (last_depth depth_of 0) p.entries in
      record {
        full = full_set ds ps k d 0 g.full;
        depths =
            ap (map depth_of) (stored_behind ds ps g.full k d 0 (omega (arith, in_use, post.few)))
            ∙ map-append depth_of (take k (zip ds ps)) ((d, 0) ∷ [])
            ∙ ap₂ (λ xs (y : ℕ). xs ++ (y ∷ [])) g.depths last
            ∙ sym (ap (map (last_depth depth_of 0)) (ap (λ (n : ℕ). take n xss) (add-one k) ∙ take-suc xss k [] (omega (arith, in_use, post.count)))
            ∙ map-append (last_depth depth_of 0) (take k xss) (get_or xss k [] ∷ []));
      }

  -- All of them.
  pub gathered_all : (r : Row) → r.count ≡ length (ends_in cuts) → Gathered e row r.count r.depths r.pointers → LastDepths e row r
  gathered_all r is g =
      let xss = parts depth_of e (row_of row) in
      let count : r.count ≡ length xss = is ∙ in_use ∙ post.count in
      record {
        count = count;
        depths = g.depths ∙ ap (map (last_depth depth_of 0)) (ap (λ (n : ℕ). take n xss) count ∙ take-length xss);
        some = omega (arith, in_use, post.some);
        few = omega (arith, in_use, post.few);
      }
