-- New roots above the parts of a root, on depths alone. Assumes nothing.
use mathlib.Core.Path.{◌≡◌, sym, ap, subst, ◌∙◌}
use mathlib.Core.List.{List, [], ◌∷◌}
use Prim.Native.Nat.{ℕ, suc, ◌+◌, ◌≤◌, ◌<◌}
use native.Mathlib.Omega.{arith}
use native.Mathlib.Numerals.{add-one}
use lib.ListN.{length}
use Rattle.page_tree.specs.Row.{depth_of, row_of}
use Rattle.page_tree.specs.Rows.{sum, Closed, last_depth}
use Rattle.page_tree.specs.Tree.{Node, depth, page_count, Tree, pages_of}
use Rattle.page_tree.specs.Cutting.{parts}
use Rattle.page_tree.specs.OnPages.{grown}
use Rattle.page_tree.specs.declared.Row.{Row}
use Rattle.page_tree.proofs.ListLaws.{sum_concat}
use Rattle.page_tree.proofs.ClosedRows.{closed_below}
use Rattle.page_tree.proofs.CuttingLaws.{cut_join, parts_cut}
use Rattle.page_tree.proofs.Growing.{root_parts, parts_fewer, grown_again, grow_one}
use Rattle.page_tree.proofs.RowLaws.{Full, length_row}
use Rattle.table_plan.specs.declared.Outcome.{Outcome}
use Rattle.table_plan.specs.Plans.{LastDepths}
use Rattle.table_plan.specs.Outcomes.{RootsPre, Grown, RootsPost}
use Rattle.table_plan.proofs.SameDepths.{same_count, same_closed, same_lasts, same_parts}

-- One part is the root.
one_root : (e level : ℕ) (xs : List (Node (suc level))) → length xs ≡ 1 → Grown e level xs (record { level = level; fresh = 0 })
one_root e level [] h = absurd (omega arith)
one_root e level (x ∷ []) h =
    let root : grown e level (x ∷ []) ≡ (level, x) = grow_one e 1 level x in
    record { level_is = sym (ap (λ (t : Tree). t.0) root); pages = ap pages_of root ∙ omega arith }
one_root e level (x ∷ y ∷ xs) h = absurd (omega arith)

-- More stand in the parts of a row one level up.
more_roots : (e level : ℕ) → 2 ≤ e → (xs : List (Node (suc level))) → 2 ≤ length xs → (r : Outcome) → Grown e (suc level) (root_parts e level xs) r
    → Grown e level xs (record { level = r.level; fresh = length (root_parts e level xs) + r.fresh })
more_roots e level two [] h r g = absurd (omega arith)
more_roots e level two (x ∷ []) h r g = absurd (omega arith)
more_roots e level two (x ∷ y ∷ xs) h r g =
    let up = root_parts e level (x ∷ y ∷ xs) in
    let again : grown e level (x ∷ y ∷ xs) ≡ grown e (suc level) up = grown_again e two level x y xs in
    record {
      level_is = g.level_is ∙ sym (ap (λ (t : Tree). t.0) again);
      pages =
          ap pages_of again ∙ g.pages
          ∙ omega (
            arith,
            sum_concat (page_count (suc level)) up,
            ap (sum (page_count (suc level))) (cut_join (depth (suc level)) e (length (x ∷ y ∷ xs)) (x ∷ y ∷ xs)),
          );
    }

module _ {e level : ℕ} {row : Row} (full : Full row.depths row.pointers) (pre : RootsPre e level row) where
  counted : length (row_of row) ≡ row.count
  counted = length_row row full (omega (arith, pre.few))

  -- One part: nothing more is needed.
  pub roots_end : row.count ≤ 1 → RootsPost e level row (record { level = level; fresh = 0 })
  roots_end l = record {
    grows = λ xs same. one_root e level xs (same_count (depth (suc level)) depth_of xs (row_of row) same ∙ omega (arith, counted, pre.some));
    high = omega arith;
    small = omega arith;
  }

  module _ (more : 1 < row.count) (up : Row) (last : LastDepths e row up) where
    -- There are fewer one level up,
    pub roots_fewer : up.count < row.count
    roots_fewer = omega (arith, last.count, parts_fewer depth_of e (row_of row) pre.two (omega (arith, counted)), counted)

    abbrev c : ℕ
    c = last_depth depth_of 0 (row_of row)

    -- closed as they are,
    closed_up : Closed (last_depth depth_of 0) c (parts depth_of e (row_of row))
    closed_up = (parts_cut depth_of e c (row_of row) (omega (arith, pre.two)) pre.closed).closed

    -- and so on above them.
    pub roots_next : RootsPre e (level + 1) up
    roots_next = record {
      two = pre.two;
      some = last.some;
      few = last.few;
      low = omega (arith, roots_fewer, pre.low);
      closed = closed_below depth_of c (row_of up) (same_closed depth_of (last_depth depth_of 0) (row_of up) (parts depth_of e (row_of row)) last.depths c closed_up);
    }

    pub roots_small : (r : Outcome) → RootsPost e (level + 1) up r → up.count + r.fresh ≤ 65 + 4225
    roots_small r post = omega (arith, post.small, last.few)

    pub roots_more : (r : Outcome) → RootsPost e (level + 1) up r → RootsPost e level row (record { level = r.level; fresh = up.count + r.fresh })
    roots_more r post = record {
      grows = λ xs same.
          let fewer = same_count (depth (suc level)) depth_of xs (row_of row) same in
          let count : length (root_parts e level xs) ≡ up.count = same_parts (depth (suc level)) depth_of xs (row_of row) same e ∙ sym last.count in
          let next : RootsPost e (suc level) up r = subst (λ (l : ℕ). RootsPost e l up r) (add-one level) post in
          subst (λ (m : ℕ). Grown e level xs (record { level = r.level; fresh = m + r.fresh })) count
          (more_roots e level pre.two xs (omega (arith, counted)) r
          (next.grows (root_parts e level xs) (same_lasts (depth (suc level)) depth_of xs (row_of row) same e ∙ sym last.depths)));
      high = omega (arith, post.high, roots_fewer);
      small = omega (arith, post.small, roots_fewer, last.few);
    }
