-- The dry run of a whole insertion: from the root down, and the new roots above it. Assumes nothing.
use mathlib.Core.Path.{◌≡◌, sym, ap, subst, ◌∙◌}
use mathlib.Core.List.{List}
use Prim.Native.Nat.{ℕ, suc, ◌+◌, ◌≤◌}
use native.Mathlib.Omega.{arith}
use Rattle.leaf_list.specs.Keys.{bits}
use Rattle.leaf_list.specs.Entries.{depth_of as entry_depth}
use Rattle.leaf_list.specs.Search.{positions}
use Rattle.page_tree.specs.Row.{depth_of, row_of}
use Rattle.page_tree.specs.Rows.{Closed}
use Rattle.page_tree.specs.Tree.{Node, Tree, pages_of}
use Rattle.page_tree.specs.Finding.{find_below}
use Rattle.page_tree.specs.OnPages.{insert_tree, grown}
use Rattle.page_tree.specs.declared.Row.{Row}
use Rattle.page_tree.proofs.InsertionPages.{insert_below_pages}
use Rattle.index_table.specs.Layout.{layout_of}
use Rattle.index_table.specs.Pages.{pages_at, node_at, root_ref}
use Rattle.index_write.specs.Storing.{new_leaves}
use Rattle.table_search.specs.Places.{left_from, NextPosition}
use Rattle.table_plan.specs.declared.Plan.{Plan}
use Rattle.table_plan.specs.declared.Outcome.{Outcome}
use Rattle.table_plan.specs.Plans.{PlanPre, PlanPost, page_parts}
use Rattle.table_plan.specs.Outcomes.{RootsPre, Grown, RootsPost, table_tree, tree_with, OutcomePre, OutcomePost}
use Rattle.table_plan.proofs.PlannedPages.{planned_closed}

module _ {b : List ℕ} {e P level root w key : ℕ} {news : Row} (pre : OutcomePre b e P level root w key news) where
  abbrev root_node : Node (suc level)
  root_node = node_at 65535 (suc level) (pages_at (layout_of e) b) (root_ref root)

  module _ (position : ℕ) (first : NextPosition w key 0 position) where
    -- The positions of the key, begun with its first.
    begun : positions 0 (bits w key) ≡ left_from w key position
    begun = first.left

    -- The root is the first page of the way down.
    pub root_plan : PlanPre b e P level root w key position 0 news
    root_plan = record {
      place = record {
        closing = 0;
        sound = pre.tree.pages.below;
        before = first.above;
        table = omega (arith, pre.tree.table);
        depths = pre.tree.depths;
        width = pre.tree.width;
        narrow = pre.narrow;
        high = first.within;
      };
      two = pre.tree.entries_low;
      some = pre.some;
      few = pre.few;
      closed = subst (λ (bs : List ℕ). Closed depth_of (entry_depth (find_below (suc level) bs 0 root_node).2) (row_of news)) begun pre.closed;
    }

    module _ (part : Plan) (planned : PlanPost b e level root w key position 0 news part) (n : ℕ) (is : n ≡ level) where
      -- Its parts may need new roots.
      pub roots_plan : RootsPre e n part.row
      roots_plan = record {
        two = pre.tree.entries_low;
        some = planned.some;
        few = planned.few;
        low = omega (arith, planned.few, pre.tree.pages.level_high);
        closed = planned_closed root_plan part planned;
      }

      module _ (r : Outcome) (roots : RootsPost e n part.row r) where
        grown_roots : Grown e level (page_parts b e level root w key position 0 news) r
        grown_roots = (subst (λ (l : ℕ). RootsPost e l part.row r) is roots).grows (page_parts b e level root w key position 0 news) (sym planned.depths)

        -- The tree after the insertion is what grows above them.
        after : tree_with b e level root w key news ≡ grown e level (page_parts b e level root w key position 0 news)
        after = ap (λ (bs : List ℕ). insert_tree e (new_leaves news) bs (table_tree b e level root)) begun

        pub pages_small : part.fresh + r.fresh ≤ 6000
        pages_small = omega (arith, planned.small, roots.small, planned.few, pre.tree.pages.level_high)

        pub outcome_end : OutcomePost b e level root w key news (record { level = r.level; fresh = part.fresh + r.fresh })
        outcome_end = record {
          level_is = grown_roots.level_is ∙ sym (ap (λ (t : Tree). t.0) after);
          pages =
              omega (
                arith,
                grown_roots.pages,
                insert_below_pages e (new_leaves news) (omega (arith, pre.tree.entries_low)) (suc level) (left_from w key position) 0 root_node,
                planned.fresh,
              )
              ∙ sym (ap pages_of after);
          high = omega (arith, roots.high, planned.few);
          small = pages_small;
        }
