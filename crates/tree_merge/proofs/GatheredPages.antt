-- The rows of two pages, one behind the other, stored as one page. Assumes nothing.
use mathlib.Core.Path.{◌≡◌, sym, ap, ap₂, ◌∙◌}
use mathlib.Core.List.{List, ◌++◌}
use Prim.Native.Nat.{ℕ, ◌+◌, ◌-◌, ◌<◌}
use native.Mathlib.Omega.{arith}
use lib.ListN.{length, length-append, replicate}
use lib.Seq.{slice, take-length}
use Rattle.leaf_list.proofs.Lists.{all_append}
use Rattle.page_tree.specs.Row.{row_of, part_of, Holds}
use Rattle.page_tree.specs.declared.Row.{Row}
use Rattle.index_table.specs.Layout.{Layout, layout_of, page_size, Ref, row_page, store}
use Rattle.index_table.specs.Pages.{pages_at}
use Rattle.index_table.proofs.NumberLaws.{Bytes}
use Rattle.index_table.proofs.PageRows.{refs_fit}
use Rattle.index_write.specs.Storing.{Storable, Loadable}
use Rattle.tree_delete.proofs.RowChanges.{page_some}
use Rattle.tree_merge.specs.Merges.{GatherPre, gathered}

-- The left page is loaded, and the right one's entries are counted.
module _ {e : ℕ} {b : List ℕ} {left right : ℕ} (pre : GatherPre e b left right) {first : Row}
    (loaded : Holds first (length (pages_at (layout_of e) b left)) (pages_at (layout_of e) b left)) {n : ℕ} (counted : n ≡ length (pages_at (layout_of e) b right)) where
  abbrev L : Layout
  L = layout_of e

  -- This is the row of both.
  abbrev both : List Ref
  both = pages_at L b left ++ pages_at L b right

  -- The right page can be loaded behind the left one's row.
  pub gather_load : e < 256 → Loadable e b right first 0 n
  gather_load small = record {
    within = pre.within_right;
    few = omega (arith, pre.fit);
    order = omega arith;
    inside = omega (arith, counted);
    room = omega (arith, loaded.count, counted, pre.fit);
  }

  module _ {row : Row} (got : Holds row (first.count + (n - 0)) (row_of first ++ slice 0 n (pages_at (layout_of e) b right))) where
    rows : row_of row ≡ both
    rows =
        got.entries
        ∙ ap₂ (λ (l m : List Ref). l ++ m) loaded.entries (ap (λ (k : ℕ). slice 0 k (pages_at L b right)) counted ∙ take-length (pages_at L b right))

    -- The whole row can be stored,
    pub gather_store : e < 256 → Bytes b → Storable e b left row 0 row.count
    gather_store small bytes = record {
      within = pre.within_left;
      order = omega arith;
      places = omega (arith, got.count, loaded.count, counted, pre.fit);
      few = omega (arith, got.count, loaded.count, counted, pre.fit);
      fitting = rw rows (all_append (λ (x : Ref). x.1 < 65536) (pages_at L b left) (pages_at L b right) (refs_fit L b left bytes) (refs_fit L b right bytes));
    }

    -- and with the right page freed then, the table is the one that is asked for.
    pub gather_post : (level : ℕ) (b₁ b₂ : List ℕ) → b₁ ≡ store (layout_of e) b left (row_page e level (part_of row 0 row.count))
        → b₂ ≡ store (layout_of e) b₁ right (replicate (page_size (layout_of e)) 0) → b₂ ≡ gathered e level b left right
    gather_post level b₁ b₂ f g =
        g
        ∙ ap (λ (t : List ℕ). store L t right (replicate (page_size L) 0))
        (f ∙ ap (λ (l : List Ref). store L b left (row_page e level l)) rows
        ∙ ap (store L b left) (sym (page_some e level both (omega (arith, length-append (pages_at L b left) (pages_at L b right), pre.some)))))
