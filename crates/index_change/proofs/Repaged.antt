-- The contracts of the changes of pages, in words of the index table's header. Assumes nothing.
use mathlib.Core.Path.{◌≡◌, refl, sym, ap₂, subst, ◌∙◌}
use mathlib.Core.Bool.{cond}
use mathlib.Core.List.{List}
use Prim.Native.Nat.{ℕ, suc, ◌+◌, ◌-◌, ◌≤◌, ◌<◌}
use native.Mathlib.Omega.{arith}
use native.Mathlib.Numerals.{add-one}
use lib.Dec.{ltb}
use lib.ListN.{length}
use borrow.Author.Tests.{lt-ltb, le-ltb}
use Rattle.page_tree.specs.Tree.{pages_of as tree_pages}
use Rattle.page_tree.specs.Numbered.{off_numbered}
use Rattle.page_tree.specs.declared.Row.{Row}
use Rattle.index_table.specs.Layout.{layout_of, Within, page_start, page_bytes, level_of}
use Rattle.index_table.specs.Header.{width_of, entries_of, pages_of, root_of, held_of, with_root, with_held}
use Rattle.index_table.specs.IndexNumbers.{IndexOf}
use Rattle.index_table.specs.declared.header.Index.{Index}
use Rattle.index_table.specs.declared.layout.Root.{Root}
use Rattle.index_table.specs.Pages.{pages_at, used_pages}
use Rattle.index_table.specs.Soundness.{root_level, tree_of, numbered_tree_of}
use Rattle.index_table.proofs.PageBytes.{within_table}
use Rattle.index_table.proofs.UsedPages.{used_tree, used_few}
use Rattle.index_change.specs.Repaging.{Changeable, Repaged, OffPagesPre, late_row_with, OnPagesPre, Roomy, OnPages}
use Rattle.table_search.specs.declared.Leaf.{Leaf}
use Rattle.table_delete.specs.Taking.{TakeAtPre, TakePost}
use Rattle.table_insert.specs.Putting.{PutPre, PutPost}
use Rattle.table_plan.specs.Outcomes.{OutcomePre, OutcomePost}
use Rattle.table_plan.specs.declared.Outcome.{Outcome}

-- What putting entries in asks, where there is room,
pub putting : {index : List ℕ} {key : ℕ} {news : Row} → OnPagesPre index key news → Roomy index key news → PutPre index (entries_of index) (pages_of index) (root_level index) (root_of index) (width_of index) key news
putting o m =
    record {
      tree = o.changeable.tree;
      narrow = o.changeable.narrow;
      some = o.some;
      few = o.few;
      fitting = o.fitting;
      closed = o.closed;
      level_after = m.low;
      pages_after = m.pages;
    }

-- and what it leaves, under its root and with one record more held.
pub pages_put : {index : List ℕ} {key : ℕ} {news : Row} {b : List ℕ} {r : Root} → PutPost index (entries_of index) (pages_of index) (root_level index) (root_of index) (width_of index) key news b r
    → OnPages index key news (with_held (with_root b r.page.0) (suc (held_of index)))
pages_put {b = b} {r = r} q =
    record {
      fresh = q.fresh;
      free = q.free;
      repaged = record { bytes = b; level = r.level; root = r.page.0; long = q.long; front = q.front; pages = q.pages; tree = q.tree; written = refl };
    }

module _ {index : List ℕ} {key : ℕ} (c : Changeable index key) (h : Index) (i : IndexOf index h) where
  pub header_bytes_lem : 16 ≤ length index
  header_bytes_lem = omega (arith, c.tree.table)

  pub root_inside : Within (layout_of h.entries) index h.root.0
  root_inside = rw (i.entries, i.root) (within_table (layout_of (entries_of index)) (pages_of index) (root_of index) index (omega (arith, c.tree.table)) c.tree.pages.below.0.number)

  pub pages_inside : page_start (layout_of h.entries) h.pages ≤ length index
  pages_inside = rw (i.entries, i.pages) (omega (arith, c.tree.table))

  -- As many pages are in use as the tree has.
  pub pages_counted : used_pages h.pages (pages_at (layout_of h.entries) index) ≡ tree_pages (tree_of index)
  pages_counted = rw (i.entries, i.pages) (used_tree 65535 (layout_of (entries_of index)) (pages_of index) index (root_level index) (root_of index) c.tree.pages)

  pub pages_fit : tree_pages (tree_of index) ≤ h.pages
  pages_fit = omega (arith, pages_counted, used_few h.pages (pages_at (layout_of h.entries) index))

  module _ (w level : ℕ) (e : w ≡ h.width) (l : level ≡ level_of (page_bytes (layout_of h.entries) index h.root.0)) where
    width_is : w ≡ width_of index
    width_is = e ∙ i.width

    level_is : level ≡ root_level index
    level_is = rw (i.entries, i.root) at l

    -- ---- off

    pub take_pre : (leaf : Leaf) → OffPagesPre index key leaf → TakeAtPre index h.entries h.pages level h.root.0 w key leaf
    take_pre leaf o =
        rw (level_is, width_is, i.entries, i.pages, i.root)
        (record { take = record { tree = c.tree; narrow = c.narrow; beside = o.beside; later = o.later }; first = o.first; begins = o.begins; way = o.way })

    pub off_repaged : (b : List ℕ) (r : Root) (rooted index₁ : List ℕ) → TakePost index h.entries h.pages level h.root.0 w key b r
        → rooted ≡ with_root b r.page.0 → index₁ ≡ with_held rooted (h.held - 1) → Repaged index (off_numbered (width_of index) (entries_of index) key (numbered_tree_of index)) (held_of index - 1) index₁
    off_repaged b r rooted index₁ p f g =
        let q : TakePost index (entries_of index) (pages_of index) (root_level index) (root_of index) (width_of index) key b r = rw (level_is, width_is, i.entries, i.pages, i.root) at p in
        record { bytes = b; level = r.level; root = r.page.0; long = q.long; front = q.front; pages = q.pages; tree = q.tree; written = rw (← i.held, ← f) g }

    -- ---- on

    module _ (news : Row) (o : OnPagesPre index key news) where
      pub outcome_pre : OutcomePre index h.entries h.pages level h.root.0 w key news
      outcome_pre =
          rw (level_is, width_is, i.entries, i.pages, i.root) (record { tree = c.tree; narrow = c.narrow; some = o.some; few = o.few; closed = o.closed })

      module _ (r : Outcome) (p : OutcomePost index h.entries level h.root.0 w key news r) where
        post : OutcomePost index (entries_of index) (root_level index) (root_of index) (width_of index) key news r
        post = rw (level_is, width_is, i.entries, i.root) at p

        -- The row by what was planned.
        planned : {n : ℕ} → n ≡ cond (ltb 15 r.level) 8 (cond (ltb (pages_of index) (tree_pages (tree_of index) + r.fresh)) 7 0) → n ≡ late_row_with index key news
        planned e = e ∙ ap₂ (λ (a b : ℕ). cond (ltb 15 a) 8 (cond (ltb (pages_of index) b) 7 0)) post.level_is post.pages

        -- Row 8.
        pub row_eight_lem : 15 < r.level → 8 ≡ late_row_with index key news
        row_eight_lem g = planned (rw (lt-ltb 15 r.level g) refl)

        -- Row 7.
        pub row_seven_lem : r.level ≤ 15 → h.pages < tree_pages (tree_of index) + r.fresh → 7 ≡ late_row_with index key news
        row_seven_lem g k = planned (rw (le-ltb 15 r.level g, lt-ltb (pages_of index) (tree_pages (tree_of index) + r.fresh) (omega (arith, k, i.pages))) refl)

        -- Neither.
        pub row_neither : r.level ≤ 15 → tree_pages (tree_of index) + r.fresh ≤ h.pages → 0 ≡ late_row_with index key news
        row_neither g k = planned (rw (le-ltb 15 r.level g, le-ltb (pages_of index) (tree_pages (tree_of index) + r.fresh) (omega (arith, k, i.pages))) refl)

      pub put_pre : Roomy index key news → PutPre index h.entries h.pages level h.root.0 w key news
      put_pre m = rw (level_is, width_is, i.entries, i.pages, i.root) (putting o m)

      pub on_repaged : (b : List ℕ) (r : Root) (rooted index₁ : List ℕ) → PutPost index h.entries h.pages level h.root.0 w key news b r
          → rooted ≡ with_root b r.page.0 → index₁ ≡ with_held rooted (h.held + 1) → OnPages index key news index₁
      on_repaged b r rooted index₁ p f g =
          let q : PutPost index (entries_of index) (pages_of index) (root_level index) (root_of index) (width_of index) key news b r = rw (level_is, width_is, i.entries, i.pages, i.root) at p in
          subst (OnPages index key news) (sym (rw (← i.held, ← add-one h.held, ← f) g)) (pages_put q)
