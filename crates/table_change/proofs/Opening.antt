-- A new key whose entries fit into the page found: that page alone is changed. Assumes nothing.
use mathlib.Core.Path.{◌≡◌, sym, ap, subst, ◌∙◌}
use mathlib.Core.Bool.{Bool, true, false}
use mathlib.Core.List.{List}
use Prim.Native.Nat.{ℕ, suc, ◌+◌, ◌≤◌, ◌<◌}
use native.Mathlib.Omega.{arith}
use lib.ListN.{length, set}
use borrow.Author.Tests.{leb-true}
use Rattle.page_tree.specs.Row.{row_of}
use Rattle.page_tree.specs.declared.Row.{Row}
use Rattle.index_table.specs.Layout.{layout_of, Within, page_bytes, level_of, row_page, store}
use Rattle.index_table.specs.Header.{width_of, entries_of, pages_of, root_of, held_of, with_root, with_held}
use Rattle.index_table.specs.Pages.{pages_at}
use Rattle.index_table.specs.Soundness.{SizedPage, root_level}
use Rattle.index_table.proofs.NumberLaws.{Bytes}
use Rattle.index_table.proofs.PageBytes.{within_table}
use Rattle.index_table.proofs.PageRows.{refs_fit}
use Rattle.index_table.proofs.SoundTables.{header_long}
use Rattle.index_write.specs.Standing.{TreeTable}
use Rattle.index_write.specs.Storing.{spliced_at}
use Rattle.index_write.proofs.HeaderLaws.{root_kept}
use Rattle.index_write.proofs.LoadedRows.{row_with_lem}
use Rattle.table_search.specs.declared.Leaf.{Leaf}
use Rattle.table_search.proofs.WayEnds.{way_end}
use Rattle.table_find.specs.Places.{FoundLeaf}
use Rattle.table_insert.proofs.Puttings.{root_descend}
use Rattle.table_insert.proofs.FittingRows.{opened, fitting_low, fitting_put}
use Rattle.new_entries.specs.declared.entries.News.{News}
use Rattle.new_entries.specs.Entries.{count_in, refs_for, Newly}
use Rattle.new_entries.proofs.NewLeaves.{news_long}
use Rattle.index_change.specs.Repaging.{Roomy, OnPages, room_for, OpenPre, opened_with}
use Rattle.index_change.proofs.Repaged.{putting, pages_put}
use Rattle.table_change.specs.Changes.{on_row_of, OnDone}
use Rattle.table_change.specs.News.{FreeRecord, NewKey}
use Rattle.table_change.specs.FoundKeys.{row_for, FoundKey, FittingKey}
use Rattle.table_change.proofs.Changed.{held_high, tree_table, on_entered}
use Rattle.table_change.proofs.RowChoice.{splice_pre, roomy_late}
use Rattle.table_change.proofs.Entering.{late_row_is}

-- The page found is a page of level 0.
module _ {index keys used : List ℕ} {key r : ℕ} (h : FreeRecord index keys used key r) {leaf : Leaf} (found : FoundLeaf index keys used key leaf) where
  found_page : SizedPage (layout_of (entries_of index)) (pages_of index) 0 index leaf.page.0 × (leaf.at < length (pages_at (layout_of (entries_of index)) index leaf.page.0))
  found_page = way_end leaf (root_level index) 0 false (root_descend (tree_table h.sound) h.narrow found.begins) found.way

  -- It is within the table.
  pub found_within : Within (layout_of (entries_of index)) index leaf.page.0
  found_within = within_table (layout_of (entries_of index)) (pages_of index) leaf.page.0 index (omega (arith, (tree_table h.sound).table)) found_page.0.number

-- What the test of the room asks.
pub room_pre : {index keys used : List ℕ} {key r : ℕ} {leaf : Leaf} {n : News} → FoundKey index keys used key r leaf n → (16 ≤ length index) × Within (layout_of (entries_of index)) index leaf.page.0 × (count_in n ≤ 319)
room_pre h =
    let free = h.new_key.free_record in
    (header_long free.sound, found_within free h.found, omega (arith, h.new_key.news_for.few, free.sound.limits.width_high, news_long h.newly))

-- The new entries, for the width that was read.
pub newly_at : {index keys used : List ℕ} {key r : ℕ} {leaf : Leaf} {n : News} {w : ℕ} → FoundKey index keys used key r leaf n → w ≡ width_of index → Newly w key n
newly_at {key = key} {n = n} h width = subst (λ (k : ℕ). Newly k key n) (sym width) h.newly

-- Where the test says so, the entries fit.
pub fitting_key : {index keys used : List ℕ} {key r : ℕ} {leaf : Leaf} {n : News} {t : Bool} → FoundKey index keys used key r leaf n → t ≡ room_for index leaf.page.0 (count_in n) → t ≡ true
    → FittingKey index keys used key r leaf n
fitting_key h test said = record { found_key = h; room = sym test ∙ said }

module _ {index keys used : List ℕ} {key r : ℕ} {leaf : Leaf} {n : News} (h : FittingKey index keys used key r leaf n) where
  abbrev e : ℕ
  e = entries_of index

  abbrev news : Row
  news = row_for index key n

  abbrev new : NewKey index keys used key r news
  new = h.found_key.new_key

  abbrev free : FreeRecord index keys used key r
  free = new.free_record

  abbrev found : FoundLeaf index keys used key leaf
  found = h.found_key.found

  tree : TreeTable index e (pages_of index) (root_level index) (root_of index) (width_of index)
  tree = tree_table free.sound

  count_is : news.count ≡ count_in n
  count_is = news_long h.found_key.newly

  fits : length (pages_at (layout_of e) index leaf.page.0) + news.count ≤ suc e
  fits = omega (arith, count_is, leb-true (length (pages_at (layout_of e) index leaf.page.0) + count_in n) (suc e) h.room)

  -- What the change of the page asks.
  pub open_pre : OpenPre index leaf.page.0 leaf.at key n
  open_pre =
      record {
        header = header_long free.sound;
        held = held_high free.sound;
        openable =
            record {
              within = found_within free found;
              inside = (found_page free found).1;
              some = omega (arith, count_is, new.news_for.some);
              room = omega (arith, count_is, fits);
              cleared = tree.pages.cleared leaf.page.0 (found_page free found).0.number;
            };
        newly = h.found_key.newly;
      }

  roomy : Roomy index key news
  roomy =
      let low = fitting_low news leaf fits tree free.narrow found.begins found.way in
      record { low = low.0; pages = low.1 }

  -- Rows 8 and 7 are not met.
  pub opens_accepted : on_row_of index keys used key r ≡ 0
  opens_accepted = late_row_is new (sym (roomy_late index key news roomy))

  rows : row_of news ≡ refs_for (width_of index) key n
  rows = row_with_lem (refs_for (width_of index) key n)

  -- What it leaves.
  opened_pages : Bytes index → OnPages index key news (opened_with index leaf.page.0 leaf.at (refs_for (width_of index) key n))
  opened_pages small =
      let put = fitting_put index e news leaf fits (λ p. refs_fit (layout_of e) index p small) (omega (arith, tree.pages_high))
      (putting (splice_pre free news new.news_for) roomy) found.begins (ap length rows) found.way in
      let level : 0 ≡ level_of (page_bytes (layout_of e) index leaf.page.0) = sym (found_page free found).0.level in
      let pages : OnPages index key news (with_held (with_root (opened e index leaf news) (root_of index)) (suc (held_of index))) = pages_put put in
      subst (OnPages index key news)
      (ap (λ (b : List ℕ). with_held b (suc (held_of index)))
      (root_kept index (opened e index leaf news) put.front small
      ∙ (λ i. store (layout_of e) index leaf.page.0 (row_page e (level i) (spliced_at leaf.at (rows i) (pages_at (layout_of e) index leaf.page.0))))))
      pages

  -- On, from the page that is changed.
  pub open_done : {index₁ keys₁ used₁ : List ℕ} → Bytes index → index₁ ≡ opened_with index leaf.page.0 leaf.at (refs_for (width_of index) key n) → keys₁ ≡ set keys r key → used₁ ≡ set used r 1
      → OnDone index keys used key r index₁ keys₁ used₁
  open_done small i k u = on_entered new (subst (OnPages index key news) (sym i) (opened_pages small)) k u
