-- A key that is not held, with a free record: its entries, and the rows that are left. Assumes nothing.
use mathlib.Core.Path.{◌≡◌, sym, ap, subst, ◌∙◌}
use mathlib.Core.Bool.{Bool, true, false}
use mathlib.Core.Logic.{◌≢◌}
use mathlib.Core.List.{List}
use Prim.Native.Nat.{ℕ, ◌<◌}
use native.Mathlib.Omega.{arith}
use lib.ListN.{length}
use Rattle.leaf_list.specs.Herd.{lookup}
use Rattle.leaf_list.specs.Register.{herd_of}
use Rattle.page_tree.specs.Row.{Holds}
use Rattle.page_tree.specs.declared.Row.{Row}
use Rattle.index_table.specs.Header.{width_of}
use Rattle.table_search.specs.declared.Leaf.{Leaf}
use Rattle.table_find.specs.Places.{FoundLeaf}
use Rattle.table_find.proofs.FoundLeaves.{live_inside}
use Rattle.table_change.specs.Changes.{is_some, is_held, on_row_of}
use Rattle.new_entries.specs.Entries.{count_in, refs_for, FoundPre, NewEntries}
use Rattle.new_entries.specs.declared.entries.News.{News}
use Rattle.table_change.specs.News.{key_is, FreeRecord, NewKey}
use Rattle.index_change.specs.Repaging.{late_row_with, OnPagesPre}
use Rattle.table_change.specs.FoundKeys.{FoundKey}
use Rattle.new_entries.proofs.NewLeaves.{news_long}
use Rattle.table_change.proofs.FoundEntries.{not_held, held_is, found_pre, news_made, news_in}
use Rattle.table_change.proofs.RowChoice.{on_held, on_late, splice_pre}

module _ {index keys used : List ℕ} {key r : ℕ} (h : FreeRecord index keys used key r) (leaf : Leaf) (at : FoundLeaf index keys used key leaf) where
  -- A live entry's record is one of the register.
  pub leaf_inside : leaf.pointer ≢ 65535 → leaf.pointer < length keys
  leaf_inside = live_inside h.sound key h.narrow leaf at

  module _ {t : Bool} (is : t ≡ key_is keys leaf.pointer key) where
    -- Row 5.
    pub row_five : t ≡ true → on_row_of index keys used key r ≡ 5
    row_five e = on_held h (held_is h.sound key h.narrow leaf at ∙ sym is ∙ e)

    module _ (e : t ≡ false) {w : ℕ} (width : w ≡ width_of index) where
      absent : is_held key (herd_of keys used) ≡ false
      absent = held_is h.sound key h.narrow leaf at ∙ sym is ∙ e

      -- What 5.1 asks.
      pub entries_pre : FoundPre keys w key r leaf
      entries_pre =
          subst (λ (n : ℕ). FoundPre keys n key r leaf) (sym width)
          (found_pre h.sound key h.narrow leaf at r (omega (arith, h.inside, h.sound.limits.records_high)) (sym is ∙ e))

      -- The key with its entries, and the page found.
      pub found_key : {n : News} → NewEntries keys w key r leaf n → FoundKey index keys used key r leaf n
      found_key {n} m =
          let made : NewEntries keys (width_of index) key r leaf n = subst (λ (k : ℕ). NewEntries keys k key r leaf n) width m in
          let none_held = not_held (lookup key (herd_of keys used)) absent in
          record {
            new_key = record { free_record = h; absent = none_held; news_for = news_made h.sound key h.narrow leaf at r none_held made };
            newly = made.newly;
            found = at;
          }

-- ---- a key that rows 2 to 5 let pass

module _ {index keys used : List ℕ} {key r : ℕ} {news : Row} (h : NewKey index keys used key r news) where
  pub late_pre : OnPagesPre index key news
  late_pre = splice_pre h.free_record news h.news_for

  -- Rows 8 and 7.
  pub late_row_is : {late : ℕ} → late ≡ late_row_with index key news → on_row_of index keys used key r ≡ late
  late_row_is q = on_late h.free_record (ap is_some h.absent) news h.news_for ∙ sym q

-- The same key with its entries in a row.
pub row_key : {index keys used : List ℕ} {key r : ℕ} {leaf : Leaf} {n : News} {w : ℕ} {row : Row} → FoundKey index keys used key r leaf n → w ≡ width_of index → Holds row (count_in n) (refs_for w key n)
    → NewKey index keys used key r row
row_key {index} {key = key} {n = n} {row = row} h width g =
    record {
      free_record = h.new_key.free_record;
      absent = h.new_key.absent;
      news_for = news_in n h.new_key.news_for (sym (news_long h.newly)) (subst (λ (k : ℕ). Holds row (count_in n) (refs_for k key n)) width g);
    }
