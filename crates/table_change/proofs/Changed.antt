-- What on and off leave, from what their changes of pages leave. Assumes nothing.
use mathlib.Core.Path.{◌≡◌, refl, sym, subst, ◌∙◌}
use mathlib.Core.Bool.{Bool, true, false, cond}
use mathlib.Core.Option.{some}
use mathlib.Core.List.{List, [], ◌∷◌}
use Prim.Native.Nat.{ℕ, suc, ◌-◌, ◌^◌, ◌≤◌, ◌<◌}
use native.Mathlib.Omega.{arith}
use lib.Dec.{eqb}
use lib.ListN.{length, set, take}
use Rattle.leaf_list.specs.Keys.{bits}
use Rattle.leaf_list.specs.Herd.{lookup}
use Rattle.leaf_list.specs.Search.{positions}
use Rattle.leaf_list.specs.Register.{key_at, herd_of, count_in_use}
use Rattle.page_tree.specs.Rows.{All}
use Rattle.page_tree.specs.Tree.{Tree}
use Rattle.page_tree.specs.Finding.{find_in}
use Rattle.page_tree.specs.OnPages.{Replacement, new_entries}
use Rattle.page_tree.specs.Numbered.{on_numbered, off_numbered}
use Rattle.page_tree.specs.declared.Row.{Row}
use Rattle.page_tree.proofs.NumberedLaws.{AgreeAt, insert_tree_here, insert_numbered_tree_here}
use Rattle.index_table.specs.Layout.{layout_of}
use Rattle.index_table.specs.Header.{width_of, entries_of, pages_of, root_of, held_of, with_root, with_held, HeaderFrom}
use Rattle.index_table.specs.Pages.{pages_at, numbered_tree_at}
use Rattle.index_table.specs.Soundness.{Sound, SoundPages, root_level, tree_of, numbered_tree_of}
use Rattle.index_table.proofs.SoundTables.{header_long, leaf_depths}
use Rattle.index_write.specs.Standing.{TreeTable}
use Rattle.index_write.specs.Storing.{new_leaves}
use Rattle.table_search.specs.declared.Leaf.{Leaf}
use Rattle.index_change.specs.Repaging.{Repaged, OnPages, tree_with, numbered_with}
use Rattle.table_change.specs.Changes.{tree_after_on, OnDone, OffDone}
use Rattle.table_change.specs.News.{NewsFor, NewKey}
use Rattle.table_change.specs.FoundKeys.{HeldKey}
use Rattle.table_change.proofs.Rerooted.{after_length, after_header, after_sound, after_tree}
use Rattle.table_change.proofs.SoundAfter.{numbered_tree, on_keeps_sound, off_keeps_sound}

-- No more records are in use than there are.
count_in_use_lem : (used : List ℕ) → count_in_use used ≤ length used
count_in_use_lem [] = omega arith
count_in_use_lem (u ∷ used) = go (eqb u 1) (count_in_use_lem used)
  where
    go : (t : Bool) → count_in_use used ≤ length used → cond t (suc (count_in_use used)) (count_in_use used) ≤ suc (length used)
    go true h = omega arith
    go false h = omega arith

module _ {index keys used : List ℕ} (s : Sound index keys used) where
  abbrev w : ℕ
  w = width_of index

  pub held_high : held_of index ≤ 65534
  held_high = omega (arith, s.held, count_in_use_lem used, s.limits.records_high)

  -- The tree of sound tables may be changed.
  pub tree_table : TreeTable index (entries_of index) (pages_of index) (root_level index) (root_of index) w
  tree_table = record {
    entries_low = s.limits.entries_low;
    pages_high = s.limits.pages_high;
    table = s.lengths.table;
    pages = s.pages;
    depths = leaf_depths s;
    width = s.limits.width_high;
  }

  -- b' has the changed pages, under the root page p of a level.
  module _ (b' : List ℕ) (level p : ℕ) (long : length b' ≡ length index) (front : take 16 b' ≡ take 16 index)
      (pages : SoundPages (layout_of (entries_of index)) (pages_of index) b' level p) where
    root_fits : p < 65536
    root_fits = omega (arith, pages.below.0.number, s.limits.pages_high)

    long_enough : 16 ≤ length b'
    long_enough = omega (arith, long, header_long s)

    abbrev pub table_with : ℕ → List ℕ
    table_with held = with_held (with_root b' p) held

    rooted : {held : ℕ} → HeaderFrom index (table_with held) p held → HeaderFrom index (table_with held) (root_of (table_with held)) held
    rooted {held} h = record { width = h.width; entries = h.entries; pages = h.pages; root = refl; held = h.held; spare = h.spare }

    -- Off: the pages without the entry found.
    pub off_done : (key r : ℕ) → key < 2 ^ w → lookup key (herd_of keys used) ≡ some r
        → numbered_tree_at 65535 (pages_at (layout_of (entries_of index)) b') level p ≡ off_numbered w (entries_of index) key (numbered_tree_of index)
        → OffDone index keys used key (table_with (held_of index - 1)) (set keys r 0) (set used r 0)
    off_done key r narrow found tree =
        let fits : held_of index - 1 < 65536 = omega (arith, held_high) in
        let header = rooted (after_header index b' p (held_of index - 1) level root_fits fits long_enough front) in
        let read = after_tree index b' p (held_of index - 1) level root_fits fits long_enough front pages ∙ tree in
        record {
          header = header;
          pages = read;
          «record» = r;
          found = found;
          key_set = refl;
          byte_set = refl;
          sound =
              off_keeps_sound s key r found (table_with (held_of index - 1)) narrow header
              (after_length index b' p (held_of index - 1) level root_fits fits long_enough front ∙ long)
              (after_sound index b' p (held_of index - 1) level root_fits fits long_enough front pages) read;
        }

    -- On: the pages with the entries that a new key brings.
    pub on_done : (key r : ℕ) (news : Row) (fresh : ℕ → List ℕ) → NewKey index keys used key r news → ((n : ℕ) → All (λ q. pages_at (layout_of (entries_of index)) index q ≡ []) (fresh n))
        → numbered_tree_at 65535 (pages_at (layout_of (entries_of index)) b') level p ≡ on_numbered (entries_of index) fresh w (key_at keys) key r (numbered_tree_of index)
        → OnDone index keys used key r (table_with (suc (held_of index))) (set keys r key) (set used r 1)
    on_done key r news fresh new free tree =
        let fits : suc (held_of index) < 65536 = omega (arith, held_high) in
        let header = rooted (after_header index b' p (suc (held_of index)) level root_fits fits long_enough front) in
        let read = after_tree index b' p (suc (held_of index)) level root_fits fits long_enough front pages ∙ tree in
        record {
          header = header;
          fresh = fresh;
          free = free;
          pages = read;
          key_set = refl;
          byte_set = refl;
          sound =
              on_keeps_sound s key r new.free_record.inside new.free_record.free new.absent (table_with (suc (held_of index))) fresh new.free_record.narrow header
              (after_length index b' p (suc (held_of index)) level root_fits fits long_enough front ∙ long)
              (after_sound index b' p (suc (held_of index)) level root_fits fits long_enough front pages) read;
        }

-- Where the row's entries are those that belong to the entry found, putting them in is on.
module _ {index keys : List ℕ} {key r : ℕ} {news : Row} (n : NewsFor index keys key r news) where
  abbrev belonging : Replacement
  belonging = new_entries (λ x. bits (width_of index) (key_at keys x)) (bits (width_of index) key) r

  pub tree_after : tree_with index key news ≡ tree_after_on index keys key r
  tree_after = insert_tree_here (entries_of index) (new_leaves news) belonging (positions 0 (bits (width_of index) key)) (tree_of index) n.entries

  pub numbered_after : (fresh : ℕ → List ℕ)
      → numbered_with fresh index key news ≡ on_numbered (entries_of index) fresh (width_of index) (key_at keys) key r (numbered_tree_of index)
  numbered_after fresh =
      insert_numbered_tree_here (entries_of index) (new_leaves news) belonging fresh (positions 0 (bits (width_of index) key)) (numbered_tree_of index)
      (subst (λ (t : Tree). AgreeAt (new_leaves news) belonging (find_in (positions 0 (bits (width_of index) key)) t)) (sym (numbered_tree index)) n.entries)

-- Off, from the pages that it leaves.
pub off_taken : {index keys used : List ℕ} {key : ℕ} {leaf : Leaf} {index₁ : List ℕ} → HeldKey index keys used key leaf
    → Repaged index (off_numbered (width_of index) (entries_of index) key (numbered_tree_of index)) (held_of index - 1) index₁ → OffDone index keys used key index₁ (set keys leaf.pointer 0) (set used leaf.pointer 0)
off_taken {index} {keys} {used} {key} {leaf} {index₁} h p =
    subst (λ (b : List ℕ). OffDone index keys used key b (set keys leaf.pointer 0) (set used leaf.pointer 0)) (sym p.written)
    (off_done h.sound p.bytes p.level p.root p.long p.front p.pages key leaf.pointer h.narrow h.found p.tree)

-- On, from the pages that it leaves.
on_put : {index keys used : List ℕ} {key r : ℕ} {news : Row} {index₁ : List ℕ} → NewKey index keys used key r news → OnPages index key news index₁
    → OnDone index keys used key r index₁ (set keys r key) (set used r 1)
on_put {index} {keys} {used} {key} {r} {news} {index₁} h p =
    let q = p.repaged in
    subst (λ (b : List ℕ). OnDone index keys used key r b (set keys r key) (set used r 1)) (sym q.written)
    (on_done h.free_record.sound q.bytes q.level q.root q.long q.front q.pages key r news p.fresh h p.free (q.tree ∙ numbered_after h.news_for p.fresh))

-- The same, with the register as it is then.
pub on_entered : {index keys used : List ℕ} {key r : ℕ} {news : Row} {index₁ keys₁ used₁ : List ℕ} → NewKey index keys used key r news → OnPages index key news index₁ → keys₁ ≡ set keys r key → used₁ ≡ set used r 1
    → OnDone index keys used key r index₁ keys₁ used₁
on_entered h p k u = rw (k, u) (on_put h p)
