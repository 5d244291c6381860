-- The pages of entries j and j + 1 of a page become one, and the page's row is stored with one entry for the two. Assumes nothing.
use mathlib.Core.Path.{◌≡◌, refl, sym, ap, ap₂, ◌∙◌, subst}
use mathlib.Core.List.{List, [], ◌∷◌, ◌++◌, map-append}
use Prim.Native.Nat.{ℕ, suc, ◌+◌, ◌-◌, ◌≤◌, ◌<◌}
use native.Mathlib.Omega.{arith}
use native.Mathlib.Numerals.{add-one}
use lib.ListN.{length, take, drop, length-append}
use lib.Seq.{split_at, drop-cons}
use Rattle.page_tree.specs.Rows.{All, last_depth}
use Rattle.page_tree.specs.Row.{depth_of, row_of, Holds}
use Rattle.page_tree.specs.declared.Row.{Row}
use Rattle.page_tree.specs.declared.Unwind.TheVariants.{Idle}
use Rattle.page_tree.specs.Numbered.{Numbered, join_numbered, kept_under}
use Rattle.page_tree.proofs.ListLaws.{sum_append}
use Rattle.page_tree.proofs.ClosedRows.{last_depth_append}
use Rattle.index_table.specs.Layout.{Layout, layout_of, Ref}
use Rattle.index_table.specs.Pages.{Pages, pages_at, numbered_at, met, met_all}
use Rattle.index_table.proofs.Frames.{UnchangedRow}
use Rattle.index_write.specs.Standing.{Owned}
use Rattle.std.specs.Prelude.{Option}
use Rattle.page_tree.specs.declared.Entry.{Entry}
use Rattle.entry_delete.specs.Entries.{entries_of}
use Rattle.tree_delete.specs.Keeping.{numbers_at, Linked, Kept}
use Rattle.tree_delete.specs.Rows.{around, PutPost, SettlePre, SettlePost, entry_for}
use Rattle.tree_delete.specs.Unwinding.{BackPre, Done}
use Rattle.tree_delete.proofs.RowChanges.{entry_some}
use Rattle.tree_delete.proofs.CalmRows.{kept_some}
use Rattle.tree_delete.proofs.Frames.{kept_at, before_stays, after_stays}
use Rattle.tree_delete.proofs.Sweeps.{row_owned, linked_fits, up_done}
use Rattle.tree_merge.specs.Merges.{JoinPre, JoinPost, GatherPre, gathered}
use Rattle.tree_merge.proofs.EntryReads.{row_below, entry_below, page_within, entry_linked, child_within}
use Rattle.tree_merge.proofs.JoinedPages.{stored_table, joined_table, joined_kept, joined_number_lem}

-- The row of the page is front, the entries u and v, and rest.
module _ {e P n : ℕ} {b : List ℕ} {x : Ref} {j : ℕ} (pre : JoinPre e P n b x j) where
  abbrev L : Layout
  L = layout_of e

  abbrev pages : Pages
  pages = pages_at L b

  abbrev row : List Ref
  row = row_below e b x

  abbrev u : Ref
  u = entry_below e b x j

  abbrev v : Ref
  v = entry_below e b x (suc j)

  abbrev front : List Ref
  front = take j row

  abbrev rest : List Ref
  rest = drop (suc (suc j)) row

  abbrev back : BackPre e P (suc (suc n)) b x
  back = pre.pair.back

  inside : suc j < length row
  inside = pre.pair.inside

  first : j < length row
  first = omega (arith, inside)

  parted : row ≡ front ++ u ∷ v ∷ rest
  parted = split_at row j (0, 0) first ∙ ap (λ (l : List Ref). front ++ u ∷ l) (drop-cons row (suc j) (0, 0) inside)

  linked : All (Linked L P (suc n) b) (front ++ u ∷ v ∷ rest)
  linked = rw parted at back.linked.2

  own : Owned L b (met_all (suc n) pages (front ++ u ∷ v ∷ rest))
  own = rw parted at (row_owned e P (suc n) b x back)

  pair_own : Owned L b (met_all (suc n) pages (u ∷ v ∷ []))
  pair_own q = omega (arith, own q, sum_append (λ y. met (suc n) pages y q) front (u ∷ v ∷ rest))

  left_linked : Linked L P (suc n) b u
  left_linked = entry_linked back j first

  right_linked : Linked L P (suc n) b v
  right_linked = entry_linked back (suc j) inside

  -- The two pages can be made one.
  pub join_gather : (left right : ℕ) → left ≡ u.1 → right ≡ v.1 → GatherPre e b left right
  join_gather left right y z =
      rw (y, z)
      (record { within_left = child_within back j first refl; within_right = child_within back (suc j) inside refl; fit = pre.fit; some = left_linked.0.some })

  -- The table that this makes is told by the entries' own page numbers.
  pub join_table : {b' : List ℕ} {left right : ℕ} → b' ≡ gathered e n b left right → left ≡ u.1 → right ≡ v.1 → b' ≡ gathered e n b u.1 v.1
  join_table h y z = h ∙ ap₂ (λ (l r : ℕ). gathered e n b l r) y z

  -- The new entry is that of the joined page.
  pub join_entry : {d p : ℕ} → d ≡ v.0 → p ≡ u.1 → ◌≡◌ {A = List Ref} ((d, p) ∷ []) ((v.0, u.1) ∷ [])
  join_entry y z = ap₂ {C = List Ref} (λ (d p : ℕ). (d, p) ∷ []) y z

  -- ---- the table with the joined page

  -- The entry of the joined page.
  abbrev joined : Ref
  joined = (v.0, u.1)

  abbrev now : List Ref
  now = front ++ joined ∷ rest

  unfoldable table : List ℕ
  table = gathered e n b u.1 v.1

  pair_kept : Kept L P (suc n) b (met_all (suc n) pages (u ∷ v ∷ [])) table (joined ∷ [])
  unfolding table joined_table stored_table
  pair_kept = joined_kept e P n b u v back.paged left_linked right_linked pair_own pre.fit

  abbrev joined_number : Numbered (suc n)
  joined_number = join_numbered n (numbered_at 65535 (suc n) pages u) (numbered_at 65535 (suc n) pages v)

  pair_number : numbered_at 65535 (suc n) (pages_at L table) joined ≡ joined_number
  unfolding table joined_table stored_table
  pair_number = joined_number_lem e P n b u v back.paged left_linked right_linked pair_own pre.fit

  row_kept : Kept L P (suc n) b (met_all (suc n) pages row) table now
  row_kept =
      subst (λ (l : List Ref). Kept L P (suc n) b (met_all (suc n) pages l) table now) (sym parted)
      (kept_at L P (suc n) b front (u ∷ v ∷ []) rest own linked table (joined ∷ []) pair_kept)

  -- What the row stands for then.
  abbrev numbers : List (Numbered (suc n))
  numbers = numbers_at (suc n) pages front ++ joined_number ∷ numbers_at (suc n) pages rest

  some_numbers : 1 ≤ length numbers
  some_numbers = omega (arith, length-append (numbers_at (suc n) pages front) (joined_number ∷ numbers_at (suc n) pages rest))

  front_stays : UnchangedRow L (suc n) b table front
  front_stays = before_stays L P (suc n) b front (u ∷ v ∷ []) rest own linked table (joined ∷ []) pair_kept

  rest_stays : UnchangedRow L (suc n) b table rest
  rest_stays = after_stays L P (suc n) b front (u ∷ v ∷ []) rest own linked table (joined ∷ []) pair_kept

  row_numbers : numbers_at (suc n) (pages_at L table) now ≡ numbers
  row_numbers =
      map-append (numbered_at 65535 (suc n) (pages_at L table)) front (joined ∷ rest)
      ∙ ap₂ (λ (l m : List (Numbered (suc n))). l ++ m) (front_stays.numbereds 65535)
      (ap₂ (λ (y : Numbered (suc n)) (m : List (Numbered (suc n))). y ∷ m) pair_number (rest_stays.numbereds 65535))

  last_same : last_depth depth_of 0 now ≡ x.0
  last_same =
      last_depth_append depth_of 0 front (joined ∷ rest) ∙ sym (last_depth_append depth_of 0 front (u ∷ v ∷ rest)) ∙ ap (last_depth depth_of 0) (sym parted) ∙ sym back.linked.1

  some_now : 1 ≤ length now
  some_now = omega (arith, length-append front (joined ∷ rest))

  -- ---- the parent's row

  module _ (loaded : Row) (h : Holds loaded (length row) row) (left : Option Entry) (stays : entries_of left ≡ joined ∷ []) (row' : Row) (at' : ℕ)
      (put : PutPost loaded (j + 2) left row' at') (all : Row) (g : Holds all (j + (row'.count - at')) (around row' j at')) where
    two : j + 2 ≡ suc (suc j)
    two = omega arith

    row_is : row_of all ≡ now
    row_is =
        g.entries
        ∙ ap₂ (λ (l m : List Ref). l ++ m) (put.left j (omega arith) ∙ ap (take j) h.entries)
        (put.right ∙ ap₂ (λ (l m : List Ref). l ++ m) stays (ap₂ (λ (k : ℕ) (l : List Ref). drop k l) two h.entries))

    count_few : all.count ≤ e
    count_few = omega (arith, g.count, put.count, put.least, put.most, h.count, back.linked.0.few, inside)

    module _ (b' : List ℕ) (b_is : b' ≡ gathered e n b u.1 v.1) where
      at_table : b' ≡ table
      unfolding table
      at_table = b_is

      kept_now : Kept L P (suc n) b (met_all (suc n) pages row) b' (row_of all)
      kept_now = rw (at_table, row_is) row_kept

      -- The row can be settled,
      pub join_settle : SettlePre e b' x.1 all
      join_settle = record {
        within = omega (arith, kept_now.long, page_within back);
        few = count_few;
        fitting = linked_fits e P (suc n) b' (row_of all) back.paged.high kept_now.linked;
      }

      module _ (b'' : List ℕ) (was : Option Entry) (s : SettlePost e (n + 1) b' x.1 all b'' was) where
        done : Done e P (suc (suc n)) b x (kept_under x.1 numbers, Idle) b'' (record { left = was; state = Idle })
        done =
            up_done back (numbers, Idle) b' all Idle kept_now
            (rw (at_table, row_is) row_numbers) refl count_few b'' was (rw (add-one n) at s)

        entry_is : entries_of was ≡ x ∷ []
        entry_is = s.entries ∙ ap (entry_for x.1) row_is ∙ entry_some x.1 x.0 now some_now (sym last_same)

        number_is : numbered_at 65535 (suc (suc n)) (pages_at L b'') x ≡ (x.1, numbers)
        number_is =
            let one : numbers_at (suc (suc n)) (pages_at L b'') (x ∷ []) ≡ (x.1, numbers) ∷ [] =
            ap (numbers_at (suc (suc n)) (pages_at L b'')) (sym entry_is) ∙ done.numbers ∙ kept_some x.1 numbers some_numbers in
            cc

        -- and the page stands for what it stood for, with one page in the place of the two.
        pub join_post : JoinPost e P n b x j b''
        join_post = record { kept = rw entry_is at done.kept; number = number_is }
