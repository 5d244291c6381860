-- A page's entries are visited one after the other, each with all below it. Assumes nothing.
use mathlib.Core.Path.{◌≡◌, refl, sym, ap, subst, ◌∙◌}
use mathlib.Core.List.{List, ◌++◌, map, foldl-append}
use Prim.Native.Nat.{ℕ, zero, suc, ◌+◌, ◌-◌, ◌≤◌, ◌<◌}
use native.Mathlib.Omega.{arith}
use native.Mathlib.Numerals.{add-one}
use lib.ListN.{length, get_or, drop_of_length-le}
use lib.Seq.{drop-cons}
use Rattle.leaf_list.specs.Entries.{pointer_of}
use Rattle.leaf_list.proofs.Lists.{all_at}
use Rattle.page_tree.specs.Rows.{All, flats}
use Rattle.page_tree.specs.Tree.{Node, leaves}
use Rattle.index_table.specs.Layout.{Layout, Ref, Within, layout_of, page_bytes, count_of, ref_at}
use Rattle.index_table.specs.Pages.{pages_at, node_at, record_of}
use Rattle.index_table.specs.Soundness.{SoundBelow}
use Rattle.index_table.proofs.PageBytes.{within_table}
use Rattle.index_table.proofs.PageRows.{length_refs}
use Rattle.index_table.proofs.Pointers.{record_live}
use Rattle.table_search.proofs.Stops.{read_entry}
use Rattle.table_search.proofs.Descents.{leaves_at}
use Rattle.std.specs.declared.ops.ControlFlow.TheVariants.{Break}
use Rattle.table_find.specs.declared.answer.Counted.{Counted}
use Rattle.table_list.specs.Listings.{State, visited, visit_all, leaves_right, Inside, VisitPre, RowPre, RowListed}
use Rattle.table_list.proofs.Visits.{visit_over}

-- ---- what a page gives

module _ {index keys : List ℕ} {e n page : ℕ} (pre : RowPre index keys e n page) where
  abbrev row : List Ref
  row = pages_at (layout_of e) index page

  -- It is within the table,
  pub row_within : Within (layout_of e) index page
  row_within = within_table (layout_of e) pre.P page index pre.table pre.sound.0.number

  -- has no more entries than a page may hold,
  pub row_short : (i : ℕ) → i < length row → i < e
  row_short i h = omega (arith, pre.sound.0.few)

  -- and its live entries are records of the register.
  pub row_leaves : All (λ x. Inside keys (pointer_of x)) (flats (leaves n) (map (node_at 65535 n (pages_at (layout_of e) index)) row))
  unfolding node_at
  row_leaves = pre.inside

-- The count that is read tells whether there is an entry i,
pub row_counted : (L : Layout) (index : List ℕ) (page i n : ℕ) → n ≡ count_of (page_bytes L index page) → i < n → i < length (pages_at L index page)
row_counted L index page i n e h = omega (arith, e, length_refs L (page_bytes L index page))

-- or none.
pub row_ended : (L : Layout) (index : List ℕ) (page i n : ℕ) → n ≡ count_of (page_bytes L index page) → n ≤ i → length (pages_at L index page) ≤ i
row_ended L index page i n e h = omega (arith, e, length_refs L (page_bytes L index page))

-- The pointer that is read of an entry is the row's.
pub pointer_read : (L : Layout) (index : List ℕ) (page i p : ℕ) → p ≡ (ref_at L (page_bytes L index page) i).1 → i < length (pages_at L index page) → p ≡ (get_or (pages_at L index page) i (0, 0)).1
pointer_read L index page i p e h = e ∙ ap (λ (x : Ref). x.1) (read_entry L index page i h)

-- On level 0 an entry can be visited while the list goes on.
pub leaf_visit : {index keys : List ℕ} {e page : ℕ} → RowPre index keys e 0 page → (i p : ℕ) → i < length (pages_at (layout_of e) index page)
    → p ≡ (ref_at (layout_of e) (page_bytes (layout_of e) index page) i).1 → VisitPre keys p
unfolding node_at
leaf_visit {index} {keys} {e} {page} pre i p h q =
    record {
      inside = λ live. subst (Inside keys) (record_live live)
          (subst (λ (m : ℕ). Inside keys (record_of 65535 m)) (sym (pointer_read (layout_of e) index page i p q h))
          (leaves_at (λ x. Inside keys (pointer_of x)) 0 (node_at 65535 0 (pages_at (layout_of e) index)) (pages_at (layout_of e) index page) i h (row_leaves pre)).0);
    }

-- Above it, the child is such a page.
child_row : {index keys : List ℕ} {e page : ℕ} (n : ℕ) → RowPre index keys e (suc n) page → (i below : ℕ) → i < length (pages_at (layout_of e) index page)
    → below ≡ (ref_at (layout_of e) (page_bytes (layout_of e) index page) i).1 → RowPre index keys e n below
child_row {index} {keys} {e} {page} n pre i below h q =
    subst (RowPre index keys e n) (sym (pointer_read (layout_of e) index page i below q h))
    (record {
      P = pre.P;
      closing = (get_or (pages_at (layout_of e) index page) i (0, 0)).0;
      sound = all_at (SoundBelow (layout_of e) pre.P (suc n) index) (pages_at (layout_of e) index page) i (0, 0) h pre.sound.2;
      table = pre.table;
      inside = leaves_at (λ x. Inside keys (pointer_of x)) (suc n) (node_at 65535 (suc n) (pages_at (layout_of e) index)) (pages_at (layout_of e) index page) i h (row_leaves pre);
    })

-- The same, from a level above 0 to the one below it.
pub row_below : {index keys : List ℕ} {e page : ℕ} (level : ℕ) → (level ≡ 0 → ⊥) → RowPre index keys e level page → (i below : ℕ) → i < length (pages_at (layout_of e) index page)
    → below ≡ (ref_at (layout_of e) (page_bytes (layout_of e) index page) i).1 → RowPre index keys e (level - 1) below
row_below zero k pre i below h q = absurd (k refl)
row_below {index} {keys} {e} (suc n) k pre i below h q =
    let m : n ≡ suc n - 1 = omega arith in
    subst (λ (j : ℕ). RowPre index keys e j below) m (child_row n pre i below h q)

-- ---- the loop over a page's entries

-- Once the list has ended, nothing is visited.
pub row_over : (index keys : List ℕ) (e n page from a b : ℕ) {s : State} {end : Counted} → s.1 ≡ Break end → RowListed index keys e n page from a b s s
row_over index keys e n page from a b {s} h = record { walked = sym (visit_over keys a b s (leaves_right index e n page from) h) }

module _ (index keys : List ℕ) (e n page from a b : ℕ) where
  -- Before entry i: what is left to visit gives what the whole gives.
  pub record Walking (start now : State) (i : ℕ) : Type 0 where
    pub left : visit_all keys a b now (leaves_right index e n page i) ≡ visit_all keys a b start (leaves_right index e n page from)
    pub kept : length now.0 ≡ length start.0

  -- Before the first.
  pub walking_start : (start : State) → Walking start start from
  walking_start start = record { left = refl; kept = refl }

  module _ (start now : State) (i : ℕ) (w : Walking start now i) where
    -- Entry i and all below it are visited.
    pub walking_more : (next : State) → i < length (pages_at (layout_of e) index page) → length next.0 ≡ length now.0
        → next ≡ visit_all keys a b now (leaves n (node_at 65535 n (pages_at (layout_of e) index) (get_or (pages_at (layout_of e) index page) i (0, 0))))
        → Walking start next (i + 1)
    walking_more next h k q =
        record {
          left = ap (λ (s : State). visit_all keys a b s (leaves_right index e n page (i + 1))) q ∙ rw (add-one i)
              (sym (foldl-append (λ (s : State) x. visited keys a b s (pointer_of x)) now (leaves n first) (leaves_right index e n page (suc i)))
              ∙ ap (visit_all keys a b now) (sym parted) ∙ w.left);
          kept = k ∙ w.kept;
        }
      where
        first : Node n
        first = node_at 65535 n (pages_at (layout_of e) index) (get_or (pages_at (layout_of e) index page) i (0, 0))

        parted : leaves_right index e n page i ≡ leaves n first ++ leaves_right index e n page (suc i)
        parted = ap (λ (l : List Ref). flats (leaves n) (map (node_at 65535 n (pages_at (layout_of e) index)) l)) (drop-cons (pages_at (layout_of e) index page) i (0, 0) h)

    -- A list that is over visits no more.
    pub walking_over : {end : Counted} → now.1 ≡ Break end → RowListed index keys e n page from a b start now
    walking_over h = record { walked = sym (visit_over keys a b now (leaves_right index e n page i) h) ∙ w.left }

    -- The row's end.
    pub walking_end : length (pages_at (layout_of e) index page) ≤ i → RowListed index keys e n page from a b start now
    walking_end h =
        record {
          walked = ap (λ (l : List Ref). visit_all keys a b now (flats (leaves n) (map (node_at 65535 n (pages_at (layout_of e) index)) l)))
              (sym (drop_of_length-le (pages_at (layout_of e) index page) {i = i} h)) ∙ w.left;
        }

-- ---- one entry of the loop

-- On level 0 it is visited alone.
pub leaf_visited : (index keys : List ℕ) (e page a b i p : ℕ) (now next : State) → i < length (pages_at (layout_of e) index page) → p ≡ (ref_at (layout_of e) (page_bytes (layout_of e) index page) i).1
    → next ≡ visited keys a b now (record_of 65535 p)
    → next ≡ visit_all keys a b now (leaves 0 (node_at 65535 0 (pages_at (layout_of e) index) (get_or (pages_at (layout_of e) index page) i (0, 0))))
unfolding node_at
leaf_visited index keys e page a b i p now next h q r = r ∙ ap (λ (m : ℕ). visited keys a b now (record_of 65535 m)) (pointer_read (layout_of e) index page i p q h)

-- Above it, its whole child is.
pub child_visited : (index keys : List ℕ) (e page a b i below : ℕ) (now next : State) (level : ℕ) → (level ≡ 0 → ⊥) → i < length (pages_at (layout_of e) index page)
    → below ≡ (ref_at (layout_of e) (page_bytes (layout_of e) index page) i).1 → RowListed index keys e (level - 1) below 0 a b now next
    → next ≡ visit_all keys a b now (leaves level (node_at 65535 level (pages_at (layout_of e) index) (get_or (pages_at (layout_of e) index page) i (0, 0))))
unfolding node_at
child_visited index keys e page a b i below now next zero k h q r = absurd (k refl)
child_visited index keys e page a b i below now next (suc n) k h q r =
    let m : suc n - 1 ≡ n = omega arith in
    (subst (λ (j : ℕ). RowListed index keys e j below 0 a b now next) m r).walked
    ∙ ap (λ (p : ℕ). visit_all keys a b now (flats (leaves n) (map (node_at 65535 n (pages_at (layout_of e) index)) (pages_at (layout_of e) index p)))) (pointer_read (layout_of e) index page i below q h)

-- ---- a page of level 0, as a page of its level

-- It can be walked as one of level 0,
pub row_leaf : {index keys : List ℕ} {e page : ℕ} (level : ℕ) → level ≡ 0 → RowPre index keys e level page → RowPre index keys e 0 page
row_leaf {index} {keys} {e} {page} level h pre = subst (λ (n : ℕ). RowPre index keys e n page) h pre

-- and what was walked so was walked on its level.
pub leaf_listed : {index keys : List ℕ} {e page from a b : ℕ} {start now : State} (level : ℕ) → level ≡ 0 → RowListed index keys e 0 page from a b start now
    → RowListed index keys e level page from a b start now
leaf_listed {index} {keys} {e} {page} {from} {a} {b} {start} {now} level h r = subst (λ (n : ℕ). RowListed index keys e n page from a b start now) (sym h) r
