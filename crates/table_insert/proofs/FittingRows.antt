-- New entries for which the page found has room: no page is cut, and that page alone is changed. Assumes nothing.
use mathlib.Core.Path.{◌≡◌, refl, sym, ap, subst, ◌∙◌}
use mathlib.Core.Bool.{Bool, false}
use mathlib.Core.List.{List, [], ◌∷◌, ◌++◌, map, zip, zip_with}
use Prim.Native.Nat.{ℕ, zero, suc, ◌+◌, ◌-◌, ◌^◌, ◌≤◌, ◌<◌}
use native.Mathlib.Omega.{arith}
use lib.ListN.{length, get_or, take, drop, replicate, length-map, length-append, length-take, length-drop, length-replicate}
use lib.Seq.{length-take-le}
use Rattle.leaf_list.specs.Keys.{bits}
use Rattle.leaf_list.specs.Search.{positions}
use Rattle.page_tree.specs.Rows.{last_depth}
use Rattle.page_tree.specs.Tree.{Node, Tree, depth, pages_of}
use Rattle.page_tree.specs.Cutting.{parts}
use Rattle.page_tree.specs.OnPages.{Replacement, replace_in, insert_below, pages_below, grown, insert_tree}
use Rattle.page_tree.specs.Row.{depth_of, places, row_of, Holds}
use Rattle.page_tree.specs.declared.Row.{Row}
use Rattle.page_tree.proofs.CuttingLaws.{cut_fits}
use Rattle.page_tree.proofs.Growing.{pages_above}
use Rattle.page_tree.proofs.InsertionPages.{insert_tree_pages}
use Rattle.page_tree.proofs.RowLaws.{Full}
use Rattle.index_table.specs.Layout.{Layout, layout_of, Ref, Fitting, row_page, store}
use Rattle.index_table.specs.Pages.{pages_at, leaf_of, node_at, tree_at}
use Rattle.index_table.proofs.PageBytes.{within_table}
use Rattle.index_table.proofs.Frames.{stored_refs}
use Rattle.index_table.proofs.SoundNodes.{sound_depths}
use Rattle.index_table.proofs.UsedPages.{used_tree, used_few}
use Rattle.index_write.specs.Standing.{TreeTable}
use Rattle.index_write.specs.Storing.{new_leaves, spliced_at, row_with}
use Rattle.index_write.proofs.LoadedRows.{row_with_lem}
use Rattle.table_search.specs.declared.Leaf.{Leaf}
use Rattle.table_search.specs.declared.Spot.{Spot}
use Rattle.table_search.specs.Places.{left_from, NextPosition, Stopped, sparse_at, DescendPre, Way}
use Rattle.table_search.proofs.Stops.{read_entry}
use Rattle.table_search.proofs.Descents.{descend_walk, descend_child}
use Rattle.table_insert.specs.Placing.{Placed, PlacePost}
use Rattle.table_insert.specs.Inserting.{page_ref, Replaced, InsertPre}
use Rattle.table_insert.specs.Putting.{PutPre, PutPost}
use Rattle.table_insert.proofs.FoundPlaces.{found_before, found_replaced}
use Rattle.table_insert.proofs.PlacedRows.{free_none, own_then_free}
use Rattle.table_insert.proofs.Insertions.{leaf_replaced, child_insert, child_replaced, alone_done, insert_place, insert_done}
use Rattle.table_insert.proofs.RootSteps.{root_alone}
use Rattle.table_insert.proofs.Puttings.{root_descend, put_insert, put_grow, put_done}

-- ---- rows as values

-- A row of one entry, all places there.
abbrev row_of_one : Ref → Row
row_of_one x = record { depths = x.0 ∷ replicate 318 0; pointers = x.1 ∷ replicate 318 0; count = 1 }

one_full : (x : Ref) → Full (row_of_one x).depths (row_of_one x).pointers
one_full x = (ap suc (length-replicate {A = ℕ} 318 0), ap suc (length-replicate {A = ℕ} 318 0))

one_holds : (x : Ref) → Holds (row_of_one x) 1 (x ∷ [])
unfolding zip zip_with
one_holds x = record { count = refl; entries = refl }

-- ---- nothing is cut

module _ {b : List ℕ} {e P n page w key position τ : ℕ} (new : Replacement) (pre : DescendPre b e P n page w key position) {s : Spot} (stop : Stopped w key position τ (pages_at (layout_of e) b page) s) where
  abbrev L : Layout
  L = layout_of e

  abbrev refs : List Ref
  refs = pages_at L b page

  abbrev y : Ref
  y = get_or refs s.at (0, 0)

  -- What stands in the place of the entry found.
  abbrev stands : List (Node n)
  stands = insert_below e new n (left_from w key s.position) s.trail (node_at 65535 n (pages_at L b) y)

  -- Where it leaves the page's row within E entries the page is one part, and all new pages are below the entry found.
  fitting_step : length refs + length stands ≤ suc e
      → (length (insert_below e new (suc n) (left_from w key position) τ (node_at 65535 (suc n) (pages_at L b) (0, page))) ≡ 1)
      × (pages_below e new (suc n) (left_from w key position) τ (node_at 65535 (suc n) (pages_at L b) (0, page)) ≡ pages_below e new n (left_from w key s.position) s.trail (node_at 65535 n (pages_at L b) y))
  unfolding node_at
  fitting_step room =
      let node : Ref → Node n = node_at 65535 n (pages_at L b) in
      let row : List (Node n) = replace_in (depth n) (insert_below e new n) (left_from w key position) τ (map node refs) in
      let row_is : row ≡ map node (take s.at refs) ++ stands ++ map node (drop (suc s.at) refs) =
      found_replaced stop (depth n) node (insert_below e new n) (sound_depths 65535 L P b n refs pre.sound.2) (found_before stop pre.closing pre.sound.1 pre.before) in
      let long : length row ≡ length refs - 1 + length stands =
      ap length row_is
      ∙ length-append (map node (take s.at refs) ++ stands) (map node (drop (suc s.at) refs))
      ∙ omega (
        arith,
        length-append (map node (take s.at refs)) stands,
        length-map (take s.at refs) node,
        length-map (drop (suc s.at) refs) node,
        length-take-le s.at refs (omega (arith, stop.inside)),
        length-drop (suc s.at) refs,
        stop.inside,
      ) in
      let one : length (parts (depth n) e row) ≡ 1 = ap length (cut_fits (depth n) e (length row) row (omega (arith, long, stop.inside))) in
      (one, omega (arith, one, descend_walk pre s stop (λ bs t x xs. pages_below e new n bs t x) 0))

module _ (b : List ℕ) (e : ℕ) {P w key : ℕ} (news : Row) (leaf : Leaf) (room : length (pages_at (layout_of e) b leaf.page.0) + news.count ≤ suc e) where
  -- Along the way down: one part at each level, and no new page.
  pub fitting_way : (n τ : ℕ) (few : Bool) {page position : ℕ} → DescendPre b e P n page w key position → Way w key e (pages_at (layout_of e) b) n page position τ few leaf
      → (length (insert_below e (new_leaves news) (suc n) (left_from w key position) τ (node_at 65535 (suc n) (pages_at (layout_of e) b) (0, page))) ≡ 1)
      × (pages_below e (new_leaves news) (suc n) (left_from w key position) τ (node_at 65535 (suc n) (pages_at (layout_of e) b) (0, page)) ≡ 0)
  unfolding node_at
  fitting_way zero τ few {page} pre way =
      fitting_step (new_leaves news) pre way.place
      (omega (arith, room, ap (λ (p : ℕ). length (pages_at (layout_of e) b p)) way.page_is, length-map (row_of news) (leaf_of 65535), length-take news.count (places news)))
  fitting_way (suc n) τ few {page} pre way =
      let below = fitting_way n way.0.trail (sparse_at e (pages_at (layout_of e) b) page) (descend_child n pre way.0 way.1 _ (ap (λ (z : Ref). z.1) (sym (read_entry (layout_of e) b page way.0.at way.1.inside)))) way.2 in
      let here = fitting_step (new_leaves news) pre way.1 (omega (arith, below.0, pre.sound.0.few)) in
      (here.0, here.1 ∙ below.1)

-- ---- the page found

-- Its row with the new entries, stored in its place, stands for it.
module _ {b : List ℕ} {e P page w key position τ : ℕ} {news : Row} {s : Spot} (pre : InsertPre b e P 0 page w key position τ news) (fits : Fitting 2 (pages_at (layout_of e) b page))
    (stop : Stopped w key position τ (pages_at (layout_of e) b page) s) (room : length (pages_at (layout_of e) b page) + news.count ≤ suc e) (low : P < 65536) where
  abbrev row : List Ref
  row = spliced_at s.at (row_of news) (pages_at (layout_of e) b page)

  abbrev stored : List ℕ
  stored = store (layout_of e) b page (row_page e 0 row)

  row_long : length row ≡ s.at + news.count + (length (pages_at (layout_of e) b page) - suc s.at)
  row_long =
      length-append (take s.at (pages_at (layout_of e) b page) ++ row_of news) (drop (suc s.at) (pages_at (layout_of e) b page))
      ∙ omega (
        arith,
        length-append (take s.at (pages_at (layout_of e) b page)) (row_of news),
        length-take-le s.at (pages_at (layout_of e) b page) (omega (arith, stop.inside)),
        length-drop (suc s.at) (pages_at (layout_of e) b page),
        pre.long,
      )

  row_few : length row ≤ e
  row_few = omega (arith, row_long, stop.inside)

  entered : Replaced e P (new_leaves news) 0 (left_from w key s.position) s.trail b (get_or (pages_at (layout_of e) b page) s.at (0, 0)) b news
  entered = leaf_replaced 0 refl pre stop

  held : Holds (row_with row) (s.at + news.count + (length (pages_at (layout_of e) b page) - suc s.at)) row
  held = record { count = row_long; entries = row_with_lem row }

  fits_row : Fitting 2 row
  fits_row = subst (Fitting 2) (row_with_lem row) (insert_place pre fits stop entered held).fitting

  number : page < P
  number = pre.descend.sound.0.number

  row_some : 1 ≤ length row
  row_some = (insert_place pre fits stop entered held).some

  last : last_depth depth_of 0 (pages_at (layout_of e) stored page) ≡ last_depth depth_of 0 row
  last = ap (last_depth depth_of 0) (stored_refs (layout_of e) b page (0 ∷ length row ∷ []) row refl (omega arith) refl row_few fits_row (within_table (layout_of e) P page b pre.descend.table number))

  one_part : parts depth_of e (row_of (row_with row)) ≡ row ∷ []
  one_part = ap (parts depth_of e) (row_with_lem row) ∙ cut_fits depth_of e (length row) row row_few

  placed : PlacePost e P 0 b page (row_with row) stored (row_of_one (page_ref e stored page))
  unfolding zip zip_with
  placed =
      record {
        count = sym (ap length one_part);
        few = omega arith;
        placed =
            subst (Placed (layout_of e) P 0 b page stored (page_ref e stored page ∷ [])) (sym one_part)
            (own_then_free page row row_few row_some fits_row pre.descend.table number (page_ref e stored page).0 last (free_none (layout_of e) P 0 stored));
      }

  pub leaf_stored : Replaced e P (new_leaves news) 1 (left_from w key position) τ b (page_ref e b page) stored (row_of_one (page_ref e stored page))
  leaf_stored = insert_done pre fits stop entered held placed low (ap length (one_holds (page_ref e stored page)).entries)

-- ---- the tree

-- The table with the page found changed.
abbrev pub opened : ℕ → List ℕ → Leaf → Row → List ℕ
opened e b leaf news = store (layout_of e) b leaf.page.0 (row_page e 0 (spliced_at leaf.at (row_of news) (pages_at (layout_of e) b leaf.page.0)))

module _ (b : List ℕ) (e : ℕ) {P : ℕ} (news : Row) (leaf : Leaf) (room : length (pages_at (layout_of e) b leaf.page.0) + news.count ≤ suc e) (fits : (p : ℕ) → Fitting 2 (pages_at (layout_of e) b p)) (low : P < 65536) where
  abbrev after : List ℕ
  after = opened e b leaf news

  -- Along the way down: each page stands for itself.
  fitting_replaced : (n : ℕ) (few : Bool) {page w key position τ : ℕ} → InsertPre b e P n page w key position τ news → Way w key e (pages_at (layout_of e) b) n page position τ few leaf
      → Replaced e P (new_leaves news) (suc n) (left_from w key position) τ b (page_ref e b page) after (row_of_one (page_ref e after page))
  fitting_replaced zero few {page} {w} {key} {position} {τ} pre way =
      let is = way.page_is in
      subst
      (λ (p : ℕ). (let stored' : List ℕ = store (layout_of e) b p (row_page e 0 (spliced_at leaf.at (row_of news) (pages_at (layout_of e) b p))) in
      Replaced e P (new_leaves news) 1 (left_from w key position) τ b (page_ref e b page) stored' (row_of_one (page_ref e stored' page))))
      (sym is) (leaf_stored pre (fits page) way.place (omega (arith, room, ap (λ (p : ℕ). length (pages_at (layout_of e) b p)) is)) low)
  fitting_replaced (suc n) few {page} {w} {key} {position} {τ} pre way =
      let s : Spot = way.0 in
      let stop = way.1 in
      let below : ℕ = (get_or (pages_at (layout_of e) b page) s.at (0, 0)).1 in
      let is = ap (λ (z : Ref). z.1) (sym (read_entry (layout_of e) b page s.at stop.inside)) in
      let above : suc n ≡ 0 → ⊥ = λ z. omega (arith, z) in
      let m : suc n - 1 ≡ n = omega arith in
      let child : InsertPre b e P n below w key s.position s.trail news =
      subst (λ (k : ℕ). InsertPre b e P k below w key s.position s.trail news) m (child_insert (suc n) above pre (fits page) stop below is) in
      let h = child_replaced (suc n) above pre (fits page) stop below is
      (subst (λ (k : ℕ). Replaced e P (new_leaves news) (suc k) (left_from w key s.position) s.trail b (page_ref e b below) after (row_of_one (page_ref e after below))) (sym m) (fitting_replaced n (sparse_at e (pages_at (layout_of e) b) page) child way.2)) in
      alone_done pre (fits page) stop h above refl (one_holds (page_ref e after page)) low

  -- So the tree is the one with the new entries, under the same root.
  pub fitting_put : {level root w key position : ℕ} → PutPre b e P level root w key news → NextPosition w key 0 position → length (row_of news) ≡ news.count
      → Way w key e (pages_at (layout_of e) b) level root position 0 false leaf → PutPost b e P level root w key news after (record { page = record { 0 = root }; level = level })
  fitting_put {level} {root} pre next full way =
      let h = fitting_replaced level false (put_insert pre next full) way in
      put_done pre next h (root_alone (put_grow pre next h) (one_full (page_ref e after root)) (omega arith))

-- One part is the root.
grown_one : (E n : ℕ) (xs : List (Node (suc n))) → length xs ≡ 1 → ((grown E n xs).0 ≡ n) × (pages_above E (length xs) n xs ≡ 0)
grown_one E n [] h = absurd (omega arith)
grown_one E n (x ∷ []) h = (refl, refl)
grown_one E n (x ∷ y ∷ xs) h = absurd (omega arith)

-- Rows 8 and 7 are not met where the page found has room.
pub fitting_low : {b : List ℕ} {e P level root w key position : ℕ} (news : Row) (leaf : Leaf) → length (pages_at (layout_of e) b leaf.page.0) + news.count ≤ suc e
    → TreeTable b e P level root w → key < 2 ^ w → NextPosition w key 0 position → Way w key e (pages_at (layout_of e) b) level root position 0 false leaf
    → ((insert_tree e (new_leaves news) (positions 0 (bits w key)) (tree_at 65535 (pages_at (layout_of e) b) level root)).0 ≤ 15)
    × (pages_of (insert_tree e (new_leaves news) (positions 0 (bits w key)) (tree_at 65535 (pages_at (layout_of e) b) level root)) ≤ P)
fitting_low {b} {e} {P} {level} {root} {w} {key} {position} news leaf room tree narrow next way =
    let t : Tree = tree_at 65535 (pages_at (layout_of e) b) level root in
    let one : 1 ≤ e = omega (arith, tree.entries_low) in
    let fit = fitting_way b e news leaf room level 0 false (root_descend tree narrow next) way in
    let bs : List ℕ = left_from w key position in
    let g = grown_one e level (insert_below e (new_leaves news) (suc level) bs 0 t.1) fit.0 in
    rw next.left (omega (arith, g.0, tree.pages.level_high), omega (arith, insert_tree_pages e (new_leaves news) one bs t, fit.1, g.1, used_tree 65535 (layout_of e) P b level root tree.pages, used_few P (pages_at (layout_of e) b)))
