-- What stands below the entries of a row that was placed in pages one level up. Assumes nothing.
use mathlib.Core.Path.{◌≡◌, refl, sym, ap, ap₂, ◌∙◌}
use mathlib.Core.List.{List, [], ◌∷◌, map}
use Prim.Native.Nat.{ℕ, suc, ◌+◌, ◌≤◌, ◌<◌}
use native.Mathlib.Omega.{arith}
use lib.ListN.{length}
use Rattle.leaf_list.proofs.Lists.{all_weaker}
use Rattle.page_tree.specs.Rows.{All, concat, sum, Closed, last_depth, Page}
use Rattle.page_tree.specs.Tree.{depth}
use Rattle.page_tree.specs.Cutting.{parts}
use Rattle.page_tree.specs.Numbered.{Numbered, numbered_depth, under}
use Rattle.page_tree.specs.Row.{depth_of}
use Rattle.page_tree.proofs.ListLaws.{sum_append}
use Rattle.page_tree.proofs.CuttingLaws.{cut_join, cut_all, parts_cut}
use Rattle.page_tree.proofs.RowMaps.{parts_map}
use Rattle.index_table.specs.Layout.{Layout, layout_of, Ref, Fitting}
use Rattle.index_table.specs.Pages.{pages_at, node_at, numbered_at, same, met, met_all}
use Rattle.index_table.specs.Soundness.{SoundBelow}
use Rattle.index_table.proofs.Frames.{UnchangedRow, unchanged_row}
use Rattle.index_table.proofs.SoundNodes.{sound_depths}
use Rattle.index_table.proofs.NumberedPages.{numbered_aside}
use Rattle.index_write.specs.Standing.{Owned, Stands}
use Rattle.table_insert.specs.Placing.{Each, Holding, owned, Placed}

-- What a sound entry stands for, with page numbers, has the entry's depth.
pub numbered_depths : (nil : ℕ) (L : Layout) (P n : ℕ) (b : List ℕ) (row : List Ref) → All (SoundBelow L P n b) row → All (λ x. numbered_depth n (numbered_at nil n (pages_at L b) x) ≡ depth_of x) row
numbered_depths nil L P n b row h =
    all_weaker (λ x. depth n (node_at nil n (pages_at L b) x) ≡ x.0) (λ x. numbered_depth n (numbered_at nil n (pages_at L b) x) ≡ depth_of x) row
    (λ x e. ap (depth n) (numbered_aside nil (pages_at L b) n x) ∙ e) (sound_depths nil L P b n row h)

-- ---- entry by entry

module _ (L : Layout) (P n : ℕ) (b : List ℕ) where
  -- What is met: the pages, and what is met below their rows.
  pub each_meets : (refs : List Ref) (rows : List (List Ref)) (q : ℕ) → Each (Holding L P n b) refs rows
      → met_all (suc n) (pages_at L b) refs q ≡ sum (λ (x : Ref). same x.1 q) refs + met_all n (pages_at L b) (concat rows) q
  unfolding met
  each_meets [] [] q h = refl
  each_meets [] (row ∷ rows) q h = absurd h
  each_meets (x ∷ refs) [] q h = absurd h
  each_meets (x ∷ refs) (row ∷ rows) q h =
      omega (
        arith,
        ap (λ (l : List Ref). met_all n (pages_at L b) l q) h.0.refs,
        sum_append (λ y. met n (pages_at L b) y q) row (concat rows),
        each_meets refs rows q h.1,
      )

  -- What is read, with page numbers.
  pub each_numbered : (nil : ℕ) (refs : List Ref) (rows : List (List Ref)) → Each (Holding L P n b) refs rows
      → map (numbered_at nil (suc n) (pages_at L b)) refs ≡ under (map (λ (x : Ref). x.1) refs) (map (map (numbered_at nil n (pages_at L b))) rows)
  unfolding numbered_at
  each_numbered nil [] [] h = refl
  each_numbered nil [] (row ∷ rows) h = absurd h
  each_numbered nil (x ∷ refs) [] h = absurd h
  each_numbered nil (x ∷ refs) (row ∷ rows) h = ap₂ (λ l m. (x.1, map (numbered_at nil n (pages_at L b)) l) ∷ m) h.0.refs (each_numbered nil refs rows h.1)

  -- Each is sound.
  pub each_sound : (refs : List Ref) (rows : List (List Ref)) → Each (Holding L P n b) refs rows → All (Page depth_of L.entries) rows → All (All (SoundBelow L P n b)) rows
      → All (SoundBelow L P (suc n) b) refs
  each_sound [] [] h p s = tt
  each_sound [] (row ∷ rows) h p s = absurd h
  each_sound (x ∷ refs) [] h p s = absurd h
  each_sound (x ∷ refs) (row ∷ rows) h p s = (
    (
      record { number = h.0.number; level = h.0.level; some = rw h.0.refs h.0.some; few = rw h.0.refs p.0.1 },
      rw (h.0.refs, h.0.depth) p.0.0,
      rw h.0.refs s.0,
    ),
    each_sound refs rows h.1 p.1 s.1,
  )

  -- They close as the rows do.
  pub each_closed : (c : ℕ) (refs : List Ref) (rows : List (List Ref)) → Each (Holding L P n b) refs rows → Closed (last_depth depth_of 0) c rows → Closed depth_of c refs
  each_closed c [] [] h g = g
  each_closed c [] (row ∷ rows) h g = absurd h
  each_closed c (x ∷ refs) [] h g = absurd h
  each_closed c (x ∷ []) (row ∷ []) h g = h.0.depth ∙ g
  each_closed c (x ∷ []) (row ∷ row' ∷ rows) h g = absurd h.1
  each_closed c (x ∷ y ∷ refs) (row ∷ []) h g = absurd h.1
  each_closed c (x ∷ y ∷ refs) (row ∷ row' ∷ rows) h g = (omega (arith, h.0.depth, g.0), each_closed c (y ∷ refs) (row' ∷ rows) h.1 g.1)

  -- Their pointers fit.
  pub each_fits : P < 65536 → (refs : List Ref) (rows : List (List Ref)) → Each (Holding L P n b) refs rows → Fitting 2 refs
  each_fits low [] [] h = tt
  each_fits low [] (row ∷ rows) h = absurd h
  each_fits low (x ∷ refs) [] h = absurd h
  each_fits low (x ∷ refs) (row ∷ rows) h = (omega (arith, h.0.number), each_fits low refs rows h.1)

-- ---- a closed row of sound entries, placed apart from its own pages

module _ {e P n : ℕ} {b : List ℕ} {own : ℕ} {b' : List ℕ} {refs : List Ref} (row : List Ref) (one : 1 ≤ e) (c : ℕ) (closed : Closed depth_of c row) (sound : All (SoundBelow (layout_of e) P n b) row)
    (apart : Owned (layout_of e) b (λ q. met_all n (pages_at (layout_of e) b) row q + owned (layout_of e) b own q)) (h : Placed (layout_of e) P n b own b' refs (parts depth_of e row)) where
  -- All below the row stays.
  pub placed_stays : UnchangedRow (layout_of e) n b b' row
  placed_stays = unchanged_row (layout_of e) b b' n row (λ q k. h.kept q (omega (arith, apart q)) (omega (arith, apart q, h.more q)))

  sound' : All (SoundBelow (layout_of e) P n b') row
  sound' = placed_stays.sound P sound

  -- The entries above close as the row does.
  pub placed_closed : Closed depth_of c refs
  placed_closed = each_closed (layout_of e) P n b' c refs (parts depth_of e row) h.holds (parts_cut depth_of e c row one closed).closed

  -- Their pointers fit.
  pub placed_fits : P < 65536 → Fitting 2 refs
  placed_fits low = each_fits (layout_of e) P n b' low refs (parts depth_of e row) h.holds

  -- They stand in the place of the row and the own page.
  pub placed_stands : Stands (layout_of e) P (suc n) b (λ q. met_all n (pages_at (layout_of e) b) row q + owned (layout_of e) b own q) b' refs
  placed_stands =
      record {
        long = h.long;
        front = h.front;
        pages = λ q.
            omega (
              arith,
              each_meets (layout_of e) P n b' refs (parts depth_of e row) q h.holds,
              ap (λ (l : List Ref). met_all n (pages_at (layout_of e) b') l q) (cut_join depth_of e (length row) row),
              placed_stays.meets q,
              h.pages q,
            );
        same = λ q z u. h.kept q (omega arith) u;
        cleared = h.cleared;
        sound = each_sound (layout_of e) P n b' refs (parts depth_of e row) h.holds (parts_cut depth_of e c row one closed).pages (cut_all depth_of e (SoundBelow (layout_of e) P n b') (length row) row sound');
      }

  -- What they stand for, with page numbers: the parts of what the row stands for.
  pub placed_numbered : (nil : ℕ)
      → map (numbered_at nil (suc n) (pages_at (layout_of e) b')) refs ≡ under (own ∷ h.fresh) (parts (numbered_depth n) e (map (numbered_at nil n (pages_at (layout_of e) b)) row))
  placed_numbered nil =
      each_numbered (layout_of e) P n b' nil refs (parts depth_of e row) h.holds
      ∙ ap₂ (λ (l : List ℕ) (m : List (List (Numbered n))). under l m) h.numbers
      (sym (parts_map depth_of (numbered_depth n) (numbered_at nil n (pages_at (layout_of e) b')) e row (numbered_depths nil (layout_of e) P n b' row sound'))
      ∙ ap (parts (numbered_depth n) e) (placed_stays.numbereds nil))
