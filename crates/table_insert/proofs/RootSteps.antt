-- New roots: one part is the root; the row of more parts is placed one level up, and grows there. Assumes nothing.
use mathlib.Core.Path.{◌≡◌, refl, sym, ap, subst, ◌∙◌}
use mathlib.Core.Logic.{◌⊎◌, inl, inr}
use mathlib.Core.Bool.{Bool, cond}
use mathlib.Core.List.{List, [], ◌∷◌, map}
use Prim.Native.Nat.{ℕ, suc, ◌+◌, ◌≤◌, ◌<◌}
use native.Mathlib.Omega.{arith}
use lib.ListN.{length, get_or, take, length-map}
use lib.Seq.{take-suc}
use borrow.Author.Tests.{eq-eqb, ne_eqb}
use Rattle.page_tree.specs.Rows.{All, sum, Closed, last_depth}
use Rattle.page_tree.specs.Tree.{Node, depth, page_count, pages_of, Tree}
use Rattle.page_tree.specs.Cutting.{parts}
use Rattle.page_tree.specs.OnPages.{grown}
use Rattle.page_tree.specs.Numbered.{Numbered, aside, numbered_depth, under, grown_numbered}
use Rattle.page_tree.specs.Row.{depth_of, places, row_of}
use Rattle.page_tree.specs.declared.Row.{Row}
use Rattle.page_tree.proofs.ListLaws.{sum_concat}
use Rattle.page_tree.proofs.ClosedRows.{closed_nonempty, closed_last}
use Rattle.page_tree.proofs.CuttingLaws.{cut_join, cut_few}
use Rattle.page_tree.proofs.RowMaps.{parts_map}
use Rattle.page_tree.proofs.RowLaws.{Full, length_zip, place_at}
use Rattle.page_tree.proofs.Growing.{parts_fewer, root_parts, grown_again, grow_pages}
use Rattle.page_tree.proofs.NumberedLaws.{under_aside}
use Rattle.index_table.specs.Layout.{Layout, layout_of, Ref, page_start, Fitting}
use Rattle.index_table.specs.Pages.{pages_at, node_at, numbered_at, numbered_tree_at, same, met_all, used_pages}
use Rattle.index_table.specs.Soundness.{SoundBelow}
use Rattle.index_table.specs.declared.layout.Root.{Root}
use Rattle.index_table.proofs.PageCounts.{same_cases}
use Rattle.index_table.proofs.SoundNodes.{sound_depths}
use Rattle.index_table.proofs.NumberedPages.{numbereds_aside}
use Rattle.index_write.specs.Standing.{Owned, Stands}
use Rattle.index_write.proofs.StandingLaws.{stands_none, stands_owned}
use Rattle.table_insert.specs.Placing.{owned, PlacePre, PlacePost}
use Rattle.table_insert.specs.NewRoots.{roots_at, GrowPre, GrowPost}
use Rattle.table_insert.proofs.PlacedTrees.{placed_closed, placed_fits, placed_stands, placed_numbered}
use Rattle.table_insert.proofs.NumberedInsertion.{same_depths}
use Rattle.table_insert.proofs.NumberedGrowth.{grow_level, grow_numbered_ext, grown_numbered_again}
use Rattle.table_insert.proofs.InsertSteps.{still_free, with_level, with_level_free}

-- Over two or more pages a new level stands.
pub grown_up : (E : ℕ) → 2 ≤ E → (n : ℕ) (xs : List (Node (suc n))) → 2 ≤ length xs → grown E n xs ≡ grown E (suc n) (root_parts E n xs)
grown_up E two n [] h = absurd (omega arith)
grown_up E two n (x ∷ []) h = absurd (omega arith)
grown_up E two n (x ∷ y ∷ xs) h = grown_again E two n x y xs

-- ---- one part

-- A row of one entry.
one_entry : (row : Row) → Full row.depths row.pointers → row.count ≡ 1 → row_of row ≡ (get_or row.depths 0 0, get_or row.pointers 0 0) ∷ []
one_entry row full one =
    ap (λ (k : ℕ). take k (places row)) one
    ∙ take-suc (places row) 0 (0, 0) (omega (arith, length_zip row.depths row.pointers full))
    ∙ ap (λ (x : Ref). x ∷ []) (place_at row.depths row.pointers full 0 (omega arith))

module _ {e P n : ℕ} {b : List ℕ} {row : Row} (pre : GrowPre e P n b row) (full : Full row.depths row.pointers) (few : row.count ≤ 1) where
  abbrev x : Ref
  x = (get_or row.depths 0 0, get_or row.pointers 0 0)

  only : row_of row ≡ x ∷ []
  only = one_entry row full (omega (arith, pre.long, closed_nonempty depth_of (last_depth depth_of 0 (row_of row)) (row_of row) pre.closed))

  -- Its pointer is a page number.
  pub root_fits : get_or row.pointers 0 0 < 65536
  root_fits = (subst (Fitting 2) only pre.fitting).0

  pub root_alone : GrowPost e P n b (row_of row) b (record { page = record { 0 = get_or row.pointers 0 0 }; level = n })
  unfolding numbered_at
  root_alone =
      rw only
      (record {
        stands = stands_none (layout_of e) P (suc n) b (x ∷ []) (subst (All (SoundBelow (layout_of e) P (suc n) b)) only pre.sound);
        more = λ q. omega arith;
        fresh = λ k. [];
        free = λ k. tt;
        tree = refl;
      })

-- ---- more parts

module _ {e P n : ℕ} {b : List ℕ} {row : Row} (pre : GrowPre e P n b row) (many : 1 < row.count) where
  abbrev L : Layout
  L = layout_of e

  abbrev nodes : List (Node (suc n))
  nodes = roots_at n (pages_at L b) (row_of row)

  nodes_many : 2 ≤ length nodes
  nodes_many = omega (arith, length-map (row_of row) (node_at 65535 (suc n) (pages_at L b)), pre.long)

  -- As many parts as the tree has.
  parts_count : length (parts depth_of e (row_of row)) ≡ length (root_parts e n nodes)
  parts_count =
      sym (length-map (parts depth_of e (row_of row)) (map (node_at 65535 (suc n) (pages_at L b))))
      ∙ ap length (sym (parts_map depth_of (depth (suc n)) (node_at 65535 (suc n) (pages_at L b)) e (row_of row) (sound_depths 65535 L P b (suc n) (row_of row) pre.sound)))

  parts_some : 1 ≤ length (root_parts e n nodes)
  parts_some = (cut_few (depth (suc n)) e (omega (arith, pre.entries_low)) (length nodes) nodes).0

  parts_sum : sum (page_count (suc (suc n))) (root_parts e n nodes) ≡ length (root_parts e n nodes) + sum (page_count (suc n)) nodes
  parts_sum = sum_concat (page_count (suc n)) (root_parts e n nodes) ∙ ap (λ l. length (root_parts e n nodes) + sum (page_count (suc n)) l) (cut_join (depth (suc n)) e (length nodes) nodes)

  again : grown e n nodes ≡ grown e (suc n) (root_parts e n nodes)
  again = grown_up e pre.entries_low n nodes nodes_many

  -- The pages for them are there.
  room : used_pages P (pages_at L b) + length (parts depth_of e (row_of row)) ≤ P
  room =
      omega (
        arith,
        pre.enough,
        ap pages_of again,
        grow_pages e (omega (arith, pre.entries_low)) (length (root_parts e n nodes)) (suc n) (root_parts e n nodes) parts_some,
        parts_sum,
        parts_count,
      )

  -- There is a free page.
  pub root_free : (page_start L P ≤ length b) × (used_pages P (pages_at L b) < P)
  root_free = (pre.table, omega (arith, room, parts_count, parts_some))

  -- The new level is one that a byte holds.
  pub root_level_lem : suc n ≤ 15
  root_level_lem = omega (arith, pre.low, ap (λ (t : Tree). t.0) again, grow_level e (length (root_parts e n nodes)) (suc n) (root_parts e n nodes))

  -- The row can be placed from a page on.
  pub root_place : (own : ℕ) → own < P → PlacePre e P b own row
  root_place own below =
      record {
        entries_low = pre.entries_low;
        table = pre.table;
        number = below;
        some = omega arith;
        small = omega (arith, pre.few, pre.entries_low);
        fitting = pre.fitting;
        closed = pre.closed;
        enough = omega (arith, room);
      }

  module _ {own : ℕ} (free : length (pages_at L b own) ≡ 0) (low : P < 65536) {b₁ : List ℕ} {up : Row} (post : PlacePost e P (suc n) b own row b₁ up) (full : length (row_of up) ≡ up.count) where
    abbrev c : ℕ
    c = last_depth depth_of 0 (row_of row)

    unowned : (q : ℕ) → owned L b own q ≡ 0
    unowned q = go (same_cases own q)
      where
        go : (own ≡ q) ⊎ ((own ≡ q → ⊥) × (same own q ≡ 0)) → owned L b own q ≡ 0
        go (inl i) = rw (← i) (omega arith)
        go (inr i) = omega (arith, i.1)

    apart : Owned L b (λ q. met_all (suc n) (pages_at L b) (row_of row) q + owned L b own q)
    apart q = omega (arith, unowned q, pre.own q)

    lifted : Stands L P (suc (suc n)) b (λ q. met_all (suc n) (pages_at L b) (row_of row) q + owned L b own q) b₁ (row_of up)
    lifted = placed_stands (row_of row) (omega (arith, pre.entries_low)) c pre.closed pre.sound apart post.placed

    closed₁ : Closed depth_of c (row_of up)
    closed₁ = placed_closed (row_of row) (omega (arith, pre.entries_low)) c pre.closed pre.sound apart post.placed

    last₁ : last_depth depth_of 0 (row_of up) ≡ c
    last₁ = closed_last depth_of c 0 (row_of up) closed₁

    numbered₁ : map (numbered_at 65535 (suc (suc n)) (pages_at L b₁)) (row_of up) ≡ under (own ∷ post.placed.fresh) (parts (numbered_depth (suc n)) e (map (numbered_at 65535 (suc n) (pages_at L b)) (row_of row)))
    numbered₁ = placed_numbered (row_of row) (omega (arith, pre.entries_low)) c pre.closed pre.sound apart post.placed 65535

    nodes₁ : roots_at (suc n) (pages_at L b₁) (row_of up) ≡ root_parts e n nodes
    nodes₁ =
        let numbered : List (Numbered (suc n)) = map (numbered_at 65535 (suc n) (pages_at L b)) (row_of row) in
        sym (numbereds_aside 65535 (pages_at L b₁) (suc (suc n)) (row_of up))
        ∙ ap (map (aside (suc (suc n)))) numbered₁
        ∙ under_aside (suc n) (own ∷ post.placed.fresh) (parts (numbered_depth (suc n)) e numbered)
        ∙ sym (parts_map (numbered_depth (suc n)) (depth (suc n)) (aside (suc n)) e numbered (same_depths (depth (suc n)) (aside (suc n)) numbered))
        ∙ ap (parts (depth (suc n)) e) (numbereds_aside 65535 (pages_at L b) (suc n) (row_of row))

    -- There are fewer.
    pub root_fewer : up.count < row.count
    root_fewer = omega (arith, post.count, parts_fewer depth_of e (row_of row) pre.entries_low (omega (arith, pre.long)), pre.long)

    -- One level up, the same again.
    pub root_again : GrowPre e P (suc n) b₁ up
    root_again =
        record {
          entries_low = pre.entries_low;
          table = omega (arith, pre.table, lifted.long);
          long = full;
          few = post.few;
          fitting = placed_fits (row_of row) (omega (arith, pre.entries_low)) c pre.closed pre.sound apart post.placed low;
          closed = rw last₁ closed₁;
          sound = lifted.sound;
          own = stands_owned lifted apart;
          enough =
              rw nodes₁
              (omega (
                arith,
                pre.enough,
                ap pages_of again,
                parts_sum,
                parts_count,
                post.placed.total,
                free,
              ));
          low = rw nodes₁ (omega (arith, pre.low, ap (λ (t : Tree). t.0) again));
        }

    -- What grows there is what grows here.
    module _ {b₂ : List ℕ} {r : Root} (g : GrowPost e P (suc n) b₁ (row_of up) b₂ r) where
      fresh₂ : ℕ → List ℕ
      fresh₂ = with_level (suc n) (own ∷ post.placed.fresh) g.fresh

      here : fresh₂ (suc n) ≡ own ∷ post.placed.fresh
      unfolding fresh₂
      here = ap (λ (t : Bool). cond t (own ∷ post.placed.fresh) (g.fresh (suc n))) (eq-eqb (suc n) (suc n) refl)

      above : (k : ℕ) → suc n < k → g.fresh k ≡ fresh₂ k
      unfolding fresh₂
      above k l = ap (λ (t : Bool). cond t (own ∷ post.placed.fresh) (g.fresh k)) (sym (ne_eqb k (suc n) (λ i. omega arith)))

      tree₂ : numbered_tree_at 65535 (pages_at L b₂) r.level r.page.0 ≡ grown_numbered e fresh₂ n (map (numbered_at 65535 (suc n) (pages_at L b)) (row_of row))
      tree₂ =
          let numbered : List (Numbered (suc n)) = map (numbered_at 65535 (suc n) (pages_at L b)) (row_of row) in
          let upper : List (Numbered (suc (suc n))) = under (own ∷ post.placed.fresh) (parts (numbered_depth (suc n)) e numbered) in
          g.tree
          ∙ ap (grown_numbered e g.fresh (suc n)) numbered₁
          ∙ grow_numbered_ext e g.fresh fresh₂ (length upper) (suc n) upper above
          ∙ ap (λ (ps : List ℕ). grown_numbered e fresh₂ (suc n) (under ps (parts (numbered_depth (suc n)) e numbered))) (sym here)
          ∙ sym (grown_numbered_again e pre.entries_low fresh₂ n numbered (omega (arith, length-map (row_of row) (numbered_at 65535 (suc n) (pages_at L b)), pre.long)))

      -- What stands there stands above these parts.
      pub root_done : GrowPost e P n b (row_of row) b₂ r
      unfolding fresh₂
      root_done =
          record {
            stands =
                record {
                  long = g.stands.long ∙ lifted.long;
                  front = g.stands.front ∙ lifted.front;
                  pages = λ q. rw (← last₁) (omega (arith, g.stands.pages q, lifted.pages q, unowned q));
                  same = λ q z u.
                      g.stands.same q (omega (arith, lifted.pages q, unowned q, g.more q, post.placed.more q)) (omega (arith, g.more q, post.placed.more q))
                      ∙ lifted.same q (omega (arith, unowned q)) (omega (arith, g.more q, post.placed.more q));
                  cleared = λ q k. g.stands.cleared q (lifted.cleared q k);
                  sound = rw (← last₁) g.stands.sound;
                };
            more = λ q. omega (arith, g.more q, post.placed.more q);
            fresh = fresh₂;
            free = with_level_free L b (suc n) (own ∷ post.placed.fresh) g.fresh (none (pages_at L b own) free, post.placed.free) (λ k. still_free L b b₁ post.placed.more (g.fresh k) (g.free k));
            tree = tree₂;
          }
        where
          none : (l : List Ref) → length l ≡ 0 → l ≡ []
          none [] z = refl
          none (y ∷ l) z = absurd (omega arith)

-- ---- the same, where the next level is given by a number

module _ {e P n : ℕ} {b : List ℕ} {row : Row} (pre : GrowPre e P n b row) (many : 1 < row.count) {own : ℕ} (free : length (pages_at (layout_of e) b own) ≡ 0) (low : P < 65536)
    (l : ℕ) (next : l ≡ suc n) {b₁ : List ℕ} {up : Row} (post : PlacePost e P l b own row b₁ up) (full : length (row_of up) ≡ up.count) where
  post₁ : PlacePost e P (suc n) b own row b₁ up
  post₁ = subst (λ (z : ℕ). PlacePost e P z b own row b₁ up) next post

  -- Fewer parts,
  pub up_fewer : up.count < row.count
  up_fewer = root_fewer pre many free low post₁ full

  -- the same asked again,
  pub up_again : GrowPre e P l b₁ up
  up_again = subst (λ (z : ℕ). GrowPre e P z b₁ up) (sym next) (root_again pre many free low post₁ full)

  -- and the same left.
  pub up_done : {b₂ : List ℕ} {r : Root} → GrowPost e P l b₁ (row_of up) b₂ r → GrowPost e P n b (row_of row) b₂ r
  up_done {b₂} {r} g = root_done pre many free low post₁ full (subst (λ (z : ℕ). GrowPost e P z b₁ (row_of up) b₂ r) next g)
