-- One level of an insertion: what stands in the place of the entry found enters the page's row, and the row is placed. Assumes nothing.
use mathlib.Core.Path.{◌≡◌, refl, sym, ap, ap₂, subst, ◌∙◌}
use mathlib.Core.Logic.{◌⊎◌, inl, inr}
use mathlib.Core.Bool.{Bool, true, false, cond}
use mathlib.Core.List.{List, [], ◌∷◌, ◌++◌, map, map-append}
use Prim.Native.Nat.{ℕ, suc, ◌+◌, ◌-◌, ◌≤◌, ◌<◌}
use native.Mathlib.Omega.{arith}
use lib.Dec.{eqb}
use lib.ListN.{length, get_or, take, drop, length-map}
use lib.Seq.{append_snoc}
use borrow.Author.Tests.{eq-eqb, ne_eqb}
use Rattle.leaf_list.proofs.Lists.{all_append, all_weaker}
use Rattle.page_tree.specs.Rows.{All, Closed, last_depth}
use Rattle.page_tree.specs.Cutting.{parts}
use Rattle.page_tree.specs.OnPages.{Replacement, replace_in, insert_below, pages_below}
use Rattle.page_tree.specs.Numbered.{Numbered, numbered_depth, under, insert_numbered}
use Rattle.page_tree.specs.Row.{depth_of, row_of, Holds}
use Rattle.page_tree.specs.declared.Row.{Row}
use Rattle.page_tree.proofs.ListLaws.{all_left, all_right, sum_append}
use Rattle.page_tree.proofs.ClosedRows.{closed_nonempty, closed_last, closed_below, closed_splice}
use Rattle.page_tree.proofs.CuttingLaws.{cut_fits}
use Rattle.page_tree.proofs.RowMaps.{parts_map}
use Rattle.index_table.specs.Layout.{Layout, layout_of, Ref, page_start, page_bytes, refs_of, Fitting}
use Rattle.index_table.specs.Pages.{pages_at, node_at, numbered_at, same, met, met_all, in_use, used_pages}
use Rattle.index_table.specs.Soundness.{SoundBelow}
use Rattle.index_table.proofs.PageBytes.{within_table}
use Rattle.index_table.proofs.PageCounts.{same_self, same_cases}
use Rattle.index_table.proofs.NumberedPages.{numbered_aside}
use Rattle.index_write.specs.Standing.{Owned, Stands}
use Rattle.index_write.specs.Storing.{spliced_at, Spliceable}
use Rattle.index_write.proofs.StandingLaws.{stands_at, before_stays, after_stays}
use Rattle.table_search.specs.declared.Spot.{Spot}
use Rattle.table_search.specs.Places.{left_from, Stopped, DescendPre}
use Rattle.table_search.proofs.Descents.{descend_walk}
use Rattle.table_insert.specs.Placing.{Holding, owned, Placed, PlacePre, PlacePost}
use Rattle.table_insert.specs.Inserting.{Replaced}
use Rattle.table_insert.proofs.PlacedRows.{each_length}
use Rattle.table_insert.proofs.PlacedTrees.{numbered_depths, placed_closed, placed_fits, placed_stands, placed_numbered}
use Rattle.table_insert.proofs.NumberedInsertion.{length_under, insert_numbered_length, insert_numbered_ext}
use Rattle.table_insert.proofs.FoundPlaces.{found_parted, found_before, found_replaced}

-- An own page in use counts once.
pub owned_used : (L : Layout) (b : List ℕ) (own q : ℕ) → in_use (pages_at L b own) ≡ 1 → owned L b own q ≡ same own q
owned_used L b own q h = go (same_cases own q)
  where
    go : (own ≡ q) ⊎ ((own ≡ q → ⊥) × (same own q ≡ 0)) → owned L b own q ≡ same own q
    go (inl i) = rw (← i) (omega (arith, same_self own))
    go (inr i) = omega (arith, i.1)

-- A page that is free after a change that frees none was free before it.
pub still_free : (L : Layout) (b b₁ : List ℕ) → ((q : ℕ) → in_use (pages_at L b q) ≤ in_use (pages_at L b₁ q)) → (ps : List ℕ) → All (λ q. pages_at L b₁ q ≡ []) ps → All (λ q. pages_at L b q ≡ []) ps
still_free L b b₁ more ps h =
    all_weaker (λ q. pages_at L b₁ q ≡ []) (λ q. pages_at L b q ≡ []) ps (λ q z. none (pages_at L b q) (let l : length (pages_at L b₁ q) ≡ 0 = ap length z in omega (arith, more q))) h
  where
    none : (l : List Ref) → in_use l ≡ 0 → l ≡ []
    none [] z = refl
    none (x ∷ l) z = absurd (omega arith)

-- Numbers by level, with those of one level given.
abbrev pub with_level : ℕ → List ℕ → (ℕ → List ℕ) → ℕ → List ℕ
with_level n here others k = cond (eqb k n) here (others k)

-- They are free where both are.
pub with_level_free : (L : Layout) (b : List ℕ) (n : ℕ) (here : List ℕ) (others : ℕ → List ℕ) → All (λ q. pages_at L b q ≡ []) here → ((k : ℕ) → All (λ q. pages_at L b q ≡ []) (others k))
    → (k : ℕ) → All (λ q. pages_at L b q ≡ []) (with_level n here others k)
with_level_free L b n here others h g k = go (eqb k n)
  where
    go : (t : Bool) → All (λ q. pages_at L b q ≡ []) (cond t here (others k))
    go true = h
    go false = g k

module _ {b : List ℕ} {e P n page w key position τ : ℕ} (new : Replacement) (two : 2 ≤ e) (pre : DescendPre b e P n page w key position)
    (own : Owned (layout_of e) b (met (suc n) (pages_at (layout_of e) b) (0, page))) (fits : Fitting 2 (pages_at (layout_of e) b page))
    (enough : used_pages P (pages_at (layout_of e) b) + pages_below e new (suc n) (left_from w key position) τ (node_at 65535 (suc n) (pages_at (layout_of e) b) (0, page)) ≤ P)
    {s : Spot} (stop : Stopped w key position τ (pages_at (layout_of e) b page) s) where
  abbrev L : Layout
  L = layout_of e

  abbrev refs : List Ref
  refs = pages_at L b page

  abbrev y : Ref
  y = get_or refs s.at (0, 0)

  abbrev before : List Ref
  before = take s.at refs

  abbrev after : List Ref
  after = drop (suc s.at) refs

  -- What is met below the page, in its parts.
  own_refs : (q : ℕ) → same page q + met_all n (pages_at L b) refs q ≤ in_use (pages_at L b q)
  unfolding met
  own_refs q = own q

  own_parts : Owned L b (met_all n (pages_at L b) (before ++ y ∷ after))
  own_parts q = rw (← found_parted stop) (omega (arith, own_refs q))

  sound_parts : All (SoundBelow L P n b) (before ++ y ∷ after)
  sound_parts = subst (All (SoundBelow L P n b)) (found_parted stop) pre.sound.2

  page_used : in_use refs ≡ 1
  page_used = omega (arith, pre.sound.0.some)

  -- The entry found is owned.
  pub found_owned : Owned L b (met n (pages_at L b) y)
  found_owned q = omega (arith, own_parts q, sum_append (λ z. met n (pages_at L b) z q) before (y ∷ after))

  less : y.0 < s.position
  less = found_before stop pre.closing pre.sound.1 pre.before

  -- The pages that the insertion takes: those below the entry found, and one for each part of the page but the first.
  pub found_pages : pages_below e new (suc n) (left_from w key position) τ (node_at 65535 (suc n) (pages_at L b) (0, page))
      ≡ (length (insert_below e new (suc n) (left_from w key position) τ (node_at 65535 (suc n) (pages_at L b) (0, page))) - 1)
      + pages_below e new n (left_from w key s.position) s.trail (node_at 65535 n (pages_at L b) y)
  unfolding node_at
  found_pages =
      ap (λ (k : ℕ). (length (insert_below e new (suc n) (left_from w key position) τ (node_at 65535 (suc n) (pages_at L b) (0, page))) - 1) + k)
      (descend_walk pre s stop (λ bs t x xs. pages_below e new n bs t x) 0)

  -- What stands in the place of the entry found is there.
  module _ {b₁ : List ℕ} {news : Row} (h : Replaced e P new n (left_from w key s.position) s.trail b y b₁ news) where
    abbrev row : List Ref
    row = before ++ row_of news ++ after

    -- The page's row with it.
    spliced : Stands L P n b (met_all n (pages_at L b) (before ++ y ∷ after)) b₁ row
    spliced = stands_at L P n b before y after own_parts sound_parts b₁ (row_of news) h.stands

    old_is : (q : ℕ) → met_all n (pages_at L b) (before ++ y ∷ after) q ≡ met_all n (pages_at L b) refs q
    old_is q = ap (λ (l : List Ref). met_all n (pages_at L b) l q) (sym (found_parted stop))

    -- The page itself is not changed yet.
    page_kept : page_bytes L b₁ page ≡ page_bytes L b page
    page_kept = spliced.same page (omega (arith, old_is page, own_refs page, same_self page)) (omega (arith, h.more page, page_used))

    -- So its row is read as before.
    pub refs_kept : pages_at L b₁ page ≡ refs
    refs_kept = ap (refs_of L) page_kept

    used₁ : in_use (pages_at L b₁ page) ≡ 1
    used₁ = rw page_kept page_used

    long₁ : length b₁ ≡ length b
    long₁ = h.stands.long

    table₁ : page_start L P ≤ length b₁
    table₁ = omega (arith, long₁, pre.table)

    -- So it can be spliced.
    pub splice_pre : Spliceable e b₁ page s.at news
    splice_pre =
        record {
          within = within_table L P page b₁ table₁ pre.sound.0.number;
          few = rw page_kept pre.sound.0.few;
          inside = rw page_kept stop.inside;
          room = h.few;
        }

    closed_row : Closed depth_of pre.closing row
    closed_row = closed_splice depth_of pre.closing before y (row_of news) after (subst (Closed depth_of pre.closing) (found_parted stop) pre.sound.1) h.closed

    fits_parts : Fitting 2 (before ++ y ∷ after)
    fits_parts = subst (Fitting 2) (found_parted stop) fits

    fits_row : Fitting 2 row
    fits_row =
        all_append (λ (x : Ref). x.1 < 65536) (before ++ row_of news) after
        (all_append (λ (x : Ref). x.1 < 65536) before (row_of news) (all_left (λ (x : Ref). x.1 < 65536) before (y ∷ after) fits_parts) h.fitting)
        (all_right (λ (x : Ref). x.1 < 65536) before (y ∷ after) fits_parts).1

    -- What the row stands for, with page numbers: the page's row with the thing found replaced.
    row_numbered : map (numbered_at 65535 n (pages_at L b₁)) row
        ≡ replace_in (numbered_depth n) (insert_numbered e h.fresh new n) (left_from w key position) τ (map (numbered_at 65535 n (pages_at L b)) refs)
    row_numbered =
        map-append (numbered_at 65535 n (pages_at L b₁)) (before ++ row_of news) after
        ∙ ap₂ (λ (l m : List (Numbered n)). l ++ m)
        (map-append (numbered_at 65535 n (pages_at L b₁)) before (row_of news)
        ∙ ap₂ (λ (l m : List (Numbered n)). l ++ m) ((before_stays L P n b before y after own_parts sound_parts b₁ (row_of news) h.stands).numbereds 65535) h.numbers)
        ((after_stays L P n b before y after own_parts sound_parts b₁ (row_of news) h.stands).numbereds 65535)
        ∙ sym (found_replaced stop (numbered_depth n) (numbered_at 65535 n (pages_at L b)) (insert_numbered e h.fresh new n) (numbered_depths 65535 L P n b refs pre.sound.2) less)

    parts_numbered : parts (numbered_depth n) e (map (numbered_at 65535 n (pages_at L b₁)) row) ≡ map (map (numbered_at 65535 n (pages_at L b₁))) (parts depth_of e row)
    parts_numbered = parts_map depth_of (numbered_depth n) (numbered_at 65535 n (pages_at L b₁)) e row (numbered_depths 65535 L P n b₁ row spliced.sound)

    -- So many parts.
    parts_count : length (parts depth_of e row) ≡ length (insert_below e new (suc n) (left_from w key position) τ (node_at 65535 (suc n) (pages_at L b) (0, page)))
    unfolding numbered_at
    parts_count =
        sym (length-map (parts depth_of e row) (map (numbered_at 65535 n (pages_at L b₁))))
        ∙ ap length (sym parts_numbered)
        ∙ ap (λ l. length (parts (numbered_depth n) e l)) row_numbered
        ∙ sym (length_under (page ∷ h.fresh n) (parts (numbered_depth n) e (replace_in (numbered_depth n) (insert_numbered e h.fresh new n) (left_from w key position) τ (map (numbered_at 65535 n (pages_at L b)) refs))))
        ∙ insert_numbered_length e new h.fresh (suc n) (left_from w key position) τ (numbered_at 65535 (suc n) (pages_at L b) (0, page))
        ∙ ap (λ x. length (insert_below e new (suc n) (left_from w key position) τ x)) (numbered_aside 65535 (pages_at L b) (suc n) (0, page))

    -- The row was placed.
    module _ {b₂ : List ℕ} (r : Row) (placed : Placed L P n b₁ page b₂ (row_of r) (parts depth_of e row)) (few : r.count ≤ 65) (low : P < 65536) (full : length (row_of r) ≡ r.count) where
      apart : Owned L b₁ (λ q. met_all n (pages_at L b₁) row q + owned L b₁ page q)
      apart q = omega (arith, owned_used L b₁ page q used₁, spliced.pages q, old_is q, own_refs q)

      lifted : Stands L P (suc n) b₁ (λ q. met_all n (pages_at L b₁) row q + owned L b₁ page q) b₂ (row_of r)
      lifted = placed_stands row (omega arith) pre.closing closed_row spliced.sound apart placed

      stands₂ : Stands L P (suc n) b (met (suc n) (pages_at L b) (0, page)) b₂ (row_of r)
      unfolding met
      stands₂ =
          record {
            long = lifted.long ∙ long₁;
            front = lifted.front ∙ spliced.front;
            pages = λ q. omega (arith, lifted.pages q, spliced.pages q, old_is q, owned_used L b₁ page q used₁);
            same = λ q z u.
                placed.kept q (omega (arith, owned_used L b₁ page q used₁)) (omega (arith, h.more q, placed.more q))
                ∙ spliced.same q (omega (arith, old_is q)) (omega (arith, h.more q, placed.more q));
            cleared = λ q c. placed.cleared q (spliced.cleared q c);
            sound = lifted.sound;
          }

      fresh₂ : ℕ → List ℕ
      fresh₂ = with_level n placed.fresh h.fresh

      fresh_below : insert_numbered e fresh₂ new n ≡ insert_numbered e h.fresh new n
      unfolding fresh₂
      fresh_below =
          insert_numbered_ext e new fresh₂ h.fresh n (λ k l. ap (λ (t : Bool). cond t placed.fresh (h.fresh k)) (ne_eqb k n (λ i. omega arith)))

      under_fresh : under (page ∷ fresh₂ n) (parts (numbered_depth n) e (replace_in (numbered_depth n) (insert_numbered e fresh₂ new n) (left_from w key position) τ (map (numbered_at 65535 n (pages_at L b)) refs)))
          ≡ under (page ∷ placed.fresh) (parts (numbered_depth n) e (replace_in (numbered_depth n) (insert_numbered e h.fresh new n) (left_from w key position) τ (map (numbered_at 65535 n (pages_at L b)) refs)))
      unfolding fresh₂
      under_fresh = λ i. under (page ∷ cond (eq-eqb n n refl i) placed.fresh (h.fresh n)) (parts (numbered_depth n) e (replace_in (numbered_depth n) (fresh_below i) (left_from w key position) τ (map (numbered_at 65535 n (pages_at L b)) refs)))

      numbers₂ : map (numbered_at 65535 (suc n) (pages_at L b₂)) (row_of r) ≡ insert_numbered e fresh₂ new (suc n) (left_from w key position) τ (numbered_at 65535 (suc n) (pages_at L b) (0, page))
      unfolding numbered_at
      numbers₂ =
          placed_numbered row (omega arith) pre.closing closed_row spliced.sound apart placed 65535
          ∙ ap (λ l. under (page ∷ placed.fresh) (parts (numbered_depth n) e l)) row_numbered
          ∙ sym under_fresh

      -- So the page is replaced.
      pub replaced_page : Replaced e P new (suc n) (left_from w key position) τ b (pre.closing, page) b₂ r
      unfolding met node_at numbered_at fresh₂
      replaced_page =
          record {
            stands = stands₂;
            closed = placed_closed row (omega arith) pre.closing closed_row spliced.sound apart placed;
            fitting = placed_fits row (omega arith) pre.closing closed_row spliced.sound apart placed low;
            long = full;
            few = few;
            more = λ q. omega (arith, h.more q, placed.more q);
            total =
                omega (
                  arith,
                  placed.total,
                  used₁,
                  parts_count,
                  each_length (Holding L P n b₂) (row_of r) (parts depth_of e row) placed.holds,
                  closed_nonempty depth_of pre.closing (row_of r) (placed_closed row (omega arith) pre.closing closed_row spliced.sound apart placed),
                  h.total,
                  found_pages,
                );
            fresh = fresh₂;
            free = with_level_free L b n placed.fresh h.fresh (still_free L b b₁ h.more placed.fresh placed.free) h.free;
            numbers = numbers₂;
          }

    -- One entry that is the entry found: the page stays as it is.
    module _ (single : row_of news ≡ y ∷ []) where
      row_stays : row ≡ refs
      row_stays = ap (λ (l : List Ref). before ++ l ++ after) single ∙ append_snoc before y after ∙ sym (found_parted stop)

      page_stays : Placed L P n b₁ page b₁ ((pre.closing, page) ∷ []) (parts depth_of e row)
      page_stays =
          rw (row_stays, cut_fits depth_of e (length refs) refs pre.sound.0.few)
          (record {
            long = refl;
            front = refl;
            pages = λ q. omega (arith, owned_used L b₁ page q used₁);
            more = λ q. omega arith;
            kept = λ q z u. refl;
            cleared = λ q c. c;
            holds = (
              record {
                number = pre.sound.0.number;
                level = rw page_kept pre.sound.0.level;
                refs = refs_kept;
                some = pre.sound.0.some;
                depth = sym (closed_last depth_of pre.closing 0 refs pre.sound.1);
              },
              tt,
            );
            fresh = [];
            numbers = refl;
            free = tt;
            total = omega (arith, used₁);
          })

      -- So it stands in its own place.
      pub replaced_kept : {r : Row} → Holds r 1 ((last_depth depth_of 0 (pages_at L b₁ page), page) ∷ []) → P < 65536 → Replaced e P new (suc n) (left_from w key position) τ b (pre.closing, page) b₁ r
      replaced_kept {r} g low =
          let last : last_depth depth_of 0 (pages_at L b₁ page) ≡ pre.closing = ap (last_depth depth_of 0) refs_kept ∙ closed_last depth_of pre.closing 0 refs pre.sound.1 in
          let entries : row_of r ≡ (pre.closing, page) ∷ [] = g.entries ∙ ap (λ (d : ℕ). (d, page) ∷ []) last in
          replaced_page r (subst (λ (l : List Ref). Placed L P n b₁ page b₁ l (parts depth_of e row)) (sym entries) page_stays) (omega (arith, g.count)) low (ap length entries ∙ sym g.count)

    -- The spliced row.
    module _ {all : Row} (g : Holds all (s.at + news.count + (length (pages_at L b₁ page) - suc s.at)) (spliced_at s.at (row_of news) (pages_at L b₁ page))) where
      row_is : row_of all ≡ row
      row_is = g.entries ∙ ap (λ (l : List Ref). spliced_at s.at (row_of news) l) refs_kept

      row_count : all.count ≡ s.at + news.count + (length refs - suc s.at)
      row_count = g.count ∙ ap (λ (l : List Ref). s.at + news.count + (length l - suc s.at)) refs_kept

      -- It can be placed.
      pub place_pre : PlacePre e P b₁ page all
      place_pre =
          record {
            entries_low = two;
            table = table₁;
            number = pre.sound.0.number;
            some = omega (arith, row_count, h.long, closed_nonempty depth_of y.0 (row_of news) h.closed);
            small = omega (arith, row_count, h.few, stop.inside, pre.sound.0.few);
            fitting = rw row_is fits_row;
            closed = rw row_is (closed_below depth_of pre.closing row closed_row);
            enough = rw row_is (omega (arith, used₁, parts_count, h.total, found_pages, enough));
          }

      -- So the page is replaced, by way of the spliced row.
      pub replaced_spliced : {b₂ : List ℕ} {r : Row} → PlacePost e P n b₁ page all b₂ r → P < 65536 → length (row_of r) ≡ r.count → Replaced e P new (suc n) (left_from w key position) τ b (pre.closing, page) b₂ r
      replaced_spliced {b₂} {r} post low full =
          replaced_page r (subst (λ (l : List Ref). Placed L P n b₁ page b₂ (row_of r) (parts depth_of e l)) row_is post.placed) post.few low full
