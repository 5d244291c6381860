-- Where one page of level 0 changes alone, every page above it stays (01, "parent depths follow"). Assumes nothing.
use mathlib.Core.Path.{◌≡◌, refl, sym, ap, ap₂, subst, ◌∙◌}
use mathlib.Core.Bool.{Bool, true, false, cond, ◌&&◌}
use mathlib.Core.List.{List, [], ◌∷◌, ◌++◌, map-append}
use Prim.Native.Nat.{ℕ, zero, suc, ◌≤◌, ◌<◌}
use native.Mathlib.Omega.{arith}
use lib.Dec.{ltb}
use lib.ListN.{length, get_or, take, drop, length-map}
use borrow.Author.Tests.{ltb-true}
use Rattle.leaf_list.specs.Entries.{Entry}
use Rattle.page_tree.specs.Rows.{All, last_depth}
use Rattle.page_tree.specs.Row.{depth_of}
use Rattle.page_tree.specs.declared.Unwind.{Unwind}
use Rattle.page_tree.specs.OffPages.{Left, step_entry, sweep, next_depth, strike_in}
use Rattle.page_tree.specs.Merging.{sparse}
use Rattle.page_tree.specs.Numbered.{Numbered, numbered_depth, numbered_leaves, kept_under, step_numbered, delete_numbered}
use Rattle.page_tree.proofs.ListLaws.{all_left}
use Rattle.index_table.specs.Layout.{Layout, layout_of, Ref, Within, store}
use Rattle.index_table.specs.Pages.{Pages, pages_at, node_at, numbered_at, met, met_all}
use Rattle.index_table.specs.Soundness.{SizedPage}
use Rattle.index_table.proofs.Frames.{UnchangedRow}
use Rattle.table_search.specs.declared.Spot.{Spot}
use Rattle.table_search.specs.declared.Leaf.{Leaf}
use Rattle.table_search.specs.Places.{left_from, Stopped, sparse_at, Way}
use Rattle.table_search.proofs.Descents.{descend_within}
use Rattle.entry_delete.specs.Entries.{Calm}
use Rattle.page_delete.specs.OnePage.{leaf_row, NearDone, StruckNear}
use Rattle.tree_delete.specs.Keeping.{numbers_at, Linked, Kept}
use Rattle.tree_delete.specs.Rows.{settled, entry_for}
use Rattle.tree_delete.specs.Removing.{following_at, RemovePre}
use Rattle.tree_delete.proofs.CalmRows.{asked_past, past_calm, kept_some, calm_row}
use Rattle.tree_delete.proofs.RowChanges.{page_some, entry_some}
use Rattle.tree_delete.proofs.Settling.{settled_kept, settled_numbers}
use Rattle.tree_delete.proofs.Sweeps.{none_met}
use Rattle.tree_delete.proofs.FoundPlaces.{found_parted, found_linked, found_down, found_strike}
use Rattle.tree_delete.proofs.EntryStays.{row_same, entry_kept, front_stays, rest_stays}
use Rattle.tree_delete.proofs.Removals.{remove_descend}
use Rattle.tree_merge.specs.Merges.{missed, none_missed}
use Rattle.tree_merge.proofs.NeighbourLaws.{number_size}
use Rattle.tree_merge.proofs.MergeLaws.{missed_at}
use Rattle.table_delete.specs.Blanking.{Quiet}
use Rattle.table_delete.specs.Taking.{lowest_level}

module _ {e P n : ℕ} {b : List ℕ} {x : Ref} {w key position τ : ℕ} (h : RemovePre e P (suc n) b x w key position) (s : Spot) (a : Stopped w key position τ (pages_at (layout_of e) b x.1) s) where
  abbrev L : Layout
  L = layout_of e

  abbrev pages : Pages
  pages = pages_at L b

  abbrev row : List Ref
  row = pages x.1

  abbrev front : List Ref
  front = take s.at row

  abbrev y : Ref
  y = get_or row s.at (0, 0)

  abbrev rest : List Ref
  rest = drop (suc s.at) row

  parted : row ≡ front ++ y ∷ rest
  parted = found_parted h s a

  linked : All (Linked L P n b) (front ++ y ∷ rest)
  linked = found_linked h s a

  module _ (ν : ℕ) (b' : List ℕ) (q : Quiet e P n b y (left_from w key s.position) s.trail (following_at n pages ν rest) b') where
    abbrev pages' : Pages
    pages' = pages_at L b'

    row_is : pages' x.1 ≡ row
    row_is = row_same h s a b' q.kept

    fronts : UnchangedRow L n b b' front
    fronts = front_stays h s a b' q.kept

    rests : UnchangedRow L n b b' rest
    rests = rest_stays h s a b' q.kept

    front_linked : All (Linked L P n b) front
    front_linked = all_left (Linked L P n b) front (y ∷ rest) linked

    -- The entry before, if the page has one, ends at the depth that is not above.
    front_calm : Calm (last_depth depth_of τ front) q.asked
    front_calm = subst (λ (t : ℕ). Calm t q.asked) (sym a.trail) q.calm

    abbrev asks : Unwind
    asks = asked_past front q.asked

    -- The row of the page with the entry found as it reads now.
    swept : strike_in (numbered_depth n) (numbered_leaves n) (step_numbered n) (delete_numbered n) ν (left_from w key position) τ (numbers_at n pages row) ≡ (numbers_at n pages' row, asks)
    swept =
        found_strike h s a ν (following_at n pages ν rest) refl
        ∙ ap (λ (o : Left (Numbered n)). sweep (step_numbered n) o.1 (numbers_at n pages front) (o.0 ++ numbers_at n pages rest)) q.left
        ∙ calm_row L P b n front front_linked τ q.asked front_calm (numbered_at 65535 n pages' y ∷ numbers_at n pages rest)
        ∙ ap (λ (l : List (Numbered n)). (l, asks))
        (ap₂ (λ (l m : List (Numbered n)). l ++ numbered_at 65535 n pages' y ∷ m) (sym (fronts.numbereds 65535)) (sym (rests.numbereds 65535))
        ∙ sym (map-append (numbered_at 65535 n pages') front (y ∷ rest)) ∙ ap (numbers_at n pages') (sym parted))

    some_numbers : 1 ≤ length (numbers_at n pages' row)
    some_numbers = omega (arith, length-map row (numbered_at 65535 n pages'), h.sound.0.some)

    -- One level up.
    pub quiet_up : Quiet e P (suc n) b x (left_from w key position) τ ν b'
    unfolding numbered_at
    quiet_up = record {
      kept = entry_kept h s a b' q.kept;
      asked = asks;
      calm = past_calm τ front q.asked front_calm;
      left =
          ap (λ (o : Left (Numbered n)). (kept_under x.1 o.0, o.1)) swept
          ∙ ap (λ (l : List (Numbered (suc n))). (l, asks)) (kept_some x.1 (numbers_at n pages' row) some_numbers ∙ ap (λ (l : List Ref). (x.1, numbers_at n pages' l) ∷ []) (sym row_is));
    }

-- ---- the page of level 0

-- The depth that follows there is that of the next entry.
pub next_leaf : (pages : Pages) (ν : ℕ) (row : List Ref) → next_depth ν (leaf_row row) ≡ following_at 0 pages ν row
unfolding node_at
next_leaf pages ν [] = refl
next_leaf pages ν (y ∷ row) = refl

module _ {e P : ℕ} {b : List ℕ} {x : Ref} {w key position τ : ℕ} (h : RemovePre e P 1 b x w key position) (s : Spot) (a : Stopped w key position τ (pages_at (layout_of e) b x.1) s)
    (ν : ℕ) (b' : List ℕ) (struck : StruckNear e b x.1 s.at s.trail τ ν b') where
  abbrev d : NearDone e b x.1 s.at τ struck.of_entry b'
  d = struck.done

  abbrev leaf_pages : Pages
  leaf_pages = pages_at (layout_of e) b

  abbrev old : List Ref
  old = leaf_pages x.1

  abbrev new : List Ref
  new = d.row

  within : Within (layout_of e) b x.1
  within = descend_within (remove_descend h)

  -- No page is met below the entries of level 0.
  leaf_kept : Kept (layout_of e) P 0 b (met_all 0 leaf_pages old) b new
  leaf_kept = record {
    long = refl;
    front = refl;
    pages = λ q. omega (arith, none_met leaf_pages old q, none_met leaf_pages new q);
    same = λ q z. refl;
    cleared = λ q c. c;
    linked = d.fitting;
  }

  stored_is : b' ≡ settled e 0 b x.1 new
  stored_is = d.bytes ∙ ap (store (layout_of e) b x.1) (sym (page_some e 0 new d.some))

  -- The parent's entry stays.
  entry_is : entry_for x.1 new ≡ x ∷ []
  entry_is = entry_some x.1 x.0 new d.some (h.back.linked.1 ∙ sym d.last)

  leaf_swept : strike_in (numbered_depth 0) (numbered_leaves 0) (step_numbered 0) (delete_numbered 0) ν (left_from w key position) τ (numbers_at 0 leaf_pages old) ≡ (numbers_at 0 leaf_pages new, d.asked)
  unfolding numbered_at
  leaf_swept =
      found_strike h s a ν (next_depth ν (leaf_row (drop (suc s.at) old))) (next_leaf leaf_pages ν (drop (suc s.at) old))
      ∙ ap (λ (o : Left Entry). sweep step_entry o.1 (leaf_row (take s.at old)) (o.0 ++ leaf_row (drop (suc s.at) old))) struck.struck ∙ d.left

  kept_page : Kept (layout_of e) P 1 b (met 1 leaf_pages x) b' (x ∷ [])
  kept_page = rw (stored_is, ← entry_is) (settled_kept e P 0 b x h.back.linked.0.number h.back.own b new leaf_kept within d.few d.fitting)

  numbers_are : kept_under x.1 (numbers_at 0 leaf_pages new) ≡ numbered_at 65535 1 (pages_at (layout_of e) b') x ∷ []
  numbers_are =
      sym
      (ap (λ (t : List ℕ). numbers_at 1 (pages_at (layout_of e) t) (x ∷ [])) stored_is ∙ ap (numbers_at 1 (pages_at (layout_of e) (settled e 0 b x.1 new))) (sym entry_is)
      ∙ settled_numbers e P 0 b x h.back.linked.0.number h.back.own b new leaf_kept within d.few d.fitting)

  whole_left : delete_numbered 1 ν (left_from w key position) τ (numbered_at 65535 1 leaf_pages x) ≡ (kept_under x.1 (numbers_at 0 leaf_pages new), d.asked)
  unfolding numbered_at
  whole_left = ap (λ (o : Left (Numbered 0)). (kept_under x.1 o.0, o.1)) leaf_swept

  -- Its parent's entry stays.
  pub quiet_leaf : Quiet e P 1 b x (left_from w key position) τ ν b'
  quiet_leaf = record {
    kept = kept_page;
    asked = d.asked;
    calm = d.calm;
    left = whole_left ∙ ap (λ (l : List (Numbered 1)). (l, d.asked)) numbers_are;
  }

-- ---- the way

-- The page found is one of level 0, and the place stands in it.
pub record LeafPage (e P : ℕ) (b : List ℕ) (leaf : Leaf) : Type 0 where
  pub sized : SizedPage (layout_of e) P 0 b leaf.page.0
  pub inside : leaf.at < length (pages_at (layout_of e) b leaf.page.0)

pub way_page : (n : ℕ) {e P : ℕ} {b : List ℕ} {x : Ref} {w key position : ℕ} (τ : ℕ) (few : Bool) (leaf : Leaf) → RemovePre e P (suc n) b x w key position
    → Way w key e (pages_at (layout_of e) b) n x.1 position τ few leaf → LeafPage e P b leaf
way_page zero τ few leaf h a = record { sized = rw a.page_is h.sound.0; inside = rw a.page_is a.place.inside }
way_page (suc n) {e} {b = b} {x = x} τ few leaf h a = way_page n a.0.trail (sparse_at e (pages_at (layout_of e) b) x.1) leaf (found_down h a.0 a.1) a.2

-- Every entry on the way stays.
pub way_quiet : (n : ℕ) {e P : ℕ} {b : List ℕ} {x : Ref} {w key position : ℕ} (τ ν : ℕ) (few : Bool) (leaf : Leaf) → RemovePre e P (suc n) b x w key position
    → Way w key e (pages_at (layout_of e) b) n x.1 position τ few leaf → (b' : List ℕ)
    → ((μ : ℕ) → StruckNear e b leaf.page.0 leaf.at leaf.trail leaf.before μ b') → Quiet e P (suc n) b x (left_from w key position) τ ν b'
way_quiet zero τ ν few leaf h a b' d =
    quiet_leaf h (record { at = leaf.at; position = a.next; trail = leaf.trail }) a.place ν b' (rw (a.page_is, a.before_is) at (d ν))
way_quiet (suc n) {e} {P} {b} {x} τ ν few leaf h a b' d =
    quiet_up h a.0 a.1 ν b'
    (way_quiet n a.0.trail (following_at (suc n) (pages_at (layout_of e) b) ν (drop (suc a.0.at) (pages_at (layout_of e) b x.1))) (sparse_at e (pages_at (layout_of e) b) x.1) leaf (found_down h a.0 a.1) a.2 b' d)

-- A page above level 0 has the same entries.
pub way_row : {n e P : ℕ} {b : List ℕ} {x : Ref} {w key position : ℕ} (τ : ℕ) (few : Bool) (leaf : Leaf) → RemovePre e P (suc (suc n)) b x w key position
    → Way w key e (pages_at (layout_of e) b) (suc n) x.1 position τ few leaf → (b' : List ℕ)
    → ((μ : ℕ) → StruckNear e b leaf.page.0 leaf.at leaf.trail leaf.before μ b') → pages_at (layout_of e) b' x.1 ≡ pages_at (layout_of e) b x.1
way_row {n} {e} {P} {b} {x} τ few leaf h a b' d =
    row_same h a.0 a.1 b'
    (way_quiet n a.0.trail (following_at (suc n) (pages_at (layout_of e) b) 0 (drop (suc a.0.at) (pages_at (layout_of e) b x.1))) (sparse_at e (pages_at (layout_of e) b) x.1) leaf (found_down h a.0 a.1) a.2 b' d).kept

-- What is known of the lowest level to merge from: the page found and, for the third, the page above it have a quarter of e entries or more.
pub record LowestKnown (e : ℕ) (b' : List ℕ) (leaf : Leaf) (lowest : ℕ) : Type 0 where
  pub some : 1 ≤ lowest
  pub high : lowest ≤ 3
  pub own : 2 ≤ lowest → sparse_at e (pages_at (layout_of e) b') leaf.page.0 ≡ false
  pub above : 3 ≤ lowest → leaf.thin ≡ false

pub lowest_known : (e : ℕ) (b' : List ℕ) (leaf : Leaf) → LowestKnown e b' leaf (lowest_level e (pages_at (layout_of e) b') leaf)
lowest_known e b' leaf = go (sparse_at e (pages_at (layout_of e) b') leaf.page.0) leaf.thin refl refl
  where
    go : (t u : Bool) → sparse_at e (pages_at (layout_of e) b') leaf.page.0 ≡ t → leaf.thin ≡ u → LowestKnown e b' leaf (cond t 1 (cond u 2 3))
    go true u y z = record { some = omega arith; high = omega arith; own = λ l. absurd (omega arith); above = λ l. absurd (omega arith) }
    go false true y z = record { some = omega arith; high = omega arith; own = λ l. y; above = λ l. absurd (omega arith) }
    go false false y z = record { some = omega arith; high = omega arith; own = λ l. y; above = λ l. z }

-- A test that holds only from a level on.
only_from : (k lowest : ℕ) (t : Bool) → (k < lowest → t ≡ false) → (ltb k lowest && t) ≡ false
only_from k lowest t f = go (ltb k lowest) refl
  where
    go : (u : Bool) → ltb k lowest ≡ u → (u && t) ≡ false
    go true z = f (ltb-true k lowest z)
    go false z = refl

-- No page on the way is missed.
pub way_none : (n : ℕ) {e P : ℕ} {b : List ℕ} {x : Ref} {w key position : ℕ} (τ : ℕ) (few : Bool) (leaf : Leaf) (lowest : ℕ) → RemovePre e P (suc n) b x w key position
    → Way w key e (pages_at (layout_of e) b) n x.1 position τ few leaf → (b' : List ℕ)
    → ((μ : ℕ) → StruckNear e b leaf.page.0 leaf.at leaf.trail leaf.before μ b') → RemovePre e P (suc n) b' x w key position → LowestKnown e b' leaf lowest
    → none_missed e lowest n (left_from w key position) (numbered_at 65535 (suc n) (pages_at (layout_of e) b') x) ≡ true
way_none zero τ few leaf lowest h a b' d h' k = refl
way_none (suc n) {e} {P} {b} {x} {w} {key} {position} τ few leaf lowest h a b' d h' k =
    let s = a.0 in
    let pages = pages_at (layout_of e) b in
    let pages' = pages_at (layout_of e) b' in
    let same : pages' x.1 ≡ pages x.1 = way_row τ few leaf h a b' d in
    let a' : Stopped w key position τ (pages' x.1) s = subst (λ (l : List Ref). Stopped w key position τ l s) (sym same) a.1 in
    let y : Ref = get_or (pages x.1) s.at (0, 0) in
    let down = found_down h s a.1 in
    let below = way_none n s.trail (sparse_at e pages x.1) leaf lowest down a.2 b' d
    (subst (λ (l : List Ref). RemovePre e P (suc n) b' (get_or l s.at (0, 0)) w key s.position) same (found_down h' s a')) k in
    missed_at lowest h' s a'
    ∙ ap (λ (l : List Ref). told pages' s.position (get_or l s.at (0, 0))) same
    ∙ ap (λ (t : Bool). cond t false (none_missed e lowest n (left_from w key s.position) (numbered_at 65535 (suc n) pages' y)))
    (only_from (suc n) lowest (sparse e (length (numbered_at 65535 (suc n) pages' y).1))
    (λ l. ap (sparse e) (number_size e P b' n y) ∙ calm n s.trail (sparse_at e pages x.1) l down a.2))
    ∙ below
  where
    told : Pages → ℕ → Ref → Bool
    told f q z = cond (missed e lowest n (numbered_at 65535 (suc n) f z)) false (none_missed e lowest n (left_from w key q) (numbered_at 65535 (suc n) f z))

    -- The page found, the one above it, or a page that is not asked for.
    calm : (m σ : ℕ) (t : Bool) {y : Ref} {q : ℕ} → suc m < lowest → RemovePre e P (suc m) b y w key q → Way w key e (pages_at (layout_of e) b) m y.1 q σ t leaf
        → sparse_at e (pages_at (layout_of e) b') y.1 ≡ false
    calm zero σ t l g r = ap (sparse_at e (pages_at (layout_of e) b')) (sym r.page_is) ∙ k.own (omega (arith, l))
    calm (suc zero) σ t l g r =
        ap (λ (row : List Ref). sparse e (length row)) (way_row σ t leaf g r b' d) ∙ sym r.2.thin_is ∙ k.above (omega (arith, l))
    calm (suc (suc m)) σ t l g r = absurd (omega (arith, l, k.high))
