-- An insertion below a page: on level 0 the new entries stand for the entry found, above it what stands for the child. Assumes nothing.
use mathlib.Core.Path.{◌≡◌, refl, sym, ap, subst, ◌∙◌}
use mathlib.Core.List.{List, [], ◌∷◌, ◌++◌, map}
use Prim.Native.Nat.{ℕ, zero, suc, ◌+◌, ◌-◌, ◌≤◌, ◌<◌}
use native.Mathlib.Omega.{arith}
use lib.ListN.{length, get_or}
use Rattle.leaf_list.specs.Entries.{depth_of as entry_depth}
use Rattle.leaf_list.proofs.Lists.{all_at}
use Rattle.page_tree.specs.Rows.{Closed, last_depth}
use Rattle.page_tree.specs.Finding.{Found}
use Rattle.page_tree.specs.Cutting.{parts}
use Rattle.page_tree.specs.OnPages.{Replacement, replace_in}
use Rattle.page_tree.specs.Numbered.{Numbered, numbered_depth, under, insert_numbered}
use Rattle.page_tree.specs.Row.{depth_of, row_of, Holds}
use Rattle.page_tree.specs.declared.Row.{Row}
use Rattle.page_tree.proofs.ClosedRows.{closed_last}
use Rattle.page_tree.proofs.CuttingLaws.{cut_few}
use Rattle.page_tree.proofs.ListLaws.{all_unit}
use Rattle.index_table.specs.Layout.{layout_of, Ref, page_bytes, count_of, ref_at, Fitting}
use Rattle.index_table.specs.Pages.{Pages, pages_at, node_at, numbered_at, met, met_all}
use Rattle.index_table.specs.Soundness.{SoundBelow}
use Rattle.index_table.proofs.PageRows.{length_refs}
use Rattle.index_write.specs.Storing.{new_leaves, spliced_at, Spliceable}
use Rattle.table_search.specs.declared.Spot.{Spot}
use Rattle.table_search.specs.Places.{left_from, Stopped, DescendPre}
use Rattle.table_search.proofs.Stops.{read_entry}
use Rattle.table_search.proofs.Descents.{descend_step, descend_down}
use Rattle.table_insert.specs.Placing.{PlacePre, PlacePost}
use Rattle.table_insert.specs.Inserting.{page_ref, Replaced, AlonePre, InsertPre}
use Rattle.table_insert.proofs.InsertSteps.{found_owned, found_pages, splice_pre, place_pre, replaced_kept, replaced_spliced}

-- The number that is read first of an entry above rank 0 is its pointer.
number_of : (n : ℕ) (pages : Pages) (x : Ref) → (numbered_at 65535 (suc n) pages x).0 ≡ x.1
unfolding numbered_at
number_of n pages x = refl

-- The last depth of a row, read at its last place.
pub last_at : (τ : ℕ) (row : List Ref) (i : ℕ) → suc i ≡ length row → (get_or row i (0, 0)).0 ≡ last_depth depth_of τ row
last_at τ [] i h = absurd (omega arith)
last_at τ (x ∷ []) zero h = refl
last_at τ (x ∷ []) (suc i) h = absurd (omega arith)
last_at τ (x ∷ y ∷ row) zero h = absurd (omega arith)
last_at τ (x ∷ y ∷ row) (suc i) h = last_at x.0 (y ∷ row) i (omega arith)

-- The page as an only entry, read byte by byte.
module _ {e : ℕ} {b : List ℕ} {page : ℕ} (pre : AlonePre e b page) (c n : ℕ) (count : c ≡ count_of (page_bytes (layout_of e) b page)) (wide : n ≡ c) where
  counted : n ≡ length (pages_at (layout_of e) b page)
  counted = wide ∙ count ∙ sym (length_refs (layout_of e) (page_bytes (layout_of e) b page))

  -- There is a last entry.
  pub alone_some : 1 ≤ n
  alone_some = omega (arith, counted, pre.some)

  -- It is inside the page.
  pub alone_inside : n - 1 < e
  alone_inside = omega (arith, counted, pre.some, pre.few)

  -- Its depth and the page make the entry.
  pub alone_holds : (d p : ℕ) → d ≡ (ref_at (layout_of e) (page_bytes (layout_of e) b page) (n - 1)).0 → p ≡ page → {new r : Row} → Holds new 0 [] → Holds r (new.count + 1) (row_of new ++ (d, p) ∷ [])
      → Holds r 1 (page_ref e b page ∷ [])
  alone_holds d p hd hp {new} {r} z g =
      let last : d ≡ last_depth depth_of 0 (pages_at (layout_of e) b page) =
      hd
      ∙ ap (λ (x : Ref). x.0) (read_entry (layout_of e) b page (n - 1) (omega (arith, counted, pre.some)))
      ∙ last_at 0 (pages_at (layout_of e) b page) (n - 1) (omega (arith, counted, pre.some)) in
      record {
        count = omega (arith, g.count, z.count);
        entries = g.entries ∙ ap (λ (l : List Ref). l ++ (d, p) ∷ []) z.entries ∙ (λ i. (last i, hp i) ∷ []);
      }

-- Below entries of rank 0 no page is met.
met_none : (pages : Pages) (row : List Ref) (q : ℕ) → met_all 0 pages row q ≡ 0
unfolding met
met_none pages [] q = refl
met_none pages (x ∷ row) q = omega (arith, met_none pages row q)

-- On level 0 the new entries stand in the place of the entry found.
pub leaf_replaced : {b : List ℕ} {e P page w key position τ : ℕ} {news : Row} {s : Spot} (n : ℕ) → n ≡ 0 → InsertPre b e P n page w key position τ news
    → Stopped w key position τ (pages_at (layout_of e) b page) s
    → Replaced e P (new_leaves news) n (left_from w key s.position) s.trail b (get_or (pages_at (layout_of e) b page) s.at (0, 0)) b news
unfolding node_at numbered_at met
leaf_replaced (suc n) z pre stop = absurd (omega arith)
leaf_replaced {b} {e} {P} {page} {w} {key} {position} {τ} {news} {s} zero z pre stop =
    record {
      stands =
          record {
            long = refl;
            front = refl;
            pages = λ q. omega (arith, met_none (pages_at (layout_of e) b) (row_of news) q);
            same = λ q z u. refl;
            cleared = λ q c. c;
            sound = all_unit (row_of news);
          };
      closed = subst (λ (f : Found). Closed depth_of (entry_depth f.2) (row_of news)) (descend_step pre.descend s stop) pre.closed;
      fitting = pre.fitting;
      long = pre.long;
      few = pre.few;
      more = λ q. omega arith;
      total = omega arith;
      fresh = λ k. [];
      free = λ k. tt;
      numbers = refl;
    }

-- Above it the child is a page to insert below,
child_pre : {b : List ℕ} {e P page w key position τ : ℕ} {news : Row} {s : Spot} (n : ℕ) (pre : InsertPre b e P (suc n) page w key position τ news) → Fitting 2 (pages_at (layout_of e) b page)
    → (stop : Stopped w key position τ (pages_at (layout_of e) b page) s) → DescendPre b e P n (get_or (pages_at (layout_of e) b page) s.at (0, 0)).1 w key s.position
    → InsertPre b e P n (get_or (pages_at (layout_of e) b page) s.at (0, 0)).1 w key s.position s.trail news
unfolding node_at met
child_pre {b} {e} {P} {page} {w} {key} {position} {τ} {news} {s} n pre fits stop down =
    record {
      entries_low = pre.entries_low;
      descend = down;
      own = found_owned (new_leaves news) pre.entries_low pre.descend pre.own fits pre.enough stop;
      long = pre.long;
      few = pre.few;
      fitting = pre.fitting;
      closed = subst (λ (f : Found). Closed depth_of (entry_depth f.2) (row_of news)) (descend_step pre.descend s stop) pre.closed;
      enough = omega (arith, pre.enough, found_pages (new_leaves news) pre.entries_low pre.descend pre.own fits pre.enough stop);
    }

module _ {b : List ℕ} {e P page w key position τ : ℕ} {news : Row} {s : Spot} (level : ℕ) (above : level ≡ 0 → ⊥) (pre : InsertPre b e P level page w key position τ news) (fits : Fitting 2 (pages_at (layout_of e) b page))
    (stop : Stopped w key position τ (pages_at (layout_of e) b page) s) (below : ℕ) (is : below ≡ (ref_at (layout_of e) (page_bytes (layout_of e) b page) s.at).1) where
  abbrev y : Ref
  y = get_or (pages_at (layout_of e) b page) s.at (0, 0)

  pointed : below ≡ y.1
  pointed = is ∙ ap (λ (z : Ref). z.1) (read_entry (layout_of e) b page s.at stop.inside)

  -- what is asked of it follows from what is asked of the page,
  pub child_insert : InsertPre b e P (level - 1) below w key s.position s.trail news
  child_insert = go level above pre (descend_down level above pre.descend s stop below is)
    where
      go : (l : ℕ) → (l ≡ 0 → ⊥) → InsertPre b e P l page w key position τ news → DescendPre b e P (l - 1) below w key s.position → InsertPre b e P (l - 1) below w key s.position s.trail news
      go zero z p d = absurd (z refl)
      go (suc n) z p d =
          let m : suc n - 1 ≡ n = omega arith in
          rw (m, pointed) (child_pre n p fits stop (rw (m, pointed) at d))

  -- and what stands in its place stands in the place of the entry found.
  pub child_replaced : {b₁ : List ℕ} {r : Row} → Replaced e P (new_leaves news) (suc (level - 1)) (left_from w key s.position) s.trail b (page_ref e b below) b₁ r
      → Replaced e P (new_leaves news) level (left_from w key s.position) s.trail b y b₁ r
  child_replaced {b₁} {r} h = go level above pre h
    where
      go : (l : ℕ) → (l ≡ 0 → ⊥) → InsertPre b e P l page w key position τ news → Replaced e P (new_leaves news) (suc (l - 1)) (left_from w key s.position) s.trail b (page_ref e b below) b₁ r
          → Replaced e P (new_leaves news) l (left_from w key s.position) s.trail b y b₁ r
      go zero z p g = absurd (z refl)
      go (suc n) z p g =
          let m : suc n - 1 ≡ n = omega arith in
          let sound : SoundBelow (layout_of e) P (suc n) b y = all_at (SoundBelow (layout_of e) P (suc n) b) (pages_at (layout_of e) b page) s.at (0, 0) stop.inside p.descend.sound.2 in
          let same : ◌≡◌ {A = Ref} (page_ref e b below) y =
          ap (λ (k : ℕ). page_ref e b k) pointed ∙ ap (λ (d : ℕ). (d, y.1)) (closed_last depth_of y.0 0 (pages_at (layout_of e) b y.1) sound.1) in
          subst (λ (x : Ref). Replaced e P (new_leaves news) (suc n) (left_from w key s.position) s.trail b x b₁ r) same (rw m at g)

-- The number of the first page.
abbrev first_number : (n : ℕ) → List (Numbered (suc n)) → ℕ
first_number n [] = 0
first_number n (x ∷ xs) = x.0

first_under : (n : ℕ) (p : ℕ) (ps : List ℕ) (xs : List (List (Numbered n))) → 1 ≤ length xs → first_number n (under (p ∷ ps) xs) ≡ p
first_under n p ps [] h = absurd (omega arith)
first_under n p ps (x ∷ xs) h = refl

-- One entry in the place of an entry above level 0 is that entry: its page keeps its number, and closes as it did.
pub single_same : {e P : ℕ} {new : Replacement} (n : ℕ) {bs : List ℕ} {τ : ℕ} {b : List ℕ} {x : Ref} {b₁ : List ℕ} {r : Row} → (n ≡ 0 → ⊥) → 1 ≤ e → Replaced e P new n bs τ b x b₁ r → r.count ≡ 1
    → row_of r ≡ x ∷ []
single_same zero z one h c = absurd (z refl)
single_same {e} {P} {new} (suc n) {bs} {τ} {b} {x} {b₁} {r} z one h c = only (row_of r) (omega (arith, h.long)) h.closed h.numbers
  where
    row : List (Numbered n)
    row = replace_in (numbered_depth n) (insert_numbered e h.fresh new n) bs τ (numbered_at 65535 (suc n) (pages_at (layout_of e) b) x).1

    only : (l : List Ref) → length l ≡ 1 → Closed depth_of x.0 l → map (numbered_at 65535 (suc n) (pages_at (layout_of e) b₁)) l ≡ insert_numbered e h.fresh new (suc n) bs τ (numbered_at 65535 (suc n) (pages_at (layout_of e) b) x)
        → l ≡ x ∷ []
    only [] i k m = absurd (omega arith)
    only (y ∷ []) i k m =
        let p : y.1 ≡ x.1 =
        sym (number_of n (pages_at (layout_of e) b₁) y) ∙ ap (first_number n) m ∙ first_under n (numbered_at 65535 (suc n) (pages_at (layout_of e) b) x).0 (h.fresh n) (parts (numbered_depth n) e row) (cut_few (numbered_depth n) e one (length row) row).0
        ∙ number_of n (pages_at (layout_of e) b) x in
        λ i. (k i, p i) ∷ []
    only (y ∷ y' ∷ l) i k m = absurd (omega arith)

-- On every level: the row is spliced, placed, and stands in the place of the page.
module _ {b : List ℕ} {e P n page w key position τ : ℕ} {news : Row} {s : Spot} (pre : InsertPre b e P n page w key position τ news) (fits : Fitting 2 (pages_at (layout_of e) b page))
    (stop : Stopped w key position τ (pages_at (layout_of e) b page) s) {b₁ : List ℕ} {parts : Row}
    (h : Replaced e P (new_leaves news) n (left_from w key s.position) s.trail b (get_or (pages_at (layout_of e) b page) s.at (0, 0)) b₁ parts) where
  -- The row can be spliced.
  pub insert_splice : Spliceable e b₁ page s.at parts
  insert_splice = splice_pre (new_leaves news) pre.entries_low pre.descend pre.own fits pre.enough stop h

  -- One part above level 0: the page stays.
  module _ (above : n ≡ 0 → ⊥) (single : parts.count ≡ 1) where
    -- Its last depth can be read.
    pub alone_pre : AlonePre e b₁ page
    alone_pre = record { within = insert_splice.within; some = omega (arith, insert_splice.inside); few = insert_splice.few }

    -- It stands in its own place.
    pub alone_done : {r : Row} → Holds r 1 (page_ref e b₁ page ∷ []) → P < 65536 → Replaced e P (new_leaves news) (suc n) (left_from w key position) τ b (page_ref e b page) b₁ r
    alone_done {r} g low =
        subst (λ (d : ℕ). Replaced e P (new_leaves news) (suc n) (left_from w key position) τ b (d, page) b₁ r)
        (sym (closed_last depth_of pre.descend.closing 0 (pages_at (layout_of e) b page) pre.descend.sound.1))
        (replaced_kept (new_leaves news) pre.entries_low pre.descend pre.own fits pre.enough stop h (single_same n above (omega (arith, pre.entries_low)) h single) g low)

  module _ {row : Row} (g : Holds row (s.at + parts.count + (length (pages_at (layout_of e) b₁ page) - suc s.at)) (spliced_at s.at (row_of parts) (pages_at (layout_of e) b₁ page))) where
    -- The row can be placed.
    pub insert_place : PlacePre e P b₁ page row
    insert_place = place_pre (new_leaves news) pre.entries_low pre.descend pre.own fits pre.enough stop h g

    -- It stands in the place of the page.
    pub insert_done : {b₂ : List ℕ} {r : Row} → PlacePost e P n b₁ page row b₂ r → P < 65536 → length (row_of r) ≡ r.count
        → Replaced e P (new_leaves news) (suc n) (left_from w key position) τ b (page_ref e b page) b₂ r
    insert_done {b₂} {r} post low full =
        subst (λ (d : ℕ). Replaced e P (new_leaves news) (suc n) (left_from w key position) τ b (d, page) b₂ r)
        (sym (closed_last depth_of pre.descend.closing 0 (pages_at (layout_of e) b page) pre.descend.sound.1))
        (replaced_spliced (new_leaves news) pre.entries_low pre.descend pre.own fits pre.enough stop h g post low full)
