-- The depth that follows on level 0: the leftmost way down from the next entry. Assumes nothing.
use mathlib.Core.Path.{◌≡◌, refl, sym, ap, ◌∙◌}
use mathlib.Core.List.{List, ◌∷◌, ◌++◌, append_assoc, map}
use Prim.Native.Nat.{ℕ, zero, suc, ◌-◌, ◌≤◌, ◌<◌}
use native.Mathlib.Omega.{arith}
use lib.ListN.{length, get_or, drop, drop_of_length-le}
use lib.Seq.{drop-cons}
use Rattle.leaf_list.proofs.Lists.{all_at}
use Rattle.page_tree.specs.Rows.{All, flats}
use Rattle.page_tree.specs.Tree.{leaves}
use Rattle.page_tree.specs.OffPages.{next_depth}
use Rattle.index_table.specs.Layout.{layout_of, Ref, Within, page_bytes, count_of, ref_at}
use Rattle.index_table.specs.Pages.{Pages, pages_at, node_at}
use Rattle.index_table.proofs.PageBytes.{within_table}
use Rattle.index_table.proofs.PageRows.{length_refs, drop_refs}
use Rattle.table_search.proofs.Stops.{read_entry}
use Rattle.tree_delete.specs.Keeping.{Linked}
use Rattle.tree_delete.specs.Removing.{FirstPre, FirstPost, following_at, AfterPre}

abbrev first : ℕ → List ℕ → ℕ → Ref
first e b p = ref_at (layout_of e) (page_bytes (layout_of e) b p) 0

-- A page in use has a first entry.
head_is : (e : ℕ) (b : List ℕ) (p : ℕ) → 1 ≤ length (pages_at (layout_of e) b p) → pages_at (layout_of e) b p ≡ first e b p ∷ drop 1 (pages_at (layout_of e) b p)
head_is e b p h = drop_refs (layout_of e) (page_bytes (layout_of e) b p) 0 (omega (arith, length_refs (layout_of e) (page_bytes (layout_of e) b p)))

-- At rank 0 it is the entry's own depth.
pub first_leaf : (n : ℕ) (pages : Pages) (x : Ref) → n ≡ 0 → FirstPost n pages x x.0
unfolding node_at
first_leaf zero pages x z = record { is = λ ν rest. refl }
first_leaf (suc n) pages x z = absurd (omega arith)

-- The pointer fits its two bytes.
pub first_fits : (n : ℕ) {e P : ℕ} {b : List ℕ} {x : Ref} → FirstPre e P n b x → x.1 < 65536
first_fits zero h = h.linked
first_fits (suc n) h = omega (arith, h.linked.0.number, h.paged.high)

-- The page below can be read.
pub first_read : (n : ℕ) {e P : ℕ} {b : List ℕ} {x : Ref} (p : ℕ) → p ≡ x.1 → (n ≡ 0 → ⊥) → FirstPre e P n b x → Within (layout_of e) b p × (0 < e)
first_read zero p s ne h = absurd (ne refl)
first_read (suc n) {e} {P} {b} {x} p s ne h =
    rw s (within_table (layout_of e) P x.1 b (omega (arith, h.paged.table)) h.linked.0.number, omega (arith, h.linked.0.some, h.linked.0.few))

-- One level down.
pub first_down : (n : ℕ) {e P : ℕ} {b : List ℕ} {x : Ref} (p y q : ℕ) → p ≡ x.1 → (n ≡ 0 → ⊥) → FirstPre e P n b x → y ≡ (first e b p).0 → q ≡ (first e b p).1 → FirstPre e P (n - 1) b (y, q)
first_down zero p y q s ne h a c = absurd (ne refl)
first_down (suc n) {e} {P} {b} {x} p y q s ne h a c =
    let m : suc n - 1 ≡ n = omega arith in
    let g : All (Linked (layout_of e) P n b) (first e b x.1 ∷ drop 1 (pages_at (layout_of e) b x.1)) = rw (head_is e b x.1 h.linked.0.some) at h.linked.2 in
    rw (m, a, c, s) (record { paged = h.paged; linked = g.0 })

-- The first depth below the first entry of the page is the one sought.
pub first_post : (n : ℕ) {e P : ℕ} {b : List ℕ} {x : Ref} (p y q r : ℕ) → p ≡ x.1 → (n ≡ 0 → ⊥) → FirstPre e P n b x → y ≡ (first e b p).0 → q ≡ (first e b p).1
    → FirstPost (n - 1) (pages_at (layout_of e) b) (y, q) r → FirstPost n (pages_at (layout_of e) b) x r
unfolding node_at
first_post zero p y q r s ne h a c z = absurd (ne refl)
first_post (suc n) {e} {P} {b} {x} p y q r s ne h a c z =
    let m : suc n - 1 ≡ n = omega arith in
    let z' : FirstPost n (pages_at (layout_of e) b) (first e b x.1) r = rw (m, a, c, s) at z in
    let node = node_at 65535 n (pages_at (layout_of e) b) in
    let others = flats (leaves n) (map node (drop 1 (pages_at (layout_of e) b x.1))) in
    record {
      is = λ ν rest.
          z'.is ν (others ++ rest)
          ∙ ap (next_depth ν) (sym (append_assoc (leaves n (node (first e b x.1))) others rest))
          ∙ ap (λ (row : List Ref). next_depth ν (flats (leaves n) (map node row) ++ rest)) (sym (head_is e b x.1 h.linked.0.some));
    }

-- ---- behind the first i entries of a page

module _ {e P n : ℕ} {b : List ℕ} {page : ℕ} (h : AfterPre e P n b page) where
  abbrev row : List Ref
  row = pages_at (layout_of e) b page

  -- The page can be read.
  pub after_within : Within (layout_of e) b page
  after_within = within_table (layout_of e) P page b (omega (arith, h.paged.table)) h.sized.number

  module _ (i : ℕ) {k m : ℕ} (counted : k ≡ count_of (page_bytes (layout_of e) b page)) (wide : m ≡ k) where
    module _ (l : i < m) where
      inside : i < length row
      inside = omega (arith, l, counted, wide, length_refs (layout_of e) (page_bytes (layout_of e) b page))

      -- So can the entry behind,
      pub after_read : Within (layout_of e) b page × (i < e)
      after_read = (after_within, omega (arith, inside, h.sized.few))

      module _ {d p : ℕ} (d_is : d ≡ (ref_at (layout_of e) (page_bytes (layout_of e) b page) i).0) (p_is : p ≡ (ref_at (layout_of e) (page_bytes (layout_of e) b page) i).1) where
        pub after_first : FirstPre e P n b (d, p)
        after_first =
            rw (d_is, p_is, read_entry (layout_of e) b page i inside)
            (record { paged = h.paged; linked = all_at (Linked (layout_of e) P n b) row i (0, 0) inside h.linked })

        -- below which the depth stands that follows;
        pub after_some : (ν r : ℕ) → FirstPost n (pages_at (layout_of e) b) (d, p) r → r ≡ following_at n (pages_at (layout_of e) b) ν (drop i row)
        after_some ν r z =
            let z' : FirstPost n (pages_at (layout_of e) b) (get_or row i (0, 0)) r = rw (d_is, p_is, read_entry (layout_of e) b page i inside) at z in
            z'.is ν (flats (leaves n) (map (node_at 65535 n (pages_at (layout_of e) b)) (drop (suc i) row))) ∙ ap (following_at n (pages_at (layout_of e) b) ν) (sym (drop-cons row i (0, 0) inside))

    -- or, where the page has ended, what follows it.
    pub after_none : (ν : ℕ) → m ≤ i → ν ≡ following_at n (pages_at (layout_of e) b) ν (drop i row)
    after_none ν l =
        ap (following_at n (pages_at (layout_of e) b) ν)
        (sym (drop_of_length-le row (let z : length row ≤ i = omega (arith, l, counted, wide, length_refs (layout_of e) (page_bytes (layout_of e) b page)) in z)))
