-- The page that an entry points at: what is read of the entries in it. Assumes nothing.
use mathlib.Core.Path.{◌≡◌, ap, ◌∙◌}
use mathlib.Core.Bool.{Bool}
use mathlib.Core.List.{List}
use Prim.Native.Nat.{ℕ, suc, ◌<◌}
use native.Mathlib.Omega.{arith}
use lib.ListN.{length}
use Rattle.leaf_list.proofs.Lists.{all_at}
use Rattle.index_table.specs.Layout.{layout_of, Ref, Within, page_bytes, count_of, ref_at}
use Rattle.index_table.specs.Pages.{pages_at}
use Rattle.index_table.proofs.PageBytes.{within_table}
use Rattle.index_write.proofs.LoadedRows.{entries_counted}
use Rattle.table_search.specs.Places.{sparse_at}
use Rattle.table_search.proofs.Stops.{read_entry}
use Rattle.tree_delete.specs.Keeping.{Linked}
use Rattle.tree_delete.specs.Unwinding.{BackPre}
use Rattle.tree_merge.specs.Merges.{joinable_at, entry_at}

-- This is the row of the page that x points at,
abbrev pub row_below : ℕ → List ℕ → Ref → List Ref
row_below e b x = pages_at (layout_of e) b x.1

-- this is its entry k,
abbrev pub entry_below : ℕ → List ℕ → Ref → ℕ → Ref
entry_below e b x k = entry_at (pages_at (layout_of e) b) x.1 k

-- and this is what is read of that entry.
abbrev pub read_below : ℕ → List ℕ → Ref → ℕ → Ref
read_below e b x k = ref_at (layout_of e) (page_bytes (layout_of e) b x.1) k

-- This says whether the page of entry k has fewer than a quarter of e entries,
abbrev pub sparse_below : ℕ → List ℕ → Ref → ℕ → Bool
sparse_below e b x k = sparse_at e (pages_at (layout_of e) b) (entry_below e b x k).1

-- and this whether the pages of entries k and k + 1 may be one.
abbrev pub joinable_below : ℕ → List ℕ → Ref → ℕ → Bool
joinable_below e b x k = joinable_at e (pages_at (layout_of e) b) (entry_below e b x k) (entry_below e b x (suc k))

-- The count that is read of a page is the number of its entries, by whatever number the page is known.
pub count_read : (e : ℕ) (b : List ℕ) {k c p q : ℕ} → k ≡ c → c ≡ count_of (page_bytes (layout_of e) b p) → p ≡ q → k ≡ length (pages_at (layout_of e) b q)
count_read e b {p = p} h g z = entries_counted e b p h g ∙ ap (λ (r : ℕ). length (pages_at (layout_of e) b r)) z

module _ {e P n : ℕ} {b : List ℕ} {x : Ref} (back : BackPre e P (suc (suc n)) b x) where
  -- The page lies within the table.
  pub page_within : Within (layout_of e) b x.1
  page_within = within_table (layout_of e) P x.1 b (omega (arith, back.paged.table)) back.linked.0.number

  module _ (k : ℕ) (inside : k < length (row_below e b x)) where
    -- An entry of it is linked;
    pub entry_linked : Linked (layout_of e) P (suc n) b (entry_below e b x k)
    entry_linked = all_at (Linked (layout_of e) P (suc n) b) (row_below e b x) k (0, 0) inside back.linked.2

    -- its place is one of the e that a page has;
    pub entry_few : k < e
    entry_few = omega (arith, inside, back.linked.0.few)

    -- the pointer that is read is its pointer,
    pub pointer_read : {p : ℕ} → p ≡ (read_below e b x k).1 → p ≡ (entry_below e b x k).1
    pointer_read h = h ∙ ap (λ (r : Ref). r.1) (read_entry (layout_of e) b x.1 k inside)

    -- and the depth its depth;
    pub depth_read : {d : ℕ} → d ≡ (read_below e b x k).0 → d ≡ (entry_below e b x k).0
    depth_read h = h ∙ ap (λ (r : Ref). r.0) (read_entry (layout_of e) b x.1 k inside)

    -- and its own page lies within the table.
    pub child_within : {p : ℕ} → p ≡ (entry_below e b x k).1 → Within (layout_of e) b p
    child_within {p} h = within_table (layout_of e) P p b (omega (arith, back.paged.table)) (omega (arith, h, entry_linked.0.number))
