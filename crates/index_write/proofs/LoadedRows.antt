-- Rows that are loaded from pages. Assumes nothing.
use mathlib.Core.Path.{◌≡◌, refl, sym, ap, ap₂, ◌∙◌}
use mathlib.Core.List.{List, [], ◌∷◌, ◌++◌, zip, zip_with}
use Prim.Native.Nat.{ℕ, suc, ◌+◌, ◌-◌, ◌<◌}
use native.Mathlib.Omega.{arith}
use native.Mathlib.Numerals.{add-one}
use lib.ListN.{length, take, drop}
use lib.Seq.{slice, take-length}
use Rattle.page_tree.specs.Row.{Holds, row_of, part_of}
use Rattle.page_tree.specs.declared.Row.{Row}
use Rattle.index_table.specs.Layout.{layout_of, page_bytes, count_of, Ref}
use Rattle.index_table.specs.Pages.{pages_at}
use Rattle.index_table.proofs.PageRows.{length_refs}
use Rattle.index_write.specs.Storing.{spliced_at, row_with}

-- The count that is read is the number of entries.
pub entries_counted : (e : ℕ) (b : List ℕ) (p : ℕ) {n k : ℕ} → n ≡ k → k ≡ count_of (page_bytes (layout_of e) b p) → n ≡ length (pages_at (layout_of e) b p)
entries_counted e b p h g = h ∙ g ∙ sym (length_refs (layout_of e) (page_bytes (layout_of e) b p))

-- All entries of a page behind none.
pub whole_page : (new r : Row) (n : ℕ) (refs : List Ref) → Holds new 0 [] → n ≡ length refs → Holds r (new.count + (n - 0)) (row_of new ++ slice 0 n refs) → Holds r (length refs) refs
whole_page new r n refs z h g = record {
  count = g.count ∙ omega (arith, z.count, h);
  entries = g.entries ∙ ap₂ (λ (a b : List Ref). a ++ b) z.entries (ap (λ (k : ℕ). slice 0 k refs) h ∙ take-length refs);
}

-- The entries of a page before `at`, a row, and the entries behind `at`.
module _ (refs : List Ref) (at n : ℕ) (parts new first more r : Row) (inside : at < length refs) (counted : n ≡ length refs) (z : Holds new 0 [])
    (f : Holds first (new.count + (at - 0)) (row_of new ++ slice 0 at refs)) (m : Holds more (first.count + (parts.count - 0)) (row_of first ++ part_of parts 0 parts.count)) where
  pub spliced_count : more.count ≡ at + parts.count
  spliced_count = omega (arith, m.count, f.count, z.count)

  pub spliced_page : Holds r (more.count + (n - (at + 1))) (row_of more ++ slice (at + 1) n refs) → Holds r (at + parts.count + (length refs - suc at)) (spliced_at at (row_of parts) refs)
  spliced_page g = record {
    count = g.count ∙ omega (arith, spliced_count, counted);
    entries =
        g.entries
        ∙ ap₂ (λ (a b : List Ref). a ++ b)
        (m.entries ∙ ap (λ (a : List Ref). a ++ row_of parts) (f.entries ∙ ap (λ (a : List Ref). a ++ take at refs) z.entries))
        (rw (add-one at) (ap (λ (k : ℕ). slice (suc at) k refs) counted ∙ ap (drop (suc at)) (take-length refs)));
  }

-- A row of given entries has them.
pub row_with_lem : (l : List Ref) → row_of (row_with l) ≡ l
unfolding zip zip_with
row_with_lem [] = refl
row_with_lem (x ∷ l) = ap (λ (r : List Ref). x ∷ r) (row_with_lem l)
