-- A page's row with others in the place of an entry: its last depth, and the plan of its parts. Assumes nothing.
use mathlib.Core.Path.{◌≡◌, refl, sym, ap, subst, ◌∙◌}
use mathlib.Core.List.{List, [], ◌∷◌, ◌++◌, map}
use Prim.Native.Nat.{ℕ, zero, suc, ◌+◌, ◌-◌, ◌≤◌, ◌<◌}
use native.Mathlib.Omega.{arith}
use lib.ListN.{length, get_or, take, drop, length-append, length-take, length-drop}
use lib.Seq.{split_at}
use Rattle.page_tree.specs.Row.{Pair, depth_of, row_of, Holds}
use Rattle.page_tree.specs.Rows.{Closed, last_depth, LastBelow}
use Rattle.page_tree.specs.Cutting.{parts}
use Rattle.page_tree.specs.declared.Row.{Row}
use Rattle.page_tree.proofs.ClosedRows.{last_depth_append, closed_last, closed_below, closed_splice}
use Rattle.page_tree.proofs.CuttingLaws.{cut_fits}
use Rattle.page_tree.proofs.RowLaws.{Full, length_row}
use Rattle.index_table.specs.Layout.{Ref, layout_of, page_bytes, count_of, ref_at}
use Rattle.index_table.specs.Pages.{pages_at}
use Rattle.index_table.proofs.PageRows.{length_refs}
use Rattle.index_write.specs.Storing.{spliced_at, Spliceable}
use Rattle.table_search.proofs.Stops.{read_entry}
use Rattle.table_plan.specs.Plans.{LastDepths, PartsPre, PartsPost}

-- The last depth of a row that is not empty, whatever stands before it.
last_any : (σ τ : ℕ) (xs : List Pair) → 1 ≤ length xs → last_depth depth_of σ xs ≡ last_depth depth_of τ xs
last_any σ τ [] h = absurd (omega arith)
last_any σ τ (x ∷ xs) h = refl

-- It is the depth of the last entry.
pub last_at : (τ : ℕ) (xs : List Pair) (i : ℕ) → suc i ≡ length xs → last_depth depth_of τ xs ≡ (get_or xs i (0, 0)).0
last_at τ [] i h = absurd (omega arith)
last_at τ (x ∷ []) zero h = refl
last_at τ (x ∷ []) (suc i) h = absurd (omega arith)
last_at τ (x ∷ y ∷ xs) zero h = absurd (omega arith)
last_at τ (x ∷ y ∷ xs) (suc i) h = last_at x.0 (y ∷ xs) i (omega arith)

module _ (at : ℕ) (ys xs : List Pair) (l : at < length xs) where
  -- How long the row is.
  pub length_spliced : length (spliced_at at ys xs) ≡ at + length ys + (length xs - suc at)
  length_spliced =
      length-append (take at xs ++ ys) (drop (suc at) xs)
      ∙ omega (arith, length-append (take at xs) ys, length-take at xs, length-drop (suc at) xs)

  -- A row that ends in the depth of the entry whose place it takes leaves the last depth as it was.
  pub last_spliced : (τ : ℕ) → 1 ≤ length ys → last_depth depth_of 0 ys ≡ (get_or xs at (0, 0)).0 → last_depth depth_of τ (spliced_at at ys xs) ≡ last_depth depth_of τ xs
  last_spliced τ some e =
      last_depth_append depth_of τ (take at xs ++ ys) (drop (suc at) xs)
      ∙ ap (λ (d : ℕ). last_depth depth_of d (drop (suc at) xs))
      (last_depth_append depth_of τ (take at xs) ys ∙ last_any (last_depth depth_of τ (take at xs)) 0 ys some ∙ e)
      ∙ sym (ap (last_depth depth_of τ) (split_at xs at (0, 0) l) ∙ last_depth_append depth_of τ (take at xs) (get_or xs at (0, 0) ∷ drop (suc at) xs))

module _ {b : List ℕ} {e page at below : ℕ} {row : Row} (full : Full row.depths row.pointers) (pre : PartsPre b e page at row below) where
  abbrev refs : List Ref
  refs = pages_at (layout_of e) b page

  abbrev spliced : List Ref
  spliced = spliced_at at (row_of row) refs

  counted : length (row_of row) ≡ row.count
  counted = length_row row full (omega (arith, pre.room))

  -- The count that is read is that of the page's entries.
  module _ {n k : ℕ} (wide : n ≡ k) (read : k ≡ count_of (page_bytes (layout_of e) b page)) where
    pub entries_read : n ≡ length (pages_at (layout_of e) b page)
    entries_read = wide ∙ read ∙ sym (length_refs (layout_of e) (page_bytes (layout_of e) b page))

    -- So there is one.
    pub entry_some : 1 ≤ n
    entry_some = omega (arith, entries_read, pre.inside)

    pub entry_few : n ≤ e
    entry_few = omega (arith, entries_read, pre.few)

    -- All stand in one page, which keeps its last depth.
    pub one_part : n + row.count ≤ e + 1 → (new r : Row) → Holds new 0 [] → (d : ℕ) → d ≡ (ref_at (layout_of e) (page_bytes (layout_of e) b page) (n - 1)).0
        → Holds r (new.count + 1) (row_of new ++ (d, 0) ∷ []) → PartsPost e spliced below (record { row = r; fresh = below })
    one_part short new r none d is made =
        let one : parts depth_of e spliced ≡ spliced ∷ [] =
        cut_fits depth_of e (length spliced) spliced (omega (arith, length_spliced at (row_of row) refs pre.inside, counted, entries_read, pre.inside)) in
        let end : suc (n - 1) ≡ length refs = omega (arith, entries_read, pre.inside) in
        let last : d ≡ last_depth depth_of 0 spliced =
        is ∙ ap (λ (x : Ref). x.0) (read_entry (layout_of e) b page (n - 1) (omega arith)) ∙ sym (last_at 0 refs (n - 1) end)
        ∙ sym (last_spliced at (row_of row) refs pre.inside 0 (omega (arith, counted, pre.some)) (closed_last depth_of (get_or refs at (0, 0)).0 0 (row_of row) pre.closed)) in
        record {
          count = made.count ∙ omega (arith, none.count, ap length one);
          depths = ap (map depth_of) (made.entries ∙ ap (λ (xs : List Pair). xs ++ (d, 0) ∷ []) none.entries) ∙ ap (λ (m : ℕ). m ∷ []) last
              ∙ sym (ap (map (last_depth depth_of 0)) one);
          fresh = omega (arith, ap length one);
        }

  -- The row closes as the page does.
  closed_row : Closed depth_of (last_depth depth_of 0 refs) spliced
  closed_row =
      closed_splice depth_of (last_depth depth_of 0 refs) (take at refs) (get_or refs at (0, 0)) (row_of row) (drop (suc at) refs)
      (subst (Closed depth_of (last_depth depth_of 0 refs)) (split_at refs at (0, 0) pre.inside) pre.page_closed) pre.closed

  -- It can be made,
  pub can_splice : Spliceable e b page at row
  can_splice = record { within = pre.within; few = pre.few; inside = pre.inside; room = pre.room }

  module _ (made : Row) (holds : Holds made (at + row.count + (length refs - suc at)) spliced) where
    -- and cut.
    pub can_cut : (2 ≤ e) × (1 ≤ made.count) × (made.count ≤ e + 64) × LastBelow depth_of (row_of made)
    can_cut = (
      pre.two,
      omega (arith, holds.count, pre.some),
      omega (arith, holds.count, pre.room, pre.inside, pre.few),
      rw holds.entries (closed_below depth_of (last_depth depth_of 0 refs) spliced closed_row),
    )

    -- One page more for each part but the first.
    pub some_parts : (r : Row) → LastDepths e made r → PartsPost e spliced below (record { row = r; fresh = below + (r.count - 1) })
    some_parts r last =
        let same : row_of made ≡ spliced = holds.entries in
        let count : r.count ≡ length (parts depth_of e spliced) = last.count ∙ ap (λ (xs : List Ref). length (parts depth_of e xs)) same in
        record {
          count = count;
          depths = last.depths ∙ ap (λ (xs : List Ref). map (last_depth depth_of 0) (parts depth_of e xs)) same;
          fresh = ap (λ (m : ℕ). below + (m - 1)) count;
        }
