-- What the functions on rows leave. Assumes nothing.
use mathlib.Core.Path.{◌≡◌, refl, sym, ap, ap₂, ◌∙◌}
use mathlib.Core.List.{List, [], ◌∷◌, ◌++◌, zip, zip_with}
use Prim.Native.Nat.{ℕ, zero, suc, ◌+◌, ◌-◌, ◌≤◌}
use native.Mathlib.Omega.{arith}
use lib.ListN.{length, get_or, set, take, drop, length-set, length-take, length-drop}
use lib.Seq.{take-set-le, take-take}
use Rattle.std.proofs.lemmas.List.{drop-take}
use Rattle.std.proofs.lemmas.List.Edits.{take-paste}
use Rattle.std.specs.List.{copy_within}
use Rattle.std.specs.Prelude.{Option, Some}
use Rattle.page_tree.specs.declared.Entry.{Entry}
use Rattle.page_tree.specs.declared.Row.{Row}
use Rattle.page_tree.specs.Rows.{last_depth}
use Rattle.page_tree.specs.Row.{depth_of, row_of, part_of, Holds}
use Rattle.page_tree.proofs.RowLaws.{Full, length_row, stored_in}
use Rattle.page_tree.proofs.ListLaws.{drop_set}
use Rattle.index_table.specs.Layout.{layout_of, Ref, row_page, store}
use Rattle.tree_delete.specs.Rows.{around, PutPost, settled_page, entry_for, SettlePost}

-- ---- put

-- What is left of the entry stays.
pub put_one : (row : Row) (w : ℕ) {o : Option Entry} (x : Entry) → o ≡ Some x → 1 ≤ w → w ≤ row.count → row.count ≤ 319 → Full row.depths row.pointers
    → PutPost row w o (record { depths = set row.depths (w - 1) x.depth; pointers = set row.pointers (w - 1) x.pointer; count = row.count }) (w - 1)
put_one row w x z some few small full =
    let h = stored_in row.depths row.pointers row.count (w - 1) x.depth x.pointer (omega arith) in
    rw z (record {
      count = refl;
      full = ap length h ∙ length-set (row_of row) (w - 1) (x.depth, x.pointer);
      right =
          ap (drop (w - 1)) h ∙ drop_set (row_of row) (w - 1) (x.depth, x.pointer) (omega (arith, length_row row full small))
          ∙ ap (λ (k : ℕ). (x.depth, x.pointer) ∷ drop k (row_of row)) (let y : suc (w - 1) ≡ w = omega arith in y);
      left = λ i l. ap (take i) h ∙ take-set-le i (row_of row) (w - 1) (x.depth, x.pointer) (omega arith);
      least = omega arith;
      most = omega arith;
    })

-- ---- close

-- The first pairs are those of the first of each list,
take_zip : (n : ℕ) (ds ps : List ℕ) → take n (zip ds ps) ≡ zip (take n ds) (take n ps)
unfolding zip zip_with
take_zip zero ds ps = refl
take_zip (suc n) [] ps = refl
take_zip (suc n) (d ∷ ds) [] = refl
take_zip (suc n) (d ∷ ds) (p ∷ ps) = ap (λ (l : List Ref). (d, p) ∷ l) (take_zip n ds ps)

-- and so are those behind.
drop_zip : (n : ℕ) (ds ps : List ℕ) → length ds ≡ length ps → drop n (zip ds ps) ≡ zip (drop n ds) (drop n ps)
unfolding zip zip_with
drop_zip zero ds ps h = refl
drop_zip (suc n) [] [] h = refl
drop_zip (suc n) [] (p ∷ ps) h = absurd (omega arith)
drop_zip (suc n) (d ∷ ds) [] h = absurd (omega arith)
drop_zip (suc n) (d ∷ ds) (p ∷ ps) h = drop_zip n ds ps (omega arith)

-- Lists one behind the other give their pairs so.
zip_append : (ds ps ds' ps' : List ℕ) → length ds ≡ length ps → zip (ds ++ ds') (ps ++ ps') ≡ zip ds ps ++ zip ds' ps'
unfolding zip zip_with
zip_append [] [] ds' ps' h = refl
zip_append [] (p ∷ ps) ds' ps' h = absurd (omega arith)
zip_append (d ∷ ds) [] ds' ps' h = absurd (omega arith)
zip_append (d ∷ ds) (p ∷ ps) ds' ps' h = ap (λ (l : List Ref). (d, p) ∷ l) (zip_append ds ps ds' ps' (omega arith))

-- The entries from w on are copied to the place i.
pub close_row : (row : Row) (i w : ℕ) {ds ps : List ℕ} → i ≤ w → w ≤ row.count → row.count ≤ 319 → Full row.depths row.pointers
    → ds ≡ copy_within row.depths w row.count i → ps ≡ copy_within row.pointers w row.count i
    → Holds (record { depths = ds; pointers = ps; count = i + (row.count - w) }) (i + (row.count - w)) (around row i w)
close_row row i w {ds} {ps} l m small full f g =
    let k = row.count - w in
    let z = zip row.depths row.pointers in
    let same : length row.depths ≡ length row.pointers = full.0 ∙ sym full.1 in
    record {
      count = refl;
      entries =
          take_zip (i + k) ds ps
          ∙ ap₂ (λ (s t : List ℕ). zip s t)
          (ap (take (i + k)) f ∙ take-paste row.depths i (drop w row.depths) k (omega (arith, full.0)) (omega (arith, full.0, length-drop w row.depths)))
          (ap (take (i + k)) g ∙ take-paste row.pointers i (drop w row.pointers) k (omega (arith, full.1)) (omega (arith, full.1, length-drop w row.pointers)))
          ∙ zip_append (take i row.depths) (take i row.pointers) (take k (drop w row.depths)) (take k (drop w row.pointers))
          (omega (arith, same, length-take i row.depths, length-take i row.pointers))
          ∙ ap₂ (λ (s t : List Ref). s ++ t) (sym (take_zip i row.depths row.pointers) ∙ sym (take-take i row.count z (omega arith)))
          (sym (take_zip k (drop w row.depths) (drop w row.pointers)) ∙ ap (take k) (sym (drop_zip w row.depths row.pointers same)) ∙ sym (drop-take w k z)
          ∙ ap (λ (c : ℕ). drop w (take c z)) (let y : w + k ≡ row.count = omega arith in y));
    }

-- ---- settle

-- A page with entries is settled by its row.
pub page_some : (e level : ℕ) (l : List Ref) → 1 ≤ length l → settled_page e level l ≡ row_page e level l
page_some e level [] h = absurd (omega arith)
page_some e level (x ∷ l) h = refl

-- Its entry in the parent has the last depth.
pub entry_some : (p d : ℕ) (l : List Ref) → 1 ≤ length l → d ≡ last_depth depth_of 0 l → entry_for p l ≡ (d, p) ∷ []
entry_some p d [] h g = absurd (omega arith)
entry_some p d (x ∷ l) h g = rw (← g) refl

-- The last depth of a row is the depth of its last entry.
last_at : (τ n : ℕ) (l : List Ref) → length l ≡ suc n → last_depth depth_of τ l ≡ depth_of (get_or l n (0, 0))
last_at τ n [] h = absurd (omega arith)
last_at τ zero (x ∷ []) h = refl
last_at τ zero (x ∷ y ∷ l) h = absurd (omega arith)
last_at τ (suc n) (x ∷ l) h = last_at (depth_of x) n l (omega arith)

-- The whole row.
back_part : (row : Row) → part_of row 0 row.count ≡ row_of row
back_part row = refl

-- Something is left: the page is stored.
pub settle_some : (e level : ℕ) (b : List ℕ) (p : ℕ) (row : Row) (b' : List ℕ) (x : Entry) → (row.count ≡ 0 → ⊥) → length (row_of row) ≡ row.count
    → b' ≡ store (layout_of e) b p (row_page e level (part_of row 0 row.count))
    → x.depth ≡ depth_of (get_or (row_of row) (row.count - 1) (0, 0)) → x.pointer ≡ p → SettlePost e level b p row b' (Some x)
settle_some e level b p row b' x z full h d q =
    let some : 1 ≤ length (row_of row) = omega (arith, full, z) in
    record {
      bytes = h ∙ ap (store (layout_of e) b p) (ap (row_page e level) (back_part row) ∙ sym (page_some e level (row_of row) some));
      entries = rw q (sym (entry_some p x.depth (row_of row) some (d ∙ sym (last_at 0 (row.count - 1) (row_of row) (omega (arith, full, z))))));
    }
