-- The entries of a page: what was written as a row is read as that row (01, "Pages"). Assumes nothing.
use mathlib.Core.Path.{◌≡◌, refl, sym, ap, ap₂, ◌∙◌}
use mathlib.Core.List.{List, [], ◌∷◌, ◌++◌, append_assoc}
use Prim.Native.Nat.{ℕ, zero, suc, ◌+◌, ◌*◌, ◌-◌, ◌≤◌, ◌<◌, ◌^◌}
use native.Mathlib.Omega.{arith}
use native.Mathlib.Nat.{mul-zero, mul-suc, mul-sub, mul-le-mul_left}
use lib.ListN.{length, get_or, take, drop, replicate, length-append, length-replicate, get_or-append}
use lib.Seq.{take-suc, drop-cons, take_at, drop-append-add}
use Rattle.index_table.specs.Bytes.{number, bytes_of, table}
use Rattle.index_table.specs.Layout.{Layout, Ref, entry_size, page_size, page_start, page_bytes, count_of, first_ref, ref_at, refs_of, ref_bytes, row_bytes, page_of, Fitting}
use Rattle.index_table.proofs.ListLaws.{length_table, get_d_table, table_ext, table_shift}
use Rattle.index_table.proofs.NumberLaws.{length_bytes, number_bytes, Bytes, drop_bytes, take_bytes, number_fits}

-- ---- the entries that are read

-- As many as the page's count.
pub length_refs : (L : Layout) (page : List ℕ) → length (refs_of L page) ≡ count_of page
unfolding refs_of
length_refs L page = length_table (ref_at L page) 0 (count_of page)

-- Entry i.
pub get_d_refs : (L : Layout) (page : List ℕ) (i : ℕ) (d : Ref) → i < count_of page → get_or (refs_of L page) i d ≡ ref_at L page i
unfolding refs_of
get_d_refs L page i d h = get_d_table (ref_at L page) 0 (count_of page) i d h ∙ ap (ref_at L page) (let e : 0 + i ≡ i = omega arith in e)

-- One entry more of those passed.
pub take_refs : (L : Layout) (page : List ℕ) (i : ℕ) → i < count_of page → take (suc i) (refs_of L page) ≡ take i (refs_of L page) ++ ref_at L page i ∷ []
take_refs L page i h =
    take-suc (refs_of L page) i (0, 0) (omega (arith, length_refs L page)) ∙ ap (λ (x : Ref). take i (refs_of L page) ++ x ∷ []) (get_d_refs L page i (0, 0) h)

-- One entry less of those left.
pub drop_refs : (L : Layout) (page : List ℕ) (i : ℕ) → i < count_of page → drop i (refs_of L page) ≡ ref_at L page i ∷ drop (suc i) (refs_of L page)
drop_refs L page i h =
    drop-cons (refs_of L page) i (0, 0) (omega (arith, length_refs L page)) ∙ ap (λ (x : Ref). x ∷ drop (suc i) (refs_of L page)) (get_d_refs L page i (0, 0) h)

-- ---- the bytes that are written

-- An entry has a byte and those of its pointer.
pub length_ref_bytes : (w : ℕ) (x : Ref) → length (ref_bytes w x) ≡ suc w
unfolding ref_bytes
length_ref_bytes w x = ap suc (length_bytes w x.1)

-- A row has the bytes of its entries.
pub length_row_bytes : (w : ℕ) (xs : List Ref) → length (row_bytes w xs) ≡ suc w * length xs
unfolding row_bytes
length_row_bytes w [] = omega (arith, mul-zero (suc w))
length_row_bytes w (x ∷ xs) =
    length-append (ref_bytes w x) (row_bytes w xs) ∙ omega (arith, length_ref_bytes w x, length_row_bytes w xs, mul-suc (suc w) (length xs))

-- A row behind another.
pub row_bytes_append : (w : ℕ) (xs ys : List Ref) → row_bytes w (xs ++ ys) ≡ row_bytes w xs ++ row_bytes w ys
unfolding row_bytes
row_bytes_append w [] ys = refl
row_bytes_append w (x ∷ xs) ys = ap (λ l. ref_bytes w x ++ l) (row_bytes_append w xs ys) ∙ sym (append_assoc (ref_bytes w x) (row_bytes w xs) (row_bytes w ys))

-- ---- a page is written and read

module _ (L : Layout) (head : List ℕ) (row : List Ref) (long : length head ≡ L.head) where
  spare : List ℕ
  spare = replicate (entry_size L * (L.entries - length row)) 0

  -- A page that is written has the bytes of a page.
  pub length_page_of : length row ≤ L.entries → length (page_of L head row) ≡ page_size L
  unfolding page_of
  length_page_of h =
      length-append (head ++ row_bytes L.pointer row) (replicate (entry_size L * (L.entries - length row)) 0)
      ∙ omega (
        arith,
        length-append head (row_bytes L.pointer row),
        length_row_bytes L.pointer row,
        length-replicate {A = ℕ} (entry_size L * (L.entries - length row)) 0,
        mul-sub (entry_size L) L.entries (length row),
        mul-le-mul_left {m = length row} {n = L.entries} (entry_size L) h,
      )

  -- A byte of the head.
  pub page_of_head : (k : ℕ) → k < L.head → get_or (page_of L head row) k 0 ≡ get_or head k 0
  unfolding page_of
  page_of_head k h =
      rw (append_assoc head (row_bytes L.pointer row) (replicate (entry_size L * (L.entries - length row)) 0))
      (get_or-append head (row_bytes L.pointer row ++ replicate (entry_size L * (L.entries - length row)) 0) 0 k (omega arith))

  -- What stands behind the head.
  behind_head : (k : ℕ) → drop (L.head + k) (page_of L head row) ≡ drop k (row_bytes L.pointer row ++ spare)
  unfolding page_of spare
  behind_head k =
      let m : L.head + k ≡ length head + k = omega arith in
      rw (m, append_assoc head (row_bytes L.pointer row) spare) (drop-append-add head (row_bytes L.pointer row ++ spare) k)

  -- What stands behind the row is all zero.
  pub page_of_rest : drop (L.head + entry_size L * length row) (page_of L head row) ≡ replicate (entry_size L * (L.entries - length row)) 0
  unfolding spare
  page_of_rest =
      let m : entry_size L * length row ≡ length (row_bytes L.pointer row) + 0 = omega (arith, length_row_bytes L.pointer row) in
      behind_head (entry_size L * length row) ∙ rw m (drop-append-add (row_bytes L.pointer row) spare 0)

first_back : (w : ℕ) (x : Ref) (rest : List ℕ) → x.1 < 256 ^ w → first_ref w (ref_bytes w x ++ rest) ≡ x
unfolding first_ref ref_bytes
first_back w x rest h = ap (λ (n : ℕ). (x.0, n)) (ap number (take_at (bytes_of w x.1) rest w (length_bytes w x.1)) ∙ number_bytes w x.1 h)

row_back : (L : Layout) (row : List Ref) (rest : List ℕ) → Fitting L.pointer row
    → table (λ i. first_ref L.pointer (drop (entry_size L * i) (row_bytes L.pointer row ++ rest))) 0 (length row) ≡ row
unfolding row_bytes table
row_back L [] rest h = refl
row_back L (x ∷ row) rest h =
    ap₂ (λ y l. y ∷ l)
    (rw (mul-zero (entry_size L), append_assoc (ref_bytes L.pointer x) (row_bytes L.pointer row) rest) (first_back L.pointer x (row_bytes L.pointer row ++ rest) h.0))
    (table_shift (λ i. at (drop (entry_size L * i) (whole ++ rest))) 0 (length row)
    ∙ table_ext (λ i. at (drop (entry_size L * suc i) (whole ++ rest))) (λ i. at (drop (entry_size L * i) (row_bytes L.pointer row ++ rest))) 0 (length row) (λ k a b. ap at (step k))
    ∙ row_back L row rest h.1)
  where
    at : List ℕ → Ref
    at bytes = first_ref L.pointer bytes

    whole : List ℕ
    whole = ref_bytes L.pointer x ++ row_bytes L.pointer row

    step : (k : ℕ) → drop (entry_size L * suc k) (whole ++ rest) ≡ drop (entry_size L * k) (row_bytes L.pointer row ++ rest)
    step k =
        let m : entry_size L * suc k ≡ length (ref_bytes L.pointer x) + entry_size L * k = omega (arith, mul-suc (entry_size L) k, length_ref_bytes L.pointer x) in
        rw (m, append_assoc (ref_bytes L.pointer x) (row_bytes L.pointer row) rest) (drop-append-add (ref_bytes L.pointer x) (row_bytes L.pointer row ++ rest) (entry_size L * k))

-- The row that was written is read, where the head's count says its length and the pointers fit.
pub refs_page_of : (L : Layout) (head : List ℕ) (row : List Ref) → length head ≡ L.head → 1 < L.head → get_or head 1 0 ≡ length row → Fitting L.pointer row
    → refs_of L (page_of L head row) ≡ row
unfolding refs_of ref_at
refs_page_of L head row long two count fit =
    rw (page_of_head L head row long 1 two, count)
    (table_ext (ref_at L (page_of L head row)) (λ i. first_ref L.pointer (drop (entry_size L * i) (row_bytes L.pointer row ++ spare L head row long))) 0 (length row)
    (λ k a b. ap (first_ref L.pointer) (behind_head L head row long (entry_size L * k)))
    ∙ row_back L row (spare L head row long) fit)

-- ---- the pointers that are read

each_fits : (L : Layout) (page : List ℕ) → Bytes page → (i n : ℕ) → Fitting L.pointer (table (ref_at L page) i n)
unfolding table ref_at first_ref
each_fits L page h i zero = tt
each_fits L page h i (suc n) = (
  number_fits L.pointer (drop 1 (drop (L.head + entry_size L * i) page)) (drop_bytes 1 (drop (L.head + entry_size L * i) page) (drop_bytes (L.head + entry_size L * i) page h)),
  each_fits L page h (suc i) n,
)

-- The pointers of a page's entries fit their bytes.
pub refs_fit : (L : Layout) (b : List ℕ) (p : ℕ) → Bytes b → Fitting L.pointer (refs_of L (page_bytes L b p))
unfolding refs_of page_bytes
refs_fit L b p h = each_fits L (page_bytes L b p) (take_bytes (page_size L) (drop (page_start L p) b) (drop_bytes (page_start L p) b h)) 0 (count_of (page_bytes L b p))
