-- Bytes that are all zero, in a part of the table and in a page. Assumes nothing.
use Rattle.std.proofs.Common.{◌≡◌, ℕ, zero, suc, ◌+◌, ◌-◌, ◌*◌, ◌^◌, ◌<◌, ◌≤◌, true, eqb, ◌↔◌, List, [], ◌∷◌, length, get_or, take, drop, sym, ap, ◌∙◌, arith, length-drop, length-take, get_or-drop, get_or-take, eq-eqb, eqb-true}
use Rattle.index_table.specs.Bytes.{AllZero}
use Rattle.index_table.specs.Layout.{Layout, page_size, page_start, Within, page_bytes, count_of, layout_of}
use Rattle.index_table.specs.Header.{spare_of}
use Rattle.index_table.specs.declared.header.Index.{Index}
use Rattle.index_table.proofs.PageRows.{length_refs}
use Rattle.bytes_check.specs.Scans.{ZeroBetween, PageCleared, rows_of}

-- Every byte of a list is zero, by its places.
pub zero_places : (l : List ℕ) → AllZero l ↔ ((k : ℕ) → k < length l → get_or l k 0 ≡ 0)
zero_places [] = ((λ h k b. absurd (omega arith)), (λ f. tt))
zero_places (x ∷ l) = (to (zero_places l).0, (λ f. (f 0 (omega arith), (zero_places l).1 (λ k b. f (suc k) (omega arith)))))
  where
    to : (AllZero l → (k : ℕ) → k < length l → get_or l k 0 ≡ 0) → AllZero (x ∷ l) → (k : ℕ) → k < length (x ∷ l) → get_or (x ∷ l) k 0 ≡ 0
    to f h zero b = h.0
    to f h (suc k) b = f h.1 k (omega arith)

-- A part of a table: n bytes from place i on, less the first k of them.
module _ (b : List ℕ) (i n k : ℕ) (within : i + n ≤ length b) where
  part : List ℕ
  part = drop k (take n (drop i b))

  part_length : length part ≡ n - k
  unfolding part
  part_length = length-drop k (take n (drop i b)) ∙ omega (arith, length-take n (drop i b), length-drop i b)

  part_byte : (j : ℕ) → j < n - k → get_or part j 0 ≡ get_or b (i + (k + j)) 0
  unfolding part
  part_byte j l = get_or-drop k (take n (drop i b)) j 0 ∙ get_or-take n (drop i b) (k + j) 0 (omega arith) ∙ get_or-drop i b (k + j) 0

  -- It is all zero exactly if the table is between its ends.
  pub zero_part : AllZero (drop k (take n (drop i b))) ↔ ZeroBetween (i + k) (i + n) b
  unfolding part
  zero_part = (
    (λ z m f t.
        let j : i + (k + (m - (i + k))) ≡ m = omega arith in
        ap (λ (x : ℕ). get_or b x 0) (sym j) ∙ sym (part_byte (m - (i + k)) (omega arith)) ∙ (zero_places part).0 z (m - (i + k)) (omega (arith, part_length))),
    (λ z. (zero_places part).1 (λ j l. let g : j < n - k = omega (arith, part_length) in part_byte j g ∙ z (i + (k + j)) (omega arith) (omega arith))),
  )

-- Bytes with no bit are zero: what gathers the bits of a part of the table says so.
pub no_bits : (b : List ℕ) (from to bits : ℕ) → from ≤ to → to ≤ length b
    → ((bits < 2 ^ 0) ↔ ((k : ℕ) → k < length (take (to - from) (drop from b)) → get_or (take (to - from) (drop from b)) k 0 < 2 ^ 0)) → (eqb bits 0 ≡ true) ↔ ZeroBetween from to b
no_bits b from to bits l m h =
    let i : from + 0 ≡ from = omega arith in
    let j : from + (to - from) ≡ to = omega arith in
    let part = rw (i, j) at (zero_part b from (to - from) 0 (omega arith)) in
    let places = zero_places (take (to - from) (drop from b)) in (
      (λ t. part.0 (places.1 (λ k g. omega (arith, h.0 (omega (arith, eqb-true bits 0 t)) k g)))),
      (λ f. eq-eqb bits 0 (let z : bits < 1 = h.1 (λ k g. omega (arith, places.0 (part.1 f) k g)) in omega arith)),
    )

-- The header's spare bytes.
pub zero_spare : (b : List ℕ) → 16 ≤ length b → AllZero (spare_of b) ↔ ZeroBetween 8 16 b
zero_spare b h = zero_part b 8 8 0 h

-- The bytes of a page from place k on.
pub zero_page : (L : Layout) (b : List ℕ) (p k : ℕ) → Within L b p → AllZero (drop k (page_bytes L b p)) ↔ ZeroBetween (page_start L p + k) (page_start L p + page_size L) b
unfolding page_bytes
zero_page L b p k h = zero_part b (page_start L p) (page_size L) k h

-- ---- a page against its mark

module _ (h : Index) (index : List ℕ) (page : ℕ) where
  abbrev bytes : List ℕ
  bytes = page_bytes (layout_of h.entries) index page

  rows : length (rows_of h index page) ≡ count_of bytes
  rows = length_refs (layout_of h.entries) bytes

  -- The count of a page that may be met is at most E.
  pub used_few : (n : ℕ) → n ≡ count_of bytes → length (rows_of h index page) ≤ h.entries → n ≤ h.entries
  used_few n e f = omega (arith, rows)

module _ (h : Index) (index : List ℕ) (page mark : ℕ) (within : Within (layout_of h.entries) index page) where
  -- A free page that is marked.
  pub free_marked : count_of (bytes h index page) ≡ 0 → (mark ≡ 0 → ⊥) → PageCleared h index page mark → ⊥
  free_marked z m c = m (c.met ∙ omega (arith, rows h index page))

  -- A page in use that is not marked.
  pub used_unmarked : (count_of (bytes h index page) ≡ 0 → ⊥) → mark ≡ 0 → PageCleared h index page mark → ⊥
  used_unmarked z m c = z (omega (arith, rows h index page, c.met))

  -- A free page that is not marked, by its bytes.
  pub free_cleared : (at end : ℕ) → at ≡ page_start (layout_of h.entries) page → end ≡ at + (2 + 3 * h.entries) → count_of (bytes h index page) ≡ 0 → mark ≡ 0
      → ZeroBetween at end index ↔ PageCleared h index page mark
  free_cleared at end a e z m = (
    (λ f. record { met = m ∙ omega (arith, rows h index page); zero = record { free = λ q. all 0 f; unused = all (2 + 3 * count_of (bytes h index page)) f } }),
    (λ c k l g. (zero_page (layout_of h.entries) index page 0 within).0 (c.zero.free z) k (omega arith) (omega arith)),
  )
    where
      all : (k : ℕ) → ZeroBetween at end index → AllZero (drop k (bytes h index page))
      all k f = (zero_page (layout_of h.entries) index page k within).1 (λ j l g. f j (omega arith) (omega arith))

  -- A page in use that is marked, by the bytes behind its entries.
  pub used_cleared : (at end n : ℕ) → at ≡ page_start (layout_of h.entries) page → end ≡ at + (2 + 3 * h.entries) → n ≡ count_of (bytes h index page) → (n ≡ 0 → ⊥) → mark ≡ 1
      → ZeroBetween (at + (2 + 3 * n)) end index ↔ PageCleared h index page mark
  used_cleared at end n a e c z m = (
    (λ f.
        record {
          met = m ∙ omega (arith, rows h index page);
          zero = record {
            free = λ q. absurd (z (c ∙ q));
            unused = (zero_page (layout_of h.entries) index page (2 + 3 * count_of (bytes h index page)) within).1 (λ j l g. f j (omega arith) (omega arith));
          };
        }),
    (λ d k l g. (zero_page (layout_of h.entries) index page (2 + 3 * count_of (bytes h index page)) within).0 d.zero.unused k (omega arith) (omega arith)),
  )
