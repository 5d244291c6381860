-- A page whose entries behind a place are moved up, and a row written into the room (01, "Pages"). Assumes nothing.
use mathlib.Core.Path.{◌≡◌, refl, sym, ap, ap₂, ◌∙◌}
use mathlib.Core.List.{List, [], ◌∷◌, ◌++◌, append_assoc}
use Prim.Native.Nat.{ℕ, zero, suc, ◌+◌, ◌*◌, ◌-◌, ◌≤◌, ◌<◌, ◌/◌, ◌%◌}
use native.Mathlib.Omega.{arith}
use lib.ListN.{length, get_or, take, drop, set, replicate, length-set, length-drop, length-append, length-replicate, take-append-drop}
use lib.Seq.{sets-eq, drop-drop, take-add, take_at, drop_at, split_at, drop-append-add, length-take-le}
use Rattle.byte_moves.specs.Over.{over}
use Rattle.byte_moves.proofs.OverLaws.{length_over}
use Rattle.byte_moves.proofs.MovedBytes.{set_over, set_inside, over_inside, over_self, part_part}
use Rattle.index_table.specs.Bytes.{number_after, table}
use Rattle.index_table.specs.Layout.{Layout, layout_of, Ref, page_size, page_start, page_bytes, level_of, count_of, first_ref, ref_at, refs_of, ref_bytes, row_bytes, page_of, row_page, store}
use Rattle.index_table.specs.Pages.{pages_at}
use Rattle.index_table.specs.Soundness.{Cleared}
use Rattle.index_table.proofs.ListLaws.{drop_table}
use Rattle.index_table.proofs.NumberLaws.{bytes_two, Bytes, drop_bytes, take_bytes}
use Rattle.index_table.proofs.PageBytes.{length_page_bytes}
use Rattle.index_table.proofs.PageRows.{length_refs, length_ref_bytes, length_row_bytes, row_bytes_append}
use Rattle.index_write.specs.Storing.{spliced_at}
use Rattle.index_write.proofs.StoredRows.{all_zeros}
use Rattle.page_change.specs.Opening.{Openable, Opened}

-- A list in the place of another of its length.
over_between : {A : Type 0} (xs ys zs vs : List A) (k : ℕ) → length xs ≡ k → length vs ≡ length ys → over (xs ++ ys ++ zs) k vs ≡ xs ++ vs ++ zs
unfolding over
over_between {A} xs ys zs vs k h g =
    let n : length (xs ++ ys) ≡ k + length vs = length-append xs ys ∙ omega arith in
    sets-eq vs (xs ++ ys ++ zs) k (omega (arith, length-append (xs ++ ys) zs, n))
    ∙ ap₂ (λ (a b : List A). a ++ vs ++ b) (ap (take k) (append_assoc xs ys zs) ∙ take_at xs (ys ++ zs) k h) (drop_at (xs ++ ys) zs (k + length vs) n)

-- ---- a page is its head, its row and zeros

-- The bytes of the entry that stands first.
first_bytes : (l : List ℕ) → Bytes l → 3 ≤ length l → ref_bytes 2 (first_ref 2 l) ≡ take 3 l
unfolding ref_bytes first_ref number_after
first_bytes [] h g = absurd (omega arith)
first_bytes (x ∷ []) h g = absurd (omega arith)
first_bytes (x ∷ y ∷ []) h g = absurd (omega arith)
first_bytes (x ∷ y ∷ z ∷ l) h g =
    let hy : y < 256 = h 1 in
    let hz : z < 256 = h 2 in
    let n : ℕ = (0 * 256 + y) * 256 + z in
    let q : n / 256 ≡ y = omega arith in
    let r : n % 256 ≡ z = omega arith in
    ap (λ (t : List ℕ). x ∷ t) (bytes_two n (omega arith) ∙ ap₂ (λ (a b : ℕ). a ∷ b ∷ []) q r)

-- The bytes of the entries from place i on.
rows_bytes : (e : ℕ) (page : List ℕ) → Bytes page → (i n : ℕ) → 2 + 3 * (i + n) ≤ length page → row_bytes 2 (table (ref_at (layout_of e) page) i n) ≡ take (3 * n) (drop (2 + 3 * i) page)
unfolding row_bytes table ref_at
rows_bytes e page h i zero g = refl
rows_bytes e page h i (suc n) g =
    let more : 3 * suc n ≡ 3 + 3 * n = omega arith in
    let next : 2 + 3 * i + 3 ≡ 2 + 3 * suc i = omega arith in
    ap₂ (λ (a b : List ℕ). a ++ b)
    (first_bytes (drop (2 + 3 * i) page) (drop_bytes (2 + 3 * i) page h) (omega (arith, length-drop (2 + 3 * i) page)))
    (rows_bytes e page h (suc i) n (omega arith))
    ∙ sym (ap (λ (k : ℕ). take k (drop (2 + 3 * i) page)) more ∙ take-add 3 (3 * n) (drop (2 + 3 * i) page) ∙ ap (λ (l : List ℕ). take 3 (drop (2 + 3 * i) page) ++ take (3 * n) l) (drop-drop 3 (2 + 3 * i) page ∙ ap (λ (k : ℕ). drop k page) next))

head_bytes : (l : List ℕ) → 2 ≤ length l → take 2 l ≡ get_or l 0 0 ∷ get_or l 1 0 ∷ []
head_bytes [] h = absurd (omega arith)
head_bytes (x ∷ []) h = absurd (omega arith)
head_bytes (x ∷ y ∷ l) h = refl

-- A page with zeros behind its entries is the page of its row.
pub page_is : (e : ℕ) (page : List ℕ) → Bytes page → length page ≡ 2 + 3 * e → count_of page ≤ e → Cleared (layout_of e) page → page ≡ row_page e (level_of page) (refs_of (layout_of e) page)
unfolding page_of refs_of
page_is e page h long few cleared =
    let n : ℕ = count_of page in
    let rest : List ℕ = drop (2 + 3 * n) page in
    let many : length rest ≡ 3 * (e - n) = length-drop (2 + 3 * n) page ∙ omega arith in
    let counted : n ≡ length (table (ref_at (layout_of e) page) 0 n) = sym (length_refs (layout_of e) page) in
    sym (take-append-drop (2 + 3 * n) page)
    ∙ ap₂ (λ (a b : List ℕ). a ++ b)
    (take-add 2 (3 * n) page
    ∙ ap₂ (λ (a b : List ℕ). a ++ b)
    (head_bytes page (omega arith) ∙ ap (λ (k : ℕ). level_of page ∷ k ∷ []) counted)
    (sym (rows_bytes e page h 0 n (omega arith))))
    (all_zeros rest cleared.unused ∙ ap (λ (k : ℕ). replicate k 0) (many ∙ ap (λ (k : ℕ). 3 * (e - k)) counted))

-- ---- the row with others in the place of an entry

drop_zeros : (k n : ℕ) → ◌≡◌ {A = List ℕ} (drop k (replicate n 0)) (replicate (n - k) 0)
drop_zeros zero n = ap (λ (m : ℕ). replicate m 0) (let e : n ≡ n - 0 = omega arith in e)
drop_zeros (suc k) zero = ap (λ (m : ℕ). replicate m 0) (let e : 0 ≡ 0 - suc k = omega arith in e)
drop_zeros (suc k) (suc n) = drop_zeros k n ∙ ap (λ (m : ℕ). replicate m 0) (let e : n - k ≡ suc n - suc k = omega arith in e)

module _ (e level : ℕ) (before : List Ref) (y : Ref) (after news : List Ref) (some : 1 ≤ length news) (room : length before + length news + length after ≤ e) where
  abbrev count₀ : ℕ
  count₀ = length (before ++ y ∷ after)

  abbrev count₁ : ℕ
  count₁ = length (before ++ news ++ after)

  count₀_is : count₀ ≡ length before + suc (length after)
  count₀_is = length-append before (y ∷ after)

  count₁_is : count₁ ≡ length before + length news + length after
  count₁_is = length-append (before ++ news) after ∙ omega (arith, length-append before news)

  -- What stands before the room, and what stood from there on.
  abbrev front : List ℕ
  front = (level ∷ count₀ ∷ []) ++ row_bytes 2 before

  abbrev behind : List ℕ
  behind = ref_bytes 2 y ++ row_bytes 2 after ++ replicate (3 * (e - count₀)) 0

  abbrev zeros : List ℕ
  zeros = replicate (3 * (e - count₁)) 0

  front_long : length front ≡ 2 + 3 * length before
  front_long = length-append (level ∷ count₀ ∷ []) (row_bytes 2 before) ∙ omega (arith, length_row_bytes 2 before)

  page_parted : row_page e level (before ++ y ∷ after) ≡ front ++ behind
  unfolding page_of row_bytes
  page_parted =
      ap (λ (l : List ℕ). (level ∷ count₀ ∷ []) ++ l ++ replicate (3 * (e - count₀)) 0) (row_bytes_append 2 before (y ∷ after))
      ∙ ap (λ (l : List ℕ). l ++ replicate (3 * (e - count₀)) 0) (sym (append_assoc (level ∷ count₀ ∷ []) (row_bytes 2 before) (ref_bytes 2 y ++ row_bytes 2 after)))
      ∙ append_assoc front (ref_bytes 2 y ++ row_bytes 2 after) (replicate (3 * (e - count₀)) 0)

  entries_long : length (ref_bytes 2 y ++ row_bytes 2 after) ≡ 3 + 3 * length after
  entries_long = length-append (ref_bytes 2 y) (row_bytes 2 after) ∙ omega (arith, length_ref_bytes 2 y, length_row_bytes 2 after)

  behind_long : length behind ≡ 3 + 3 * length after + 3 * (e - count₀)
  behind_long = length-append (ref_bytes 2 y ++ row_bytes 2 after) (replicate (3 * (e - count₀)) 0) ∙ omega (arith, entries_long, length-replicate {A = ℕ} (3 * (e - count₀)) 0)

  abbrev left : List ℕ
  left = drop (3 * length news) behind

  left_long : length left ≡ length behind - 3 * length news
  left_long = length-drop (3 * length news) behind

  behind_zeros : drop (3 * length after) left ≡ zeros
  behind_zeros =
      drop-drop (3 * length after) (3 * length news) behind
      ∙ ap (λ (k : ℕ). drop k behind) (let k : 3 * length news + 3 * length after ≡ length (ref_bytes 2 y ++ row_bytes 2 after) + 3 * (length news - 1) = omega (arith, entries_long) in k)
      ∙ drop-append-add (ref_bytes 2 y ++ row_bytes 2 after) (replicate (3 * (e - count₀)) 0) (3 * (length news - 1))
      ∙ drop_zeros (3 * (length news - 1)) (3 * (e - count₀))
      ∙ ap (λ (k : ℕ). replicate k 0) (let k : 3 * (e - count₀) - 3 * (length news - 1) ≡ 3 * (e - count₁) = omega (arith, count₀_is, count₁_is) in k)

  behind_parted : behind ≡ take (3 * length news) behind ++ (take (3 * length after) left ++ zeros)
  behind_parted =
      sym (take-append-drop (3 * length news) behind)
      ∙ ap (λ (l : List ℕ). take (3 * length news) behind ++ l) (sym (take-append-drop (3 * length after) left) ∙ ap (λ (l : List ℕ). take (3 * length after) left ++ l) behind_zeros)

  -- The entries behind are moved,
  moved : over (row_page e level (before ++ y ∷ after)) (2 + 3 * length before + 3 * length news) (row_bytes 2 after) ≡ front ++ take (3 * length news) behind ++ (row_bytes 2 after ++ zeros)
  moved =
      ap (λ (l : List ℕ). over l (2 + 3 * length before + 3 * length news) (row_bytes 2 after))
      (page_parted ∙ ap (λ (l : List ℕ). front ++ l) behind_parted
      ∙ sym (append_assoc front (take (3 * length news) behind) (take (3 * length after) left ++ zeros))
      ∙ sym (append_assoc (front ++ take (3 * length news) behind) (take (3 * length after) left) zeros))
      ∙ over_between (front ++ take (3 * length news) behind) (take (3 * length after) left) zeros (row_bytes 2 after) (2 + 3 * length before + 3 * length news)
      (length-append front (take (3 * length news) behind) ∙ omega (arith, front_long, length-take-le (3 * length news) behind (omega (arith, behind_long, count₀_is))))
      (length_row_bytes 2 after ∙ sym (length-take-le (3 * length after) left (omega (arith, left_long, behind_long, count₀_is))))
      ∙ append_assoc (front ++ take (3 * length news) behind) (row_bytes 2 after) zeros

  -- the new ones written into the room,
  filled : over (front ++ take (3 * length news) behind ++ (row_bytes 2 after ++ zeros)) (2 + 3 * length before) (row_bytes 2 news) ≡ front ++ row_bytes 2 news ++ (row_bytes 2 after ++ zeros)
  filled =
      over_between front (take (3 * length news) behind) (row_bytes 2 after ++ zeros) (row_bytes 2 news) (2 + 3 * length before) front_long
      (length_row_bytes 2 news ∙ sym (length-take-le (3 * length news) behind (omega (arith, behind_long, count₀_is))))

  -- and the count.
  counted : set (front ++ row_bytes 2 news ++ (row_bytes 2 after ++ zeros)) 1 count₁ ≡ row_page e level (before ++ news ++ after)
  unfolding page_of
  counted =
      let head : List ℕ = level ∷ count₁ ∷ [] in
      sym
      (ap (λ (l : List ℕ). head ++ l ++ zeros) (row_bytes_append 2 (before ++ news) after ∙ ap (λ (l : List ℕ). l ++ row_bytes 2 after) (row_bytes_append 2 before news))
      ∙ ap (λ (l : List ℕ). l ++ zeros) (sym (append_assoc head (row_bytes 2 before ++ row_bytes 2 news) (row_bytes 2 after)))
      ∙ append_assoc (head ++ (row_bytes 2 before ++ row_bytes 2 news)) (row_bytes 2 after) zeros
      ∙ ap (λ (l : List ℕ). l ++ (row_bytes 2 after ++ zeros)) (sym (append_assoc head (row_bytes 2 before) (row_bytes 2 news))))

  -- So the page has the new row.
  pub row_opened : set (over (over (row_page e level (before ++ y ∷ after)) (2 + 3 * length before + 3 * length news) (row_bytes 2 after)) (2 + 3 * length before) (row_bytes 2 news)) 1 count₁
      ≡ row_page e level (before ++ news ++ after)
  row_opened =
      ap (λ (l : List ℕ). set (over l (2 + 3 * length before) (row_bytes 2 news)) 1 count₁) moved ∙ ap (λ (l : List ℕ). set l 1 count₁) filled ∙ counted

-- ---- in the table

module _ {e : ℕ} {b : List ℕ} {p at c : ℕ} (pre : Openable e b p at c) (small : Bytes b) where
  abbrev L : Layout
  L = layout_of e

  abbrev page : List ℕ
  page = page_bytes L b p

  abbrev refs : List Ref
  refs = pages_at L b p

  abbrev start : ℕ
  start = page_start L p

  long : length page ≡ 2 + 3 * e
  long = length_page_bytes L b p pre.within

  bytes : Bytes page
  unfolding page_bytes
  bytes = take_bytes (page_size L) (drop start b) (drop_bytes start b small)

  count_is : count_of page ≡ length refs
  count_is = sym (length_refs L page)

  parted : refs ≡ take at refs ++ get_or refs at (0, 0) ∷ drop (suc at) refs
  parted = split_at refs at (0, 0) pre.inside

  before_long : length (take at refs) ≡ at
  before_long = length-take-le at refs (omega (arith, pre.inside))

  after_long : length (drop (suc at) refs) ≡ length refs - suc at
  after_long = length-drop (suc at) refs

  -- The bytes that are moved are those of the entries behind.
  after_bytes : take (3 * (length refs - at - 1)) (drop (start + (2 + 3 * at) + 3) b) ≡ row_bytes 2 (drop (suc at) refs)
  unfolding page_bytes refs_of
  after_bytes =
      let m : length refs - at - 1 ≡ count_of page - suc at = omega (arith, count_is) in
      ap₂ (λ (k j : ℕ). take (3 * k) (drop j b)) m (let j : start + (2 + 3 * at) + 3 ≡ start + (2 + 3 * suc at) = omega arith in j)
      ∙ sym (part_part b start (page_size L) (2 + 3 * suc at) (3 * (count_of page - suc at)) (omega (arith, count_is, pre.inside, pre.room, pre.some)))
      ∙ sym (rows_bytes e page bytes (suc at) (count_of page - suc at) (omega (arith, long, count_is, pre.inside, pre.room, pre.some)))
      ∙ ap (row_bytes 2) (sym (drop_table (ref_at L page) 0 (suc at) (count_of page) ∙ ap (λ (k : ℕ). table (ref_at L page) k (count_of page - suc at)) (let z : 0 + suc at ≡ suc at = omega arith in z)))

  whole : b ≡ store L b p page
  unfolding page_bytes
  whole = sym (over_self b start (page_size L) 0 pre.within)

  -- Once a row is written into the room, the page has it in the place of the entry.
  page_filled : (row : List Ref) → length row ≡ c → {b₁ : List ℕ} → b₁ ≡ over b (start + (2 + 3 * at) + 3 + 3 * (c - 1)) (row_bytes 2 (drop (suc at) refs))
      → over (set b₁ (start + 1) (length refs + c - 1)) (start + (2 + 3 * at)) (row_bytes 2 row) ≡ store L b p (row_page e (level_of page) (spliced_at at row refs))
  page_filled row full {b₁} h₁ =
      let page₁ : List ℕ = over page (2 + 3 * at + 3 * length row) (row_bytes 2 (drop (suc at) refs)) in
      let page₂ : List ℕ = over page₁ (2 + 3 * at) (row_bytes 2 row) in
      let l₁ : length page₁ ≡ length page = length_over page (2 + 3 * at + 3 * length row) (row_bytes 2 (drop (suc at) refs)) in
      let l₂ : length page₂ ≡ length page₁ = length_over page₁ (2 + 3 * at) (row_bytes 2 row) in
      let place : start + (2 + 3 * at) + 3 + 3 * (c - 1) ≡ start + (2 + 3 * at + 3 * length row) = omega (arith, full, pre.some) in
      let g₁ : b₁ ≡ store L b p page₁ =
      h₁
      ∙ ap (λ (k : ℕ). over b k (row_bytes 2 (drop (suc at) refs))) place
      ∙ ap (λ (l : List ℕ). over l (start + (2 + 3 * at + 3 * length row)) (row_bytes 2 (drop (suc at) refs))) whole
      ∙ over_inside b start (2 + 3 * at + 3 * length row) page (row_bytes 2 (drop (suc at) refs)) (omega (arith, long, length_row_bytes 2 (drop (suc at) refs), after_long, full, pre.inside, pre.room)) in
      let g₂ : over b₁ (start + (2 + 3 * at)) (row_bytes 2 row) ≡ store L b p page₂ =
      ap (λ (l : List ℕ). over l (start + (2 + 3 * at)) (row_bytes 2 row)) g₁
      ∙ over_inside b start (2 + 3 * at) page₁ (row_bytes 2 row) (omega (arith, long, l₁, length_row_bytes 2 row, full, pre.inside, pre.room)) in
      let total : length refs + c - 1 ≡ length (take at refs ++ row ++ drop (suc at) refs) =
      sym (length-append (take at refs ++ row) (drop (suc at) refs) ∙ omega (arith, length-append (take at refs) row, before_long, after_long, full, pre.inside, pre.some)) in
      let first : 2 + 3 * at ≡ 2 + 3 * length (take at refs) = omega (arith, before_long) in
      let page_row : page ≡ row_page e (level_of page) (take at refs ++ get_or refs at (0, 0) ∷ drop (suc at) refs) =
      page_is e page bytes long (omega (arith, count_is, pre.room, pre.some)) pre.cleared ∙ ap (row_page e (level_of page)) parted in
      sym (set_over b₁ (start + (2 + 3 * at)) (row_bytes 2 row) (start + 1) (length refs + c - 1) (omega arith))
      ∙ ap (λ (l : List ℕ). set l (start + 1) (length refs + c - 1)) g₂
      ∙ set_inside b start 1 page₂ (length refs + c - 1) (omega (arith, l₁, l₂, long))
      ∙ ap (store L b p)
      ((λ i. set (over (over (page_row i) (first i + 3 * length row) (row_bytes 2 (drop (suc at) refs))) (first i) (row_bytes 2 row)) 1 (total i))
      ∙ row_opened e (level_of page) (take at refs) (get_or refs at (0, 0)) (drop (suc at) refs) row (omega (arith, full, pre.some)) (omega (arith, before_long, after_long, full, pre.inside, pre.room)))

  -- The page with the room.
  pub page_opened : {b₁ : List ℕ} {s n : ℕ} → s ≡ start → n ≡ length refs → b₁ ≡ over b (s + (2 + 3 * at) + 3 + 3 * (c - 1)) (take (3 * (n - at - 1)) (drop (s + (2 + 3 * at) + 3) b))
      → Opened e b p at c (set b₁ (s + 1) (n + c - 1)) (s + (2 + 3 * at))
  page_opened {b₁} {s} {n} hs hn h₁ =
      let tail = take (3 * (n - at - 1)) (drop (s + (2 + 3 * at) + 3) b) in
      let moved : b₁ ≡ over b (start + (2 + 3 * at) + 3 + 3 * (c - 1)) (row_bytes 2 (drop (suc at) refs)) = h₁ ∙ rw (hs, hn) (ap (over b (start + (2 + 3 * at) + 3 + 3 * (c - 1))) after_bytes) in
      record {
        long = length-set b₁ (s + 1) (n + c - 1) ∙ ap length moved ∙ length_over b (start + (2 + 3 * at) + 3 + 3 * (c - 1)) (row_bytes 2 (drop (suc at) refs));
        inside = omega (arith, hs, pre.within, pre.inside, pre.room);
        filled = λ row full. rw (hs, hn) (page_filled row full moved);
      }
