-- A whole page with an entry replaced, or without some of its entries (01, "Pages"). Assumes nothing.
use mathlib.Core.Path.{◌≡◌, refl, sym, ap, ap₂, ◌∙◌}
use mathlib.Core.List.{List, [], ◌∷◌, ◌++◌, append_assoc, append-nil}
use Prim.Native.Nat.{ℕ, suc, ◌+◌, ◌*◌, ◌-◌, ◌≤◌, ◌<◌}
use native.Mathlib.Omega.{arith}
use lib.ListN.{length, get_or, take, drop, set, replicate, length-append, length-take, length-drop, length-set, length-replicate, replicate-append-replicate, take-append-drop}
use lib.Seq.{drop_at, take_at, take-take, drop-drop, set_split, split_at, length-take-le}
use Rattle.std.proofs.lemmas.List.{drop-take}
use Rattle.byte_moves.specs.Over.{over}
use Rattle.byte_moves.proofs.OverLaws.{over_one}
use Rattle.index_table.specs.Layout.{Layout, layout_of, page_size, page_start, page_bytes, level_of, count_of, Ref, refs_of, ref_bytes, row_bytes, page_of, row_page, Fitting, store}
use Rattle.index_table.specs.Pages.{pages_at}
use Rattle.index_table.proofs.PageBytes.{page_stored, length_store}
use Rattle.index_table.proofs.PageRows.{length_refs, length_ref_bytes, length_row_bytes, row_bytes_append, length_page_of, refs_page_of}
use Rattle.index_write.proofs.StoredRows.{row_page_head, page_of_level}
use Rattle.page_change.specs.Changing.{WholePage, with_row, without}
use Rattle.page_change.proofs.PageParts.{over_part, store_again}

-- A row's bytes in three parts, between others.
three_rows : (xs : List ℕ) (fs ms cs : List Ref) (zs : List ℕ) → xs ++ row_bytes 2 (fs ++ (ms ++ cs)) ++ zs ≡ (xs ++ row_bytes 2 fs) ++ row_bytes 2 ms ++ (row_bytes 2 cs ++ zs)
three_rows xs fs ms cs zs =
    ap (λ (t : List ℕ). xs ++ t ++ zs) (row_bytes_append 2 fs (ms ++ cs) ∙ ap (λ (t : List ℕ). row_bytes 2 fs ++ t) (row_bytes_append 2 ms cs))
    ∙ ap (λ (t : List ℕ). t ++ zs) (sym (append_assoc xs (row_bytes 2 fs) (row_bytes 2 ms ++ row_bytes 2 cs)))
    ∙ ap (λ (t : List ℕ). t ++ zs) (sym (append_assoc (xs ++ row_bytes 2 fs) (row_bytes 2 ms) (row_bytes 2 cs)))
    ∙ append_assoc ((xs ++ row_bytes 2 fs) ++ row_bytes 2 ms) (row_bytes 2 cs) zs

one_row : (x : Ref) → row_bytes 2 (x ∷ []) ≡ ref_bytes 2 x
unfolding row_bytes
one_row x = append-nil (ref_bytes 2 x)

module _ {e : ℕ} {b : List ℕ} {p : ℕ} (h : WholePage e b p) where
  abbrev L : Layout
  L = layout_of e

  abbrev level : ℕ
  level = level_of (page_bytes L b p)

  abbrev row : List Ref
  row = pages_at L b p

  abbrev head : List ℕ
  head = level ∷ length row ∷ []

  abbrev spare : List ℕ
  spare = replicate (3 * (e - length row)) 0

  -- The page around the entries that change.
  split : (fs ms cs : List Ref) → row ≡ fs ++ (ms ++ cs) → page_bytes L b p ≡ (head ++ row_bytes 2 fs) ++ row_bytes 2 ms ++ (row_bytes 2 cs ++ spare)
  unfolding page_of
  split fs ms cs z = h.bytes ∙ ap (λ (t : List Ref). head ++ row_bytes 2 t ++ spare) z ∙ three_rows head fs ms cs spare

  -- The zeros behind its entries.
  spare_bytes : take (3 * (e - length row)) (drop (page_start L p + (2 + 3 * length row)) b) ≡ spare
  unfolding page_bytes page_of
  spare_bytes =
      let k = 2 + 3 * length row in
      let m = 3 * (e - length row) in
      let f = h.few in
      let all : k + m ≡ page_size L = omega (arith, f) in
      sym (ap (take m) (drop-drop k (page_start L p) b)) ∙ sym (drop-take k m (drop (page_start L p) b)) ∙ ap (λ (j : ℕ). drop k (take j (drop (page_start L p) b))) all
      ∙ ap (drop k) h.bytes ∙ drop_at (head ++ row_bytes 2 row) spare k (length-append head (row_bytes 2 row) ∙ omega (arith, length_row_bytes 2 row))

  page_long : (row' : List Ref) → length row' ≤ e → length (row_page e level row') ≡ page_size L
  page_long row' l = length_page_of L (level ∷ length row' ∷ []) row' refl l

  -- ---- another row

  module _ (row' : List Ref) (few : length row' ≤ e) (fit : Fitting 2 row') where
    now_bytes : page_bytes L (with_row e b p row') p ≡ row_page e level row'
    now_bytes = page_stored L b p (row_page e level row') (page_long row' few) h.within

    -- The row is read back,
    pub row_read : pages_at (layout_of e) (with_row e b p row') p ≡ row'
    row_read = ap (refs_of L) now_bytes ∙ refs_page_of L (level ∷ length row' ∷ []) row' refl (omega arith) refl fit

    -- the level stays,
    pub level_kept : level_of (page_bytes (layout_of e) (with_row e b p row') p) ≡ level
    level_kept = ap level_of now_bytes ∙ page_of_level (row_page_head e level row')

    -- the page is whole again,
    pub row_whole : WholePage e (with_row e b p row') p
    row_whole = record {
      within = (let w = h.within in omega (arith, length_store L b p (row_page e level row'), w));
      few = rw row_read few;
      bytes = now_bytes ∙ sym (ap₂ (λ (l : ℕ) (t : List Ref). row_page e l t) level_kept row_read);
    }

    -- and it can have another row.
    pub row_again : (row'' : List Ref) → length row'' ≤ e → with_row e (with_row e b p row') p row'' ≡ with_row e b p row''
    row_again row'' few'' =
        ap (λ (l : ℕ). store L (with_row e b p row') p (row_page e l row'')) level_kept
        ∙ store_again L b p h.within (row_page e level row') (row_page e level row'') (page_long row' few) (page_long row'' few'')

  -- ---- an entry replaced

  module _ (i : ℕ) (inside : i < length row) where
    front_entries : length (take i row) ≡ i
    front_entries = length-take-le i row (omega arith)

    front_long : (fs : List Ref) → length (head ++ row_bytes 2 fs) ≡ 2 + 3 * length fs
    front_long fs = length-append head (row_bytes 2 fs) ∙ omega (arith, length_row_bytes 2 fs)

    -- The entry's bytes are written where it stands.
    pub entry_replaced : (at d q : ℕ) (b' : List ℕ) → at ≡ page_start (layout_of e) p → b' ≡ over b (at + (2 + 3 * i)) (ref_bytes 2 (d, q)) → b' ≡ with_row e b p (set row i (d, q))
    unfolding page_of
    entry_replaced at d q b' z g =
        g
        ∙ over_part L b p h.within (head ++ row_bytes 2 (take i row)) (row_bytes 2 (get_or row i (0, 0) ∷ [])) (row_bytes 2 (drop (suc i) row) ++ spare) (ref_bytes 2 (d, q))
        (split (take i row) (get_or row i (0, 0) ∷ []) (drop (suc i) row) (split_at row i (0, 0) inside))
        (length_ref_bytes 2 (d, q) ∙ sym (ap length (one_row (get_or row i (0, 0))) ∙ length_ref_bytes 2 (get_or row i (0, 0))))
        (at + (2 + 3 * i)) (omega (arith, front_long (take i row), front_entries, z))
        ∙ ap (store L b p)
        (ap (λ (t : List ℕ). (head ++ row_bytes 2 (take i row)) ++ t ++ (row_bytes 2 (drop (suc i) row) ++ spare)) (sym (one_row (d, q)))
        ∙ sym (three_rows head (take i row) ((d, q) ∷ []) (drop (suc i) row) spare)
        ∙ ap₂ (λ (k : ℕ) (t : List Ref). (level ∷ k ∷ []) ++ row_bytes 2 t ++ replicate (3 * (e - k)) 0) (sym (length-set row i (d, q))) (sym (set_split row i (d, q) inside)))

  -- ---- entries taken out

  module _ (from to : ℕ) (order : from ≤ to) (inside : to ≤ length row) where
    abbrev fs : List Ref
    fs = take from row

    abbrev ms : List Ref
    ms = take (to - from) (drop from row)

    abbrev cs : List Ref
    cs = drop to row

    row_is : row ≡ fs ++ (ms ++ cs)
    row_is =
        sym
        (ap (λ (k : ℕ). fs ++ (ms ++ drop k row)) (let z : to ≡ from + (to - from) = omega arith in z)
        ∙ ap (λ (t : List Ref). fs ++ (ms ++ t)) (sym (drop-drop (to - from) from row))
        ∙ ap (λ (t : List Ref). fs ++ t) (take-append-drop (to - from) (drop from row)) ∙ take-append-drop from row)

    la : length fs ≡ from
    la = length-take-le from row (omega arith)

    lm : length ms ≡ to - from
    lm = length-take (to - from) (drop from row) ∙ omega (arith, length-drop from row)

    lc : length cs ≡ length row - to
    lc = length-drop to row

    head_long : (ts : List Ref) → length (head ++ row_bytes 2 ts) ≡ 2 + 3 * length ts
    head_long ts = length-append head (row_bytes 2 ts) ∙ omega (arith, length_row_bytes 2 ts)

    page_is : take (page_size L) (drop (page_start L p) b) ≡ (head ++ row_bytes 2 fs) ++ row_bytes 2 ms ++ (row_bytes 2 cs ++ spare)
    unfolding page_bytes
    page_is = split fs ms cs row_is

    -- The bytes behind those that go.
    tail_bytes : take (3 * (length row - to)) (drop (page_start L p + (2 + 3 * to)) b) ≡ row_bytes 2 cs
    tail_bytes =
        let k = 2 + 3 * to in
        let m = 3 * (length row - to) in
        let f = h.few in
        sym (ap (take m) (drop-drop k (page_start L p) b)) ∙ sym (drop-take k m (drop (page_start L p) b))
        ∙ ap (drop k) (sym (take-take (k + m) (page_size L) (drop (page_start L p) b) (omega (arith, f)))) ∙ drop-take k m (take (page_size L) (drop (page_start L p) b))
        ∙ ap (λ (t : List ℕ). take m (drop k t)) page_is
        ∙ ap (take m) (drop_at ((head ++ row_bytes 2 fs) ++ row_bytes 2 ms) (row_bytes 2 cs ++ spare) k (length-append (head ++ row_bytes 2 fs) (row_bytes 2 ms) ∙ omega (arith, head_long fs, length_row_bytes 2 ms, la, lm)))
        ∙ take_at (row_bytes 2 cs) spare m (length_row_bytes 2 cs ∙ omega (arith, lc))

    abbrev gap : ℕ
    gap = to - from

    left_long : length (without from to row) ≡ length row - gap
    left_long = length-append fs cs ∙ omega (arith, la, lc)

    page_mid : page_bytes L b p ≡ (head ++ row_bytes 2 fs) ++ (row_bytes 2 ms ++ row_bytes 2 cs) ++ spare
    page_mid = split fs ms cs row_is ∙ sym (append_assoc ((head ++ row_bytes 2 fs) ++ row_bytes 2 ms) (row_bytes 2 cs) spare) ∙ ap (λ (t : List ℕ). t ++ spare) (append_assoc (head ++ row_bytes 2 fs) (row_bytes 2 ms) (row_bytes 2 cs))

    -- The page before its count is set.
    abbrev page₂ : List ℕ
    page₂ = (head ++ row_bytes 2 fs) ++ (row_bytes 2 cs ++ replicate (3 * gap) 0) ++ spare

    same_bytes : length (row_bytes 2 cs ++ replicate (3 * gap) 0) ≡ length (row_bytes 2 ms ++ row_bytes 2 cs)
    same_bytes =
        length-append (row_bytes 2 cs) (replicate (3 * gap) 0)
        ∙ omega (arith, length-append (row_bytes 2 ms) (row_bytes 2 cs), length-replicate {A = ℕ} (3 * gap) 0, length_row_bytes 2 ms, lm)

    moved : (at : ℕ) (b₂ : List ℕ) → at ≡ page_start L p → b₂ ≡ over b (at + (2 + 3 * from)) (take (3 * (length row - to)) (drop (at + (2 + 3 * from) + 3 * gap) b) ++ replicate (3 * gap) 0)
        → b₂ ≡ store L b p page₂
    moved at b₂ z g =
        let i = at + (2 + 3 * from) in
        let place : i + 3 * gap ≡ page_start L p + (2 + 3 * to) = omega (arith, z, order) in
        let tail : take (3 * (length row - to)) (drop (i + 3 * gap) b) ≡ row_bytes 2 cs = ap (λ (k : ℕ). take (3 * (length row - to)) (drop k b)) place ∙ tail_bytes in
        g ∙ ap (λ (t : List ℕ). over b i (t ++ replicate (3 * gap) 0)) tail
        ∙ over_part L b p h.within (head ++ row_bytes 2 fs) (row_bytes 2 ms ++ row_bytes 2 cs) spare (row_bytes 2 cs ++ replicate (3 * gap) 0) page_mid same_bytes i
        (omega (arith, head_long fs, la, z))

    long₂ : length page₂ ≡ page_size L
    long₂ =
        length-append ((head ++ row_bytes 2 fs) ++ (row_bytes 2 cs ++ replicate (3 * gap) 0)) spare
        ∙ omega (
          arith,
          length-append (head ++ row_bytes 2 fs) (row_bytes 2 cs ++ replicate (3 * gap) 0),
          length-append (row_bytes 2 cs) (replicate (3 * gap) 0),
          head_long fs,
          length_row_bytes 2 cs,
          length-replicate {A = ℕ} (3 * gap) 0,
          length-replicate {A = ℕ} (3 * (e - length row)) 0,
          la,
          lc,
          (let f = h.few in f),
        )

    abbrev behind : List ℕ
    behind = row_bytes 2 fs ++ (row_bytes 2 cs ++ replicate (3 * gap) 0) ++ spare

    behind_is : behind ≡ row_bytes 2 (without from to row) ++ replicate (3 * (e - (length row - gap))) 0
    behind_is =
        append_assoc (row_bytes 2 fs) (row_bytes 2 cs ++ replicate (3 * gap) 0) spare
        ∙ ap (λ (t : List ℕ). row_bytes 2 fs ++ t) (append_assoc (row_bytes 2 cs) (replicate (3 * gap) 0) spare)
        ∙ sym (append_assoc (row_bytes 2 fs) (row_bytes 2 cs) (replicate (3 * gap) 0 ++ spare))
        ∙ ap₂ (λ (s t : List ℕ). s ++ t) (sym (row_bytes_append 2 fs cs))
        (replicate-append-replicate {A = ℕ} (3 * gap) (3 * (e - length row)) 0
        ∙ ap (λ (k : ℕ). replicate k 0) (let f = h.few in let z : 3 * gap + 3 * (e - length row) ≡ 3 * (e - (length row - gap)) = omega (arith, f) in z))

    entries_out : (at : ℕ) (b₂ : List ℕ) → at ≡ page_start (layout_of e) p
        → b₂ ≡ over b (at + (2 + 3 * from)) (take (3 * (length row - to)) (drop (at + (2 + 3 * from) + 3 * gap) b) ++ replicate (3 * gap) 0)
        → set b₂ (at + 1) (length row - gap) ≡ with_row e b p (without from to row)
    unfolding page_of
    entries_out at b₂ z g =
        let m = moved at b₂ z g in
        over_one b₂ (at + 1) (length row - gap) ∙ ap (λ (t : List ℕ). over t (at + 1) ((length row - gap) ∷ [])) m
        ∙ over_part L (store L b p page₂) p (let w = h.within in omega (arith, w, length_store L b p page₂)) (level ∷ []) (length row ∷ []) behind ((length row - gap) ∷ [])
        (page_stored L b p page₂ long₂ h.within) refl (at + 1) (omega (arith, z))
        ∙ store_again L b p h.within page₂ (level ∷ (length row - gap) ∷ behind) long₂ long₂
        ∙ ap (store L b p)
        (ap (λ (t : List ℕ). level ∷ (length row - gap) ∷ t) behind_is
        ∙ ap (λ (k : ℕ). (level ∷ k ∷ []) ++ row_bytes 2 (without from to row) ++ replicate (3 * (e - k)) 0) (sym left_long))

    module _ {k n : ℕ} (counted : k ≡ count_of (page_bytes L b p)) (wide : n ≡ k) where
      -- The count that was read is the length of the row.
      pub row_count : n ≡ length row
      row_count = wide ∙ counted ∙ sym (length_refs L (page_bytes L b p))

      -- The bytes that are moved stand in the table, and zeros behind them.
      pub close_room : (at : ℕ) → at ≡ page_start (layout_of e) p → at + (2 + 3 * from) + 3 * gap + 3 * (n - to) + 3 * (e - n) ≤ length b
      close_room at z = let w = h.within in let f = h.few in omega (arith, w, f, z, order, inside, row_count)

      pub close_zeros : (at : ℕ) → at ≡ page_start (layout_of e) p → take (3 * (e - n)) (drop (at + (2 + 3 * from) + 3 * gap + 3 * (n - to)) b) ≡ replicate (3 * (e - n)) 0
      close_zeros at z =
          let f = h.few in
          let place : at + (2 + 3 * from) + 3 * gap + 3 * (n - to) ≡ page_start L p + (2 + 3 * length row) = omega (arith, z, order, inside, row_count) in
          ap₂ (λ (i k : ℕ). take (3 * (e - i)) (drop k b)) row_count place ∙ spare_bytes ∙ ap (λ (i : ℕ). replicate (3 * (e - i)) 0) (sym row_count)

      -- The entries behind are moved down, zeros behind them, and the count is set.
      pub entries_closed : (at : ℕ) (b₂ : List ℕ) → at ≡ page_start (layout_of e) p
          → b₂ ≡ over b (at + (2 + 3 * from)) (take (3 * (n - to)) (drop (at + (2 + 3 * from) + 3 * gap) b) ++ replicate (3 * gap) 0)
          → set b₂ (at + 1) (n - gap) ≡ with_row e b p (without from to row)
      entries_closed at b₂ z g = rw row_count (entries_out at b₂ z (rw row_count at g))
