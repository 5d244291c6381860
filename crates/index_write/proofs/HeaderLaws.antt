-- The header's numbers after it is written, and after pages are stored (01, "Pages"). Assumes nothing.
use mathlib.Core.Path.{◌≡◌, refl, sym, ap, ap₂, ◌∙◌}
use mathlib.Core.List.{List, [], ◌∷◌}
use Prim.Native.Nat.{ℕ, suc, ◌+◌, ◌*◌, ◌≤◌, ◌<◌, ◌/◌, ◌%◌}
use native.Mathlib.Omega.{arith}
use lib.ListN.{length, get_or, take, drop, set, replicate}
use lib.Seq.{get_or-take, sets, set-get_or}
use Rattle.std.proofs.lemmas.List.{drop-take}
use Rattle.byte_moves.specs.Over.{over}
use Rattle.byte_moves.proofs.OverLaws.{read_over, part_behind, get_d_over, get_d_over_behind, get_d_over_before}
use Rattle.index_table.specs.Bytes.{bytes_of}
use Rattle.index_table.specs.Layout.{Layout, layout_of, page_size, page_start, page_bytes, store}
use Rattle.index_table.specs.Header.{word_at, width_of, entries_of, pages_of, root_of, held_of, spare_of, header_bytes, with_root, with_held, HeaderFrom}
use Rattle.index_table.proofs.NumberLaws.{length_bytes, bytes_two, Bytes}
use Rattle.index_table.proofs.PageBytes.{front_store}

abbrev word : ℕ → ℕ → ℕ
word x y = x * 256 + y

-- ---- what stands before the pages stays

module _ (b b' : List ℕ) (front : take 16 b' ≡ take 16 b) where
  byte : (k : ℕ) → k < 16 → get_or b' k 0 ≡ get_or b k 0
  byte k h = sym (get_or-take 16 b' k 0 h) ∙ ap (λ (l : List ℕ). get_or l k 0) front ∙ get_or-take 16 b k 0 h

  -- The first 16 bytes are the header.
  pub front_header : HeaderFrom b b' (root_of b) (held_of b)
  front_header = record {
    width = byte 0 (omega arith);
    entries = byte 1 (omega arith);
    pages = ap₂ word (byte 2 (omega arith)) (byte 3 (omega arith));
    root = ap₂ word (byte 4 (omega arith)) (byte 5 (omega arith));
    held = ap₂ word (byte 6 (omega arith)) (byte 7 (omega arith));
    spare = sym (drop-take 8 8 b') ∙ ap (drop 8) front ∙ drop-take 8 8 b;
  }

  -- The root that is there, written again.
  pub root_kept : Bytes b → with_root b' (root_of b) ≡ b'
  unfolding over
  root_kept small =
      let high : root_of b / 256 ≡ get_or b' 4 0 = omega (arith, byte 4 (omega arith), small 4, small 5) in
      let low : root_of b % 256 ≡ get_or b' 5 0 = omega (arith, byte 5 (omega arith), small 4, small 5) in
      ap (sets b' 4) (bytes_two (root_of b) (omega (arith, small 4, small 5)) ∙ ap₂ (λ (x y : ℕ). x ∷ y ∷ []) high low)
      ∙ ap (λ (l : List ℕ). set l 5 (get_or b' 5 0)) (set-get_or b' 4 0)
      ∙ set-get_or b' 5 0

-- A page that is stored leaves the header.
pub store_header : (e : ℕ) (b : List ℕ) (p : ℕ) (page : List ℕ) → HeaderFrom b (store (layout_of e) b p page) (root_of b) (held_of b)
store_header e b p page = front_header b (store (layout_of e) b p page) (front_store (layout_of e) b p page)

-- ---- a number of the header is written

-- The bytes of a page stay where something is written before the pages.
pub page_behind : (L : Layout) (b : List ℕ) (i : ℕ) (bytes : List ℕ) (p : ℕ) → i + length bytes ≤ L.front → page_bytes L (over b i bytes) p ≡ page_bytes L b p
unfolding page_bytes
page_behind L b i bytes p h = part_behind b i (page_start L p) (page_size L) bytes (omega arith)

module _ (b : List ℕ) (n : ℕ) (fits : n < 65536) (long : 16 ≤ length b) where
  -- The number that is written is read back.
  word_back : (i : ℕ) → i + 2 ≤ length b → word_at (over b i (bytes_of 2 n)) i ≡ n
  word_back i h =
      let z : i + 0 ≡ i = omega arith in
      let o : i + 1 ≡ suc i = omega arith in
      rw (bytes_two n fits)
      (ap₂ word (rw z at (get_d_over b i 0 (n / 256 ∷ n % 256 ∷ []) 0 h (omega arith))) (rw o at (get_d_over b i 1 (n / 256 ∷ n % 256 ∷ []) 0 h (omega arith))) ∙ omega arith)

  before : (i k : ℕ) → k < i → get_or (over b i (bytes_of 2 n)) k 0 ≡ get_or b k 0
  before i k h = get_d_over_before b i k (bytes_of 2 n) 0 h

  behind : (i k : ℕ) → i + 2 ≤ k → get_or (over b i (bytes_of 2 n)) k 0 ≡ get_or b k 0
  behind i k h = get_d_over_behind b i k (bytes_of 2 n) 0 (omega (arith, length_bytes 2 n))

  spare_behind : (i : ℕ) → i + 2 ≤ 8 → spare_of (over b i (bytes_of 2 n)) ≡ spare_of b
  spare_behind i h = part_behind b i 8 8 (bytes_of 2 n) (omega (arith, length_bytes 2 n))

  -- Another root.
  pub root_header : HeaderFrom b (with_root b n) n (held_of b)
  root_header = record {
    width = before 4 0 (omega arith);
    entries = before 4 1 (omega arith);
    pages = ap₂ word (before 4 2 (omega arith)) (before 4 3 (omega arith));
    root = word_back 4 (omega arith);
    held = ap₂ word (behind 4 6 (omega arith)) (behind 4 7 (omega arith));
    spare = spare_behind 4 (omega arith);
  }

  -- Another number of records held.
  pub held_header : HeaderFrom b (with_held b n) (root_of b) n
  held_header = record {
    width = before 6 0 (omega arith);
    entries = before 6 1 (omega arith);
    pages = ap₂ word (before 6 2 (omega arith)) (before 6 3 (omega arith));
    root = ap₂ word (before 6 4 (omega arith)) (before 6 5 (omega arith));
    held = word_back 6 (omega arith);
    spare = spare_behind 6 (omega arith);
  }

  -- The pages stay under another root,
  pub root_pages : (e p : ℕ) → page_bytes (layout_of e) (with_root b n) p ≡ page_bytes (layout_of e) b p
  root_pages e p = page_behind (layout_of e) b 4 (bytes_of 2 n) p (omega (arith, length_bytes 2 n))

  -- and under another number of records held.
  pub held_pages : (e p : ℕ) → page_bytes (layout_of e) (with_held b n) p ≡ page_bytes (layout_of e) b p
  held_pages e p = page_behind (layout_of e) b 6 (bytes_of 2 n) p (omega (arith, length_bytes 2 n))

-- ---- a whole header

-- A header has 16 bytes.
pub length_header : (w e p root held : ℕ) → length (header_bytes w e p root held) ≡ 16
unfolding header_bytes bytes_of
length_header w e p root held = refl

-- The numbers of a header that is written over the first bytes.
pub record HeaderIs (w e p r h : ℕ) (b : List ℕ) : Type 0 where
  pub width : width_of b ≡ w
  pub entries : entries_of b ≡ e
  pub pages : pages_of b ≡ p
  pub root : root_of b ≡ r
  pub held : held_of b ≡ h
  pub spare : spare_of b ≡ replicate 8 0

module _ (w e p root held : ℕ) (b : List ℕ) (long : 16 ≤ length b) (pages_fit : p < 65536) (root_fits : root < 65536) (held_Fits : held < 65536) where
  header_bytes_are : header_bytes w e p root held ≡ w ∷ e ∷ p / 256 ∷ p % 256 ∷ root / 256 ∷ root % 256 ∷ held / 256 ∷ held % 256 ∷ replicate 8 0
  unfolding header_bytes
  header_bytes_are = rw (bytes_two p pages_fit, bytes_two root root_fits, bytes_two held held_Fits)

  at : (k : ℕ) → k < 16 → get_or (over b 0 (header_bytes w e p root held)) k 0 ≡ get_or (header_bytes w e p root held) k 0
  at k h =
      let z : 0 + k ≡ k = omega arith in
      let l = length_header w e p root held in
      rw z at (get_d_over b 0 k (header_bytes w e p root held) 0 (omega arith) (omega arith))

  read : (k : ℕ) → k < 16
      → get_or (over b 0 (header_bytes w e p root held)) k 0 ≡ get_or (w ∷ e ∷ p / 256 ∷ p % 256 ∷ root / 256 ∷ root % 256 ∷ held / 256 ∷ held % 256 ∷ replicate 8 0) k 0
  read k h = at k h ∙ ap (λ (l : List ℕ). get_or l k 0) header_bytes_are

  -- A header that is written is read back.
  pub header_written : HeaderIs w e p root held (over b 0 (header_bytes w e p root held))
  header_written = record {
    width = read 0 (omega arith);
    entries = read 1 (omega arith);
    pages = ap₂ word (read 2 (omega arith)) (read 3 (omega arith)) ∙ omega arith;
    root = ap₂ word (read 4 (omega arith)) (read 5 (omega arith)) ∙ omega arith;
    held = ap₂ word (read 6 (omega arith)) (read 7 (omega arith)) ∙ omega arith;
    spare = sym (drop-take 8 8 (over b 0 (header_bytes w e p root held))) ∙ ap (drop 8) (read_over b 0 16 (header_bytes w e p root held) (length_header w e p root held) (omega arith) ∙ header_bytes_are);
  }
