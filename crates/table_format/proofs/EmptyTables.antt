-- The tables that format makes. Assumes nothing.
use mathlib.Core.Path.{◌≡◌, refl, sym, ap, ◌∙◌}
use mathlib.Core.List.{List, [], ◌∷◌, ◌++◌, append_assoc, append-nil}
use Prim.Native.Nat.{ℕ, zero, suc, ◌+◌, ◌*◌, ◌-◌, ◌≤◌, ◌<◌}
use native.Mathlib.Omega.{arith}
use native.Mathlib.Nat.{suc-mul}
use native.Mathlib.Numerals.{add-one}
use lib.ListN.{length, take, drop, set, replicate, length-append, length-replicate, replicate-append-replicate, drop_of_length-le}
use lib.Seq.{sets-eq, take-suc-set, take_all}
use Rattle.byte_moves.specs.Over.{over}
use Rattle.byte_moves.proofs.OverLaws.{over_append, over_one}
use Rattle.index_table.specs.Bytes.{bytes_of}
use Rattle.index_table.specs.Layout.{layout_of, page_size, row_page, page_of, row_bytes, ref_bytes}
use Rattle.index_table.specs.Header.{header_bytes}
use Rattle.index_write.proofs.HeaderLaws.{length_header}
use Rattle.table_format.specs.Format.{empty_table, EmptyPre}

-- A list written over a whole one of its length.
pub over_whole : (l vs : List ℕ) → length vs ≡ length l → over l 0 vs ≡ vs
unfolding over
over_whole l vs e =
    sets-eq vs l 0 (omega arith) ∙ ap (λ (r : List ℕ). vs ++ r) (drop_of_length-le l (let h : length l ≤ 0 + length vs = omega arith in h)) ∙ append-nil vs

drop_replicate : (n k : ℕ) → k ≤ n → drop {A = ℕ} k (replicate n 0) ≡ replicate (n - k) 0
drop_replicate n zero h =
    let e : n ≡ n - 0 = omega arith in
    ap (λ (m : ℕ). replicate m 0) e
drop_replicate zero (suc k) h = absurd (omega arith)
drop_replicate (suc n) (suc k) h =
    let e : n - k ≡ suc n - suc k = omega arith in
    drop_replicate n k (omega arith) ∙ ap (λ (m : ℕ). replicate m 0) e

-- A list written over zeros stands before the rest of them.
pub over_zeros : (n : ℕ) (vs : List ℕ) → length vs ≤ n → over (replicate n 0) 0 vs ≡ vs ++ replicate (n - length vs) 0
unfolding over
over_zeros n vs h =
    let e : 0 + length vs ≡ length vs = omega arith in
    sets-eq vs (replicate n 0) 0 (omega (arith, length-replicate {A = ℕ} n 0)) ∙ ap (λ (r : List ℕ). vs ++ r) (ap (λ (k : ℕ). drop k (replicate n 0)) e ∙ drop_replicate n (length vs) h)

-- The first page of an empty herd: its level, its count, the entry (0, NIL), and zeros.
first_page : (e : ℕ) → row_page e 0 ((0, 65535) ∷ []) ≡ (0 ∷ 1 ∷ 0 ∷ 255 ∷ 255 ∷ []) ++ replicate (3 * (e - 1)) 0
unfolding page_of row_bytes ref_bytes bytes_of
first_page e = refl

-- Zeros, then the header, then the five bytes of the first page that are not zero: the empty table.
pub empty_made : (w e p : ℕ) (l : List ℕ) → EmptyPre e p l
    → over (over (over l 0 (replicate (length l) 0)) 0 (header_bytes w e p 0 0)) 16 (0 ∷ 1 ∷ 0 ∷ 255 ∷ 255 ∷ []) ≡ empty_table w e p
unfolding empty_table
empty_made w e p l pre =
    ap (λ (z : List ℕ). over (over z 0 header) 16 page) (over_whole l (replicate (length l) 0) (length-replicate {A = ℕ} (length l) 0))
    ∙ ap (λ (k : ℕ). over (over zeros 0 header) k page) (sym (let h : 0 + length header ≡ 16 = omega (arith, length_header w e p 0 0) in h))
    ∙ over_append zeros 0 header page
    ∙ over_zeros (length l) (header ++ page) (omega (arith, length-append header page, length_header w e p 0 0, long, pre.table, pre.entries))
    ∙ append_assoc header page (replicate (length l - length (header ++ page)) 0)
    ∙ ap (λ (r : List ℕ). header ++ r) (ap (λ (k : ℕ). page ++ replicate k 0) rest ∙ ap (λ (r : List ℕ). page ++ r) (sym (replicate-append-replicate {A = ℕ} (3 * (e - 1)) ((p - 1) * page_size (layout_of e)) 0))
    ∙ sym (append_assoc page (replicate (3 * (e - 1)) 0) (replicate ((p - 1) * page_size (layout_of e)) 0))
    ∙ ap (λ (r : List ℕ). r ++ replicate ((p - 1) * page_size (layout_of e)) 0) (sym (first_page e)))
    ∙ sym (append_assoc header (row_page e 0 ((0, 65535) ∷ [])) (replicate ((p - 1) * page_size (layout_of e)) 0))
  where
    header : List ℕ
    header = header_bytes w e p 0 0

    page : List ℕ
    page = 0 ∷ 1 ∷ 0 ∷ 255 ∷ 255 ∷ []

    zeros : List ℕ
    zeros = replicate (length l) 0

    long : p * page_size (layout_of e) ≡ (p - 1) * page_size (layout_of e) + page_size (layout_of e)
    long =
        let s : p ≡ suc (p - 1) = omega (arith, pre.pages) in
        ap (λ (k : ℕ). k * page_size (layout_of e)) s ∙ suc-mul (p - 1) (page_size (layout_of e))

    rest : length l - length (header ++ page) ≡ 3 * (e - 1) + (p - 1) * page_size (layout_of e)
    rest = omega (arith, length-append header page, length_header w e p 0 0, long, pre.table, pre.entries)

-- One place more is zero.
pub zeros_more : (l : List ℕ) (i : ℕ) → i < length l → take i l ≡ replicate i 0 → take (i + 1) (set l i 0) ≡ replicate (i + 1) 0
zeros_more l i h e =
    ap (λ (n : ℕ). take n (set l i 0)) (add-one i) ∙ take-suc-set l i 0 h ∙ ap (λ (r : List ℕ). r ++ (0 ∷ [])) e ∙ replicate-append-replicate {A = ℕ} i 1 0

pub zeros_all : (l : List ℕ) (i n : ℕ) → n ≤ i → i ≤ length l → length l ≡ n → take i l ≡ replicate i 0 → l ≡ replicate n 0
zeros_all l i n h g k e =
    let z : i ≡ n = omega arith in
    sym (take_all i l (omega arith)) ∙ e ∙ ap (λ (m : ℕ). replicate m 0) z

-- The bytes that make_empty stores one by one, as one list.
pub three_writes : (l : List ℕ) → over (set (set l 16 0) 17 1) 18 (ref_bytes 2 (0, 65535)) ≡ over l 16 (0 ∷ 1 ∷ 0 ∷ 255 ∷ 255 ∷ [])
unfolding ref_bytes bytes_of
three_writes l =
    ap (λ (m : List ℕ). over m 18 (0 ∷ 255 ∷ 255 ∷ [])) (over_one (set l 16 0) 17 1 ∙ ap (λ (m : List ℕ). over m 17 (1 ∷ [])) (over_one l 16 0) ∙ over_append l 16 (0 ∷ []) (1 ∷ []))
    ∙ over_append l 16 (0 ∷ 1 ∷ []) (0 ∷ 255 ∷ 255 ∷ [])

-- Step by step: the table after each write, and in the end the empty table.
pub made : (w e p : ℕ) (l l₁ l₂ l₃ : List ℕ) → EmptyPre e p l → l₁ ≡ over l 0 (replicate (length l) 0) → l₂ ≡ over l₁ 0 (header_bytes w e p 0 0)
    → l₃ ≡ over (set (set l₂ 16 0) 17 1) 18 (ref_bytes 2 (0, 65535)) → l₃ ≡ empty_table w e p
made w e p l l₁ l₂ l₃ pre e₁ e₂ e₃ =
    e₃ ∙ three_writes l₂ ∙ ap (λ (m : List ℕ). over m 16 (0 ∷ 1 ∷ 0 ∷ 255 ∷ 255 ∷ [])) (e₂ ∙ ap (λ (m : List ℕ). over m 0 (header_bytes w e p 0 0)) e₁) ∙ empty_made w e p l pre
