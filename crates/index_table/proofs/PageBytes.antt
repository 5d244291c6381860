-- The bytes of a page within the table: read after a page is stored, and byte by byte (01, "Pages"). Assumes nothing.
use mathlib.Core.Path.{◌≡◌, refl, ap, ◌∙◌}
use mathlib.Core.Bool.{Bool, true, false}
use mathlib.Core.List.{List, []}
use Prim.Native.Nat.{ℕ, suc, ◌+◌, ◌≤◌, ◌<◌}
use native.Mathlib.Omega.{arith}
use native.Mathlib.Nat.{mul-le-mul_right, suc-mul}
use lib.Dec.{ltb}
use lib.ListN.{length, get_or, take, drop, length-take, length-drop, drop_of_length-le}
use lib.Seq.{take-nil, get_or-take, get_or-drop}
use borrow.Author.Tests.{ltb-true, ltb-false}
use Rattle.byte_moves.proofs.OverLaws.{length_over, take_over, read_over, part_behind, part_before}
use Rattle.index_table.specs.Layout.{Layout, page_size, page_start, Within, page_bytes, store}

-- A page ends before the next ones start.
pub pages_apart : (L : Layout) (p q : ℕ) → p < q → page_start L p + page_size L ≤ page_start L q
pages_apart L p q h = omega (arith, mul-le-mul_right {m = suc p} {n = q} (page_size L) (omega arith), suc-mul p (page_size L))

-- Each of the first P pages is within a table of P pages.
pub within_table : (L : Layout) (P p : ℕ) (b : List ℕ) → page_start L P ≤ length b → p < P → Within L b p
within_table L P p b h g = omega (arith, pages_apart L p P g)

-- A page within the table has all its bytes.
pub length_page_bytes : (L : Layout) (b : List ℕ) (p : ℕ) → Within L b p → length (page_bytes L b p) ≡ page_size L
unfolding page_bytes
length_page_bytes L b p h = length-take (page_size L) (drop (page_start L p) b) ∙ omega (arith, length-drop (page_start L p) b)

-- A page behind the table's end has no bytes.
pub page_beyond : (L : Layout) (b : List ℕ) (p : ℕ) → length b ≤ page_start L p → page_bytes L b p ≡ []
unfolding page_bytes
page_beyond L b p h = ap (take (page_size L)) (drop_of_length-le b h) ∙ take-nil (page_size L)

-- A byte of a page is the table's byte there.
pub page_byte : (L : Layout) (b : List ℕ) (p k : ℕ) → k < page_size L → get_or (page_bytes L b p) k 0 ≡ get_or b (page_start L p + k) 0
unfolding page_bytes
page_byte L b p k h = get_or-take (page_size L) (drop (page_start L p) b) k 0 h ∙ get_or-drop (page_start L p) b k 0

-- ---- a page is stored

module _ (L : Layout) (b : List ℕ) (p : ℕ) (page : List ℕ) where
  -- The table's length stays.
  pub length_store : length (store L b p page) ≡ length b
  length_store = length_over b (page_start L p) page

  -- What stands before the pages stays.
  pub front_store : take L.front (store L b p page) ≡ take L.front b
  front_store = take_over L.front b (page_start L p) page (omega arith)

  -- The pages within the table stay within it.
  pub within_store : (q : ℕ) → Within L b q → Within L (store L b p page) q
  within_store q h = omega (arith, length_store)

  module _ (sized : length page ≡ page_size L) where
    -- The page is read back.
    pub page_stored : Within L b p → page_bytes L (store L b p page) p ≡ page
    unfolding page_bytes
    page_stored h = read_over b (page_start L p) (page_size L) page sized h

    -- Every other page stays.
    pub other_page : (q : ℕ) → (p ≡ q → ⊥) → page_bytes L (store L b p page) q ≡ page_bytes L b q
    unfolding page_bytes
    other_page q n = go (ltb p q) refl
      where
        go : (t : Bool) → ltb p q ≡ t → take (page_size L) (drop (page_start L q) (store L b p page)) ≡ take (page_size L) (drop (page_start L q) b)
        go true e = part_behind b (page_start L p) (page_start L q) (page_size L) page (omega (arith, pages_apart L p q (ltb-true p q e)))
        go false e =
            let k : q < p = let l = ltb-false p q e in omega arith in
            part_before b (page_start L p) (page_start L q) (page_size L) page (omega (arith, pages_apart L q p k))
