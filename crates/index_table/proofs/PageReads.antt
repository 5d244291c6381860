-- What the readers of a page find in the table's bytes, as they are laid out today (01, "Pages"). Assumes nothing.
use mathlib.Core.Path.{◌≡◌, sym, ap, ap₂, ◌∙◌}
use mathlib.Core.List.{List}
use Prim.Native.Nat.{ℕ, ◌+◌, ◌*◌, ◌≤◌, ◌<◌}
use native.Mathlib.Omega.{arith}
use native.Mathlib.Nat.{mul-le-mul_right, mul-le-mul_left}
use lib.ListN.{length, get_or, drop, length-drop}
use lib.Seq.{get_or-drop}
use Rattle.index_table.specs.Layout.{layout_of, page_start, Within, page_bytes, level_of, count_of, first_ref, ref_at}
use Rattle.index_table.proofs.NumberLaws.{number_two}
use Rattle.index_table.proofs.PageBytes.{length_page_bytes, page_byte}

-- All pages together fit the address.
pub pages_bound : (e p : ℕ) → e ≤ 255 → p ≤ 65535 → p * (2 + 3 * e) ≤ 65535 * 767
pages_bound e p h g = omega (arith, mul-le-mul_right {m = p} {n = 65535} (2 + 3 * e) g, mul-le-mul_left {m = 2 + 3 * e} {n = 767} 65535 (omega arith))

-- The first byte is the level.
pub read_level : (e : ℕ) (b : List ℕ) (p at : ℕ) → at ≡ page_start (layout_of e) p → get_or b at 0 ≡ level_of (page_bytes (layout_of e) b p)
read_level e b p at h = sym (page_byte (layout_of e) b p 0 (omega arith) ∙ ap (λ (k : ℕ). get_or b k 0) (let z : page_start (layout_of e) p + 0 ≡ at = omega arith in z))

-- The second byte is the count.
pub read_count : (e : ℕ) (b : List ℕ) (p at : ℕ) → at ≡ page_start (layout_of e) p → get_or b (at + 1) 0 ≡ count_of (page_bytes (layout_of e) b p)
read_count e b p at h = sym (page_byte (layout_of e) b p 1 (omega arith) ∙ ap (λ (k : ℕ). get_or b k 0) (let z : page_start (layout_of e) p + 1 ≡ at + 1 = omega arith in z))

-- Entry i.
module _ (e : ℕ) (b : List ℕ) (p i at : ℕ) (place : at ≡ page_start (layout_of e) p) (within : Within (layout_of e) b p) (few : i < e) where
  byte : (k : ℕ) → k < 3 → get_or (drop (2 + 3 * i) (page_bytes (layout_of e) b p)) k 0 ≡ get_or b (at + (2 + 3 * i) + k) 0
  byte k h =
      get_or-drop (2 + 3 * i) (page_bytes (layout_of e) b p) k 0 ∙ page_byte (layout_of e) b p (2 + 3 * i + k) (omega arith)
      ∙ ap (λ (n : ℕ). get_or b n 0) (let z : page_start (layout_of e) p + (2 + 3 * i + k) ≡ at + (2 + 3 * i) + k = omega arith in z)

  -- An entry's first byte is its depth.
  pub read_depth : get_or b (at + (2 + 3 * i)) 0 ≡ (ref_at (layout_of e) (page_bytes (layout_of e) b p) i).0
  unfolding ref_at first_ref
  read_depth = sym (byte 0 (omega arith) ∙ ap (λ (n : ℕ). get_or b n 0) (let z : at + (2 + 3 * i) + 0 ≡ at + (2 + 3 * i) = omega arith in z))

  -- Its next two bytes are its pointer.
  pub read_pointer : get_or b (at + (2 + 3 * i) + 1) 0 * 256 + get_or b (at + (2 + 3 * i) + 2) 0 ≡ (ref_at (layout_of e) (page_bytes (layout_of e) b p) i).1
  unfolding ref_at first_ref
  read_pointer =
      let s : List ℕ = drop (2 + 3 * i) (page_bytes (layout_of e) b p) in
      let n : 2 ≤ length (drop 1 s) = omega (arith, length-drop 1 s, length-drop (2 + 3 * i) (page_bytes (layout_of e) b p), length_page_bytes (layout_of e) b p within) in
      sym (number_two (drop 1 s) n ∙ ap₂ (λ (x y : ℕ). x * 256 + y) (get_or-drop 1 s 0 0 ∙ byte 1 (omega arith)) (get_or-drop 1 s 1 0 ∙ byte 2 (omega arith)))
