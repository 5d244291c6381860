-- A part of a row is written entry by entry, and the page around it (01, "Pages"). Assumes nothing.
use mathlib.Core.Path.{◌≡◌, refl, sym, ◌∙◌}
use mathlib.Core.List.{List, [], ◌∷◌, ◌++◌, append-nil, zip}
use Prim.Native.Nat.{ℕ, ◌+◌, ◌*◌, ◌-◌, ◌≤◌, ◌<◌}
use native.Mathlib.Omega.{arith}
use native.Mathlib.Numerals.{add-one}
use lib.ListN.{length, get_or, take, set, replicate, length-append}
use lib.Seq.{get_or-take, get_or-drop, slice, slice_empty, length-slice}
use Rattle.leaf_list.proofs.Lists.{all_at}
use Rattle.page_tree.specs.Rows.{All}
use Rattle.page_tree.proofs.RowLaws.{Full, length_zip, place_at, slice_more}
use Rattle.byte_moves.specs.Over.{over}
use Rattle.byte_moves.proofs.OverLaws.{over_none, over_append}
use Rattle.index_table.specs.Layout.{Ref, ref_bytes, row_bytes, page_of, row_page, Fitting}
use Rattle.index_table.proofs.PageRows.{length_row_bytes, row_bytes_append}

-- What holds of a part holds of the element at each of its places.
all_part : {A : Type 0} (P : A → Type 0) (l : List A) (from i to : ℕ) (d : A) → from ≤ i → i < to → to ≤ length l → All P (slice from to l) → P (get_or l i d)
all_part P l from i to d h g k a =
    let e : from + (i - from) ≡ i = omega arith in
    let s : get_or (slice from to l) (i - from) d ≡ get_or l i d = get_or-drop from (take to l) (i - from) d ∙ rw e (get_or-take to l i d g) in
    rw s at (all_at P (slice from to l) (i - from) d (omega (arith, length-slice from to l k)) a)

-- The entries of z from one place up to i stand from `at` on; the next one goes to `next`.
pub record Written (b₀ : List ℕ) (at : ℕ) (z : List Ref) (from i next : ℕ) (b : List ℕ) : Type 0 where
  pub long : length b ≡ length b₀
  pub passed : from ≤ i
  pub place : next ≡ at + 3 * (i - from)
  pub bytes : b ≡ over b₀ at (row_bytes 2 (slice from i z))

-- Nothing is written yet.
pub written_none : (b : List ℕ) (at : ℕ) (z : List Ref) (from : ℕ) → Written b at z from from at b
unfolding row_bytes
written_none b at z from = record { long = refl; passed = omega arith; place = omega arith; bytes = rw (slice_empty from z) (over_none b at) }

-- How long a part is.
pub length_part : (ds ps : List ℕ) → Full ds ps → (from to : ℕ) → to ≤ 319 → length (slice from to (zip ds ps)) ≡ to - from
length_part ds ps full from to h = length-slice from to (zip ds ps) (omega (arith, length_zip ds ps full))

-- The next entry has room.
pub next_room : {b₀ : List ℕ} {at : ℕ} {z : List Ref} {from i next to : ℕ} {b : List ℕ} → Written b₀ at z from i next b → i < to → at + 3 * (to - from) ≤ length b₀ → next + 3 ≤ length b
next_room h l r = omega (arith, h.long, h.place, h.passed)

-- The pointer of an entry of the part fits.
pub pointer_fits_lem : (ds ps : List ℕ) → Full ds ps → (from i to : ℕ) → from ≤ i → i < to → to ≤ 319 → Fitting 2 (slice from to (zip ds ps)) → get_or ps i 0 < 65536
pointer_fits_lem ds ps full from i to h g k f =
    let x : (get_or (zip ds ps) i (0, 0)).1 < 65536 = all_part (λ (x : Ref). x.1 < 65536) (zip ds ps) from i to (0, 0) h g (omega (arith, length_zip ds ps full)) f in
    rw (place_at ds ps full i (omega arith)) at x

-- One entry more.
pub written_more : {b₀ : List ℕ} {at : ℕ} {from i next : ℕ} {b b₁ : List ℕ} (ds ps : List ℕ) → Full ds ps → i < 319 → Written b₀ at (zip ds ps) from i next b
    → length b₁ ≡ length b → b₁ ≡ over b next (ref_bytes 2 (get_or ds i 0, get_or ps i 0)) → Written b₀ at (zip ds ps) from (i + 1) (next + 3) b₁
unfolding row_bytes
written_more {b₀} {at} {from} {i} {next} {b} ds ps full l h same wrote =
    let z : List Ref = zip ds ps in
    let x : Ref = (get_or ds i 0, get_or ps i 0) in
    let k : i < length z = omega (arith, length_zip ds ps full) in
    let n : next ≡ at + length (row_bytes 2 (slice from i z)) = omega (arith, h.place, h.passed, length_row_bytes 2 (slice from i z), length-slice from i z (omega arith)) in
    record {
      long = same ∙ h.long;
      passed = omega (arith, h.passed);
      place = omega (arith, h.place, h.passed);
      bytes = wrote ∙ rw (h.bytes, n, over_append b₀ at (row_bytes 2 (slice from i z)) (ref_bytes 2 x))
          (sym (rw (slice_more from i z (0, 0) h.passed k, place_at ds ps full i l, row_bytes_append 2 (slice from i z) (x ∷ []), append-nil (ref_bytes 2 x))));
    }

-- All entries of the part.
pub written_all : {b₀ : List ℕ} {at : ℕ} {z : List Ref} {from i next to : ℕ} {b : List ℕ} → Written b₀ at z from i next b → i ≤ to → to ≤ i → b ≡ over b₀ at (row_bytes 2 (slice from to z))
written_all {i = i} {to = to} h x y = let e : to ≡ i = omega arith in rw e h.bytes

head_over : (b : List ℕ) (at level n : ℕ) → set (set b at level) (at + 1) n ≡ over b at (level ∷ n ∷ [])
unfolding over
head_over b at level n = rw (add-one at)

-- The page: its head, the row, and zeros.
pub page_over : (b b₁ b₂ : List ℕ) (e at level n : ℕ) (row : List Ref) → length row ≡ n → n ≤ e → b₁ ≡ over (set (set b at level) (at + 1) n) (at + 2) (row_bytes 2 row)
    → b₂ ≡ over b₁ (at + 2 + 3 * n) (replicate (3 * (e - n)) 0) → b₂ ≡ over b at (row_page e level row)
unfolding page_of
page_over b b₁ b₂ e at level n row l h x y =
    let head : List ℕ = level ∷ n ∷ [] in
    let k : at + 2 + 3 * n ≡ at + length (head ++ row_bytes 2 row) = omega (arith, length-append head (row_bytes 2 row), length_row_bytes 2 row) in
    y ∙ rw (x, head_over b at level n, over_append b at head (row_bytes 2 row), k, over_append b at (head ++ row_bytes 2 row) (replicate (3 * (e - n)) 0), l)
