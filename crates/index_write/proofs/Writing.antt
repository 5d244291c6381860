-- What the stores of the writers are, one step at a time. Assumes nothing.
use mathlib.Core.Path.{◌≡◌, refl, ap₂, ◌∙◌}
use mathlib.Core.List.{List, [], ◌∷◌}
use Prim.Native.Nat.{ℕ, ◌+◌, ◌≤◌, ◌<◌, ◌/◌, ◌%◌}
use native.Mathlib.Omega.{arith}
use native.Mathlib.Numerals.{add-one, add-two}
use lib.ListN.{length, set, replicate}
use Rattle.std.specs.List.{FoldsTo}
use Rattle.byte_moves.specs.Over.{over}
use Rattle.index_table.specs.Bytes.{bytes_of}
use Rattle.index_table.specs.Layout.{Layout, page_bytes, count_of, ref_bytes}
use Rattle.index_table.specs.Header.{header_bytes}
use Rattle.index_table.specs.Pages.{pages_at, sum_to, used_pages}
use Rattle.index_table.proofs.NumberLaws.{bytes_two}
use Rattle.index_table.proofs.PageRows.{length_refs}

-- The three bytes of an entry.
pub ref_over : (b : List ℕ) (at d p : ℕ) → p < 65536 → set (set (set b at d) (at + 1) (p / 256)) (at + 2) (p % 256) ≡ over b at (ref_bytes 2 (d, p))
unfolding over ref_bytes
ref_over b at d p h = rw (bytes_two p h, add-one at, add-two at)

-- A header, number by number.
pub header_over : (b b₁ b₂ b₃ b₄ : List ℕ) (w e p root held : ℕ) → b₁ ≡ over (set (set b 0 w) 1 e) 2 (bytes_of 2 p) → b₂ ≡ over b₁ 4 (bytes_of 2 root) → b₃ ≡ over b₂ 6 (bytes_of 2 held)
    → b₄ ≡ over b₃ 8 (replicate 8 0) → b₄ ≡ over b 0 (header_bytes w e p root held)
unfolding over bytes_of header_bytes
header_over b b₁ b₂ b₃ b₄ w e p root held x y z t = t ∙ rw (z, y, x)

-- What is filled by calls that each give 0.
pub zeros_filled : {F : Type 0} (step : F → ℕ → F → Type 0) (f : F) (bytes : List ℕ) (last : F) → FoldsTo step f bytes last → ((f : F) (x : ℕ) (g : F) → step f x g → x ≡ 0)
    → bytes ≡ replicate (length bytes) 0
zeros_filled step f [] last h zero = refl
zeros_filled step f (x ∷ bytes) last h zero = ap₂ (λ (y : ℕ) (ys : List ℕ). y ∷ ys) (zero _ x _ h.1) (zeros_filled step h.0 bytes last h.2 zero)

-- The pages before page i are all in use; so is page i.
pub all_used_more : (L : Layout) (b : List ℕ) (i : ℕ) → i ≤ used_pages i (pages_at L b) → (count_of (page_bytes L b i) ≡ 0 → ⊥) → i + 1 ≤ used_pages (i + 1) (pages_at L b)
unfolding sum_to
all_used_more L b i h n = rw (add-one i) (omega (arith, length_refs L (page_bytes L b i), n))

-- They are not all in use where one of all pages is free.
pub all_used_end : (L : Layout) (b : List ℕ) (i P : ℕ) → i ≤ P → P ≤ i → i ≤ used_pages i (pages_at L b) → used_pages P (pages_at L b) < P → ⊥
all_used_end L b i P h g u f = let e : i ≡ P = omega arith in let v : P ≤ used_pages P (pages_at L b) = rw e at u in omega arith
