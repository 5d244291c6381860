-- A row that is stored in a page: what is read below it, and that it is sound (01, "Pages"). Assumes nothing.
use mathlib.Core.Path.{◌≡◌, refl, ap, ap₂, ◌∙◌}
use mathlib.Core.List.{List, [], ◌∷◌, map}
use Prim.Native.Nat.{ℕ, zero, suc, ◌+◌, ◌*◌, ◌-◌, ◌≤◌, ◌<◌}
use native.Mathlib.Omega.{arith}
use lib.ListN.{length, get_or, drop, replicate}
use Rattle.page_tree.specs.Rows.{All, Closed}
use Rattle.index_table.specs.Bytes.{AllZero, table}
use Rattle.index_table.specs.Layout.{Layout, layout_of, Ref, entry_size, page_size, Within, page_bytes, level_of, count_of, ref_at, refs_of, page_of, Fitting, store}
use Rattle.index_table.specs.Pages.{pages_at, node_at, same, met, met_all}
use Rattle.index_table.specs.Soundness.{SoundBelow, Cleared}
use Rattle.index_table.proofs.PageBytes.{page_stored}
use Rattle.index_table.proofs.PageRows.{length_page_of, page_of_head, page_of_rest}
use Rattle.index_table.proofs.Frames.{stored_refs, store_apart_row}

-- ---- zeros

-- Zeros are all zero.
pub zeros_all : (n : ℕ) → AllZero (replicate n 0)
zeros_all zero = tt
zeros_all (suc n) = (refl, zeros_all n)

-- Bytes that are all zero are so many zeros.
pub all_zeros : (l : List ℕ) → AllZero l → l ≡ replicate (length l) 0
all_zeros [] h = refl
all_zeros (x ∷ l) h = ap₂ (λ (y : ℕ) (r : List ℕ). y ∷ r) h.0 (all_zeros l h.1)

zeros_drop : (k n : ℕ) → AllZero (drop k (replicate n 0))
zeros_drop zero n = zeros_all n
zeros_drop (suc k) zero = tt
zeros_drop (suc k) (suc n) = zeros_drop k n

zeros_count : (n : ℕ) → count_of (replicate n 0) ≡ 0
zeros_count zero = refl
zeros_count (suc zero) = refl
zeros_count (suc (suc n)) = refl

-- A page of zeros has no entries.
pub zeros_refs : (L : Layout) (n : ℕ) → refs_of L (replicate n 0) ≡ []
unfolding refs_of table
zeros_refs L n = ap (λ (k : ℕ). table (ref_at L (replicate n 0)) 0 k) (zeros_count n)

-- A page of zeros is cleared.
pub zeros_cleared : (L : Layout) (n : ℕ) → Cleared L (replicate n 0)
zeros_cleared L n = record { free = λ h. zeros_all n; unused = zeros_drop (L.head + entry_size L * count_of (replicate n 0)) n }

-- ---- a row in a page

-- The head of a page says its level and how long its row is.
pub record HeadOf (L : Layout) (n : ℕ) (row : List Ref) (head : List ℕ) : Type 0 where
  pub long : length head ≡ L.head
  pub two : 1 < L.head
  pub level : get_or head 0 0 ≡ n
  pub count : get_or head 1 0 ≡ length row

-- The head that a row's page has.
pub row_page_head : (e level : ℕ) (row : List Ref) → HeadOf (layout_of e) level row (level ∷ length row ∷ [])
row_page_head e level row = record { long = refl; two = omega arith; level = refl; count = refl }

module _ {L : Layout} {n : ℕ} {row : List Ref} {head : List ℕ} (h : HeadOf L n row head) where
  -- Its level is read back.
  pub page_of_level : level_of (page_of L head row) ≡ n
  page_of_level = page_of_head L head row h.long 0 (omega (arith, h.two)) ∙ h.level

  -- Its count is the length of the row.
  pub page_of_count : count_of (page_of L head row) ≡ length row
  page_of_count = page_of_head L head row h.long 1 h.two ∙ h.count

  -- Its unused entries are all zero.
  pub page_of_cleared : 1 ≤ length row → Cleared L (page_of L head row)
  page_of_cleared some = record {
    free = λ z. absurd (omega (arith, page_of_count));
    unused = rw (page_of_count, page_of_rest L head row h.long) (zeros_all (entry_size L * (L.entries - length row)));
  }

-- A row is stored in a page that is not met below it.
module _ (L : Layout) (P n : ℕ) (b : List ℕ) (p : ℕ) (row : List Ref) (head : List ℕ) (heads : HeadOf L n row head) (few : length row ≤ L.entries) (fit : Fitting L.pointer row)
    (within : Within L b p) (apart : met_all n (pages_at L b) row p ≡ 0) where
  abbrev after : List ℕ
  after = store L b p (page_of L head row)

  sized : length (page_of L head row) ≡ page_size L
  sized = length_page_of L head row heads.long few

  bytes : page_bytes L after p ≡ page_of L head row
  bytes = page_stored L b p (page_of L head row) sized within

  refs : pages_at L after p ≡ row
  refs = stored_refs L b p head row heads.long heads.two heads.count few fit within

  -- What is read below an entry that points at the page.
  pub stored_node : (nil c : ℕ) → node_at nil (suc n) (pages_at L after) (c, p) ≡ map (node_at nil n (pages_at L b)) row
  unfolding node_at
  stored_node nil c = ap (map (node_at nil n (pages_at L after))) refs ∙ (store_apart_row L b p (page_of L head row) sized n row apart).nodes nil

  -- What is met below such an entry: the page, and what is met below the row.
  pub stored_meets : (c q : ℕ) → met (suc n) (pages_at L after) (c, p) q ≡ same p q + met_all n (pages_at L b) row q
  unfolding met
  stored_meets c q = ap (λ (l : List Ref). same p q + met_all n (pages_at L after) l q) refs ∙ ap (λ (k : ℕ). same p q + k) ((store_apart_row L b p (page_of L head row) sized n row apart).meets q)

  -- A closed row of sound entries is a sound page.
  pub stored_sound : (c : ℕ) → p < P → 1 ≤ length row → Closed (λ (y : Ref). y.0) c row → All (SoundBelow L P n b) row → SoundBelow L P (suc n) after (c, p)
  stored_sound c below some closed sound = (
    record { number = below; level = rw bytes (page_of_level heads); some = rw refs some; few = rw refs few },
    rw refs closed,
    rw refs ((store_apart_row L b p (page_of L head row) sized n row apart).sound P sound),
  )
