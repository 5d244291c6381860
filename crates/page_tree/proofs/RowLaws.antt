-- The places of a row, and what storing to them does to its entries. Assumes nothing.
use mathlib.Core.Path.{◌≡◌, refl, sym, ap, ◌∙◌}
use mathlib.Core.List.{List, [], ◌∷◌, ◌++◌, map, zip, zip_with, append_assoc, append-nil}
use Prim.Native.Nat.{ℕ, zero, suc, ◌+◌, ◌-◌, ◌≤◌, ◌<◌}
use native.Mathlib.Omega.{arith}
use native.Mathlib.Numerals.{add-one}
use lib.ListN.{length, get_or, set, take, drop, length-set}
use lib.Seq.{slice, take-suc, take-take, take-suc-set, take-set-lt, get_or-take, drop-append-le, slice_empty, length-take-le}
use Rattle.page_tree.specs.declared.Row.{Row}
use Rattle.page_tree.specs.Rows.{last_depth}
use Rattle.page_tree.specs.Row.{Pair, depth_of, places, row_of, part_of}
use Rattle.page_tree.proofs.ClosedRows.{last_depth_append}

-- The two arrays of a row have 319 elements each.
abbrev pub Full : List ℕ → List ℕ → Type 0
Full ds ps = (length ds ≡ 319) × (length ps ≡ 319)

-- Storing keeps the lengths.
pub full_set : (ds ps : List ℕ) (i d p : ℕ) → Full ds ps → Full (set ds i d) (set ps i p)
full_set ds ps i d p h = simp length-set h

-- As many pairs as there are in each list.
length_zip_of : (n : ℕ) (ds ps : List ℕ) → length ds ≡ n → length ps ≡ n → length (zip ds ps) ≡ n
unfolding zip zip_with
length_zip_of n [] ps h g = h
length_zip_of n (d ∷ ds) [] h g = g
length_zip_of zero (d ∷ ds) (p ∷ ps) h g = absurd (omega arith)
length_zip_of (suc n) (d ∷ ds) (p ∷ ps) h g = ap suc (length_zip_of n ds ps (omega arith) (omega arith))

-- A row has 319 places.
pub length_zip : (ds ps : List ℕ) → Full ds ps → length (zip ds ps) ≡ 319
length_zip ds ps h = length_zip_of 319 ds ps h.0 h.1

-- The depths of the first n pairs.
pub depths_zip : (n : ℕ) (ds ps : List ℕ) → length ds ≡ length ps → map depth_of (take n (zip ds ps)) ≡ take n ds
unfolding zip zip_with
depths_zip zero ds ps h = refl
depths_zip (suc n) [] ps h = refl
depths_zip (suc n) (d ∷ ds) [] h = absurd (omega arith)
depths_zip (suc n) (d ∷ ds) (p ∷ ps) h = ap (λ l. d ∷ l) (depths_zip n ds ps (omega arith))

-- A store to both arrays stores a pair.
pub zip_set : (ds ps : List ℕ) (i d p : ℕ) → zip (set ds i d) (set ps i p) ≡ set (zip ds ps) i (d, p)
unfolding zip zip_with
zip_set [] ps i d p = refl
zip_set (x ∷ ds) [] zero d p = refl
zip_set (x ∷ ds) [] (suc i) d p = refl
zip_set (x ∷ ds) (y ∷ ps) zero d p = refl
zip_set (x ∷ ds) (y ∷ ps) (suc i) d p = ap (λ l. (x, y) ∷ l) (zip_set ds ps i d p)

-- A pair is read from both arrays.
get_d_zip : (ds ps : List ℕ) (i : ℕ) → i < length ds → i < length ps → ◌≡◌ {A = Pair} (get_or (zip ds ps) i (0, 0)) (get_or ds i 0, get_or ps i 0)
unfolding zip zip_with
get_d_zip [] ps i h g = absurd (omega arith)
get_d_zip (d ∷ ds) [] i h g = absurd (omega arith)
get_d_zip (d ∷ ds) (p ∷ ps) zero h g = refl
get_d_zip (d ∷ ds) (p ∷ ps) (suc i) h g = get_d_zip ds ps i (omega arith) (omega arith)

module _ (ds ps : List ℕ) (full : Full ds ps) (i : ℕ) (l : i < 319) where
  -- What stands at a place,
  pub place_at : ◌≡◌ {A = Pair} (get_or (zip ds ps) i (0, 0)) (get_or ds i 0, get_or ps i 0)
  place_at = get_d_zip ds ps i (omega arith) (omega arith)

  -- and the entry there, among the first n.
  pub entry_at : (n : ℕ) → i < n → ◌≡◌ {A = Pair} (get_or (take n (zip ds ps)) i (0, 0)) (get_or ds i 0, get_or ps i 0)
  entry_at n h = get_or-take n (zip ds ps) i (0, 0) h ∙ place_at

-- The entries of a row: as many as its count says.
pub length_row : (row : Row) → Full row.depths row.pointers → row.count ≤ 319 → length (row_of row) ≡ row.count
length_row row full l = length-take-le row.count (places row) (omega (arith, length_zip row.depths row.pointers full))

-- A part that ends inside the row is a part of its entries.
pub part_of_row : (row : Row) (from to : ℕ) → to ≤ row.count → part_of row from to ≡ slice from to (row_of row)
part_of_row row from to h = ap (drop from) (sym (take-take to row.count (places row) h))

-- A store among the first n replaces an entry.
pub stored_in : (ds ps : List ℕ) (n i d p : ℕ) → i < n → take n (zip (set ds i d) (set ps i p)) ≡ set (take n (zip ds ps)) i (d, p)
stored_in ds ps n i d p h = rw (zip_set ds ps i d p) (take-set-lt n (zip ds ps) i (d, p) h)

-- A store behind the first n is one entry more.
pub stored_behind : (ds ps : List ℕ) → Full ds ps → (n d p : ℕ) → n < 319 → take (n + 1) (zip (set ds n d) (set ps n p)) ≡ take n (zip ds ps) ++ (d, p) ∷ []
stored_behind ds ps full n d p l =
    rw (zip_set ds ps n d p, add-one n) (take-suc-set (zip ds ps) n (d, p) (omega (arith, length_zip ds ps full)))

-- A part with one thing more.
pub slice_more : {A : Type 0} (from i : ℕ) (z : List A) (none : A) → from ≤ i → i < length z → slice from (i + 1) z ≡ slice from i z ++ get_or z i none ∷ []
slice_more from i z none h l =
    rw (add-one i, take-suc z i none l) (drop-append-le from (take i z) (get_or z i none ∷ []) (omega (arith, length-take-le i z (omega arith))))

-- Its last depth is that of its last thing.
pub last_slice : {A : Type 0} (depth : A → ℕ) (τ : ℕ) (none : A) (z : List A) (from to : ℕ) → from < to → to ≤ length z
    → last_depth depth τ (slice from to z) ≡ depth (get_or z (to - 1) none)
last_slice depth τ none z from to h g =
    let e : to ≡ to - 1 + 1 = omega arith in
    ap (λ (k : ℕ). last_depth depth τ (slice from k z)) e
    ∙ ap (last_depth depth τ) (slice_more from (to - 1) z none (omega arith) (omega arith))
    ∙ last_depth_append depth τ (slice from (to - 1) z) (get_or z (to - 1) none ∷ [])

-- The first k places are the first n entries es, and behind them those of other from one place up to i.
pub record Appended (from i n k : ℕ) (es other : List Pair) (ds ps : List ℕ) : Type 0 where
  pub full : Full ds ps
  pub passed : from ≤ i
  pub count : k ≡ n + (i - from)
  pub entries : take k (zip ds ps) ≡ es ++ slice from i other

-- None is appended yet.
pub appended_none : (from n : ℕ) (other : List Pair) (ds ps : List ℕ) → Full ds ps → Appended from from n n (take n (zip ds ps)) other ds ps
appended_none from n other ds ps full = record {
  full = full;
  passed = omega arith;
  count = omega arith;
  entries = sym (ap (λ l. take n (zip ds ps) ++ l) (slice_empty from other) ∙ append-nil (take n (zip ds ps)));
}

-- One more.
pub appended_next : {from i n k d p : ℕ} {es other : List Pair} {ds ps : List ℕ} → i < length other → k < 319 → ◌≡◌ {A = Pair} (get_or other i (0, 0)) (d, p)
    → Appended from i n k es other ds ps → Appended from (i + 1) n (k + 1) es other (set ds k d) (set ps k p)
appended_next {from} {i} {n} {k} {d} {p} {es} {other} {ds} {ps} il kl at h = record {
  full = full_set ds ps k d p h.full;
  passed = omega (arith, h.passed);
  count = omega (arith, h.passed, h.count);
  entries =
      stored_behind ds ps h.full k d p kl ∙ ap (λ l. l ++ (d, p) ∷ []) h.entries ∙ append_assoc es (slice from i other) ((d, p) ∷ [])
      ∙ ap (λ l. es ++ l) (ap (λ x. slice from i other ++ x ∷ []) (sym at) ∙ sym (slice_more from i other (0, 0) h.passed il));
}

-- One more of another row.
pub appended_more : (ods ops : List ℕ) → Full ods ops → {from i n k : ℕ} {es : List Pair} {ds ps : List ℕ} → i < 319 → k < 319
    → Appended from i n k es (zip ods ops) ds ps
    → Appended from (i + 1) n (k + 1) es (zip ods ops) (set ds k (get_or ods i 0)) (set ps k (get_or ops i 0))
appended_more ods ops full il kl h = appended_next (omega (arith, length_zip ods ops full)) kl (place_at ods ops full _ il) h

-- All are appended.
pub appended_all : {from i to n k : ℕ} {es other : List Pair} {ds ps : List ℕ} → i ≤ to → to ≤ i → Appended from i n k es other ds ps
    → (k ≡ n + (to - from)) × (take k (zip ds ps) ≡ es ++ slice from to other)
appended_all {from} {i} {to} {n} {k} {es} {other} {ds} {ps} a b h =
    (omega (arith, h.count), h.entries ∙ ap (λ (j : ℕ). es ++ slice from j other) (let e : i ≡ to = omega arith in e))
