-- The dummies that 5.1 puts in, one after the other. Assumes nothing.
use mathlib.Core.Path.{◌≡◌, refl, sym, ap, ap₂, subst, ◌∙◌}
use mathlib.Core.Logic.{◌⊎◌, inl, inr}
use mathlib.Core.Bool.{Bool, true, false, cond, ◌&&◌}
use mathlib.Core.Option.{none}
use mathlib.Core.List.{List, [], ◌∷◌, ◌++◌, map, zip, append_assoc, append-nil}
use Prim.Native.Nat.{ℕ, zero, suc, ◌+◌, ◌-◌, ◌*◌, ◌/◌, ◌%◌, ◌^◌, ◌≤◌, ◌<◌}
use native.Mathlib.Omega.{arith}
use native.Mathlib.Nat.{mod-lt, le_trans, lt_of_le_of_lt, lt_of_lt_of_le, div-le_self, div-eq_of_lt, add-mul, mul_assoc}
use lib.Count.{ones, ones_cat, ones-le}
use lib.Dec.{ltb, leb, eqb}
use lib.ListN.{length, set, take, drop, length-append, length-map}
use Rattle.std.proofs.lemmas.Bool.{cases_lt}
use lib.Pow.{pow_pos, pow_mono, pow-add, split, high, shr_lt, shr-shr}
use borrow.Author.Tests.{lt-ltb, le-ltb, le-leb, ltb-true, ltb-false}
use Rattle.leaf_list.specs.Keys.{Key, bits}
use Rattle.leaf_list.specs.Entries.{Entry, entry}
use Rattle.leaf_list.specs.Search.{positions}
use Rattle.leaf_list.specs.Insertion.{dummies}
use Rattle.leaf_list.proofs.Bits.{bits_length}
use Rattle.leaf_list.proofs.InsertionCount.{dummies_count}
use Rattle.page_tree.proofs.RowLaws.{Full, full_set, stored_behind}
use Rattle.byte_moves.specs.Over.{over}
use Rattle.byte_moves.proofs.OverLaws.{over_none, over_append}
use Rattle.index_table.specs.Layout.{Ref, ref_bytes, row_bytes}
use Rattle.index_table.proofs.PageRows.{length_row_bytes, row_bytes_append}
use Rattle.table_search.specs.Places.{later, left_from, NextPosition}
use Rattle.table_search.proofs.NextPositions.{drop_bits, last_bit}
use Rattle.table_search.proofs.BitsAhead.{last_bits_low}
use Rattle.new_entries.specs.Entries.{ref_of}

-- ---- the positions between two depths

-- A position at or below low is passed over.
dummies_low : (low high p : ℕ) (ps : List ℕ) (rest : List Entry) → p ≤ low → dummies low high (p ∷ ps) rest ≡ dummies low high ps rest
dummies_low low high p ps rest h = rw (le-ltb low p h)

-- So is one at or above high.
dummies_high : (low high p : ℕ) (ps : List ℕ) (rest : List Entry) → high ≤ p → dummies low high (p ∷ ps) rest ≡ dummies low high ps rest
dummies_high low high p ps rest h = rw (le-ltb p high h) (go (ltb low p))
  where
    go : (t : Bool) → cond (t && false) (entry p none ∷ dummies low high ps rest) (dummies low high ps rest) ≡ dummies low high ps rest
    go true = refl
    go false = refl

-- One between them is a dummy.
dummies_between : (low high p : ℕ) (ps : List ℕ) (rest : List Entry) → low < p → p < high → dummies low high (p ∷ ps) rest ≡ entry p none ∷ dummies low high ps rest
dummies_between low high p ps rest h g = rw (lt-ltb low p h, lt-ltb p high g)

-- The positions of the first m bits are passed over, up to low.
dummies_skip : (high i m : ℕ) (k : Key) (rest : List Entry) → m ≤ length k
    → dummies (i + m) high (positions i k) rest ≡ dummies (i + m) high (positions (i + m) (drop m k)) rest
dummies_skip high i zero k rest h = let z : i + 0 ≡ i = omega arith in rw z refl
dummies_skip high i (suc m) [] rest h = absurd (omega arith)
dummies_skip high i (suc m) (false ∷ k) rest h =
    let z : i + suc m ≡ suc i + m = omega arith in
    rw z (dummies_skip high (suc i) m k rest (omega arith))
dummies_skip high i (suc m) (true ∷ k) rest h =
    let z : i + suc m ≡ suc i + m = omega arith in
    subst (λ (n : ℕ). dummies n high (positions i (true ∷ k)) rest ≡ dummies n high (positions n (drop (suc m) (true ∷ k))) rest) (sym z)
    (dummies_low (suc i + m) high (suc i) (positions (suc i) k) rest (omega arith) ∙ dummies_skip high (suc i) m k rest (omega arith))

-- No position at or above high gives a dummy.
dummies_none : (low high p : ℕ) (k : Key) (rest : List Entry) → high ≤ suc p → dummies low high (positions p k) rest ≡ rest
dummies_none low high p [] rest h = dummies_high low high (suc p) [] rest h
dummies_none low high p (false ∷ k) rest h = dummies_none low high (suc p) k rest (omega arith)
dummies_none low high p (true ∷ k) rest h = dummies_high low high (suc p) (positions (suc p) k) rest h ∙ dummies_none low high (suc p) k rest (omega arith)

-- ---- as the code goes through them

-- One more.
pub dummies_next : (w key low high p r : ℕ) → low < p → p < high → p ≤ w → NextPosition w key p r
    → dummies low high (left_from w key p) [] ≡ entry p none ∷ dummies low high (left_from w key r) []
dummies_next w key low high p r h g l next =
    let left : later w key p ≡ left_from w key r = rw (le-leb p w l) next.left in
    dummies_between low high p (later w key p) [] h g ∙ ap (λ (ps : List ℕ). entry p none ∷ dummies low high ps []) left

-- No more.
pub dummies_end : (w key low high p : ℕ) → high ≤ p → dummies low high (left_from w key p) [] ≡ []
dummies_end w key low high p h = dummies_high low high p (later w key p) [] h ∙ go (leb p w)
  where
    go : (t : Bool) → dummies low high (cond t (positions p (drop p (bits w key))) []) [] ≡ []
    go true = dummies_none low high p (drop p (bits w key)) [] (omega arith)
    go false = refl

-- Behind low, none is passed over for low.
dummies_above : (low high i : ℕ) (k : Key) → low ≤ i → dummies low high (positions i k) [] ≡ dummies 0 high (positions i k) []
dummies_above low high i [] h = rw (lt-ltb low (suc i) (omega arith), lt-ltb 0 (suc i) (omega arith)) refl
dummies_above low high i (false ∷ k) h = dummies_above low high (suc i) k (omega arith)
dummies_above low high i (true ∷ k) h =
    rw (lt-ltb low (suc i) (omega arith), lt-ltb 0 (suc i) (omega arith))
    (ap (λ (es : List Entry). cond (ltb (suc i) high) (entry (suc i) none ∷ es) es) (dummies_above low high (suc i) k (omega arith)))

-- So an iterator that begins behind low has all between low and high left.
pub dummies_begun : (w key low high p : ℕ) → low ≤ w → NextPosition w key low p → map ref_of (dummies 0 high (left_from w key p) []) ≡ map ref_of (dummies low high (positions 0 (bits w key)) [])
dummies_begun w key low high p h next =
    let z : 0 + low ≡ low = omega arith in
    ap (map ref_of)
    (ap (λ (ps : List ℕ). dummies 0 high ps []) (sym next.left)
    ∙ sym (dummies_above low high low (drop low (bits w key)) (omega arith))
    ∙ sym (rw z at (dummies_skip high 0 low (bits w key) [] (omega (arith, bits_length w key)))))

-- No position is between a depth and itself.
pub dummies_same : (b : ℕ) (ps : List ℕ) (rest : List Entry) → dummies b b ps rest ≡ rest
dummies_same b [] rest = refl
dummies_same b (p ∷ ps) rest = go (ltb b p) refl (dummies_same b ps rest)
  where
    go : (t : Bool) → ltb b p ≡ t → dummies b b ps rest ≡ rest → dummies b b (p ∷ ps) rest ≡ rest
    go true e i = dummies_high b b p ps rest (let l = ltb-true b p e in omega arith) ∙ i
    go false e i = dummies_low b b p ps rest (ltb-false b p e) ∙ i

-- ---- counted

-- A bit is counted where it gives a dummy.
count_one : (low high i q : ℕ) (k : Key) → q < 2 → low ≤ i → suc i < high
    → length (dummies low high (positions i (eqb q 1 ∷ k)) []) ≡ q + length (dummies low high (positions (suc i) k) [])
count_one low high i zero k l h g = omega arith
count_one low high i (suc zero) k l h g = ap length (dummies_between low high (suc i) (positions (suc i) k) [] (omega arith) g) ∙ omega arith
count_one low high i (suc (suc q)) k l h g = absurd (omega arith)

ones_bit : (q : ℕ) → q < 2 → ones q ≡ q
unfolding ones
ones_bit zero h = refl
ones_bit (suc zero) h = refl
ones_bit (suc (suc q)) h = absurd (omega arith)

-- The last m + 1 bits without the last j of them are one bit and the others.
bits_between : (x m j : ℕ) → j ≤ m → x % 2 ^ suc m / 2 ^ j ≡ (x / 2 ^ m % 2) * 2 ^ (m - j) + x % 2 ^ m / 2 ^ j
bits_between x m j h =
    let q : ℕ = x / 2 ^ m % 2 in
    let r : ℕ = x % 2 ^ m in
    let e : m ≡ m - j + j = omega arith in
    let power : q * 2 ^ m ≡ q * 2 ^ (m - j) * 2 ^ j = ap (λ (n : ℕ). q * n) (ap (λ (n : ℕ). 2 ^ n) e ∙ pow-add 2 (m - j) j) ∙ sym (mul_assoc q (2 ^ (m - j)) (2 ^ j)) in
    ap (λ (n : ℕ). n / 2 ^ j) (last_bit x m ∙ omega (arith, power, split r j, add-mul (q * 2 ^ (m - j)) (r / 2 ^ j) (2 ^ j)))
    ∙ high (q * 2 ^ (m - j) + r / 2 ^ j) j (mod-lt r (pow_pos j))

-- Of the last m bits, those between low and high are counted by a word that has them alone.
count_from : (m i low to key j : ℕ) → low ≤ i → to + j ≡ suc (i + m) → length (dummies low to (positions i (bits m key)) []) ≡ ones (key % 2 ^ m / 2 ^ j)
count_from zero i low to key j h e =
    ap length (dummies_none low to i [] [] (omega arith))
    ∙ sym (ap ones (div-eq_of_lt (lt_of_lt_of_le (mod-lt key (pow_pos 0)) (pow_pos j))) ∙ ones_bit 0 (omega arith))
count_from (suc m) i low to key j h e = go (cases_lt m j) (count_from m (suc i) low to key j (omega arith) (omega arith))
  where
    q : ℕ
    q = key / 2 ^ m % 2

    bit : q < 2
    bit = mod-lt (key / 2 ^ m) (omega arith)

    go : (m < j) ⊎ (j ≤ m) → length (dummies low to (positions (suc i) (bits m key)) []) ≡ ones (key % 2 ^ m / 2 ^ j)
        → length (dummies low to (positions i (bits (suc m) key)) []) ≡ ones (key % 2 ^ suc m / 2 ^ j)
    go (inr g) ih =
        count_one low to i q (bits m key) bit h (omega arith)
        ∙ ap₂ ◌+◌ (sym (ones_bit q bit)) ih
        ∙ sym (ones_cat (m - j) q (key % 2 ^ m / 2 ^ j) (shr_lt (m - j) j (lt_of_lt_of_le (mod-lt key (pow_pos m)) (pow_mono (let s : m ≤ m - j + j = omega arith in s)))))
        ∙ ap ones (sym (bits_between key m j g))
    go (inl g) ih =
        ap length (dummies_none low to i (bits (suc m) key) [] (omega arith))
        ∙ sym (ap ones (div-eq_of_lt (lt_of_lt_of_le (mod-lt key (pow_pos (suc m))) (pow_mono g))) ∙ ones_bit 0 (omega arith))

pub counted : (w key low to : ℕ) → low ≤ w → to ≤ w → (behind : ℕ) → behind ≡ key % 2 ^ (w - low)
    → ones (behind / 2 ^ (w - to) / 2 ^ 1) ≡ length (dummies low to (positions 0 (bits w key)) [])
counted w key low to h g behind is =
    let z : 0 + low ≡ low = omega arith in
    ap ones (shr-shr behind (w - to) 1 ∙ ap (λ (n : ℕ). n / 2 ^ (w - to + 1)) is)
    ∙ sym (count_from (w - low) low low to key (w - to + 1) (omega arith) (omega arith))
    ∙ ap (λ (k : Key). length (dummies low to (positions low k) [])) (sym (drop_bits low w key h))
    ∙ ap length (sym (rw z at (dummies_skip to 0 low (bits w key) [] (omega (arith, bits_length w key)))))

pub count_low : (w key low to behind : ℕ) → behind ≡ key % 2 ^ (w - low) → ones (behind / 2 ^ (w - to) / 2 ^ 1) ≤ w
count_low w key low to behind is =
    ones-le w (behind / 2 ^ (w - to) / 2 ^ 1)
    (lt_of_le_of_lt (le_trans (div-le_self (behind / 2 ^ (w - to)) (2 ^ 1)) (div-le_self behind (2 ^ (w - to)))) (last_bits_low w key low behind is))

-- ---- written

-- Of the dummies es, xs stand from `at` on, and ys are left; the next goes to `next`.
pub record Marking (b₀ : List ℕ) (at : ℕ) (es : List Entry) (b : List ℕ) (next : ℕ) (ys : List Ref) : Type 0 where
  pub xs : List Ref
  pub left : xs ++ ys ≡ map ref_of es
  pub long : length b ≡ length b₀
  pub place : next ≡ at + 3 * length xs
  pub bytes : b ≡ over b₀ at (row_bytes 2 xs)

pub marking_none : (b : List ℕ) (at : ℕ) {es : List Entry} {ys : List Ref} → ys ≡ map ref_of es → Marking b at es b at ys
unfolding row_bytes
marking_none b at h = record { xs = []; left = h; long = refl; place = omega arith; bytes = over_none b at }

module _ {b₀ : List ℕ} {at : ℕ} {es : List Entry} {b : List ℕ} {next : ℕ} {ys : List Ref} (h : Marking b₀ at es b next ys) where
  pub marking_room : {x : Ref} (zs : List Ref) → ys ≡ x ∷ zs → at + 3 * length es ≤ length b₀ → next + 3 ≤ length b
  marking_room {x} zs e room = omega (arith, h.long, h.place, ap length h.left, length-append h.xs ys, ap length e, length-map es ref_of)

  pub marking_more : {x : Ref} {zs : List Ref} → ys ≡ x ∷ zs → {b₁ : List ℕ} → length b₁ ≡ length b → b₁ ≡ over b next (ref_bytes 2 x) → Marking b₀ at es b₁ (next + 3) zs
  unfolding row_bytes
  marking_more {x} {zs} e {b₁} l f =
      let here : next ≡ at + length (row_bytes 2 h.xs) = omega (arith, h.place, length_row_bytes 2 h.xs) in
      record {
        xs = h.xs ++ x ∷ [];
        left = append_assoc h.xs (x ∷ []) zs ∙ ap (λ (z : List Ref). h.xs ++ z) (sym e) ∙ h.left;
        long = l ∙ h.long;
        place = omega (arith, h.place, length-append h.xs (x ∷ []));
        bytes =
            f ∙ ap₂ (λ (m : List ℕ) (k : ℕ). over m k (ref_bytes 2 x)) h.bytes here
            ∙ over_append b₀ at (row_bytes 2 h.xs) (ref_bytes 2 x)
            ∙ ap (over b₀ at) (sym (row_bytes_append 2 h.xs (x ∷ []) ∙ ap (λ (m : List ℕ). row_bytes 2 h.xs ++ m) (append-nil (ref_bytes 2 x))));
      }

-- ---- in a row

-- Of the dummies es, xs stand behind the m entries es₀ of a row, and ys are left.
pub record Dummying (es₀ : List Ref) (m : ℕ) (es : List Entry) (n : ℕ) (ds ps : List ℕ) (ys : List Ref) : Type 0 where
  pub xs : List Ref
  pub left : xs ++ ys ≡ map ref_of es
  pub full : Full ds ps
  pub count : n ≡ m + length xs
  pub entries : take n (zip ds ps) ≡ es₀ ++ xs

pub dummying_none : (n : ℕ) (ds ps : List ℕ) → Full ds ps → {es : List Entry} {ys : List Ref} → ys ≡ map ref_of es → Dummying (take n (zip ds ps)) n es n ds ps ys
dummying_none n ds ps full h = record { xs = []; left = h; full = full; count = omega arith; entries = sym (append-nil (take n (zip ds ps))) }

module _ {es₀ : List Ref} {m : ℕ} {es : List Entry} {n : ℕ} {ds ps : List ℕ} {ys : List Ref} (h : Dummying es₀ m es n ds ps ys) where
  -- So many are left.
  pub dummying_left : n + length ys ≡ m + length es
  dummying_left = omega (arith, h.count, ap length h.left, length-append h.xs ys, length-map es ref_of)

  pub dummying_more : n < 319 → {x : Ref} {zs : List Ref} → ys ≡ x ∷ zs → Dummying es₀ m es (n + 1) (set ds n x.0) (set ps n x.1) zs
  dummying_more l {x} {zs} e = record {
    xs = h.xs ++ x ∷ [];
    left = append_assoc h.xs (x ∷ []) zs ∙ ap (λ (z : List Ref). h.xs ++ z) (sym e) ∙ h.left;
    full = full_set ds ps n x.0 x.1 h.full;
    count = omega (arith, h.count, length-append h.xs (x ∷ []));
    entries =
        stored_behind ds ps h.full n x.0 x.1 l
        ∙ ap (λ (z : List Ref). z ++ x ∷ []) h.entries
        ∙ append_assoc es₀ h.xs (x ∷ []);
  }

  pub dummying_all : ys ≡ [] → (n ≡ m + length es) × (take n (zip ds ps) ≡ es₀ ++ map ref_of es)
  dummying_all e =
      let whole : h.xs ≡ map ref_of es = sym (append-nil h.xs) ∙ ap (λ (z : List Ref). h.xs ++ z) (sym e) ∙ h.left in
      (omega (arith, h.count, ap length whole, length-map es ref_of), rw (← whole) h.entries)

-- There are at most as many as bits.
pub dummies_few : (w key low high : ℕ) → high ≤ suc w → length (dummies low high (positions 0 (bits w key)) []) ≤ w
dummies_few w key low high h = omega (arith, dummies_count (bits w key) 0 low high [])

-- So a row of at most 100 entries has room for the next.
pub dummying_room : (w key low high : ℕ) {m n : ℕ} {es₀ : List Ref} {ds ps : List ℕ} {x : Ref} {ys zs : List Ref} → m ≤ 100 → w ≤ 64 → high ≤ suc w
    → Dummying es₀ m (dummies low high (positions 0 (bits w key)) []) n ds ps ys → ys ≡ x ∷ zs → n < 319
dummying_room w key low high few width inside h e = omega (arith, dummying_left h, ap length e, dummies_few w key low high inside)
