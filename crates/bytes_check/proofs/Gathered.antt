-- What is gathered by or over a pass, and what it says of each place. Assumes nothing.
use Rattle.std.proofs.Common.{◌≡◌, ℕ, zero, suc, ◌+◌, ◌-◌, ◌%◌, ◌^◌, ◌<◌, ◌≤◌, Bool, true, false, cond, eqb, ◌↔◌, List, [], ◌∷◌, length, get_or, take, sym, refl, ap, ◌∙◌, subst, mod-eq_of_lt, arith, below_more}
use lib.Bits.{bit_or, bit_and, or_add_and, and_le_r, and_le_l, or_lt, and_zero_r, and_mask}
use Rattle.leaf_list.specs.Register.{count_in_use}
use Rattle.bytes_check.specs.Gatherings.{UsedBetween, four_keys, Gathered}
use Rattle.bytes_check.specs.declared.register.Gathering.{Gathering}

-- Both parts of an or are at most the whole.
pub or_left : (a b : ℕ) → a ≤ bit_or a b
or_left a b = omega (arith, or_add_and a b, and_le_r a b)

pub or_right : (a b : ℕ) → b ≤ bit_or a b
or_right a b = omega (arith, or_add_and a b, and_le_l a b)

pub or_zero : (a b : ℕ) → a ≡ 0 → b ≡ 0 → bit_or a b ≡ 0
or_zero a b h g = rw (h, g)

-- Bits gathered so far are as wide as the widest number: one more.
pub bits_more : (m i bits : ℕ) (xs : List ℕ) → ((bits < 2 ^ m) ↔ ((k : ℕ) → k < i → get_or xs k 0 < 2 ^ m)) → (bit_or bits (get_or xs i 0) < 2 ^ m) ↔ ((k : ℕ) → k < i + 1 → get_or xs k 0 < 2 ^ m)
bits_more m i bits xs h = (
  (λ q. below_more (λ k. get_or xs k 0 < 2 ^ m) i (h.0 (omega (arith, or_left bits (get_or xs i 0)))) (omega (arith, or_right bits (get_or xs i 0)))),
  (λ f. or_lt m bits (get_or xs i 0) (h.1 (λ k l. f k (omega arith))) (f i (omega arith))),
)

-- A key that is 0 beside a byte 0: what the pass gathers of a record is zero exactly then. x is the byte less 1, wrapped.
pub sound_bits : (byte key x : ℕ) → key < 2 ^ 64 → x < 2 ^ 64 → (x + 1) % 2 ^ 64 ≡ byte → byte ≤ 1 → ((bit_and key x ≡ 0) ↔ (byte ≡ 0 → key ≡ 0))
sound_bits zero key x k l e b =
    let y : x ≡ 2 ^ 64 - 1 = omega arith in
    let z : bit_and key x ≡ key = ap (bit_and key) y ∙ and_mask key 64 ∙ mod-eq_of_lt k in
    ((λ q i. sym z ∙ q), (λ q. z ∙ q refl))
sound_bits (suc zero) key x k l e b =
    let y : x ≡ 0 = omega arith in
    let z : bit_and key x ≡ 0 = ap (bit_and key) y ∙ and_zero_r key in
    ((λ q i. absurd (omega arith)), (λ q. z))
sound_bits (suc (suc byte)) key x k l e b = absurd (omega arith)

-- One record more in use counts one more, where its byte is 0 or 1.
count_more : (used : List ℕ) (i : ℕ) → i < length used → get_or used i 0 ≤ 1 → count_in_use (take (i + 1) used) ≡ count_in_use (take i used) + get_or used i 0
count_more [] i h l = absurd (omega arith)
count_more (u ∷ us) zero h l = by u l
  where
    by : (u : ℕ) → u ≤ 1 → count_in_use (u ∷ []) ≡ 0 + u
    by zero l = refl
    by (suc zero) l = refl
    by (suc (suc u)) l = absurd (omega arith)
count_more (u ∷ us) (suc i) h l =
    let e : suc i + 1 ≡ suc (i + 1) = omega arith in
    rw e (go (eqb u 1) (count_more us i (omega arith) l))
  where
    go : (t : Bool) → count_in_use (take (i + 1) us) ≡ count_in_use (take i us) + get_or us i 0
        → cond t (suc (count_in_use (take (i + 1) us))) (count_in_use (take (i + 1) us)) ≡ cond t (suc (count_in_use (take i us))) (count_in_use (take i us)) + get_or us i 0
    go true q = omega arith
    go false q = q

module _ (keys used : List ℕ) (i : ℕ) (inside : i < length used) where
  -- One record more: u is its byte, and x that byte less 1, wrapped.
  pub gathered_more : {g : Gathering} (u x : ℕ) → get_or keys i 0 < 2 ^ 64 → u ≡ get_or used i 0 → u ≤ 1 → x < 2 ^ 64 → (x + 1) % 2 ^ 64 ≡ u → Gathered keys used i g
      → Gathered keys used (i + 1) (record { keys = bit_or g.keys (get_or keys i 0); odd = bit_or g.odd (bit_and (get_or keys i 0) x); held = g.held + u })
  gathered_more {g} u x kh uh us xh e h =
      record {
        widths = λ m. bits_more m i g.keys keys (h.widths m);
        records = (
          (λ q. below_more Good i (h.records.0 (omega (arith, or_left g.odd mark))) (good (bits.0 (omega (arith, or_right g.odd mark))))),
          (λ f. or_zero g.odd mark (h.records.1 (λ r l. f r (omega arith))) (bits.1 (subst (λ (y : ℕ). y ≡ 0 → get_or keys i 0 ≡ 0) (sym uh) (f i (omega arith))))),
        );
        count = omega (arith, h.count, count_more used i inside (omega arith));
        small = omega (arith, h.small);
      }
    where
      mark : ℕ
      mark = bit_and (get_or keys i 0) x

      Good : ℕ → Type 0
      Good r = get_or used r 0 ≡ 0 → get_or keys r 0 ≡ 0

      bits : (mark ≡ 0) ↔ (u ≡ 0 → get_or keys i 0 ≡ 0)
      bits = sound_bits u (get_or keys i 0) x kh xh e us

      good : (u ≡ 0 → get_or keys i 0 ≡ 0) → Good i
      good = subst (λ (y : ℕ). y ≡ 0 → get_or keys i 0 ≡ 0) uh

  -- One record more that is in use: nothing odd. j is the place behind it, n the new count.
  pub gathered_used : {g : Gathering} (j n : ℕ) → j ≡ i + 1 → n ≡ g.held + 1 → get_or used i 0 ≡ 1 → Gathered keys used i g
      → Gathered keys used j (record { keys = bit_or g.keys (get_or keys i 0); odd = g.odd; held = n })
  gathered_used {g} j n p q u h = rw (p, q) record {
    widths = λ m. bits_more m i g.keys keys (h.widths m);
    records = (
      (λ z. below_more (λ r. get_or used r 0 ≡ 0 → get_or keys r 0 ≡ 0) i (h.records.0 z) (λ f. absurd (omega arith))),
      (λ f. h.records.1 (λ r l. f r (omega arith))),
    );
    count = omega (arith, h.count, count_more used i inside (omega arith));
    small = omega (arith, h.small);
  }

-- Four records more, all in use.
pub gathered_four : (keys used : List ℕ) {g : Gathering} (i n : ℕ) → i + 4 ≤ length used → n ≡ g.held + 4 → UsedBetween i (i + 4) used → Gathered keys used i g
    → Gathered keys used (i + 4) (record { keys = four_keys keys i g.keys; odd = g.odd; held = n })
gathered_four keys used {g} i n l q u h =
    gathered_used keys used (i + 3) (omega arith) (i + 4) n (omega arith) (omega arith) (u (i + 3) (omega arith) (omega arith))
    (gathered_used keys used (i + 2) (omega arith) (i + 3) (g.held + 3) (omega arith) (omega arith) (u (i + 2) (omega arith) (omega arith))
    (gathered_used keys used (i + 1) (omega arith) (i + 2) (g.held + 2) (omega arith) (omega arith) (u (i + 1) (omega arith) (omega arith))
    (gathered_used keys used i (omega arith) (i + 1) (g.held + 1) refl refl (u i (omega arith) (omega arith)) h)))

-- Eight records more, all in use: k has the bits of the first four keys, m those of all eight.
pub gathered_eight : (keys used : List ℕ) {g : Gathering} (i k m : ℕ) → i + 8 ≤ length used → k ≡ four_keys keys i g.keys → m ≡ four_keys keys (i + 4) k → UsedBetween i (i + 8) used
    → Gathered keys used i g → Gathered keys used (i + 8) (record { keys = m; odd = g.odd; held = g.held + 8 })
gathered_eight keys used {g} i k m l p q u h =
    let four = gathered_four keys used i (g.held + 4) (omega arith) refl (λ r a b. u r a (omega arith)) h in
    let e : i + 4 + 4 ≡ i + 8 = omega arith in
    rw (q, p, ← e) (gathered_four keys used (i + 4) (g.held + 8) (omega arith) (omega arith) (λ r a b. u r (omega arith) (omega arith)) four)
