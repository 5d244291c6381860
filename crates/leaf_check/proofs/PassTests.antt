-- The tests of one entry in a pass are those of the conditions. Assumes nothing.
use Rattle.std.proofs.Common.{◌≡◌, ℕ, zero, suc, ◌+◌, ◌-◌, ◌%◌, ◌^◌, ◌<◌, ◌≤◌, max, Bool, true, false, cond, not, ◌&&◌, ◌||◌, eqb, ltb, leb, ◌≢◌, List, length, sym, refl, ap, ◌∙◌, true≢false, mod-eq_of_lt, arith, pow_mono, ltb-false, ltb-true, le-ltb, lt-ltb, eq-eqb, ne_eqb, eqb-true, le-leb, leb-false, leb-true, None, Some}
use mathlib.Core.Bool.{and-false, and_assoc}
use lib.Bits.{bit_or, bit_xor, bit_and}
use lib.Pow.{pow-lt}
use borrow.Author.Tests.{lt-leb, not-true}
use Rattle.leaf_list.specs.Keys.{bit_at, set_bit_at, first_bits}
use Rattle.leaf_list.specs.Register.{key_at, in_use}
use Rattle.leaf_list.specs.Conditions.{pointer_fits, entry_fits}
use Rattle.leaf_list.proofs.CheckLoop.{set_bit_at_bound, set_bit_at_shift}
use Rattle.leaf_list.proofs.KeyLaws.{bit_by_and, xor_mask, or_mask}
use Rattle.index_table.specs.Pages.{record_of}
use Rattle.leaf_check.specs.Leaves.{NarrowRegister}
use Rattle.leaf_check.specs.DepthTable.{BitsBehind}
use Rattle.leaf_check.specs.Passes.{Meets, PassPre, told, PassedEntry}
use Rattle.leaf_check.specs.declared.passes.Pass.{Pass}
use Rattle.leaf_check.proofs.EntryTests.{record_fits}
use Rattle.bytes_check.proofs.Gathered.{or_right}

-- ---- the bits behind two depths

-- At most the smaller of two numbers is at most both.
narrower : (x m m' : ℕ) → m ≤ m' → (leb x m && leb x m') ≡ leb x m
narrower x m m' l = go (leb x m) refl
  where
    go : (t : Bool) → leb x m ≡ t → (leb x m && leb x m') ≡ leb x m
    go true e = rw (e, le-leb x m' (omega (arith, leb-true x m e)))
    go false e = rw e

wider : (x m m' : ℕ) → m' ≤ m → (leb x m && leb x m') ≡ leb x m'
wider x m m' l = go (leb x m') refl
  where
    go : (t : Bool) → leb x m' ≡ t → (leb x m && leb x m') ≡ leb x m'
    go true e = rw (e, le-leb x m (omega (arith, leb-true x m' e)))
    go false e = rw e (and-false (leb x m))

module _ (w τ d low below : ℕ) (shallow : d ≤ w) (trail : τ ≤ w) (behind : suc low ≡ 2 ^ (w - τ)) (under : suc below ≡ 2 ^ (w - d)) where
  -- Fewer bits are behind the deeper of two depths.
  fewer_behind : ltb below low ≡ ltb τ d
  fewer_behind = go (ltb τ d) refl
    where
      go : (t : Bool) → ltb τ d ≡ t → ltb below low ≡ t
      go true e =
          let l : w - d < w - τ = omega (arith, ltb-true τ d e) in
          lt-ltb below low (omega (arith, pow-lt l))
      go false e =
          let l : w - τ ≤ w - d = omega (arith, ltb-false τ d e) in
          le-ltb below low (omega (arith, pow_mono l))

  -- A key differs from the discriminator behind both depths only, exactly if both have the bits before the deeper one.
  key_fits : (a b : ℕ) → (leb (bit_xor a b) below && leb (bit_xor a b) low) ≡ eqb (first_bits w (max τ d) a) (first_bits w (max τ d) b)
  key_fits a b = go (leb τ d) refl
    where
      go : (t : Bool) → leb τ d ≡ t → (leb (bit_xor a b) below && leb (bit_xor a b) low) ≡ eqb (first_bits w (max τ d) a) (first_bits w (max τ d) b)
      go true e =
          let g : τ ≤ d = leb-true τ d e in
          let m : max τ d ≡ d = omega arith in
          let l : w - d ≤ w - τ = omega arith in
          rw m (narrower (bit_xor a b) below low (omega (arith, pow_mono l)) ∙ xor_mask a b (w - d) below under)
      go false e =
          let g : d < τ = leb-false τ d e in
          let m : max τ d ≡ τ = omega arith in
          let l : w - τ ≤ w - d = omega arith in
          rw m (wider (bit_xor a b) below low (omega (arith, pow_mono l)) ∙ xor_mask a b (w - τ) low behind)

-- A free record's key is refused by its bits, where the discriminator is above low.
key_tells : (key D low below : ℕ) (u : Bool) → (u ≡ false → key ≡ 0) → (ltb low D || u) ≡ true → (leb (bit_xor key D) below && leb (bit_xor key D) low) ≡ (u && (leb (bit_xor key D) below && leb (bit_xor key D) low))
key_tells key D low below true free t = refl
key_tells key D low below false free t = go (ltb low D) refl t
  where
    go : (b : Bool) → ltb low D ≡ b → (b || false) ≡ true → (leb (bit_xor key D) below && leb (bit_xor key D) low) ≡ false
    go true e q = rw (free refl, lt-leb D low (ltb-true low D e)) (and-false (leb D below))
    go false e q = absurd (true≢false (sym q))

-- ---- the depth of an entry

-- An entry is above c and fits exactly if its depth is above the floor and fits, and its pointer fits.
module _ (w c floor D τ d : ℕ) (P : Bool) where
  parts : (dummy : Bool) → floor ≡ max c (cond dummy τ 0)
      → (ltb c d && (leb d w && ((eqb d 0 || not (bit_at w d D)) && ((not dummy || ltb τ d) && P)))) ≡ ((ltb floor d && (leb d w && not (bit_at w d D))) && P)
  parts dummy e = go (ltb floor d) (ltb c d) refl refl
    where
      after : (dummy : Bool) → floor ≡ max c (cond dummy τ 0) → floor < d → (not dummy || ltb τ d) ≡ true
      after true e l = lt-ltb τ d (omega arith)
      after false e l = refl

      shallow : (dummy : Bool) → floor ≡ max c (cond dummy τ 0) → c < d → d ≤ floor → (not dummy || ltb τ d) ≡ false
      shallow true e l g = le-ltb τ d (omega arith)
      shallow false e l g = absurd (omega arith)

      go : (t u : Bool) → ltb floor d ≡ t → ltb c d ≡ u
          → (ltb c d && (leb d w && ((eqb d 0 || not (bit_at w d D)) && ((not dummy || ltb τ d) && P)))) ≡ ((ltb floor d && (leb d w && not (bit_at w d D))) && P)
      go true u h k =
          let l : floor < d = ltb-true floor d h in
          let g : c < d = omega arith in
          rw (h, lt-ltb c d g, ne_eqb d 0 (λ z. omega arith), after dummy e l) (sym (and_assoc (leb d w) (not (bit_at w d D)) P))
      go false false h k = rw (h, k)
      go false true h k =
          rw (h, k, shallow dummy e (ltb-true c d k) (ltb-false floor d h), and-false (eqb d 0 || not (bit_at w d D)), and-false (leb d w))

-- Fewer bits are behind a depth than behind a floor exactly if it is deeper, and at most w.
module _ (w d below : ℕ) (narrow : w ≤ 64) (b : BitsBehind w d below) where
  deeper : (floor limit : ℕ) → suc limit ≡ 2 ^ (w - floor) → (P : Bool) → (ltb floor d && (leb d w && P)) ≡ (ltb below limit && P)
  deeper floor limit e P = go (leb d w) refl
    where
      same : d ≤ w → (t : Bool) → ltb floor d ≡ t → ltb below limit ≡ t
      same l true h =
          let k : w - d < w - floor = omega (arith, ltb-true floor d h) in
          lt-ltb below limit (omega (arith, pow-lt k, b.within l))
      same l false h =
          let k : w - floor ≤ w - d = omega (arith, ltb-false floor d h) in
          le-ltb below limit (omega (arith, pow_mono k, b.within l))

      go : (t : Bool) → leb d w ≡ t → (ltb floor d && (leb d w && P)) ≡ (ltb below limit && P)
      go true h = rw (h, same (leb-true d w h) (ltb floor d) refl)
      go false h =
          let k : w - floor ≤ 64 = omega arith in
          rw (h, and-false (ltb floor d), le-ltb below limit (omega (arith, pow_mono k, b.beyond (leb-false d w h))))

  -- A depth with fewer bits behind it than a key has is one of its depths.
  inside : (limit : ℕ) → limit < 2 ^ w → below < limit → (0 < d) × (d ≤ w)
  inside limit l h = go (leb d w) refl
    where
      go : (t : Bool) → leb d w ≡ t → (0 < d) × (d ≤ w)
      go true e = (positive d (b.within (leb-true d w e)), leb-true d w e)
        where
          positive : (n : ℕ) → suc below ≡ 2 ^ (w - n) → 0 < n
          positive zero z =
              let e : w - 0 ≡ w = omega arith in
              absurd (omega (arith, rw e at z))
          positive (suc n) z = omega arith
      go false e = absurd (omega (arith, pow_mono narrow, b.beyond (leb-false d w e)))

-- ---- one entry

pub both : (a b : Bool) → (a && b) ≡ true → (a ≡ true) × (b ≡ true)
both true b e = (refl, e)
both false b e = absurd (true≢false (sym e))

twice : (a : Bool) → not (not a) ≡ a
twice true = refl
twice false = refl

module _ (w : ℕ) (keys used : List ℕ) (c : ℕ) (s : Pass) (d below p : ℕ) (pre : PassPre w s) (b : BitsBehind w d below) where
  abbrev DepthFits : Bool
  DepthFits = ltb below s.limit && eqb (bit_and s.disc (below + 1)) 0

  -- The bit of a depth within w is the one above those behind it.
  clear : below < s.limit → not (bit_at w d s.disc) ≡ eqb (bit_and s.disc (below + 1)) 0
  clear l =
      let e : below + 1 ≡ 2 ^ (w - d) = omega (arith, b.within (inside w d below pre.width b s.limit pre.limit l).1) in
      sym (ap not (bit_by_and w d s.disc (below + 1) e)) ∙ twice (eqb (bit_and s.disc (below + 1)) 0)

  -- An entry is above c and fits exactly if its depth and its pointer fit.
  whole : {τ : ℕ} {dummy : Bool} → Meets w c s τ dummy → (t : Bool) → DepthFits ≡ t
      → (t && pointer_fits w (key_at keys) (in_use used) s.disc τ d (record_of 65535 p)) ≡ (ltb c d && entry_fits w (key_at keys) (in_use used) s.disc τ dummy d (record_of 65535 p))
  whole {τ} {dummy} m t e =
      sym (parts w c (max c (cond dummy τ 0)) s.disc τ d (pointer_fits w (key_at keys) (in_use used) s.disc τ d (record_of 65535 p)) dummy refl
      ∙ ap (λ (u : Bool). u && pointer_fits w (key_at keys) (in_use used) s.disc τ d (record_of 65535 p))
      (deeper w d below pre.width b (max c (cond dummy τ 0)) s.limit m.limit (not (bit_at w d s.disc)) ∙ go (ltb below s.limit) refl ∙ e))
    where
      go : (u : Bool) → ltb below s.limit ≡ u → (u && not (bit_at w d s.disc)) ≡ (u && eqb (bit_and s.disc (below + 1)) 0)
      go true h = clear (ltb-true below s.limit h)
      go false h = refl

  -- An entry whose depth does not fit is refused.
  pub pass_refused : DepthFits ≡ false → (τ : ℕ) (dummy : Bool) → Meets w c s τ dummy → PassedEntry w keys used c s τ dummy d p None
  pass_refused h τ dummy m = record { verdict = whole m false h; carried = tt }

  module _ (fits : DepthFits ≡ true) where
    fewer : below < s.limit
    fewer = ltb-true below s.limit (both (ltb below s.limit) (eqb (bit_and s.disc (below + 1)) 0) fits).0

    one : (0 < d) × (d ≤ w)
    one = inside w d below pre.width b s.limit pre.limit fewer

    under : suc below ≡ 2 ^ (w - d)
    under = b.within one.1

    bit_clear : bit_at w d s.disc ≡ false
    bit_clear = not-true (bit_at w d s.disc) (clear fewer ∙ (both (ltb below s.limit) (eqb (bit_and s.disc (below + 1)) 0) fits).1)

    -- The next discriminator, and that it stays within w bits.
    pub next_disc : bit_or s.disc below + 1 ≡ set_bit_at w d s.disc
    next_disc = or_mask s.disc (w - d) below under ∙ sym (set_bit_at_shift w d s.disc bit_clear)

    pub next_bound : bit_or s.disc below + 1 < 2 ^ w
    next_bound =
        let z : suc (d - 1) ≡ d = omega (arith, one.0) in
        rw next_disc (rw z at (set_bit_at_bound w (d - 1) s.disc pre.disc (omega (arith, z, one.1))))

    module _ {τ : ℕ} {dummy : Bool} (m : Meets w c s τ dummy) where
      -- A depth that fits is past all that it must pass.
      past : max c (cond dummy τ 0) < d
      past =
          ltb-true (max c (cond dummy τ 0)) d
          (both (ltb (max c (cond dummy τ 0)) d) (leb d w && true) (deeper w d below pre.width b (max c (cond dummy τ 0)) s.limit m.limit true ∙ rw (lt-ltb below s.limit fewer))).0

      -- A dummy is deeper than the entry before, which no entry before the first of all is.
      pub nil_fits : p ≡ 65535 → ltb below s.low ≡ pointer_fits w (key_at keys) (in_use used) s.disc τ d (record_of 65535 p)
      nil_fits e = rw (eq-eqb p 65535 e, fewer_behind w τ d s.low below one.1 m.trail m.low under) (go (eqb τ 0) refl)
        where
          go : (t : Bool) → eqb τ 0 ≡ t → ltb τ d ≡ (t || ltb τ d)
          go true z = lt-ltb τ d (omega (arith, eqb-true τ 0 z, one.0))
          go false z = refl

      -- A record fits as its key does, where that tells whether it is in use.
      pub live_fits : NarrowRegister w keys used → told s.disc s.low used p ≡ true → p < length keys
          → (leb (bit_xor (key_at keys p) s.disc) below && leb (bit_xor (key_at keys p) s.disc) s.low) ≡ pointer_fits w (key_at keys) (in_use used) s.disc τ d (record_of 65535 p)
      live_fits g a l =
          let n : p ≢ 65535 = λ z. omega (arith, g.long, g.few) in
          key_tells (key_at keys p) s.disc s.low below (in_use used p) (g.free p) (rw (ne_eqb p 65535 n) at a)
          ∙ record_fits w (key_at keys) (in_use used) s.disc τ d p _ _ n refl
          (sym (key_fits w τ d s.low below one.1 m.trail m.low under (key_at keys p) s.disc))

      -- An entry whose depth fits is refused by its pointer.
      pub pass_lost : pointer_fits w (key_at keys) (in_use used) s.disc τ d (record_of 65535 p) ≡ false → PassedEntry w keys used c s τ dummy d p None
      pass_lost o = record { verdict = sym o ∙ whole m true fits; carried = tt }

      -- It passes by its pointer, with what is carried behind it; the sum of the discriminator is wrapped, and need not be.
      pub pass_made : (most : ℕ) → suc most ≡ 2 ^ (w - c) → (r : Pass) → pointer_fits w (key_at keys) (in_use used) s.disc τ d (record_of 65535 p) ≡ true → r.disc ≡ (bit_or s.disc below + 1) % 2 ^ 64
          → r.low ≡ below → r.limit ≡ cond (eqb p 65535) below most → r.dummies ≡ cond (eqb p 65535) (suc s.dummies) s.dummies → PassedEntry w keys used c s τ dummy d p (Some r)
      pass_made most k r o e l f n =
          record {
            verdict = sym o ∙ whole m true fits;
            carried = record {
              disc = exact ∙ next_disc;
              bound = omega (arith, exact, next_bound);
              above = omega (arith, exact, l, or_right s.disc below);
              meets = record { trail = one.1; low = rw l under; limit = rw f (go (eqb p 65535)) };
              dummies = n;
            };
          }
        where
          exact : r.disc ≡ bit_or s.disc below + 1
          exact = e ∙ mod-eq_of_lt (omega (arith, next_bound, pow_mono pre.width))

          go : (t : Bool) → suc (cond t below most) ≡ 2 ^ (w - max c (cond t d 0))
          go true =
              let q : max c d ≡ d = omega (arith, past) in
              rw q under
          go false =
              let q : max c 0 ≡ c = omega arith in
              rw q k
