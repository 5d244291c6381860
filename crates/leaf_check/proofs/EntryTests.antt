-- The tests of one entry on level 0, and what is carried behind it. Assumes nothing.
use Rattle.std.proofs.Common.{◌≡◌, ℕ, suc, ◌^◌, ◌<◌, ◌≤◌, max, Bool, true, false, cond, not, ◌&&◌, eqb, leb, ◌≢◌, List, [], ◌∷◌, length, sym, refl, ap, ◌∙◌, true≢false, arith, pow_pos, eq-eqb, ne_eqb, leb-false, leb-true}
use mathlib.Core.Option.{none, some}
use lib.ListN.{get_or-eq_default}
use Rattle.leaf_list.specs.Keys.{set_bit_at, first_bits}
use Rattle.leaf_list.specs.Entries.{Entry, entry, is_nil}
use Rattle.leaf_list.specs.Register.{key_at, in_use}
use Rattle.leaf_list.specs.Conditions.{step, run, entry_fits, pointer_fits}
use Rattle.leaf_list.proofs.CheckLoop.{fits_depth}
use Rattle.index_table.specs.Pages.{record_of}
use Rattle.leaf_check.specs.Leaves.{state_of, Carried, Passing, Scanned}
use Rattle.leaf_check.specs.declared.entries.Scan.{Scan}
use Rattle.leaf_check.specs.declared.entries.Checked.{Checked}

-- A record past the register's end is not in use.
pub beyond_free : (used : List ℕ) (r : ℕ) → length used ≤ r → in_use used r ≡ false
beyond_free used r h = ap (λ (x : ℕ). eqb x 1) (get_or-eq_default used 0 h)

-- The pointer of a record fits as its parts do.
pub record_fits : (w : ℕ) (key_of : ℕ → ℕ) (used : ℕ → Bool) (D τ d p : ℕ) (u k : Bool) → p ≢ 65535 → used p ≡ u → eqb (first_bits w (max τ d) (key_of p)) (first_bits w (max τ d) D) ≡ k
    → (u && k) ≡ pointer_fits w key_of used D τ d (record_of 65535 p)
record_fits w key_of used D τ d p u k n h g = rw (ne_eqb p 65535 n, h, g)

-- The pointer of a record that is not in use does not fit.
pub record_free : (w : ℕ) (key_of : ℕ → ℕ) (used : ℕ → Bool) (D τ d p : ℕ) → p ≢ 65535 → used p ≡ false → false ≡ pointer_fits w key_of used D τ d (record_of 65535 p)
record_free w key_of used D τ d p n h = rw (ne_eqb p 65535 n, h)

-- A pointer is NIL exactly if it is 65,535.
pub is_nil_record : (p : ℕ) → is_nil (record_of 65535 p) ≡ eqb p 65535
is_nil_record p = go (eqb p 65535)
  where
    go : (t : Bool) → is_nil (cond t none (some p)) ≡ t
    go true = refl
    go false = refl

-- ---- an answer

pub one_fault : ◌≢◌ {A = ℕ} 1 0
one_fault z = omega arith

module _ {More : Type 0} {w : ℕ} {keys used : List ℕ} {held : ℕ} {s : Scan} {es : List Entry} where
  -- No, where what is asked cannot all hold.
  pub scanned_no : (r : Checked) → r.faults ≢ 0 → (More → Passing w keys used held (state_of s) es → ⊥) → Scanned More w keys used held s es r
  scanned_no r e h =
      record {
        verdict = ((λ t. absurd (e t)), (λ m. absurd (h m.0 m.1)));
        state = λ t. absurd (e t);
        carried = λ t. absurd (e t);
      }

  -- Yes, with what is carried on.
  pub scanned_yes : (r : Checked) → r.faults ≡ 0 → More → Passing w keys used held (state_of s) es → state_of r.scan ≡ run w (key_at keys) (in_use used) (state_of s) es → Carried w held r.scan
      → Scanned More w keys used held s es r
  scanned_yes r o m h e b = record { verdict = ((λ t. (m, h)), (λ t. o)); state = λ t. e; carried = λ t. b }

-- ---- one entry

module _ (w : ℕ) (keys used : List ℕ) (held : ℕ) (s : Scan) (d p : ℕ) where
  abbrev One : Checked → Type 0
  One r = Scanned (Unit {0}) w keys used held s (entry d (record_of 65535 p) ∷ []) r

  abbrev Fits : Bool
  Fits = entry_fits w (key_at keys) (in_use used) s.disc s.trail s.dummy d (record_of 65535 p)

  -- Nothing fits behind the closing entry.
  pub entry_closed : s.closed ≡ true → One (record { faults = 1; scan = s })
  entry_closed h = scanned_no _ one_fault (λ m q. true≢false (sym q.fits ∙ ap (λ (b : Bool). not b && Fits) h))

  -- An entry that does not fit is refused.
  pub entry_refused : s.closed ≡ false → Fits ≡ false → One (record { faults = 1; scan = s })
  entry_refused h g = scanned_no _ one_fault (λ m q. true≢false (sym q.fits ∙ ap (λ (b : Bool). not b && Fits) h ∙ g))

  live_one : (b : Bool) → eqb p 65535 ≡ b → (run w (key_at keys) (in_use used) (state_of s) (entry d (record_of 65535 p) ∷ [])).live ≡ cond b s.live (suc s.live)
  live_one b h = ap (λ (t : Bool). cond t s.live (suc s.live)) (is_nil_record p ∙ h)

  -- An entry that is live beyond the records held is refused.
  pub entry_beyond : (not (eqb p 65535) && leb held s.live) ≡ true → One (record { faults = 1; scan = s })
  entry_beyond h = scanned_no _ one_fault (λ m q. go (eqb p 65535) refl h q.few)
    where
      go : (b : Bool) → eqb p 65535 ≡ b → (not b && leb held s.live) ≡ true → (run w (key_at keys) (in_use used) (state_of s) (entry d (record_of 65535 p) ∷ [])).live ≤ held → ⊥
      go true e t l = true≢false (sym t)
      go false e t l = omega (arith, leb-true held s.live t, live_one false e)

  -- An entry that fits, with what is carried behind it.
  module _ (unclosed : s.closed ≡ false) (fits : Fits ≡ true) (few : (not (eqb p 65535) && leb held s.live) ≡ false) (bounds : Carried w held s) (live : ℕ) (counted : live ≡ cond (eqb p 65535) s.live (suc s.live)) where
    all_fits : (step w (key_at keys) (in_use used) (state_of s) (entry d (record_of 65535 p))).fits ≡ true
    all_fits = ap (λ (b : Bool). not b && Fits) unclosed ∙ fits

    live_few : live ≤ held
    live_few = go (eqb p 65535) few counted
      where
        go : (b : Bool) → (not b && leb held s.live) ≡ false → live ≡ cond b s.live (suc s.live) → live ≤ held
        go true t e = omega (arith, bounds.live)
        go false t e = omega (arith, leb-false held s.live t)

    one_passes : Passing w keys used held (state_of s) (entry d (record_of 65535 p) ∷ [])
    one_passes = record { fits = all_fits; few = omega (arith, live_one (eqb p 65535) refl, live_few) }

    behind : (disc : ℕ) (closed : Bool) → disc ≡ cond (eqb d 0) 0 (set_bit_at w d s.disc) → closed ≡ eqb d 0
        → state_of (record { disc = disc; trail = d; dummy = eqb p 65535; live = live; closed = closed }) ≡ step w (key_at keys) (in_use used) (state_of s) (entry d (record_of 65535 p))
    behind disc closed h g = rw (h, g, counted, all_fits, is_nil_record p)

    -- The closing entry, and what is carried behind it.
    pub entry_last : d ≡ 0 → One (record { faults = 0; scan = record { disc = 0; trail = 0; dummy = eqb p 65535; live = live; closed = true } })
    entry_last z =
        scanned_yes _ refl tt one_passes (ap (λ (t : ℕ). state_of (record { disc = 0; trail = t; dummy = eqb p 65535; live = live; closed = true })) (sym z)
        ∙ behind 0 true (rw (eq-eqb d 0 z)) (rw (eq-eqb d 0 z))) (record { disc = pow_pos w; trail = omega arith; live = live_few })

    -- Any other entry, and what is carried behind it.
    pub entry_next : d ≢ 0 → (disc : ℕ) → disc ≡ set_bit_at w d s.disc → disc < 2 ^ w → One (record { faults = 0; scan = record { disc = disc; trail = d; dummy = eqb p 65535; live = live; closed = false } })
    entry_next n disc e l =
        scanned_yes _ refl tt one_passes (behind disc false (rw (ne_eqb d 0 n) e) (rw (ne_eqb d 0 n)))
        (record { disc = l; trail = fits_depth w (key_at keys) (in_use used) s.disc s.trail s.dummy d (record_of 65535 p) fits; live = live_few })
