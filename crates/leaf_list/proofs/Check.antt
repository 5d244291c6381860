-- A list passes exactly if it is the leaf list of the register. Assumes nothing.
use mathlib.Core.Path.{◌≡◌, refl, ◌∙◌, ap, sym}
use mathlib.Core.Logic.{◌↔◌}
use mathlib.Core.Bool.{Bool, false, ◌&&◌, not, and_assoc, true, and-false, cond, and-eq-true_iff}
use mathlib.Core.Option.{none, some, Option}
use mathlib.Core.List.{List, ◌++◌, [], ◌∷◌}
use Prim.Native.Nat.{ℕ, ◌+◌, ◌<◌, ◌^◌}
use native.Mathlib.Omega.{arith}
use lib.Dec.{eqb}
use lib.ListN.{length}
use borrow.Author.Tests.{eqb-true, eq-eqb}
use Rattle.leaf_list.specs.Keys.{set_bit_at, value, zero_bits}
use Rattle.leaf_list.specs.Entries.{Entry, entry, live_records, is_nil}
use Rattle.leaf_list.specs.Herd.{Sorted, Narrow}
use Rattle.leaf_list.specs.LeafList.{leaf_list}
use Rattle.leaf_list.specs.Trie.{trie_list}
use Rattle.leaf_list.specs.Register.{in_use, key_at, count_in_use, herd_of}
use Rattle.leaf_list.specs.Conditions.{State, run, step, entry_fits, start, passes}
use Rattle.leaf_list.proofs.Bits.{value_zero_bits, zero_bits_length}
use Rattle.leaf_list.proofs.Literal.{twin}
use Rattle.leaf_list.proofs.Fitting.{Fitting}
use Rattle.leaf_list.proofs.FittingHerds.{bits_of}
use Rattle.leaf_list.proofs.RegisterHerd.{herd_of_is, length_herd_from}
use Rattle.leaf_list.proofs.SubHerds.{fitting_leaf_list, narrow_in_use}
use Rattle.leaf_list.proofs.CheckTests.{is_empty, fitting_test, test_fitting, fitting_test_lem}

-- Of three tests in a row, the middle one known.
pub regroup : (a o k x y : Bool) → o ≡ false → x ≡ y → ((a && (not o && k)) && x) ≡ (a && (k && y))
regroup a o k x y h e = rw (h, e) (and_assoc a k y)

-- No entry fits after the closing one.
pub closed_fails : (a o k : Bool) → o ≡ true → (a && (not o && k)) ≡ false
closed_fails a o k h = rw h (and-false a)

module _ (w : ℕ) (key_of : ℕ → ℕ) (used : ℕ → Bool) where
  -- Page after page: the next page takes the state that the page before it left.
  pub run_append : (xs ys : List Entry) (s : State) → run w key_of used s (xs ++ ys) ≡ run w key_of used (run w key_of used s xs) ys
  run_append [] ys s = refl
  run_append (x ∷ xs) ys s = run_append xs ys (step w key_of used s x)

  -- Once an entry did not fit, nothing makes up for it.
  pub run_lost : (es : List Entry) (s : State) → s.fits ≡ false → (run w key_of used s es).fits ≡ false
  run_lost [] s h = h
  run_lost (entry d p ∷ es) s h = run_lost es (step w key_of used s (entry d p)) (rw h)

  -- The live entries are counted.
  pub run_live : (es : List Entry) (s : State) → (run w key_of used s es).live ≡ s.live + length (live_records es)
  run_live [] s = omega arith
  run_live (entry d none ∷ es) s = run_live es (step w key_of used s (entry d none))
  run_live (entry d (some r) ∷ es) s = run_live es (step w key_of used s (entry d (some r))) ∙ omega arith

  -- After the closing entry nothing may follow.
  run_closed : (s : State) (d : ℕ) (p : Option ℕ) (rest : List Entry) → s.closed ≡ false → eqb d 0 ≡ true
      → ((run w key_of used s (entry d p ∷ rest)).fits && (run w key_of used s (entry d p ∷ rest)).closed)
      ≡ (s.fits && (entry_fits w key_of used s.disc s.trail s.dummy d p && is_empty rest))
  run_closed s d p [] h z = regroup s.fits s.closed (entry_fits w key_of used s.disc s.trail s.dummy d p) (eqb d 0) true h z
  run_closed s d p (entry d' p' ∷ rest) h z =
      let s' = step w key_of used s (entry d p) in
      let y : (run w key_of used (step w key_of used s' (entry d' p')) rest).fits ≡ false =
      run_lost rest (step w key_of used s' (entry d' p')) (closed_fails s'.fits s'.closed (entry_fits w key_of used s'.disc s'.trail s'.dummy d' p') z) in
      rw (y, and-false (entry_fits w key_of used s.disc s.trail s.dummy d p), and-false s.fits)

  -- The run does the test of the entries.
  pub run_test : (es : List Entry) (s : State) → s.closed ≡ false
      → ((run w key_of used s es).fits && (run w key_of used s es).closed) ≡ (s.fits && fitting_test w key_of used s.disc s.trail s.dummy es)
  run_test [] s h = rw h
  run_test (entry d p ∷ rest) s h = go (eqb d 0) refl (run_test rest (step w key_of used s (entry d p)))
    where
      go : (b : Bool) → eqb d 0 ≡ b
          → (eqb d 0 ≡ false → ((run w key_of used s (entry d p ∷ rest)).fits && (run w key_of used s (entry d p ∷ rest)).closed)
          ≡
          ((s.fits && (not s.closed && entry_fits w key_of used s.disc s.trail s.dummy d p))
          && fitting_test w key_of used (cond (eqb d 0) 0 (set_bit_at w d s.disc)) d (is_nil p) rest))
          → ((run w key_of used s (entry d p ∷ rest)).fits && (run w key_of used s (entry d p ∷ rest)).closed)
          ≡
          (s.fits && (entry_fits w key_of used s.disc s.trail s.dummy d p
          && cond b (is_empty rest) (fitting_test w key_of used (set_bit_at w d s.disc) d (is_nil p) rest)))
      go true z ih = run_closed s d p rest h z
      go false z ih =
          ih z
          ∙ regroup s.fits s.closed (entry_fits w key_of used s.disc s.trail s.dummy d p)
          (fitting_test w key_of used (cond (eqb d 0) 0 (set_bit_at w d s.disc)) d (is_nil p) rest)
          (fitting_test w key_of used (set_bit_at w d s.disc) d (is_nil p) rest) h
          (ap (λ (b : Bool). fitting_test w key_of used (cond b 0 (set_bit_at w d s.disc)) d (is_nil p) rest) z)

module _ (w : ℕ) (keys used : List ℕ) (narrow : (r : ℕ) → in_use used r ≡ true → key_at keys r < 2 ^ w) where
  -- From the start,
  run_from_start : (es : List Entry)
      → ((run w (key_at keys) (in_use used) start es).fits && (run w (key_at keys) (in_use used) start es).closed)
      ≡ fitting_test w (key_at keys) (in_use used) (value (zero_bits w)) 0 false es
  run_from_start es = run_test w (key_at keys) (in_use used) es start refl ∙ rw (value_zero_bits w)

  -- with the live entries of the list.
  run_counts : (es : List Entry) → (run w (key_at keys) (in_use used) start es).live ≡ length (live_records es)
  run_counts es = run_live w (key_at keys) (in_use used) es start ∙ omega arith

  -- The check against the trie's entries.
  pub check_trie_list : (es : List Entry)
      → (passes (run w (key_at keys) (in_use used) start es) (count_in_use used) ≡ true) ↔ ((es ≡ trie_list w (herd_of keys used)) × Sorted (herd_of keys used))
  check_trie_list es = (to, fro)
    where
      s : State
      s = run w (key_at keys) (in_use used) start es

      law : (Fitting w (bits_of w (key_at keys)) (in_use used) (zero_bits w) 0 false es × (length (live_records es) ≡ length (herd_of keys used)))
          ↔ ((es ≡ trie_list w (herd_of keys used)) × Sorted (herd_of keys used))
      law = fitting_leaf_list w (key_at keys) (in_use used) (herd_of keys used) (herd_of_is keys used) narrow es

      to : passes s (count_in_use used) ≡ true → (es ≡ trie_list w (herd_of keys used)) × Sorted (herd_of keys used)
      to h =
          let parts = (and-eq-true_iff (s.fits && s.closed) (eqb s.live (count_in_use used))).0 h in
          law.0 (
            test_fitting w (key_at keys) (in_use used) narrow es (zero_bits w) 0 false (zero_bits_length w) (omega arith) (sym (run_from_start es) ∙ parts.0),
            sym (run_counts es) ∙ eqb-true s.live (count_in_use used) parts.1 ∙ sym (length_herd_from (key_at keys) 0 used),
          )

      fro : (es ≡ trie_list w (herd_of keys used)) × Sorted (herd_of keys used) → passes s (count_in_use used) ≡ true
      fro h =
          let q = law.1 h in
          (and-eq-true_iff (s.fits && s.closed) (eqb s.live (count_in_use used))).1 (
            run_from_start es ∙ fitting_test_lem w (key_at keys) (in_use used) narrow es (zero_bits w) 0 false (zero_bits_length w) (omega arith) q.0,
            eq-eqb s.live (count_in_use used) (run_counts es ∙ q.1 ∙ length_herd_from (key_at keys) 0 used),
          )

-- Where no record in use has a key of more than w bits, neither has the herd of the register.
pub herd_of_narrow : (w : ℕ) (keys used : List ℕ) → ((r : ℕ) → in_use used r ≡ true → key_at keys r < 2 ^ w) → Narrow w (herd_of keys used)
herd_of_narrow w keys used narrow = narrow_in_use w (key_at keys) (in_use used) narrow (herd_of keys used) (herd_of_is keys used).keys_of (herd_of_is keys used).uses

-- The entries pass, each after the one before and page after page, exactly if they are the leaf list of the register ("On level 0,
-- read left to right, stands the leaf list of the register") and "No two records in use have one key" (herd_of_sorted).
pub check_law : (w : ℕ) (keys used : List ℕ) → ((r : ℕ) → in_use used r ≡ true → key_at keys r < 2 ^ w) → (es : List Entry)
    → (passes (run w (key_at keys) (in_use used) start es) (count_in_use used) ≡ true) ↔ ((es ≡ leaf_list w (herd_of keys used)) × Sorted (herd_of keys used))
check_law w keys used narrow es = (to, fro)
  where
    both : (passes (run w (key_at keys) (in_use used) start es) (count_in_use used) ≡ true) ↔ ((es ≡ trie_list w (herd_of keys used)) × Sorted (herd_of keys used))
    both = check_trie_list w keys used narrow es

    same : Sorted (herd_of keys used) → leaf_list w (herd_of keys used) ≡ trie_list w (herd_of keys used)
    same o = twin w (herd_of keys used) (herd_of_narrow w keys used narrow) o

    to : passes (run w (key_at keys) (in_use used) start es) (count_in_use used) ≡ true → (es ≡ leaf_list w (herd_of keys used)) × Sorted (herd_of keys used)
    to h = let q = both.0 h in (q.0 ∙ sym (same q.1), q.1)

    fro : (es ≡ leaf_list w (herd_of keys used)) × Sorted (herd_of keys used) → passes (run w (key_at keys) (in_use used) start es) (count_in_use used) ≡ true
    fro h = both.1 (h.0 ∙ same h.1, h.1)
