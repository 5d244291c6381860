-- The search of a page's row by the discriminators of its own entries. Assumes nothing.
use mathlib.Core.Path.{◌≡◌, refl, sym, ap, subst, ◌∙◌}
use mathlib.Core.Logic.{◌⊎◌, inl, inr}
use mathlib.Core.Bool.{Bool, cond}
use mathlib.Core.List.{List, ◌∷◌}
use Prim.Native.Nat.{ℕ, suc, ◌+◌, ◌-◌, ◌/◌, ◌%◌, ◌^◌, ◌≤◌, ◌<◌}
use native.Mathlib.Omega.{arith}
use native.Mathlib.Nat.{mod-lt, eq-or-lt_of_le, eq-zero-or-pos, lt_of_le_of_lt, zero-div}
use native.Mathlib.Numerals.{add-one}
use lib.Dec.{leb}
use lib.ListN.{length, get_or, drop}
use Rattle.std.proofs.lemmas.Bool.{cases_lt}
use lib.Pow.{pow_pos}
use lib.Seq.{drop-cons}
use borrow.Author.Tests.{le-leb, lt-leb}
use Rattle.leaf_list.specs.Keys.{bits, first_difference}
use Rattle.leaf_list.specs.Depths.{Unmatched, Unrepeated}
use Rattle.index_table.specs.Layout.{Ref}
use Rattle.table_search.specs.declared.Spot.{Spot}
use Rattle.table_search.specs.Places.{ahead, last_before, last_position, depth_of, spot_at, Stopped}
use Rattle.table_search.proofs.BitsAhead.{ahead_low}
use Rattle.table_search.proofs.PageDiscriminators.{Apart, next_before, next_behind, disc_rises, next_fits, apart_start, apart_stop, apart_pass, apart_next, apart_position, last_next}
use Rattle.table_search.proofs.Stops.{Seeking, depth_before, depth_before_lem, seeking_start, seeking_more, seeking_stop}

-- The search before entry i, with the discriminator D of the entries before it: a bit that D has is the depth of one that no shallower one followed.
pub record SeekingBy (w key b₀ : ℕ) (row : List Ref) (a D i : ℕ) : Type 0 where
  pub bits_are : a ≡ ahead w key b₀
  pub position : ℕ
  pub seeking : Seeking w key b₀ row position i
  pub apart : Apart w a D position
  pub below : D ≤ a
  pub trailing : (τ : ℕ) → last_position w τ D ≡ depth_before τ row i
  pub unclosed : (z : ℕ) → z ≤ w → D / 2 ^ (w - z) % 2 ≡ 1 → Unmatched depth_of z (drop i row)
  pub unrepeated : Unrepeated depth_of (drop i row)

-- It ends there: the entry is the last, or shallower than the position.
pub record Halted (w key b₀ : ℕ) (row : List Ref) (a D i : ℕ) : Type 0 where
  pub by : SeekingBy w key b₀ row a D i
  pub stops : (suc i ≡ length row) ⊎ ((get_or row i (0, 0)).0 < by.position)

module _ {w key b₀ : ℕ} {row : List Ref} (wide : w ≤ 64) (pos : 0 < b₀) where
  pub seek_begun : 1 ≤ length row → b₀ ≤ w + 1 → Unrepeated depth_of row → (a : ℕ) → a ≡ ahead w key b₀ → SeekingBy w key b₀ row a 0 0
  seek_begun some high u a e =
      record {
        bits_are = e;
        position = b₀;
        seeking = seeking_start w key b₀ row some high;
        apart = subst (λ (n : ℕ). Apart w n 0 b₀) (sym e) (apart_start w key b₀ high);
        below = omega arith;
        trailing = λ τ. refl;
        unclosed = λ z h q. absurd (omega (arith, zero-div (2 ^ (w - z)), q));
        unrepeated = u;
      }

  module _ {a D i : ℕ} (s : SeekingBy w key b₀ row a D i) where
    abbrev b : ℕ
    b = s.position

    pub bits_low : a < 2 ^ w
    bits_low = rw s.bits_are (ahead_low w key b₀ pos)

    pub disc_low : D < 2 ^ w
    disc_low = lt_of_le_of_lt s.below bits_low

    here : drop i row ≡ get_or row i (0, 0) ∷ drop (suc i) row
    here = drop-cons row i (0, 0) s.seeking.inside

    module _ {d : ℕ} (low : d ≤ w) (is : d ≡ (get_or row i (0, 0)).0) where
      -- The entry's bit is clear.
      clear : D / 2 ^ (w - d) % 2 ≡ 0
      clear = go (eq-zero-or-pos (D / 2 ^ (w - d) % 2))
        where
          no : Unmatched depth_of d (get_or row i (0, 0) ∷ drop (suc i) row) → ⊥
          no (inl h) = omega (arith, is, h)
          no (inr h) = omega (arith, is, h.0)

          go : (D / 2 ^ (w - d) % 2 ≡ 0) ⊎ (0 < D / 2 ^ (w - d) % 2) → D / 2 ^ (w - d) % 2 ≡ 0
          go (inl z) = z
          go (inr z) = absurd (no (subst (Unmatched depth_of d) here (s.unclosed d low (omega (arith, z, mod-lt (D / 2 ^ (w - d)) (pow_pos 1))))))

      pub seek_fits : 0 < d → last_before w d D + 1 < 2 ^ w
      seek_fits h = omega (arith, next_fits w d D h low clear disc_low)

      -- It stops the search.
      pub halt_here : a ≤ last_before w d D → Halted w key b₀ row a D i
      halt_here l = record { by = s; stops = inr (rw (sym is) (apart_stop w a D b d low s.apart l)) }

      -- The entries behind it.
      behind : Unmatched depth_of d (drop (i + 1) row) × Unrepeated depth_of (drop (i + 1) row)
      behind =
          let at : drop (suc i) row ≡ drop (i + 1) row = ap (λ (n : ℕ). drop n row) (sym (add-one i)) in
          let u : Unrepeated depth_of (get_or row i (0, 0) ∷ drop (suc i) row) = subst (Unrepeated depth_of) here s.unrepeated in
          (rw (is, sym at) u.0, rw (sym at) u.1)

      -- What is still to be closed behind it.
      unclosed_next : (z : ℕ) → z ≤ w → suc (last_before w d D) / 2 ^ (w - z) % 2 ≡ 1 → Unmatched depth_of z (drop (i + 1) row)
      unclosed_next z h q = go (cases_lt d z)
        where
          at : drop (suc i) row ≡ drop (i + 1) row
          at = ap (λ (n : ℕ). drop n row) (sym (add-one i))

          deeper : z < d → Unmatched depth_of z (get_or row i (0, 0) ∷ drop (suc i) row) → Unmatched depth_of z (drop (i + 1) row)
          deeper l (inl u) = absurd (omega (arith, is, l, u))
          deeper l (inr u) = rw (sym at) u.1

          before : (z ≡ d) ⊎ (z < d) → Unmatched depth_of z (drop (i + 1) row)
          before (inl e) = rw e behind.0
          before (inr l) =
              deeper l (subst (Unmatched depth_of z) here (s.unclosed z h (ap (λ (n : ℕ). n % 2) (sym (next_before w d D (w - z) clear (omega arith))) ∙ q)))

          go : (d < z) ⊎ (z ≤ d) → Unmatched depth_of z (drop (i + 1) row)
          go (inr l) = before (eq-or-lt_of_le l)
          go (inl l) = absurd (omega (arith, q, next_behind w d D (w - z) (omega arith)))

      -- Its depth is before the next.
      trailing_next : 0 < d → (τ : ℕ) → last_position w τ (last_before w d D + 1) ≡ depth_before τ row (i + 1)
      trailing_next h τ =
          ap (last_position w τ) (add-one (last_before w d D)) ∙ last_next w d D τ wide h low clear ∙ is
          ∙ sym (ap (depth_before τ row) (add-one i) ∙ depth_before_lem τ row i s.seeking.inside)

      -- One entry more is passed.
      pub seek_goes : i + 1 < length row → last_before w d D < a → SeekingBy w key b₀ row a (last_before w d D + 1) (i + 1)
      seek_goes h l =
          let passes : b ≤ d = apart_pass w a D b d low s.apart l in
          let n = apart_next w key b₀ b D wide s.seeking.rise d low passes clear (subst (λ (m : ℕ). Apart w m D b) s.bits_are s.apart) in
          let more : last_before w d D + 1 ≡ suc (last_before w d D) = add-one (last_before w d D) in
          record {
            bits_are = s.bits_are;
            position = n.position;
            seeking = seeking_more w key b₀ row b i d n.position s.seeking h is passes n.passed;
            apart = subst (λ (m : ℕ). Apart w m (last_before w d D + 1) n.position) (sym s.bits_are) (subst (λ (m : ℕ). Apart w (ahead w key b₀) m n.position) (sym more) n.apart);
            below = omega (arith, l);
            trailing = trailing_next (omega (arith, pos, s.seeking.rise, passes));
            unclosed = λ z g q. unclosed_next z g (ap (λ (m : ℕ). m / 2 ^ (w - z) % 2) (sym more) ∙ q);
            unrepeated = behind.1;
          }

    pub halt_last : length row ≤ i + 1 → Halted w key b₀ row a D i
    halt_last h = record { by = s; stops = inl (omega (arith, s.seeking.inside)) }

  -- It is passed, and the next is the last.
  pub halt_next : {a D i d : ℕ} → SeekingBy w key b₀ row a D i → d ≤ w → d ≡ (get_or row i (0, 0)).0
      → (last : ℕ) → last ≡ last_before w d D → i + 1 < length row → length row ≤ i + 2 → last < a → Halted w key b₀ row a (last + 1) (i + 1)
  halt_next s low is last e h g l = rw e (halt_last (seek_goes s low is h (omega arith)) (omega arith))

  -- Two entries, of the depths d and c.
  module _ {a D i d c : ℕ} (s : SeekingBy w key b₀ row a D i) (low : d ≤ w) (is : d ≡ (get_or row i (0, 0)).0) (c_low : c ≤ w) (c_is : c ≡ (get_or row (i + 1) (0, 0)).0)
      (first second : ℕ) (first_is : first ≡ last_before w d D) (second_is : second ≡ last_before w c (first + 1)) where
    second_too : second ≡ last_before w c (last_before w d D + 1)
    second_too = second_is ∙ ap (λ (n : ℕ). last_before w c (n + 1)) first_is

    -- Both are passed,
    pub seek_two : i + 2 < length row → second < a → SeekingBy w key b₀ row a (second + 1) (i + 2)
    seek_two h l =
        let one = seek_goes s low is (omega arith) (omega (arith, disc_rises w c (first + 1), first_is, second_is, l)) in
        let e : i + 1 + 1 ≡ i + 2 = omega arith in
        rw second_too (subst (SeekingBy w key b₀ row a (last_before w c (last_before w d D + 1) + 1)) e (seek_goes one c_low c_is (omega arith) (omega (arith, second_too))))

    -- or the second stops the search.
    pub halt_second : i + 1 < length row → a ≤ second → first < a → Halted w key b₀ row a (first + 1) (i + 1)
    halt_second h g l = rw first_is (halt_here (seek_goes s low is h (omega (arith, first_is))) c_low c_is (omega (arith, second_too)))

  -- The place where it ends is told by what the search carries,
  pub stop_at : {a D i τ : ℕ} → Halted w key b₀ row a D i → (r : Spot) → r ≡ spot_at w a τ D i → Stopped w key b₀ τ row r
  stop_at {a} {D} {i} {τ} h r e =
      let s = h.by in
      subst (Stopped w key b₀ τ row) (sym e)
      (seeking_stop w key b₀ τ row s.position i (first_difference 0 (bits w a) (bits w D)) (last_position w τ D) s.seeking
      (apart_position w a D s.position (omega (arith, pos, s.seeking.rise)) s.apart) (s.trailing τ) h.stops)

  -- be it at an entry or at the one behind it.
  pub stop_of_two : {a D i d τ : ℕ} → SeekingBy w key b₀ row a D i → d ≤ w → d ≡ (get_or row i (0, 0)).0 → (last : ℕ) → last ≡ last_before w d D
      → (last < a → Halted w key b₀ row a (last + 1) (i + 1)) → (r : Spot) → r ≡ cond (leb a last) (spot_at w a τ D i) (spot_at w a τ (last + 1) (i + 1)) → Stopped w key b₀ τ row r
  stop_of_two {a} {D} {i} {d} {τ} s low is last last_is behind r e = go (cases_lt last a)
    where
      go : (last < a) ⊎ (a ≤ last) → Stopped w key b₀ τ row r
      go (inr h) = stop_at (halt_here s low is (omega (arith, last_is))) r (e ∙ ap (λ (t : Bool). cond t (spot_at w a τ D i) (spot_at w a τ (last + 1) (i + 1))) (le-leb a last h))
      go (inl h) = stop_at (behind h) r (e ∙ ap (λ (t : Bool). cond t (spot_at w a τ D i) (spot_at w a τ (last + 1) (i + 1))) (lt-leb a last h))
