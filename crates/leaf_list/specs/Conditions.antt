-- What makes a list the leaf list of a register, entry by entry from left to right: the twin of LeafList that a check runs
-- (proofs/Check shows that a list passes exactly if it is the leaf list). Assumes nothing.
use Rattle.std.specs.Prelude.{Bool, true, false, cond, not, ◌&&◌, ◌||◌, List, [], ◌∷◌, ℕ, suc, max, leb, ltb, eqb}
use Rattle.std.proofs.Math.Option.{Option, none, some}
use Rattle.leaf_list.specs.Keys.{bit_at, set_bit_at, first_bits}
use Rattle.leaf_list.specs.Entries.{Entry, entry, is_nil}

-- The pointer of an entry of depth d, after the discriminator D and the depth τ: a dummy is first or deeper than the entry before;
-- a record is in use, and its key has the first max τ d bits of D.
abbrev pub pointer_fits : ℕ → (ℕ → ℕ) → (ℕ → Bool) → ℕ → ℕ → ℕ → Option ℕ → Bool
pointer_fits w key_of used D τ d none = eqb τ 0 || ltb τ d
pointer_fits w key_of used D τ d (some r) = used r && eqb (first_bits w (max τ d) (key_of r)) (first_bits w (max τ d) D)

-- The depth is at most w, bit d of D is clear, and after a dummy the entry is deeper.
abbrev pub entry_fits : ℕ → (ℕ → ℕ) → (ℕ → Bool) → ℕ → ℕ → Bool → ℕ → Option ℕ → Bool
entry_fits w key_of used D τ dummy d p = leb d w && ((eqb d 0 || not (bit_at w d D)) && ((not dummy || ltb τ d) && pointer_fits w key_of used D τ d p))

-- What a check carries from entry to entry, and from page to page.
pub record State : Type 0 where
  -- the discriminator and the depth of the last entry, and whether it was a dummy
  pub disc : ℕ
  pub trail : ℕ
  pub dummy : Bool
  -- how many live entries there were
  pub live : ℕ
  -- the last entry had depth 0
  pub closed : Bool
  -- every entry so far fitted
  pub fits : Bool

abbrev pub start : State
start = record { disc = 0; trail = 0; dummy = false; live = 0; closed = false; fits = true }

abbrev pub step : ℕ → (ℕ → ℕ) → (ℕ → Bool) → State → Entry → State
step w key_of used s (entry d p) =
    record {
      disc = cond (eqb d 0) 0 (set_bit_at w d s.disc);
      trail = d;
      dummy = is_nil p;
      live = cond (is_nil p) s.live (suc s.live);
      closed = eqb d 0;
      fits = s.fits && (not s.closed && entry_fits w key_of used s.disc s.trail s.dummy d p);
    }

abbrev pub run : ℕ → (ℕ → ℕ) → (ℕ → Bool) → State → List Entry → State
run w key_of used s [] = s
run w key_of used s (e ∷ es) = run w key_of used (step w key_of used s e) es

-- At the end: every entry fitted, the closing one was the last, and as many were live as records are in use.
abbrev pub passes : State → ℕ → Bool
passes s n = (s.fits && s.closed) && eqb s.live n
