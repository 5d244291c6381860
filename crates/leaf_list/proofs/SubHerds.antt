-- As many of a herd's keys, in order, are the herd. Assumes nothing.
use mathlib.Core.Path.{◌≡◌, refl, ap₂, ap, subst, ◌∙◌}
use mathlib.Core.Logic.{inl, inr, ◌↔◌}
use mathlib.Core.Bool.{Bool, true, false}
use mathlib.Core.List.{[], ◌∷◌, List}
use Prim.Native.Nat.{ℕ, ◌<◌, ◌≤◌, suc, ◌^◌}
use native.Mathlib.Omega.{arith}
use lib.ListN.{length}
use Rattle.leaf_list.specs.Keys.{zero_bits}
use Rattle.leaf_list.specs.Entries.{Entry, live_records}
use Rattle.leaf_list.specs.Herd.{Herd, Above, Sorted, records_of, KeysOf, Narrow}
use Rattle.leaf_list.specs.Trie.{trie_list}
use Rattle.leaf_list.proofs.HerdLaws.{above_trans}
use Rattle.leaf_list.proofs.HerdItems.{live_records_trie_list}
use Rattle.leaf_list.proofs.Fitting.{Fitting}
use Rattle.leaf_list.proofs.FittingHerds.{herd_with, AllInUse, bits_of, OwnList, fitting_own, own_fitting}
use Rattle.leaf_list.proofs.RegisterHerd.{Holds, WeaklySorted, holds_at_least, IsHerdOf}

-- Every key of the one is held by the other, with its record.
abbrev pub SubHerd : Herd → Herd → Type 0
SubHerd [] s = Unit {0}
SubHerd (x ∷ xs) s = Holds x.0 x.1 s × SubHerd xs s

-- A key above the first is held by the rest.
pub holds_later : (k r : ℕ) (y : ℕ × ℕ) (s : Herd) → y.0 < k → Holds k r (y ∷ s) → Holds k r s
holds_later k r y s h (inl e) = absurd (omega (arith, e.0))
holds_later k r y s h (inr i) = i

-- So for all keys above the first.
pub sub_herd_later : (y : ℕ × ℕ) (s xs : Herd) → Above y.0 xs → SubHerd xs (y ∷ s) → SubHerd xs s
sub_herd_later y s [] a h = tt
sub_herd_later y s (x ∷ xs) a h = (holds_later x.0 x.1 y s a.0 h.0, sub_herd_later y s xs a.1 h.1)

-- It has no more keys.
pub sub_herd_length : (s xs : Herd) → Sorted xs → WeaklySorted s → SubHerd xs s → length xs ≤ length s
sub_herd_length s [] o q h = omega arith
sub_herd_length [] (x ∷ xs) o q h = absurd h.0
sub_herd_length (y ∷ s) (x ∷ xs) o q h = go h.0 (λ a. sub_herd_length s xs o.1 q.1 a) (λ a. sub_herd_length s (x ∷ xs) o q.1 a)
  where
    go : Holds x.0 x.1 (y ∷ s) → (SubHerd xs s → length xs ≤ length s) → (SubHerd (x ∷ xs) s → suc (length xs) ≤ length s) → suc (length xs) ≤ suc (length s)
    go (inl e) f g = omega (arith, f (sub_herd_later y s xs (above_trans y.0 x.0 xs (omega (arith, e.0)) o.0) h.1))
    go (inr i) f g = omega (arith, g (i, sub_herd_later y s xs (above_trans y.0 x.0 xs (holds_at_least y.0 x.0 x.1 s q.0 i) o.0) h.1))

-- With as many keys it is the herd.
pub sub_herd_same : (s xs : Herd) → Sorted xs → WeaklySorted s → SubHerd xs s → length xs ≡ length s → xs ≡ s
sub_herd_same [] [] o q h e = refl
sub_herd_same (y ∷ s) [] o q h e = absurd (omega arith)
sub_herd_same [] (x ∷ xs) o q h e = absurd (omega arith)
sub_herd_same (y ∷ s) (x ∷ xs) o q h e = go h.0 (λ a. sub_herd_same s xs o.1 q.1 a (omega arith))
  where
    go : Holds x.0 x.1 (y ∷ s) → (SubHerd xs s → xs ≡ s) → x ∷ xs ≡ y ∷ s
    go (inl z) f =
        let p : x ≡ y = λ i. (z.0 i, z.1 i) in
        ap₂ (λ (a : ℕ × ℕ) (b : Herd). a ∷ b) p (f (sub_herd_later y s xs (above_trans y.0 x.0 xs (omega (arith, z.0)) o.0) h.1))
    go (inr i) f =
        absurd
        (omega (arith, sub_herd_length s (x ∷ xs) o q.1 (i, sub_herd_later y s xs (above_trans y.0 x.0 xs (holds_at_least y.0 x.0 x.1 s q.0 i) o.0) h.1)))

-- As many keys as records.
pub length_herd_with : (key_of : ℕ → ℕ) (rs : List ℕ) → length (herd_with key_of rs) ≡ length rs
length_herd_with key_of [] = refl
length_herd_with key_of (r ∷ rs) = ap suc (length_herd_with key_of rs)

-- As many records as keys.
pub length_records_of : (s : Herd) → length (records_of s) ≡ length s
length_records_of [] = refl
length_records_of (x ∷ s) = ap suc (length_records_of s)

-- Where no record in use has a key of more than w bits, neither has their herd.
pub narrow_in_use : (w : ℕ) (key_of : ℕ → ℕ) (used : ℕ → Bool) → ((r : ℕ) → used r ≡ true → key_of r < 2 ^ w)
    → (s : Herd) → KeysOf key_of s → AllInUse used (records_of s) → Narrow w s
narrow_in_use w key_of used narrow [] k a = tt
narrow_in_use w key_of used narrow (x ∷ s) k a = (subst (λ (y : ℕ). y < 2 ^ w) k.0 (narrow x.1 a.0), narrow_in_use w key_of used narrow s k.1 a.1)

-- The list against the herd of a register.
module _ (w : ℕ) (key_of : ℕ → ℕ) (used : ℕ → Bool) (s : Herd) (b : IsHerdOf key_of used s) (narrow : (r : ℕ) → used r ≡ true → key_of r < 2 ^ w) where
  -- Records in use are in the herd.
  sub_herd_with : (rs : List ℕ) → AllInUse used rs → SubHerd (herd_with key_of rs) s
  sub_herd_with [] a = tt
  sub_herd_with (r ∷ rs) a = (b.all r a.0, sub_herd_with rs a.1)

  -- A list fits, with as many live entries as the herd has keys, exactly if it is the leaf list and the herd is sorted.
  pub fitting_leaf_list : (es : List Entry)
      → (Fitting w (bits_of w key_of) used (zero_bits w) 0 false es × (length (live_records es) ≡ length s)) ↔ ((es ≡ trie_list w s) × Sorted s)
  fitting_leaf_list es = (to, fro)
    where
      to : Fitting w (bits_of w key_of) used (zero_bits w) 0 false es × (length (live_records es) ≡ length s) → (es ≡ trie_list w s) × Sorted s
      to h =
          let o : OwnList w key_of used narrow es = fitting_own w key_of used narrow es h.0 in
          let e : herd_with key_of (live_records es) ≡ s =
          sub_herd_same s (herd_with key_of (live_records es)) o.1 b.ordered (sub_herd_with (live_records es) o.2) (length_herd_with key_of (live_records es) ∙ h.1) in
          (o.0 ∙ ap (trie_list w) e, subst Sorted e o.1)

      fro : (es ≡ trie_list w s) × Sorted s → Fitting w (bits_of w key_of) used (zero_bits w) 0 false es × (length (live_records es) ≡ length s)
      fro h =
          let q : Narrow w s = narrow_in_use w key_of used narrow s b.keys_of b.uses in
          rw h.0 (own_fitting w key_of used s b.keys_of b.uses q h.1, ap length (live_records_trie_list w s q h.1) ∙ length_records_of s)
