-- The register of sound tables by their herd: a record is in use if a held key has it (01, "Histories"). Assumes nothing.
use mathlib.Core.Path.{◌≡◌, refl, ap, sym, ◌∙◌}
use mathlib.Core.Logic.{◌⊎◌, inl, inr}
use mathlib.Core.Bool.{Bool, true, false, cond, true≢false}
use mathlib.Core.Option.{none, some}
use mathlib.Core.List.{List, [], ◌∷◌}
use Prim.Native.Nat.{ℕ, ◌≤◌}
use native.Mathlib.Omega.{arith}
use lib.Dec.{eqb, ltb}
use lib.ListN.{length, get_or, get_or-eq_default}
use borrow.Author.Tests.{eqb-true, eqb-false, ltb-true, ltb-false}
use Rattle.leaf_list.specs.Herd.{Herd, KeysOf, records_of}
use Rattle.leaf_list.specs.Register.{key_at, in_use, herd_of}
use Rattle.leaf_list.proofs.FittingHerds.{AllInUse}
use Rattle.leaf_list.proofs.RegisterHerd.{Holds, herd_of_is}
use Rattle.index_table.specs.Soundness.{Sound}
use Rattle.table_change.specs.Changes.{is_some}
use Rattle.tag_index.specs.Histories.{key_with}
use Rattle.tag_index.specs.Claims.{byte_and_key}

-- The key of a held record.
pub key_with_held : (key_of : ℕ → ℕ) (k r : ℕ) (s : Herd) → KeysOf key_of s → Holds k r s → key_with r s ≡ some (key_of r)
key_with_held key_of k r [] g h = absurd h
key_with_held key_of k r (x ∷ s) g h = go (eqb r x.1) refl h (key_with_held key_of k r s g.1)
  where
    go : (t : Bool) → eqb r x.1 ≡ t → Holds k r (x ∷ s) → (Holds k r s → key_with r s ≡ some (key_of r))
        → cond t (some x.0) (key_with r s) ≡ some (key_of r)
    go true e h ih = ap some (sym g.0 ∙ ap key_of (sym (eqb-true r x.1 e)))
    go false e (inl h) ih = absurd (eqb-false r x.1 e h.1)
    go false e (inr h) ih = ih h

-- No key has a free record.
pub key_with_free : (used : ℕ → Bool) (r : ℕ) (s : Herd) → AllInUse used (records_of s) → used r ≡ false → key_with r s ≡ none
key_with_free used r [] a f = refl
key_with_free used r (x ∷ s) a f = go (eqb r x.1) refl (key_with_free used r s a.1 f)
  where
    go : (t : Bool) → eqb r x.1 ≡ t → key_with r s ≡ none → cond t (some x.0) (key_with r s) ≡ none
    go true e ih = absurd (true≢false (sym a.0 ∙ ap used (sym (eqb-true r x.1 e)) ∙ f))
    go false e ih = ih

module _ (keys used : List ℕ) where
  -- The key of a record in use, and none of another.
  pub key_with_is : (r : ℕ) → key_with r (herd_of keys used) ≡ cond (in_use used r) (some (key_at keys r)) none
  key_with_is r = go (in_use used r) refl
    where
      go : (t : Bool) → in_use used r ≡ t → key_with r (herd_of keys used) ≡ cond t (some (key_at keys r)) none
      go true e = key_with_held (key_at keys) (key_at keys r) r (herd_of keys used) (herd_of_is keys used).keys_of ((herd_of_is keys used).all r e)
      go false e = key_with_free (in_use used) r (herd_of keys used) (herd_of_is keys used).uses e

  -- "a record is in use if a held key has it"
  pub record_taken : (r : ℕ) → in_use used r ≡ is_some (key_with r (herd_of keys used))
  record_taken r = step (in_use used r) ∙ ap is_some (sym (key_with_is r))
    where
      step : (t : Bool) → t ≡ is_some (cond t (some (key_at keys r)) none)
      step true = refl
      step false = refl

-- "byte 1 and the key at each of these records, and byte 0 and key 0 elsewhere"
pub record_says : {index keys used : List ℕ} → Sound index keys used → (r : ℕ)
    → ◌≡◌ {A = ℕ × ℕ} (get_or used r 0, get_or keys r 0) (byte_and_key (key_with r (herd_of keys used)))
record_says {index} {keys} {used} s r = go (ltb r (length used)) refl ∙ ap byte_and_key (sym (key_with_is keys used r))
  where
    free : get_or used r 0 ≡ 0 → get_or keys r 0 ≡ 0
        → ◌≡◌ {A = ℕ × ℕ} (get_or used r 0, get_or keys r 0) (byte_and_key (cond (in_use used r) (some (key_at keys r)) none))
    free u k = rw (u, k)

    taken : get_or used r 0 ≡ 1 → ◌≡◌ {A = ℕ × ℕ} (get_or used r 0, get_or keys r 0) (byte_and_key (cond (in_use used r) (some (key_at keys r)) none))
    taken u = rw u

    by : (get_or used r 0 ≡ 0) ⊎ (get_or used r 0 ≡ 1) → (get_or used r 0 ≡ 0 → get_or keys r 0 ≡ 0)
        → ◌≡◌ {A = ℕ × ℕ} (get_or used r 0, get_or keys r 0) (byte_and_key (cond (in_use used r) (some (key_at keys r)) none))
    by (inl z) f = free z (f z)
    by (inr z) f = taken z

    go : (t : Bool) → ltb r (length used) ≡ t
        → ◌≡◌ {A = ℕ × ℕ} (get_or used r 0, get_or keys r 0) (byte_and_key (cond (in_use used r) (some (key_at keys r)) none))
    go true e =
        let h = s.register.records r (ltb-true r (length used) e) in
        by h.byte h.free
    go false e =
        let l : length used ≤ r = ltb-false r (length used) e in
        free (get_or-eq_default used 0 l) (get_or-eq_default keys 0 (let m : length keys ≤ r = omega (arith, s.lengths.register) in m))
