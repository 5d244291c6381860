-- A list written over another from a place on: what is read of it. Assumes nothing.
use mathlib.Core.Path.{◌≡◌, refl, sym, ap, ◌∙◌}
use mathlib.Core.List.{List, [], ◌∷◌, ◌++◌, append_assoc}
use Prim.Native.Nat.{ℕ, suc, ◌+◌, ◌≤◌, ◌<◌}
use native.Mathlib.Omega.{arith}
use lib.ListN.{length, get_or, take, drop, set, length-take, length-drop}
use lib.Seq.{sets, length-sets, sets-eq, take-set-le, drop-set-lt, take_at, drop_at, get_or-take, get_or-drop, drop-drop, length-take-le}
use borrow.Rule.Slice.PartMut.{put_mid}
use Rattle.std.proofs.lemmas.List.{drop-take}
use Rattle.byte_moves.specs.Over.{over}

module _ {A : Type 0} where
  -- The length stays.
  pub length_over : (l : List A) (i : ℕ) (vs : List A) → length (over l i vs) ≡ length l
  unfolding over
  length_over l i vs = length-sets l i vs

  -- Nothing is written.
  pub over_none : (l : List A) (i : ℕ) → l ≡ over l i []
  unfolding over
  over_none l i = refl

  -- One element is written.
  pub over_one : (l : List A) (i : ℕ) (a : A) → set l i a ≡ over l i (a ∷ [])
  unfolding over
  over_one l i a = refl

  -- A part of k elements holds others.
  pub over_part : (l : List A) (i k : ℕ) {vs ws : List A} → i + k ≤ length l → length vs ≡ length (take k (drop i l)) → vs ≡ ws → put_mid i k l vs ≡ over l i ws
  unfolding over
  over_part l i k {vs} {ws} h long e =
      let part : length vs ≡ k = long ∙ length-take-le k (drop i l) (omega (arith, length-drop i l)) in
      ap (λ (m : List A). take i l ++ (vs ++ m)) (drop-drop k i l ∙ ap (λ (n : ℕ). drop (i + n) l) (sym part))
      ∙ sym (append_assoc (take i l) vs (drop (i + length vs) l)) ∙ sym (sets-eq vs l i (omega arith)) ∙ ap (sets l i) e

  -- One list is written behind another.
  pub over_append : (l : List A) (i : ℕ) (vs ws : List A) → over (over l i vs) (i + length vs) ws ≡ over l i (vs ++ ws)
  unfolding over
  over_append l i [] ws = ap (λ (k : ℕ). sets l k ws) (let e : i + 0 ≡ i = omega arith in e)
  over_append l i (v ∷ vs) ws =
      ap (λ (k : ℕ). sets (sets (set l i v) (suc i) vs) k ws) (let e : i + length (v ∷ vs) ≡ suc i + length vs = omega arith in e)
      ∙ over_append (set l i v) (suc i) vs ws

  -- What stands before stays.
  pub take_over : (n : ℕ) (l : List A) (i : ℕ) (vs : List A) → n ≤ i → take n (over l i vs) ≡ take n l
  unfolding over
  take_over n l i [] h = refl
  take_over n l i (v ∷ vs) h = take_over n (set l i v) (suc i) vs (omega arith) ∙ take-set-le n l i v h

  -- What stands behind stays.
  pub drop_over : (n : ℕ) (l : List A) (i : ℕ) (vs : List A) → i + length vs ≤ n → drop n (over l i vs) ≡ drop n l
  unfolding over
  drop_over n l i [] h = refl
  drop_over n l i (v ∷ vs) h = drop_over n (set l i v) (suc i) vs (omega arith) ∙ drop-set-lt n l i v (omega arith)

  -- What was written is read back.
  pub read_over : (l : List A) (i n : ℕ) (vs : List A) → length vs ≡ n → i + n ≤ length l → take n (drop i (over l i vs)) ≡ vs
  unfolding over
  read_over l i n vs e h =
      let f : i + length vs ≤ length l = omega arith in
      let t : length (take i l) ≡ i = length-take i l ∙ omega arith in
      rw (sets-eq vs l i f, append_assoc (take i l) vs (drop (i + length vs) l), drop_at (take i l) (vs ++ drop (i + length vs) l) i t)
      (take_at vs (drop (i + length vs) l) n e)

  -- A part behind what was written stays.
  pub part_behind : (l : List A) (i j n : ℕ) (vs : List A) → i + length vs ≤ j → take n (drop j (over l i vs)) ≡ take n (drop j l)
  part_behind l i j n vs h = ap (take n) (drop_over j l i vs h)

  -- A part before what was written stays.
  pub part_before : (l : List A) (i j n : ℕ) (vs : List A) → j + n ≤ i → take n (drop j (over l i vs)) ≡ take n (drop j l)
  part_before l i j n vs h = sym (drop-take j n (over l i vs)) ∙ ap (drop j) (take_over (j + n) l i vs h) ∙ drop-take j n l

  -- An element of what was written.
  pub get_d_over : (l : List A) (i k : ℕ) (vs : List A) (d : A) → i + length vs ≤ length l → k < length vs → get_or (over l i vs) (i + k) d ≡ get_or vs k d
  get_d_over l i k vs d h g =
      sym (get_or-drop i (over l i vs) k d) ∙ sym (get_or-take (length vs) (drop i (over l i vs)) k d g)
      ∙ ap (λ (m : List A). get_or m k d) (read_over l i (length vs) vs refl h)

  -- An element behind it.
  pub get_d_over_behind : (l : List A) (i k : ℕ) (vs : List A) (d : A) → i + length vs ≤ k → get_or (over l i vs) k d ≡ get_or l k d
  get_d_over_behind l i k vs d h =
      let z : k + 0 ≡ k = omega arith in
      rw (← z) (sym (get_or-drop k (over l i vs) 0 d) ∙ ap (λ (m : List A). get_or m 0 d) (drop_over k l i vs h) ∙ get_or-drop k l 0 d)

  -- An element before it.
  pub get_d_over_before : (l : List A) (i k : ℕ) (vs : List A) (d : A) → k < i → get_or (over l i vs) k d ≡ get_or l k d
  get_d_over_before l i k vs d h = sym (get_or-take i (over l i vs) k d h) ∙ ap (λ (m : List A). get_or m k d) (take_over i l i vs (omega arith)) ∙ get_or-take i l k d h
