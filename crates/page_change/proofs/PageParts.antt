-- A page's bytes changed in part: those of one entry, or of the entries behind some that go (01, "Pages"). Assumes nothing.
use mathlib.Core.Path.{◌≡◌, sym, ap, ap₂, ◌∙◌}
use mathlib.Core.List.{List, ◌++◌, append_assoc}
use Prim.Native.Nat.{ℕ, ◌+◌, ◌≤◌}
use native.Mathlib.Omega.{arith}
use lib.ListN.{length, take, drop, replicate, length-append, length-take, length-drop, take-append-drop}
use lib.Seq.{sets-eq, take-add, take-take, take-append_seam, drop_at, drop-drop, length-take-le}
use Rattle.std.proofs.lemmas.List.{take-replicate}
use Rattle.byte_moves.specs.Over.{over}
use Rattle.byte_moves.proofs.OverLaws.{over_append}
use Rattle.index_table.specs.Layout.{Layout, page_size, page_start, Within, page_bytes, store}

-- ---- lists

module _ {A : Type 0} where
  -- A list is written over as many elements between two others.
  pub over_mid : (xs ys zs vs : List A) → length vs ≡ length ys → over (xs ++ ys ++ zs) (length xs) vs ≡ xs ++ vs ++ zs
  unfolding over
  over_mid xs ys zs vs e =
      sets-eq vs (xs ++ ys ++ zs) (length xs) (omega (arith, length-append (xs ++ ys) zs, length-append xs ys))
      ∙ ap₂ (λ (s t : List A). s ++ vs ++ t) (ap (take (length xs)) (append_assoc xs ys zs) ∙ take-append_seam xs (ys ++ zs))
      (drop_at (xs ++ ys) zs (length xs + length vs) (omega (arith, length-append xs ys)))

  -- A list in three parts.
  pub three_parts : (l : List A) (i n : ℕ) → l ≡ take i l ++ take n (drop i l) ++ drop (i + n) l
  three_parts l i n =
      sym
      (append_assoc (take i l) (take n (drop i l)) (drop (i + n) l)
      ∙ ap (λ (t : List A). take i l ++ (take n (drop i l) ++ t)) (sym (drop-drop n i l))
      ∙ ap (λ (t : List A). take i l ++ t) (take-append-drop n (drop i l)) ∙ take-append-drop i l)

-- ---- bytes moved down, and zeros behind them

module _ (b : List ℕ) (at gone n : ℕ) where
  abbrev tail : List ℕ
  tail = take n (drop (at + gone) b)

  -- Zeros that stand behind them move along,
  pub zeros_along : (free : ℕ) → gone ≤ free → take free (drop (at + gone + n) b) ≡ replicate free 0 → take (n + gone) (drop (at + gone) b) ≡ tail ++ replicate gone 0
  zeros_along free h z =
      take-add n gone (drop (at + gone) b)
      ∙ ap (λ (t : List ℕ). tail ++ t)
      (ap (take gone) (drop-drop n (at + gone) b) ∙ sym (take-take gone free (drop (at + gone + n) b) h) ∙ ap (take gone) z ∙ take-replicate gone free 0 h)

  -- or zeros are written.
  pub zeros_written : at + gone + n ≤ length b → {b₁ b₂ : List ℕ} → b₁ ≡ over b at tail → b₂ ≡ over b₁ (at + n) (replicate gone 0) → b₂ ≡ over b at (tail ++ replicate gone 0)
  zeros_written h {b₁} {b₂} g k =
      let long : length tail ≡ n = length-take-le n (drop (at + gone) b) (omega (arith, length-drop (at + gone) b)) in
      k ∙ ap₂ (λ (t : List ℕ) (i : ℕ). over t (at + i) (replicate gone 0)) g (sym long) ∙ over_append b at tail (replicate gone 0)

-- ---- a page's bytes

module _ (L : Layout) (b : List ℕ) (p : ℕ) (within : Within L b p) where
  abbrev s : ℕ
  s = page_start L p

  abbrev rest : List ℕ
  rest = drop (s + page_size L) b

  -- The table: what stands before the page, the page, and what stands behind it.
  parted : b ≡ take s b ++ page_bytes L b p ++ rest
  unfolding page_bytes
  parted = three_parts b s (page_size L)

  before : length (take s b) ≡ s
  before = length-take-le s b (omega arith)

  sized : length (page_bytes L b p) ≡ page_size L
  unfolding page_bytes
  sized = length-take (page_size L) (drop s b) ∙ omega (arith, length-drop s b)

  -- The page is stored.
  stored : (page : List ℕ) → length page ≡ page_size L → store L b p page ≡ take s b ++ page ++ rest
  stored page z =
      ap₂ (λ (l : List ℕ) (i : ℕ). over l i page) parted (sym before) ∙ over_mid (take s b) (page_bytes L b p) rest page (z ∙ sym sized)

  -- It is stored again.
  pub store_again : (page page' : List ℕ) → length page ≡ page_size L → length page' ≡ page_size L → store L (store L b p page) p page' ≡ store L b p page'
  store_again page page' z z' =
      ap₂ (λ (l : List ℕ) (i : ℕ). over l i page') (stored page z) (sym before) ∙ over_mid (take s b) page rest page' (z' ∙ sym z) ∙ sym (stored page' z')

  -- A part of the page is written over.
  pub over_part : (xs ys zs vs : List ℕ) → page_bytes L b p ≡ xs ++ ys ++ zs → length vs ≡ length ys → (at : ℕ) → at ≡ s + length xs → over b at vs ≡ store L b p (xs ++ vs ++ zs)
  over_part xs ys zs vs e l at k =
      ap₂ (λ (m : List ℕ) (i : ℕ). over m i vs) (parted ∙ ap (λ (t : List ℕ). take s b ++ t ++ rest) e ∙ shuffle ys)
      (k ∙ sym (length-append (take s b) xs ∙ omega (arith, before)))
      ∙ over_mid (take s b ++ xs) ys (zs ++ rest) vs l ∙ sym (shuffle vs) ∙ sym (stored (xs ++ vs ++ zs) long)
    where
      shuffle : (us : List ℕ) → take s b ++ (xs ++ us ++ zs) ++ rest ≡ take s b ++ xs ++ us ++ (zs ++ rest)
      shuffle us =
          append_assoc (take s b) (xs ++ us ++ zs) rest
          ∙ ap (λ (t : List ℕ). take s b ++ t) (append_assoc (xs ++ us) zs rest ∙ append_assoc xs us (zs ++ rest))
          ∙ sym (append_assoc (take s b ++ xs) us (zs ++ rest) ∙ append_assoc (take s b) xs (us ++ (zs ++ rest)))

      long : length (xs ++ vs ++ zs) ≡ page_size L
      long =
          length-append (xs ++ vs) zs
          ∙ omega (arith, length-append xs vs, l, length-append (xs ++ ys) zs, length-append xs ys, (let z : length (xs ++ ys ++ zs) ≡ page_size L = ap length (sym e) ∙ sized in z))
