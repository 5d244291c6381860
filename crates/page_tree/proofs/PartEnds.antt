-- Where the parts of a row stand: the ends of parts one behind the other. Assumes nothing.
use mathlib.Core.Path.{◌≡◌, refl, sym, ap, ◌∙◌}
use mathlib.Core.Bool.{Bool, true, false}
use mathlib.Core.List.{List, [], ◌∷◌, ◌++◌, append-nil}
use Prim.Native.Nat.{ℕ, zero, suc, ◌+◌, ◌-◌, ◌≤◌, ◌<◌}
use native.Mathlib.Omega.{arith}
use lib.Dec.{leb}
use lib.ListN.{length, get_or, take, drop, length-append}
use lib.Seq.{slice, length-slice, take-take, take-add, take_at, drop_at, drop-drop, length-take-le, take-append-add, drop-append-add}
use borrow.Author.Tests.{leb-true, leb-false}
use Rattle.page_tree.specs.Rows.{All, concat}
use Rattle.page_tree.specs.Cutting.{split, cut, parts}
use Rattle.page_tree.specs.Row.{ends_of}
use Rattle.leaf_list.proofs.Lists.{all_append}
use Rattle.page_tree.proofs.Splitting.{split_join, split_sizes}
use Rattle.page_tree.proofs.CuttingLaws.{cut_fits, cut_long, cut_join, parts_again}

-- Where part k begins, where the parts stand one behind the other from 0 on.
abbrev pub start_of : {A : Type 0} → List (List A) → ℕ → ℕ
start_of xss k = length (concat (take k xss))

module _ {A : Type 0} where
  -- There are as many ends as parts.
  pub length_ends : (from : ℕ) (xss : List (List A)) → length (ends_of from xss) ≡ length xss
  length_ends from [] = refl
  length_ends from (xs ∷ xss) = ap suc (length_ends (from + length xs) xss)

  -- The ends of more parts behind.
  pub ends_append : (from : ℕ) (xss yss : List (List A)) → ends_of from (xss ++ yss) ≡ ends_of from xss ++ ends_of (from + length (concat xss)) yss
  ends_append from [] yss = ap (λ (k : ℕ). ends_of k yss) (let e : from ≡ from + 0 = omega arith in e)
  ends_append from (xs ∷ xss) yss =
      ap (λ l. (from + length xs) ∷ l)
      (ends_append (from + length xs) xss yss
      ∙ ap (λ (k : ℕ). ends_of (from + length xs) xss ++ ends_of k yss)
      (let e : from + length xs + length (concat xss) ≡ from + length (xs ++ concat xss) = omega (arith, length-append xs (concat xss)) in e))

  -- Each part ends where the next begins.
  pub end_at : (from : ℕ) (xss : List (List A)) (k : ℕ) → k < length xss → get_or (ends_of from xss) k 0 ≡ from + start_of xss (suc k)
  end_at from [] k h = absurd (omega arith)
  end_at from (xs ∷ xss) zero h = ap (λ l. from + length l) (sym (append-nil xs))
  end_at from (xs ∷ xss) (suc k) h =
      end_at (from + length xs) xss k (omega arith) ∙ omega (arith, length-append xs (concat (take (suc k) xss)))

  -- No end is past the row.
  pub end_within : (from : ℕ) (xss : List (List A)) (k : ℕ) → k < length xss → get_or (ends_of from xss) k 0 ≤ from + length (concat xss)
  end_within from [] k h = absurd (omega arith)
  end_within from (xs ∷ xss) zero h = omega (arith, length-append xs (concat xss))
  end_within from (xs ∷ xss) (suc k) h = omega (arith, length-append xs (concat xss), end_within (from + length xs) xss k (omega arith))

  -- A part stands in the row between its begin and the next.
  pub part_at : (xss : List (List A)) (k : ℕ) → k < length xss
      → get_or xss k [] ≡ slice (start_of xss k) (start_of xss (suc k)) (concat xss)
  part_at [] k h = absurd (omega arith)
  part_at (xs ∷ xss) zero h = rw (append-nil xs) (sym (take_at xs (concat xss) (length xs) refl))
  part_at (xs ∷ xss) (suc k) h =
      rw (
        length-append xs (concat (take k xss)),
        length-append xs (concat (take (suc k) xss)),
        take-append-add xs (concat xss) (start_of xss (suc k)),
        drop-append-add xs (take (start_of xss (suc k)) (concat xss)) (start_of xss k),
      )
      (part_at xss k (omega arith))

  -- The next part begins as much later as the part is long.
  pub start_next : (xss : List (List A)) (k : ℕ) → k < length xss → start_of xss (suc k) ≡ start_of xss k + length (get_or xss k [])
  start_next [] k h = absurd (omega arith)
  start_next (xs ∷ xss) zero h = ap length (append-nil xs) ∙ omega arith
  start_next (xs ∷ xss) (suc k) h =
      length-append xs (concat (take (suc k) xss)) ∙ omega (arith, length-append xs (concat (take k xss)), start_next xss k (omega arith))

  -- The left part of a part that is two.
  pub slice_left : (from m to : ℕ) (z xs ys : List A) → m ≤ to → to ≤ length z → m ≡ from + length xs → slice from to z ≡ xs ++ ys → slice from m z ≡ xs
  slice_left from m to z xs ys h g e s =
      let f : from ≤ length (take to z) = omega (arith, length-take-le to z g) in
      ap (drop from) (sym (take-take m to z h) ∙ ap (λ (k : ℕ). take k (take to z)) e ∙ take-add from (length xs) (take to z))
      ∙ drop_at (take from (take to z)) (take (length xs) (slice from to z)) from (length-take-le from (take to z) f)
      ∙ ap (take (length xs)) s ∙ take_at xs ys (length xs) refl

  -- The right part.
  pub slice_right : (from m to : ℕ) (z xs ys : List A) → m ≡ from + length xs → slice from to z ≡ xs ++ ys → slice m to z ≡ ys
  slice_right from m to z xs ys e s =
      ap (λ (k : ℕ). drop k (take to z)) e ∙ sym (drop-drop (length xs) from (take to z)) ∙ ap (drop (length xs)) s ∙ drop_at xs ys (length xs) refl

module _ {A : Type 0} (depth : A → ℕ) (E : ℕ) (one : 1 ≤ E) where
  -- A part has 1 to E things.
  abbrev Sized : List A → Type 0
  Sized xs = (1 ≤ length xs) × (length xs ≤ E)

  cut_sizes : (fuel : ℕ) (row : List A) → 1 ≤ length row → length row ≤ fuel → All Sized (cut depth E fuel row)
  cut_sizes zero row h k = absurd (omega arith)
  cut_sizes (suc fuel) row h k = step (leb (length row) E) refl (λ xs a b. cut_sizes fuel xs a b)
    where
      step : (t : Bool) → leb (length row) E ≡ t → ((xs : List A) → 1 ≤ length xs → length xs ≤ fuel → All Sized (cut depth E fuel xs))
          → All Sized (cut depth E (suc fuel) row)
      step true e ih = rw (cut_fits depth E (suc fuel) row (leb-true _ _ e)) ((h, leb-true _ _ e), tt)
      step false e ih =
          let l = leb-false (length row) E e in
          let n = split_sizes depth row (omega arith) in
          rw (cut_long depth E fuel row l)
          (all_append Sized (cut depth E fuel (split depth row).1) (cut depth E fuel (split depth row).2)
          (ih (split depth row).1 n.0 (omega arith)) (ih (split depth row).2 n.1 (omega arith)))

  pub parts_sizes : (row : List A) → 1 ≤ length row → All (λ xs. (1 ≤ length xs) × (length xs ≤ E)) (parts depth E row)
  parts_sizes row h = cut_sizes (length row) row h (omega arith)

  -- The ends of the parts of a row that is cut at m: those of the left part, then those of the right.
  pub ends_long : (z : List A) (from to m : ℕ) → from ≤ to → to ≤ length z → E < to - from → m ≡ from + length (split depth (slice from to z)).1
      → (from < m) × (m < to) × (ends_of from (parts depth E (slice from to z)) ≡ ends_of from (parts depth E (slice from m z)) ++ ends_of m (parts depth E (slice m to z)))
  ends_long z from to m h g l e =
      let row = slice from to z in
      let left = (split depth row).1 in
      let right = (split depth row).2 in
      let s = length-slice from to z g in
      let n = split_sizes depth row (omega arith) in
      let j = sym (split_join depth row) in (
        omega arith,
        omega arith,
        rw (
          slice_left from m to z left right (omega arith) g e j,
          slice_right from m to z left right e j,
          parts_again depth E one row (omega arith),
          ends_append from (parts depth E left) (parts depth E right),
          cut_join depth E (length left) left,
          e,
        ),
      )
