-- New roots (01, "above a cut root comes a new root, itself cut while too long"). Assumes nothing.
use mathlib.Core.Path.{◌≡◌, refl, ap, sym, ◌∙◌}
use mathlib.Core.Logic.{◌⊎◌, inl, inr}
use mathlib.Core.List.{List, [], ◌∷◌, append-nil}
use Prim.Native.Nat.{ℕ, zero, suc, ◌+◌, ◌≤◌, ◌<◌}
use native.Mathlib.Omega.{arith}
use lib.ListN.{length}
use Rattle.page_tree.specs.Rows.{All, flats, sum, Closed, Page}
use Rattle.page_tree.specs.Tree.{Node, depth, leaves, Sound, page_count, Tree, leaves_of, pages_of, SoundTree}
use Rattle.page_tree.specs.Cutting.{parts}
use Rattle.page_tree.specs.OnPages.{grow, grown}
use Rattle.page_tree.proofs.ListLaws.{flats_concat, sum_concat}
use Rattle.page_tree.proofs.CuttingLaws.{cut_join, cut_all, cut_few, cut_cases, parts_cut}

-- Pages of sound things are sound.
pub sound_pages : (E n : ℕ) (xs : List (Node (suc n))) → All (Page (depth n) E) xs → All (All (Sound E n)) xs → All (Sound E (suc n)) xs
sound_pages E n [] h g = tt
sound_pages E n (x ∷ xs) h g = ((h.0, g.0), sound_pages E n xs h.1 g.1)

-- The parts of a closed row of sound things are sound pages, and close as the row did.
pub parts_sound : (E n c : ℕ) (row : List (Node n)) → 1 ≤ E → Closed (depth n) c row → All (Sound E n) row
    → Closed (depth (suc n)) c (parts (depth n) E row) × All (Sound E (suc n)) (parts (depth n) E row)
parts_sound E n c row one cl s =
    let o = parts_cut (depth n) E c row one cl in
    (o.closed, sound_pages E n (parts (depth n) E row) o.pages (cut_all (depth n) E (Sound E n) (length row) row s))

-- On level 0 below the parts stands what stood below the row.
pub parts_leaves : (E n : ℕ) (row : List (Node n)) → flats (leaves (suc n)) (parts (depth n) E row) ≡ flats (leaves n) row
parts_leaves E n row = flats_concat (leaves n) (parts (depth n) E row) ∙ ap (flats (leaves n)) (cut_join (depth n) E (length row) row)

-- Over two or more, fewer parts stand: so growing ends.
pub parts_fewer : {A : Type 0} (d : A → ℕ) (E : ℕ) (row : List A) → 2 ≤ E → 2 ≤ length row → length (parts d E row) < length row
parts_fewer d E row h g = omega (arith, (cut_few d E (omega arith) (length row) row).1)

module _ (E : ℕ) where
  -- The parts of a new root's row.
  abbrev pub root_parts : (n : ℕ) → List (Node (suc n)) → List (Node (suc (suc n)))
  root_parts n row = parts (depth (suc n)) E row

  -- Growing by cases: nothing, one part, no fuel, and a new level.
  pub grow_induction : (P : ℕ → (n : ℕ) → List (Node (suc n)) → Tree → Type 0)
      → ((fuel n : ℕ) → P fuel n [] (n, []))
      → ((fuel n : ℕ) (x : Node (suc n)) → P fuel n (x ∷ []) (n, x))
      → ((n : ℕ) (x y : Node (suc n)) (xs : List (Node (suc n))) → P zero n (x ∷ y ∷ xs) (suc n, x ∷ y ∷ xs))
      → ((fuel n : ℕ) (x y : Node (suc n)) (xs : List (Node (suc n)))
      → P fuel (suc n) (root_parts n (x ∷ y ∷ xs)) (grow E fuel (suc n) (root_parts n (x ∷ y ∷ xs)))
      → P (suc fuel) n (x ∷ y ∷ xs) (grow E fuel (suc n) (root_parts n (x ∷ y ∷ xs))))
      → (fuel n : ℕ) (xs : List (Node (suc n))) → P fuel n xs (grow E fuel n xs)
  grow_induction P nil one stop more zero n [] = nil zero n
  grow_induction P nil one stop more zero n (x ∷ []) = one zero n x
  grow_induction P nil one stop more zero n (x ∷ y ∷ xs) = stop n x y xs
  grow_induction P nil one stop more (suc fuel) n [] = nil (suc fuel) n
  grow_induction P nil one stop more (suc fuel) n (x ∷ []) = one (suc fuel) n x
  grow_induction P nil one stop more (suc fuel) n (x ∷ y ∷ xs) =
      more fuel n x y xs (grow_induction P nil one stop more fuel (suc n) (root_parts n (x ∷ y ∷ xs)))

  -- One part is the root.
  pub grow_one : (fuel n : ℕ) (x : Node (suc n)) → grow E fuel n (x ∷ []) ≡ (n, x)
  grow_one zero n x = refl
  grow_one (suc fuel) n x = refl

  -- Level 0 stays as it is.
  pub grow_leaves : (fuel n : ℕ) (xs : List (Node (suc n))) → leaves_of (grow E fuel n xs) ≡ flats (leaves (suc n)) xs
  grow_leaves =
      grow_induction (λ fuel n xs t. leaves_of t ≡ flats (leaves (suc n)) xs) (λ fuel n. refl) (λ fuel n x. sym (append-nil (leaves (suc n) x)))
      (λ n x y xs. refl)
      (λ fuel n x y xs ih. ih ∙ parts_leaves E (suc n) (x ∷ y ∷ xs))

  module _ (two : 2 ≤ E) where
    -- Over a closed row of sound pages grows a sound tree, and over two or more a root of two or more.
    pub grow_sound : (fuel n : ℕ) (xs : List (Node (suc n))) (c : ℕ) → Closed (depth (suc n)) c xs → All (Sound E (suc n)) xs → length xs ≤ suc fuel
        → SoundTree E (grow E fuel n xs) × (2 ≤ length xs → 2 ≤ length (grow E fuel n xs).1)
    grow_sound =
        grow_induction
        (λ fuel n xs t. (c : ℕ) → Closed (depth (suc n)) c xs → All (Sound E (suc n)) xs → length xs ≤ suc fuel
        → SoundTree E t × (2 ≤ length xs → 2 ≤ length t.1))
        (λ fuel n c cl s l. absurd cl) (λ fuel n x c cl s l. (s.0, λ h. absurd (omega arith))) (λ n x y xs c cl s l. absurd (omega arith))
        (λ fuel n x y xs ih c cl s l.
        let o = parts_sound E (suc n) c (x ∷ y ∷ xs) (omega arith) cl s in
        let k = ih c o.0 o.1 (omega (arith, parts_fewer (depth (suc n)) E (x ∷ y ∷ xs) two (omega arith))) in
        (k.0, λ h. again fuel n (x ∷ y ∷ xs) h (cut_cases (depth (suc n)) E (omega arith) (length (x ∷ y ∷ xs)) (x ∷ y ∷ xs)) k.1))
      where
        again : (fuel n : ℕ) (v : List (Node (suc n))) → 2 ≤ length v → (root_parts n v ≡ v ∷ []) ⊎ (2 ≤ length (root_parts n v))
            → (2 ≤ length (root_parts n v) → 2 ≤ length (grow E fuel (suc n) (root_parts n v)).1) → 2 ≤ length (grow E fuel (suc n) (root_parts n v)).1
        again fuel n v h (inl e) g = rw (e, grow_one fuel (suc n) v) h
        again fuel n v h (inr k) g = g k

    -- Fuel that is enough: more changes nothing.
    pub grow_fuel : (fuel n : ℕ) (xs : List (Node (suc n))) → length xs ≤ suc fuel → (more : ℕ) → length xs ≤ suc more
        → grow E fuel n xs ≡ grow E more n xs
    grow_fuel =
        grow_induction (λ fuel n xs t. length xs ≤ suc fuel → (more : ℕ) → length xs ≤ suc more → t ≡ grow E more n xs)
        (λ fuel n l more m. nil n more)
        (λ fuel n x l more m. sym (grow_one more n x)) (λ n x y xs l. absurd (omega arith)) again
      where
        nil : (n more : ℕ) → (n, []) ≡ grow E more n []
        nil n zero = refl
        nil n (suc more) = refl

        again : (fuel n : ℕ) (x y : Node (suc n)) (xs : List (Node (suc n)))
            → (length (root_parts n (x ∷ y ∷ xs)) ≤ suc fuel → (more : ℕ) → length (root_parts n (x ∷ y ∷ xs)) ≤ suc more
            → grow E fuel (suc n) (root_parts n (x ∷ y ∷ xs)) ≡ grow E more (suc n) (root_parts n (x ∷ y ∷ xs)))
            → length (x ∷ y ∷ xs) ≤ suc (suc fuel) → (more : ℕ) → length (x ∷ y ∷ xs) ≤ suc more
            → grow E fuel (suc n) (root_parts n (x ∷ y ∷ xs)) ≡ grow E more n (x ∷ y ∷ xs)
        again fuel n x y xs ih l zero m = absurd (omega arith)
        again fuel n x y xs ih l (suc more) m =
            let k = parts_fewer (depth (suc n)) E (x ∷ y ∷ xs) two (omega arith) in ih (omega arith) more (omega arith)

    -- "above a cut root comes a new root, itself cut while too long": no fuel is seen.
    pub grown_again : (n : ℕ) (x y : Node (suc n)) (xs : List (Node (suc n))) → grown E n (x ∷ y ∷ xs) ≡ grown E (suc n) (root_parts n (x ∷ y ∷ xs))
    grown_again n x y xs =
        grow_fuel (suc (length xs)) (suc n) (root_parts n (x ∷ y ∷ xs)) (omega (arith, parts_fewer (depth (suc n)) E (x ∷ y ∷ xs) two (omega arith)))
        (length (root_parts n (x ∷ y ∷ xs))) (omega arith)

  -- The pages of the new levels: all parts of each.
  abbrev pub pages_above : ℕ → (n : ℕ) → List (Node (suc n)) → ℕ
  pages_above zero n [] = 0
  pages_above zero n (x ∷ []) = 0
  pages_above zero n (x ∷ y ∷ xs) = 1
  pages_above (suc fuel) n [] = 0
  pages_above (suc fuel) n (x ∷ []) = 0
  pages_above (suc fuel) n (x ∷ y ∷ xs) = length (root_parts n (x ∷ y ∷ xs)) + pages_above fuel (suc n) (root_parts n (x ∷ y ∷ xs))

  -- The pages of the tree: those of the parts, and those of the new levels.
  pub grow_pages : 1 ≤ E → (fuel n : ℕ) (xs : List (Node (suc n))) → 1 ≤ length xs
      → pages_of (grow E fuel n xs) ≡ sum (page_count (suc n)) xs + pages_above fuel n xs
  grow_pages one =
      grow_induction (λ fuel n xs t. 1 ≤ length xs → pages_of t ≡ sum (page_count (suc n)) xs + pages_above fuel n xs) (λ fuel n h. absurd (omega arith))
      (λ fuel n x h. single fuel n x)
      (λ n x y xs h. omega arith)
      (λ fuel n x y xs ih h.
      let ps : List (Node (suc (suc n))) = root_parts n (x ∷ y ∷ xs) in
      omega (
        arith,
        sum_concat (page_count (suc n)) ps,
        ap (sum (page_count (suc n))) (cut_join (depth (suc n)) E (length (x ∷ y ∷ xs)) (x ∷ y ∷ xs)),
        ih (cut_few (depth (suc n)) E one (length (x ∷ y ∷ xs)) (x ∷ y ∷ xs)).0,
      ))
    where
      single : (fuel n : ℕ) (x : Node (suc n)) → page_count (suc n) x ≡ (page_count (suc n) x + 0) + pages_above fuel n (x ∷ [])
      single zero n x = omega arith
      single (suc fuel) n x = omega arith
