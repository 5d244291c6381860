-- In every row that an insertion cuts, the last depth is below all others, so the quick search finds 01's place. Assumes nothing.
use mathlib.Core.Path.{◌≡◌, refl, ◌∙◌}
use mathlib.Core.Bool.{Bool, true, false, cond}
use mathlib.Core.List.{List, [], ◌∷◌, ◌++◌, map}
use Prim.Native.Nat.{ℕ, zero, suc, ◌+◌, ◌≤◌}
use native.Mathlib.Omega.{arith}
use lib.Dec.{leb, ltb}
use lib.ListN.{length, length-append}
use borrow.Author.Tests.{leb-false}
use Rattle.leaf_list.proofs.Lists.{all_append, all_weaker}
use Rattle.leaf_list.proofs.Positions.{Beyond, Rising}
use Rattle.page_tree.specs.Rows.{All, itself, Closed, LastBelow}
use Rattle.page_tree.specs.Tree.{Node, depth, Sound, Tree, pages_of, SoundTree}
use Rattle.page_tree.specs.Cutting.{split, cut, parts}
use Rattle.page_tree.specs.Walk.{rest, walk}
use Rattle.page_tree.specs.Finding.{Found, nowhere, find_below, find_in}
use Rattle.page_tree.specs.OnPages.{Replacement, replace_in, insert_below, pages_below, grow, insert_tree}
use Rattle.page_tree.specs.CutRows.{RightPlace, cut_again, cut_rows, cut_below, cut_above, rows_cut}
use Rattle.page_tree.proofs.ListLaws.{all_unit}
use Rattle.page_tree.proofs.ClosedRows.{closed_below}
use Rattle.page_tree.proofs.RowMaps.{closed_map}
use Rattle.page_tree.proofs.Splitting.{split_shallowest, split_closed}
use Rattle.page_tree.proofs.QuickCutLaws.{quick_law}
use Rattle.page_tree.proofs.CuttingLaws.{parts_cut}
use Rattle.page_tree.proofs.WalkLaws.{walk_stop, walk_pass, walk_induction}
use Rattle.page_tree.proofs.Growing.{root_parts, pages_above}
use Rattle.page_tree.proofs.InsertionPages.{insert_tree_pages}
use Rattle.page_tree.proofs.InsertionSound.{Fits, insert_below_in_place, row_in_place}

-- In every row of depths the last is below all others.
abbrev AllBelow : List (List ℕ) → Type 0
AllBelow rows = All (LastBelow itself) rows

module _ {A : Type 0} (depth : A → ℕ) (E : ℕ) where
  -- Each row cut makes one part more.
  pub cut_again_parts : (fuel : ℕ) (row : List A) → length (cut depth E fuel row) ≡ suc (length (cut_again depth E fuel row))
  unfolding cut cut_again
  cut_again_parts zero row = refl
  cut_again_parts (suc fuel) row =
      go (leb (length row) E) (cut_again_parts fuel (split depth row).1) (cut_again_parts fuel (split depth row).2)
    where
      ls : List (List A)
      ls = cut depth E fuel (split depth row).1

      rs : List (List A)
      rs = cut depth E fuel (split depth row).2

      ls' : List (List ℕ)
      ls' = cut_again depth E fuel (split depth row).1

      rs' : List (List ℕ)
      rs' = cut_again depth E fuel (split depth row).2

      go : (t : Bool) → length ls ≡ suc (length ls') → length rs ≡ suc (length rs')
          → length (cond t (row ∷ []) (ls ++ rs)) ≡ suc (length (cond t [] (map depth row ∷ ls' ++ rs')))
      go true p q = refl
      go false p q = omega (arith, length-append ls rs, length-append ls' rs')

  -- Where a closed row is cut, it and all parts that are cut again are closed.
  cut_again_below : 1 ≤ E → (fuel : ℕ) (row : List A) (c : ℕ) → Closed depth c row → AllBelow (cut_again depth E fuel row)
  unfolding cut_again
  cut_again_below one zero row c h = tt
  cut_again_below one (suc fuel) row c h =
      go (leb (length row) E) refl (λ c. cut_again_below one fuel (split depth row).1 c) (λ c. cut_again_below one fuel (split depth row).2 c)
    where
      ls : List (List ℕ)
      ls = cut_again depth E fuel (split depth row).1

      rs : List (List ℕ)
      rs = cut_again depth E fuel (split depth row).2

      same : All (λ x. depth x ≡ depth x) row
      same = all_weaker (λ x. Unit {0}) (λ x. depth x ≡ depth x) row (λ x u. refl) (all_unit row)

      go : (t : Bool) → leb (length row) E ≡ t → ((c : ℕ) → Closed depth c (split depth row).1 → AllBelow ls)
          → ((c : ℕ) → Closed depth c (split depth row).2 → AllBelow rs) → AllBelow (cond t [] (map depth row ∷ ls ++ rs))
      go true e p q = tt
      go false e p q =
          let long = leb-false (length row) E e in (
            closed_below itself c (map depth row) (closed_map depth itself depth c row same h),
            all_append (LastBelow itself) ls rs (p (split depth row).0 (split_shallowest depth row (omega arith)).first)
                (q c (split_closed depth c row (omega arith) h).1),
          )

-- Below an entry, at every level.
cut_below_below : (E m : ℕ) (new : Replacement) → 1 ≤ E → (n : ℕ) (bs : List ℕ) (τ : ℕ) (x : Node n) → Sound E n x → Rising bs
    → Beyond (depth n x) bs → Fits m new (find_below n bs τ x) → AllBelow (cut_below E new n bs τ x)
cut_below_below E m new one zero bs τ x s a e q = tt
cut_below_below E m new one (suc n) bs τ page s a e q =
    all_append (LastBelow itself) (walk (depth n) (λ bs τ x xs. cut_below E new n bs τ x) (λ x r. r) [] bs τ page) (cut_rows (depth n) E row)
    (walk_induction (depth n) (λ bs τ x xs. cut_below E new n bs τ x) (λ x r. r) [] (Sound E n) (depth (suc n) page)
    (λ bs τ xs rows. Fits m new (find_below (suc n) bs τ xs) → AllBelow rows)
    (λ bs τ x xs cl p a e q. cut_below_below E m new one n bs τ x p.0 a e
    (rw (walk_stop (depth n) find (λ x r. r) nowhere bs τ x xs e) at q))
    (λ b bs τ x y ys r l p h ih q. ih (rw (walk_pass (depth n) find (λ x r. r) nowhere b bs τ x (y ∷ ys) h) at q))
    bs τ page s.0.0 s.1 a e q)
    (cut_again_below (depth n) E one (length row) row (depth (suc n) page) (row_in_place E m new one n bs τ page s a e q).closed)
  where
    find : List ℕ → ℕ → Node n → List (Node n) → Found
    find bs τ x xs = find_below n bs τ x

    row : List (Node n)
    row = replace_in (depth n) (insert_below E new n) bs τ page

-- Of new roots.
cut_above_below : (E : ℕ) → 1 ≤ E → (fuel n : ℕ) (xs : List (Node (suc n))) (c : ℕ) → Closed (depth (suc n)) c xs → AllBelow (cut_above E fuel n xs)
cut_above_below E one zero n xs c h = tt
cut_above_below E one (suc fuel) n [] c h = tt
cut_above_below E one (suc fuel) n (x ∷ []) c h = tt
cut_above_below E one (suc fuel) n (x ∷ y ∷ xs) c h =
    all_append (LastBelow itself) (cut_rows (depth (suc n)) E (x ∷ y ∷ xs)) _
    (cut_again_below (depth (suc n)) E one (length (x ∷ y ∷ xs)) (x ∷ y ∷ xs) c h)
    (cut_above_below E one fuel (suc n) (parts (depth (suc n)) E (x ∷ y ∷ xs)) c (parts_cut (depth (suc n)) E c (x ∷ y ∷ xs) one h).closed)

-- ---- how many rows are cut

-- A walk that hands back what it found, and what g makes of that.
walk_into : {A B X : Type 0} (d : A → ℕ) (g : B → X) (found : List ℕ → ℕ → A → List A → B) (none : B) (bs : List ℕ) (τ : ℕ) (xs : List A)
    → g (walk d found (λ x r. r) none bs τ xs) ≡ walk d (λ bs τ x xs. g (found bs τ x xs)) (λ x r. r) (g none) bs τ xs
walk_into d g found none bs τ [] = refl
walk_into d g found none [] τ (x ∷ xs) = refl
walk_into {A} {B} {X} d g found none (b ∷ bs) τ (x ∷ xs) = step (ltb (d x) b) (walk_into d g found none (rest (d x) b bs) (d x) xs)
  where
    r : B
    r = walk d found (λ x r. r) none (rest (d x) b bs) (d x) xs

    r' : X
    r' = walk d (λ bs τ x xs. g (found bs τ x xs)) (λ x r. r) (g none) (rest (d x) b bs) (d x) xs

    step : (t : Bool) → g r ≡ r' → g (cond t (found (b ∷ bs) τ x xs) r) ≡ cond t (g (found (b ∷ bs) τ x xs)) r'
    step true ih = refl
    step false ih = ih

-- Below an entry each takes one page.
cut_below_pages : (E : ℕ) (new : Replacement) (n : ℕ) (bs : List ℕ) (τ : ℕ) (x : Node n) → length (cut_below E new n bs τ x) ≡ pages_below E new n bs τ x
cut_below_pages E new zero bs τ x = refl
cut_below_pages E new (suc n) bs τ page =
    let row : List (Node n) = replace_in (depth n) (insert_below E new n) bs τ page in
    let below : List (List ℕ) = walk (depth n) (λ bs τ x xs. cut_below E new n bs τ x) (λ x r. r) [] bs τ page in
    let here : length below ≡ walk (depth n) (λ bs τ x xs. pages_below E new n bs τ x) (λ x r. r) 0 bs τ page =
    walk_into (depth n) length (λ bs τ x xs. cut_below E new n bs τ x) [] bs τ page
    ∙ (λ i. walk (depth n) (λ bs τ x xs. cut_below_pages E new n bs τ x i) (λ x r. r) 0 bs τ page) in
    omega (arith, here, length-append below (cut_rows (depth n) E row), cut_again_parts (depth n) E (length row) row)

-- In new roots each takes one page, and so does each new level.
cut_above_pages : (E fuel n : ℕ) (xs : List (Node (suc n))) → pages_above E fuel n xs + n ≡ length (cut_above E fuel n xs) + (grow E fuel n xs).0
cut_above_pages E zero n [] = refl
cut_above_pages E zero n (x ∷ []) = refl
cut_above_pages E zero n (x ∷ y ∷ xs) = omega arith
cut_above_pages E (suc fuel) n [] = refl
cut_above_pages E (suc fuel) n (x ∷ []) = refl
cut_above_pages E (suc fuel) n (x ∷ y ∷ xs) =
    let up : List (Node (suc (suc n))) = root_parts E n (x ∷ y ∷ xs) in
    omega (
      arith,
      cut_above_pages E fuel (suc n) up,
      length-append (cut_rows (depth (suc n)) E (x ∷ y ∷ xs)) (cut_above E fuel (suc n) up),
      cut_again_parts (depth (suc n)) E (length (x ∷ y ∷ xs)) (x ∷ y ∷ xs),
    )

-- As many are named as there are cuts: an insertion takes one page for each of these rows, and one for each new level.
pub rows_cut_pages : (E : ℕ) (new : Replacement) (bs : List ℕ) (t : Tree) → 1 ≤ E
    → pages_of (insert_tree E new bs t) + t.0 ≡ (pages_of t + length (rows_cut E new bs t)) + (insert_tree E new bs t).0
rows_cut_pages E new bs t one =
    let roots : List (Node (suc t.0)) = insert_below E new (suc t.0) bs 0 t.1 in
    omega (
      arith,
      insert_tree_pages E new one bs t,
      length-append (cut_below E new (suc t.0) bs 0 t.1) (cut_above E (length roots) t.0 roots),
      cut_below_pages E new (suc t.0) bs 0 t.1,
      cut_above_pages E (length roots) t.0 roots,
    )

-- ---- the place found in them

module _ (E m : ℕ) (new : Replacement) (bs : List ℕ) (t : Tree) (one : 1 ≤ E) (s : SoundTree E t) (a : Rising bs)
    (e : Beyond (depth (suc t.0) t.1) bs) (q : Fits m new (find_in bs t)) where
  -- "the last depth is below all others", in every row that the insertion cuts.
  pub rows_cut_below : AllBelow (rows_cut E new bs t)
  rows_cut_below =
      let roots : List (Node (suc t.0)) = insert_below E new (suc t.0) bs 0 t.1 in
      let o = insert_below_in_place E m new one (suc t.0) bs 0 t.1 s a e q in
      all_append (LastBelow itself) (cut_below E new (suc t.0) bs 0 t.1) (cut_above E (length roots) t.0 roots)
      (cut_below_below E m new one (suc t.0) bs 0 t.1 s a e q) (cut_above_below E one (length roots) t.0 roots (depth (suc t.0) t.1) o.closed)

  -- "In every row that insertion cuts, the place found is 01's."
  pub rows_cut_right : All RightPlace (rows_cut E new bs t)
  rows_cut_right = all_weaker (LastBelow itself) RightPlace (rows_cut E new bs t) (λ row h. quick_law itself row h) rows_cut_below
