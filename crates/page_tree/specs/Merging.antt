-- Merging (02, request (i); figure 12): after a removal, along the way of the key from level 0 up, a page with few entries is joined with one beside it. Assumes nothing.
use Rattle.std.specs.Prelude.{Bool, true, false, cond, List, [], ◌∷◌, ◌++◌, ℕ, zero, suc, ◌+◌, ◌*◌, leb, ltb, length}
use Rattle.page_tree.specs.Tree.{Node, depth}
use Rattle.page_tree.specs.Walk.{walk}

-- A page with n entries is sparse: "it holds fewer than a quarter of E entries".
abbrev pub sparse : ℕ → ℕ → Bool
sparse E n = ltb (4 * n) E

-- Neighbours x and y may be one: the depth of the left one "is greater than" that of the right one "and both fit in one page".
abbrev pub joinable : {A : Type 0} → ℕ → (A → ℕ) → (A → ℕ) → A → A → Bool
joinable E depth size x y = cond (ltb (depth y) (depth x)) (leb (size x + size y) E) false

-- The rest of a row, and whether its first thing is still to be joined with a neighbour.
abbrev pub Offered : Type 0 → Type 0
Offered A = Bool × List A

-- Things of a row, each with the depth of its parent entry, the number of its entries, and what two neighbours joined are.
module _ {A : Type 0} (E : ℕ) (depth size : A → ℕ) (glue : A → A → A) where
  -- "join it with its right neighbour under the same parent"
  abbrev pub with_right : A → List A → List A
  with_right x [] = x ∷ []
  with_right x (y ∷ ys) = cond (joinable E depth size x y) (glue x y ∷ ys) (x ∷ y ∷ ys)

  -- "join it with its left neighbour under the same parent"; "Where such a page can't be so joined", with the right one.
  abbrev pub with_left : A → A → List A → List A
  with_left z x xs = cond (joinable E depth size z x) (glue z x ∷ xs) (z ∷ with_right x xs)

  -- The thing found, before those after it.
  abbrev pub offer : A → List A → Offered A
  offer x xs = (sparse E (size x), x ∷ xs)

  -- One thing more on the left: it is the left neighbour of a thing that is still to be joined.
  abbrev pub beside : A → Bool → List A → List A
  beside z false xs = z ∷ xs
  beside z true [] = z ∷ []
  beside z true (x ∷ xs) = with_left z x xs

  -- The same on the way back: what was to be joined is settled then.
  abbrev pub accept : A → Offered A → Offered A
  accept z r = (false, beside z r.0 r.1)

  -- The row's end on the left: a thing still to be joined has no left neighbour.
  abbrev pub settle : Bool → List A → List A
  settle false xs = xs
  settle true [] = []
  settle true (x ∷ xs) = with_right x xs

  -- A row, with the thing found changed by `below` and then joined with a neighbour where the rule says so.
  abbrev pub merge_in : (List ℕ → A → A) → List ℕ → List A → List A
  merge_in below bs row =
      let r : Offered A = walk depth (λ bs τ x xs. offer (below bs x) xs) accept (false, []) bs 0 row in
      settle r.0 r.1

-- A page of level n, with all below it: first the page below it that covers the key, then the two beside that one ("level by level").
abbrev pub merge_page : ℕ → (n : ℕ) → List ℕ → Node (suc n) → Node (suc n)
merge_page E zero bs page = page
merge_page E (suc n) bs page = merge_in E (depth (suc n)) length (λ x y. x ++ y) (merge_page E n) bs page
