-- Deletion in pages (01, "Deletion is figure 11 over the whole list, across pages"). Assumes nothing.
use Rattle.std.specs.Prelude.{cond, ℕ, zero, suc, ltb}
use Rattle.std.proofs.Math.Option.{none, some}
use mathlib.Core.List.{List, [], ◌∷◌, ◌++◌, foldr, map}
use Rattle.leaf_list.specs.Keys.{bits}
use Rattle.leaf_list.specs.Entries.{Entry, entry}
use Rattle.leaf_list.specs.Search.{positions}
use Rattle.page_tree.specs.declared.Unwind.{Unwind}
use Rattle.page_tree.specs.declared.Unwind.TheVariants.{Idle, Give, Clear}
use Rattle.page_tree.specs.Rows.{flats}
use Rattle.page_tree.specs.Tree.{Node, depth, leaves, Tree}
use Rattle.page_tree.specs.Walk.{walk}
use Rattle.page_tree.specs.Merging.{merge_page}

-- What is left in the place of one thing (it, or nothing), and what is asked of the entry before it.
abbrev pub Left : Type 0 → Type 0
Left A = List A × Unwind

-- A step to the left over one thing, by what is asked.
abbrev pub Step : Type 0 → Type 0
Step A = Unwind → A → Left A

-- One entry: it takes the depth it is given; a dummy deeper than the depth that clears goes, and so on until an entry stays.
abbrev pub step_entry : Step Entry
step_entry Idle e = (e ∷ [], Idle)
step_entry (Give d) (entry d' p) = (entry d p ∷ [], Clear d)
step_entry (Clear d) (entry d' none) = cond (ltb d d') ([], Clear d) (entry d' none ∷ [], Idle)
step_entry (Clear d) (entry d' (some r)) = (entry d' (some r) ∷ [], Idle)

-- One thing more on the left of what is left of a row.
abbrev pub over : {A : Type 0} → Step A → A → Left A → Left A
over step x r = ((step r.1 x).0 ++ r.0, (step r.1 x).1)

-- A row from right to left, before the things ys.
abbrev pub sweep : {A : Type 0} → Step A → Unwind → List A → List A → Left A
sweep step s xs ys = foldr (over step) (ys, s) xs

-- "an emptied page is freed and its parent entry removed"
abbrev pub unless_empty : {A : Type 0} → List A → List (List A)
unless_empty [] = []
unless_empty (x ∷ xs) = (x ∷ xs) ∷ []

-- A page from right to left, with all below it.
abbrev pub step_below : (n : ℕ) → Step (Node n)
step_below zero s e = step_entry s e
step_below (suc n) s page = (unless_empty (sweep (step_below n) s page []).0, (sweep (step_below n) s page []).1)

-- The depth of the first entry; "the last has no next", and ν stands for it.
abbrev pub next_depth : ℕ → List Entry → ℕ
next_depth ν [] = ν
next_depth ν (entry d p ∷ es) = d

-- Figure 11 at the entry found, between the depths τ and ν: a 1-leaf gives its depth to the entry before; another with a shallower next
-- is taken out with the dummies before it; else its pointer is set to NIL.
abbrev pub strike : ℕ → ℕ → Entry → Left Entry
strike τ ν (entry d p) = cond (ltb d τ) ([], Give d) (cond (ltb ν d) ([], Clear ν) (entry d none ∷ [], Idle))

-- Figure 11 over a row: down to the thing found, with the depth that follows it, and back to the left.
abbrev pub strike_in : {A : Type 0} → (A → ℕ) → (A → List Entry) → Step A → (ℕ → List ℕ → ℕ → A → Left A) → ℕ → List ℕ → ℕ → List A → Left A
strike_in depth leaves step at ν =
    walk depth (λ bs τ x xs. ((at (next_depth ν (flats leaves xs)) bs τ x).0 ++ xs, (at (next_depth ν (flats leaves xs)) bs τ x).1)) (over step) ([], Idle)

-- Below an entry of a page, with the depth ν after it.
abbrev pub delete_below : (n : ℕ) → ℕ → List ℕ → ℕ → Node n → Left (Node n)
delete_below zero ν bs τ e = strike τ ν e
delete_below (suc n) ν bs τ page = (
  unless_empty (strike_in (depth n) (leaves n) (step_below n) (delete_below n) ν bs τ page).0,
  (strike_in (depth n) (leaves n) (step_below n) (delete_below n) ν bs τ page).1,
)

-- "while the root is above level 0 with one entry, its child becomes root"
abbrev pub lower : (n : ℕ) → Node (suc n) → Tree
lower zero page = (zero, page)
lower (suc n) [] = (suc n, [])
lower (suc n) (x ∷ []) = lower n x
lower (suc n) (x ∷ y ∷ ys) = (suc n, x ∷ y ∷ ys)

abbrev pub rooted : (n : ℕ) → List (Node (suc n)) → Tree
rooted n [] = (n, [])
rooted n (x ∷ xs) = lower n x

-- The tree without the entry found, its pages merged; "the root rule of 01 comes last".
abbrev pub delete_tree : ℕ → List ℕ → Tree → Tree
delete_tree E bs t = rooted t.0 (map (merge_page E t.0 bs) (delete_below (suc t.0) 0 bs 0 t.1).0)

abbrev pub off_tree : ℕ → ℕ → ℕ → Tree → Tree
off_tree w E key t = delete_tree E (positions 0 (bits w key)) t
