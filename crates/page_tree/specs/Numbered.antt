-- Trees of pages with the pages' numbers, and what on and off make of them (01, "What the contracts carry"). Assumes nothing.
use Rattle.std.specs.Prelude.{List, [], ◌∷◌, ◌++◌, map, ℕ, zero, suc, length}
use Rattle.leaf_list.specs.Keys.{bits}
use Rattle.leaf_list.specs.Entries.{Entry}
use Rattle.leaf_list.specs.Search.{positions}
use Rattle.page_tree.specs.Tree.{Node, depth, leaves, Tree}
use Rattle.page_tree.specs.Cutting.{parts}
use Rattle.page_tree.specs.OnPages.{Replacement, new_entries, replace_in}
use Rattle.page_tree.specs.Merging.{merge_in}
use Rattle.page_tree.specs.OffPages.{Left, Step, step_entry, sweep, strike, strike_in}

-- What an entry of a page stands for, with page numbers: a page of level n is a Numbered (suc n), its number and the row of its entries.
abbrev pub Numbered : ℕ → Type 0
Numbered zero = Entry
Numbered (suc n) = ℕ × List (Numbered n)

-- "page numbers aside"
abbrev pub aside : (n : ℕ) → Numbered n → Node n
aside zero e = e
aside (suc n) page = map (aside n) page.1

abbrev pub numbered_depth : (n : ℕ) → Numbered n → ℕ
numbered_depth n x = depth n (aside n x)

abbrev pub numbered_leaves : (n : ℕ) → Numbered n → List Entry
numbered_leaves n x = leaves n (aside n x)

abbrev pub NumberedTree : Type 0
NumberedTree = (n : ℕ) × Numbered (suc n)

abbrev pub tree_aside : NumberedTree → Tree
tree_aside t = (t.0, aside (suc t.0) t.1)

-- Rows under numbers, one behind the other; a row that no number is left for has number 0.
abbrev pub under : {A : Type 0} → List ℕ → List A → List (ℕ × A)
under ps [] = []
under [] (x ∷ xs) = (0, x) ∷ under [] xs
under (p ∷ ps) (x ∷ xs) = (p, x) ∷ under ps xs

-- fresh has the numbers of the new pages, by level.
module _ (E : ℕ) (fresh : ℕ → List ℕ) where
  -- "one part keeps it": the first; the others stand in new pages.
  abbrev pub insert_numbered : Replacement → (n : ℕ) → List ℕ → ℕ → Numbered n → List (Numbered n)
  insert_numbered new zero bs τ e = new bs τ e
  insert_numbered new (suc n) bs τ page = under (page.0 ∷ fresh n) (parts (numbered_depth n) E (replace_in (numbered_depth n) (insert_numbered new n) bs τ page.1))

  -- "every new root": all parts of a new root's row stand in new pages.
  abbrev pub grow_numbered : ℕ → (n : ℕ) → List (Numbered (suc n)) → NumberedTree
  grow_numbered zero n [] = (n, (0, []))
  grow_numbered zero n (x ∷ []) = (n, x)
  grow_numbered zero n (x ∷ y ∷ xs) = (suc n, (0, x ∷ y ∷ xs))
  grow_numbered (suc fuel) n [] = (n, (0, []))
  grow_numbered (suc fuel) n (x ∷ []) = (n, x)
  grow_numbered (suc fuel) n (x ∷ y ∷ xs) = grow_numbered fuel (suc n) (under (fresh (suc n)) (parts (numbered_depth (suc n)) E (x ∷ y ∷ xs)))

  abbrev pub grown_numbered : (n : ℕ) → List (Numbered (suc n)) → NumberedTree
  grown_numbered n xs = grow_numbered (length xs) n xs

  abbrev pub insert_numbered_tree : Replacement → List ℕ → NumberedTree → NumberedTree
  insert_numbered_tree new bs t = grown_numbered t.0 (insert_numbered new (suc t.0) bs 0 t.1)

  abbrev pub on_numbered : ℕ → (ℕ → ℕ) → ℕ → ℕ → NumberedTree → NumberedTree
  on_numbered w key_of key r t = insert_numbered_tree (new_entries (λ x. bits w (key_of x)) (bits w key) r) (positions 0 (bits w key)) t

-- "an emptied page is freed and its parent entry removed"; any other keeps its number.
abbrev pub kept_under : {A : Type 0} → ℕ → List A → List (ℕ × List A)
kept_under p [] = []
kept_under p (x ∷ xs) = (p, x ∷ xs) ∷ []

-- A page from right to left, with all below it.
abbrev pub step_numbered : (n : ℕ) → Step (Numbered n)
step_numbered zero s e = step_entry s e
step_numbered (suc n) s page = (kept_under page.0 (sweep (step_numbered n) s page.1 []).0, (sweep (step_numbered n) s page.1 []).1)

-- Figure 11 below an entry of a page, with the depth ν after it.
abbrev pub delete_numbered : (n : ℕ) → ℕ → List ℕ → ℕ → Numbered n → Left (Numbered n)
delete_numbered zero ν bs τ e = strike τ ν e
delete_numbered (suc n) ν bs τ page = (
  kept_under page.0 (strike_in (numbered_depth n) (numbered_leaves n) (step_numbered n) (delete_numbered n) ν bs τ page.1).0,
  (strike_in (numbered_depth n) (numbered_leaves n) (step_numbered n) (delete_numbered n) ν bs τ page.1).1,
)

-- "while the root is above level 0 with one entry, its child becomes root": a root of level n with its number and its row.
abbrev pub lower_numbered : (n : ℕ) → ℕ → List (Numbered n) → NumberedTree
lower_numbered zero p row = (zero, (p, row))
lower_numbered (suc n) p [] = (suc n, (p, []))
lower_numbered (suc n) p (x ∷ []) = lower_numbered n x.0 x.1
lower_numbered (suc n) p (x ∷ y ∷ ys) = (suc n, (p, x ∷ y ∷ ys))

abbrev pub rooted_numbered : (n : ℕ) → List (Numbered (suc n)) → NumberedTree
rooted_numbered n [] = (n, (0, []))
rooted_numbered n (x ∷ xs) = lower_numbered n x.0 x.1

-- "Which of the two joined pages keeps its number is free": the left one does.
abbrev pub join_numbered : (n : ℕ) → Numbered (suc n) → Numbered (suc n) → Numbered (suc n)
join_numbered n x y = (x.0, x.1 ++ y.1)

-- A page of level n with all below it, merged along the way of the positions; it keeps its number.
abbrev pub merge_numbered : ℕ → (n : ℕ) → List ℕ → Numbered (suc n) → Numbered (suc n)
merge_numbered E zero bs page = page
merge_numbered E (suc n) bs page =
    (page.0, merge_in E (numbered_depth (suc n)) (λ (x : Numbered (suc n)). length x.1) (join_numbered n) (merge_numbered E n) bs page.1)

abbrev pub off_numbered : ℕ → ℕ → ℕ → NumberedTree → NumberedTree
off_numbered w E key t =
    let bs : List ℕ = positions 0 (bits w key) in
    rooted_numbered t.0 (map (merge_numbered E t.0 bs) (delete_numbered (suc t.0) 0 bs 0 t.1).0)
