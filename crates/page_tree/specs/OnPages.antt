-- Insertion in pages (01, "Insertion changes the page of entry i"). Assumes nothing.
use Rattle.std.specs.Prelude.{List, [], ◌∷◌, ◌++◌, ℕ, zero, suc, ◌+◌, ◌-◌, length}
use Rattle.leaf_list.specs.Keys.{Key, bits}
use Rattle.leaf_list.specs.Entries.{Entry}
use Rattle.leaf_list.specs.Search.{positions}
use Rattle.leaf_list.specs.Insertion.{insert_at}
use Rattle.page_tree.specs.Tree.{Node, depth, Tree}
use Rattle.page_tree.specs.Cutting.{parts}
use Rattle.page_tree.specs.Walk.{walk}

-- What stands in the place of the entry found, by the positions left and the depth before it.
abbrev pub Replacement : Type 0
Replacement = List ℕ → ℕ → Entry → List Entry

-- 5.1 at the entry found, for the key k with the record r.
abbrev pub new_entries : (ℕ → Key) → Key → ℕ → Replacement
new_entries key_of k r bs τ e = insert_at key_of k r τ (e ∷ [])

-- A row with the thing found replaced by a row.
abbrev pub replace_in : {A : Type 0} → (A → ℕ) → (List ℕ → ℕ → A → List A) → List ℕ → ℕ → List A → List A
replace_in depth with = walk depth (λ bs τ x xs. with bs τ x ++ xs) (λ x r. x ∷ r) []

module _ (E : ℕ) (new : Replacement) where
  -- What stands in the place of an entry, once all below it is done: "New parts enter the parent, which may be cut in turn".
  abbrev pub insert_below : (n : ℕ) → List ℕ → ℕ → Node n → List (Node n)
  insert_below zero bs τ e = new bs τ e
  insert_below (suc n) bs τ page = parts (depth n) E (replace_in (depth n) (insert_below n) bs τ page)

  -- How many pages that takes: at each level, one for each part but the first.
  abbrev pub pages_below : (n : ℕ) → List ℕ → ℕ → Node n → ℕ
  pages_below zero bs τ e = 0
  pages_below (suc n) bs τ page =
      (length (insert_below (suc n) bs τ page) - 1) + walk (depth n) (λ bs τ x xs. pages_below n bs τ x) (λ x r. r) 0 bs τ page

-- "above a cut root comes a new root, itself cut while too long": one part is the root; fuel as in cutting.
abbrev pub grow : ℕ → ℕ → (n : ℕ) → List (Node (suc n)) → Tree
grow E zero n [] = (n, [])
grow E zero n (x ∷ []) = (n, x)
grow E zero n (x ∷ y ∷ xs) = (suc n, x ∷ y ∷ xs)
grow E (suc fuel) n [] = (n, [])
grow E (suc fuel) n (x ∷ []) = (n, x)
grow E (suc fuel) n (x ∷ y ∷ xs) = grow E fuel (suc n) (parts (depth (suc n)) E (x ∷ y ∷ xs))

abbrev pub grown : ℕ → (n : ℕ) → List (Node (suc n)) → Tree
grown E n xs = grow E (length xs) n xs

-- The tree with the new entries; its level and its number of pages decide rows 8 and 7.
abbrev pub insert_tree : ℕ → Replacement → List ℕ → Tree → Tree
insert_tree E new bs t = grown E t.0 (insert_below E new (suc t.0) bs 0 t.1)

abbrev pub on_tree : ℕ → ℕ → (ℕ → ℕ) → ℕ → ℕ → Tree → Tree
on_tree w E key_of key r t = insert_tree E (new_entries (λ x. bits w (key_of x)) (bits w key) r) (positions 0 (bits w key)) t
