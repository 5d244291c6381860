-- The rows that an insertion cuts, as rows of depths (02, "every row that insertion cuts"). Assumes nothing.
use Rattle.std.specs.Prelude.{◌≡◌, cond, List, [], ◌∷◌, ◌++◌, map, ℕ, zero, suc, leb, length}
use Rattle.leaf_list.specs.Keys.{bits}
use Rattle.leaf_list.specs.Search.{positions}
use Rattle.page_tree.specs.Rows.{itself}
use Rattle.page_tree.specs.Tree.{Node, depth, Tree}
use Rattle.page_tree.specs.Cutting.{split, parts}
use Rattle.page_tree.specs.QuickCut.{quick_place}
use Rattle.page_tree.specs.Walk.{walk}
use Rattle.page_tree.specs.OnPages.{Replacement, new_entries, replace_in, insert_below}

-- "the place found is 01's", of a row of depths
abbrev pub RightPlace : List ℕ → Type 0
RightPlace row = quick_place itself row ≡ length (split itself row).1

module _ {A : Type 0} (depth : A → ℕ) where
  -- The rows cut where 01 cuts a row: the row itself, then "the left part first, then the right, .. while too long"; fuel as in cutting.
  unfoldable pub cut_again : ℕ → ℕ → List A → List (List ℕ)
  cut_again E zero row = []
  cut_again E (suc fuel) row = cond (leb (length row) E) [] (map depth row ∷ cut_again E fuel (split depth row).1 ++ cut_again E fuel (split depth row).2)

  abbrev pub cut_rows : ℕ → List A → List (List ℕ)
  cut_rows E row = cut_again E (length row) row

-- The rows cut below an entry, and then the page's own, with what stands in the place of the entry found (`insert_below`).
abbrev pub cut_below : ℕ → Replacement → (n : ℕ) → List ℕ → ℕ → Node n → List (List ℕ)
cut_below E new zero bs τ e = []
cut_below E new (suc n) bs τ page =
    walk (depth n) (λ bs τ x xs. cut_below E new n bs τ x) (λ x r. r) [] bs τ page
    ++ cut_rows (depth n) E (replace_in (depth n) (insert_below E new n) bs τ page)

-- The rows cut in new roots (`grow`).
abbrev pub cut_above : ℕ → ℕ → (n : ℕ) → List (Node (suc n)) → List (List ℕ)
cut_above E zero n xs = []
cut_above E (suc fuel) n [] = []
cut_above E (suc fuel) n (x ∷ []) = []
cut_above E (suc fuel) n (x ∷ y ∷ xs) = cut_rows (depth (suc n)) E (x ∷ y ∷ xs) ++ cut_above E fuel (suc n) (parts (depth (suc n)) E (x ∷ y ∷ xs))

-- "every row that insertion cuts": pages with new entries, parts that are cut again, rows of new roots (`insert_tree`).
abbrev pub rows_cut : ℕ → Replacement → List ℕ → Tree → List (List ℕ)
rows_cut E new bs t =
    let roots : List (Node (suc t.0)) = insert_below E new (suc t.0) bs 0 t.1 in
    cut_below E new (suc t.0) bs 0 t.1 ++ cut_above E (length roots) t.0 roots

-- The rows that an on cuts (`on_tree`).
abbrev pub on_rows_cut : ℕ → ℕ → (ℕ → ℕ) → ℕ → ℕ → Tree → List (List ℕ)
on_rows_cut w E key_of key r t = rows_cut E (new_entries (λ x. bits w (key_of x)) (bits w key) r) (positions 0 (bits w key)) t
