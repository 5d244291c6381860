-- Figure 6 level by level (01, "A walk goes from the root down"): the positions left and the depth before are carried into the child. Assumes nothing.
use Rattle.std.proofs.Math.Option.{none}
use Rattle.std.specs.Prelude.{List, [], ℕ, zero, suc}
use Rattle.leaf_list.specs.Entries.{Entry, entry}
use Rattle.page_tree.specs.Tree.{Node, depth, Tree}
use Rattle.page_tree.specs.Walk.{walk}

-- What a search finds: the positions left, the depth before the entry, and the entry.
abbrev pub Found : Type 0
Found = List ℕ × ℕ × Entry

abbrev pub nowhere : Found
nowhere = ([], 0, entry 0 none)

-- Over a flat list.
abbrev pub find_flat : List ℕ → ℕ → List Entry → Found
find_flat = walk (depth 0) (λ bs τ e es. (bs, τ, e)) (λ e r. r) nowhere

-- Below an entry of a page.
abbrev pub find_below : (n : ℕ) → List ℕ → ℕ → Node n → Found
find_below zero bs τ e = (bs, τ, e)
find_below (suc n) bs τ page = walk (depth n) (λ bs τ x xs. find_below n bs τ x) (λ x r. r) nowhere bs τ page

abbrev pub find_in : List ℕ → Tree → Found
find_in bs t = find_below (suc t.0) bs 0 t.1
