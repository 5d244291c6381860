-- The pages of a table by their numbers, and the tree that is read from one of them down. Assumes nothing.
use Rattle.std.specs.Prelude.{cond, List, map, ℕ, zero, suc, ◌+◌, min, eqb, length}
use Rattle.std.proofs.Math.Option.{Option, none, some}
use Rattle.leaf_list.specs.Entries.{Entry, entry}
use Rattle.page_tree.specs.Rows.{sum}
use Rattle.page_tree.specs.Tree.{Node, Tree}
use Rattle.page_tree.specs.Numbered.{Numbered, NumberedTree}
use Rattle.index_table.specs.Layout.{Layout, Ref, page_bytes, refs_of}

-- The entries of each page.
abbrev pub Pages : Type 0
Pages = ℕ → List Ref

abbrev pub pages_at : Layout → List ℕ → Pages
pages_at L b p = refs_of L (page_bytes L b p)

-- "A pointer means a record on level 0"; NIL is no record.
abbrev pub record_of : ℕ → ℕ → Option ℕ
record_of nil pointer = cond (eqb pointer nil) none (some pointer)

-- The entry of a leaf list that a stored entry of a page of level 0 is.
abbrev pub leaf_of : ℕ → Ref → Entry
leaf_of nil x = entry x.0 (record_of nil x.1)

-- What an entry of rank n stands for: of rank 0 it stands in a page of level 0; of rank n + 1 it points at a page of level n.
unfoldable pub node_at : ℕ → (n : ℕ) → Pages → Ref → Node n
node_at nil zero pages x = leaf_of nil x
node_at nil (suc n) pages x = map (node_at nil n pages) (pages x.1)

-- The same with the numbers of the pages.
unfoldable pub numbered_at : ℕ → (n : ℕ) → Pages → Ref → Numbered n
numbered_at nil zero pages x = leaf_of nil x
numbered_at nil (suc n) pages x = (x.1, map (numbered_at nil n pages) (pages x.1))

-- 1 if the two pages are one, else 0.
unfoldable pub same : ℕ → ℕ → ℕ
same p q = cond (eqb p q) 1 0

-- How often page q is met on the ways down from an entry of rank n ("reached", and by how many entries).
unfoldable pub met : ℕ → Pages → Ref → ℕ → ℕ
met zero pages x q = 0
met (suc n) pages x q = same x.1 q + sum (λ y. met n pages y q) (pages x.1)

-- The same for a row of entries.
abbrev pub met_all : ℕ → Pages → List Ref → ℕ → ℕ
met_all n pages row q = sum (λ y. met n pages y q) row

-- "in use if its count is not 0": 1, else 0.
abbrev pub in_use : List Ref → ℕ
in_use row = min 1 (length row)

-- f 0 + f 1 + .., n of them.
unfoldable pub sum_to : ℕ → (ℕ → ℕ) → ℕ
sum_to zero f = 0
sum_to (suc n) f = sum_to n f + f n

-- How many of the first P pages are in use.
abbrev pub used_pages : ℕ → Pages → ℕ
used_pages P pages = sum_to P (λ q. in_use (pages q))

-- The root, as an entry: nothing is shallower than what it closes.
abbrev pub root_ref : ℕ → Ref
root_ref root = (0, root)

-- The tree below a root page of a level.
abbrev pub tree_at : ℕ → Pages → ℕ → ℕ → Tree
tree_at nil pages level root = (level, node_at nil (suc level) pages (root_ref root))

abbrev pub numbered_tree_at : ℕ → Pages → ℕ → ℕ → NumberedTree
numbered_tree_at nil pages level root = (level, numbered_at nil (suc level) pages (root_ref root))
