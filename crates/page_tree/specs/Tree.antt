-- Trees of pages, page numbers aside (01, "Pages"). Assumes nothing.
use Rattle.std.specs.Prelude.{List, [], ◌∷◌, ℕ, zero, suc, ◌≤◌, length}
use Rattle.leaf_list.specs.Entries.{Entry, entry}
use Rattle.page_tree.specs.Rows.{All, flats, sum, last_depth, Page}

-- What an entry of a page stands for: on level 0 the entry itself, above it the child page.
-- So a page of level n is a Node (suc n), the row of its entries.
abbrev pub Node : ℕ → Type 0
Node zero = Entry
Node (suc n) = List (Node n)

-- "for every parent entry the depth equals the last depth of its child"
abbrev pub depth : (n : ℕ) → Node n → ℕ
depth zero (entry d p) = d
depth (suc n) page = last_depth (depth n) 0 page

-- "On level 0, read left to right"
abbrev pub leaves : (n : ℕ) → Node n → List Entry
leaves zero e = e ∷ []
leaves (suc n) page = flats (leaves n) page

-- The pages' rules, for the page and all below it.
abbrev pub Sound : ℕ → (n : ℕ) → Node n → Type 0
Sound E zero e = Unit {0}
Sound E (suc n) page = Page (depth n) E page × All (Sound E n) page

-- How many pages there are.
abbrev pub page_count : (n : ℕ) → Node n → ℕ
page_count zero e = 0
page_count (suc n) page = suc (sum (page_count n) page)

-- The level of the root, and the root.
abbrev pub Tree : Type 0
Tree = (n : ℕ) × Node (suc n)

abbrev pub leaves_of : Tree → List Entry
leaves_of t = leaves (suc t.0) t.1

abbrev pub pages_of : Tree → ℕ
pages_of t = page_count (suc t.0) t.1

abbrev pub SoundTree : ℕ → Tree → Type 0
SoundTree E t = Sound E (suc t.0) t.1

-- "a root above level 0 has at least two entries"
abbrev pub RootRule : Tree → Type 0
RootRule t = 1 ≤ t.0 → 2 ≤ length t.1
