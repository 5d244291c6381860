-- Trees with page numbers: page numbers aside, on and off make of them what they make of trees without (01, "page numbers aside"). Assumes nothing.
use mathlib.Core.Path.{◌≡◌, refl, ap, ap₂, sym, ◌∙◌}
use mathlib.Core.Bool.{Bool, true, false, cond}
use mathlib.Core.List.{List, [], ◌∷◌, ◌++◌, map, map-append, map-id}
use Prim.Native.Nat.{ℕ, zero, suc, ◌+◌, ◌-◌, max}
use lib.Dec.{ltb}
use lib.ListN.{length, length-map}
use Rattle.leaf_list.specs.Keys.{bits}
use Rattle.leaf_list.specs.Entries.{Entry}
use Rattle.leaf_list.specs.Search.{positions}
use Rattle.page_tree.specs.declared.Unwind.{Unwind}
use Rattle.page_tree.specs.declared.Unwind.TheVariants.{Idle}
use Rattle.page_tree.specs.Rows.{All, flats}
use Rattle.page_tree.specs.Tree.{Node, depth, leaves, Tree}
use Rattle.page_tree.specs.Cutting.{parts}
use Rattle.page_tree.specs.Walk.{rest, walk}
use Rattle.page_tree.specs.Finding.{Found, nowhere, find_below, find_in}
use Rattle.page_tree.specs.OnPages.{Replacement, new_entries, replace_in, insert_below, pages_below, grow, grown, insert_tree, on_tree}
use Rattle.page_tree.specs.Merging.{merge_page}
use Rattle.page_tree.specs.OffPages.{Left, step_entry, over, sweep, unless_empty, step_below, next_depth, strike, strike_in, delete_below, lower, rooted, off_tree}
use Rattle.page_tree.specs.Numbered.{Numbered, aside, numbered_depth, numbered_leaves, NumberedTree, tree_aside, under, insert_numbered, grow_numbered, grown_numbered, insert_numbered_tree, on_numbered, kept_under, step_numbered, delete_numbered, lower_numbered, rooted_numbered, join_numbered, merge_numbered, off_numbered}
use Rattle.page_tree.proofs.RowMaps.{walk_map, parts_map}
use Rattle.page_tree.proofs.RowLengths.{longest_below}
use Rattle.page_tree.proofs.MergingMaps.{merge_in_map}

-- Walks that differ only in what is done at the place found, where At holds of what at finds there, give the same.
module _ {A B : Type 0} (depth : A → ℕ) (found found' : List ℕ → ℕ → A → List A → B) (passed : A → B → B) (none : B)
    (at : List ℕ → ℕ → A → Found) (At : Found → Type 0)
    (same : (bs : List ℕ) (τ : ℕ) (x : A) (xs : List A) → At (at bs τ x) → found bs τ x xs ≡ found' bs τ x xs) where
  pub walk_here : (bs : List ℕ) (τ : ℕ) (xs : List A) → At (walk depth (λ bs τ x xs. at bs τ x) (λ x r. r) nowhere bs τ xs)
      → walk depth found passed none bs τ xs ≡ walk depth found' passed none bs τ xs
  walk_here bs τ [] q = refl
  walk_here [] τ (x ∷ xs) q = same [] τ x xs q
  walk_here (b ∷ bs) τ (x ∷ xs) q = step (ltb (depth x) b) (walk_here (rest (depth x) b bs) (depth x) xs) q
    where
      low : Found
      low = walk depth (λ bs τ x xs. at bs τ x) (λ x r. r) nowhere (rest (depth x) b bs) (depth x) xs

      r : (List ℕ → ℕ → A → List A → B) → B
      r k = walk depth k passed none (rest (depth x) b bs) (depth x) xs

      step : (t : Bool) → (At low → r found ≡ r found') → At (cond t (at (b ∷ bs) τ x) low)
          → cond t (found (b ∷ bs) τ x xs) (passed x (r found)) ≡ cond t (found' (b ∷ bs) τ x xs) (passed x (r found'))
      step true ih q = same (b ∷ bs) τ x xs q
      step false ih q = ap (passed x) (ih q)

-- What f gives of each thing of a row that h made.
pub flats_map : {A B C : Type 0} (f : B → List C) (h : A → B) (xs : List A) → flats (λ x. f (h x)) xs ≡ flats f (map h xs)
flats_map f h [] = refl
flats_map f h (x ∷ xs) = ap (λ r. f (h x) ++ r) (flats_map f h xs)

-- Rows under numbers are the rows.
pub under_aside : (n : ℕ) (ps : List ℕ) (rows : List (List (Numbered n))) → map (aside (suc n)) (under ps rows) ≡ map (map (aside n)) rows
under_aside n ps [] = refl
under_aside n [] (x ∷ xs) = ap (λ r. map (aside n) x ∷ r) (under_aside n [] xs)
under_aside n (p ∷ ps) (x ∷ xs) = ap (λ r. map (aside n) x ∷ r) (under_aside n ps xs)

-- So are the parts of a row, under numbers.
pub parts_aside : (E n : ℕ) (ps : List ℕ) (row : List (Numbered n))
    → map (aside (suc n)) (under ps (parts (numbered_depth n) E row)) ≡ parts (depth n) E (map (aside n) row)
parts_aside E n ps row =
    under_aside n ps (parts (numbered_depth n) E row) ∙ sym (parts_map (numbered_depth n) (depth n) (aside n) E row (same row))
  where
    same : (xs : List (Numbered n)) → All (λ x. depth n (aside n x) ≡ numbered_depth n x) xs
    same [] = tt
    same (x ∷ xs) = (refl, same xs)

module _ (E : ℕ) (fresh : ℕ → List ℕ) where
  -- What stands in the place of an entry, page numbers aside.
  pub insert_aside : (new : Replacement) (n : ℕ) (bs : List ℕ) (τ : ℕ) (x : Numbered n)
      → map (aside n) (insert_numbered E fresh new n bs τ x) ≡ insert_below E new n bs τ (aside n x)
  insert_aside new zero bs τ x = map-id (new bs τ x)
  insert_aside new (suc n) bs τ page =
      parts_aside E n (page.0 ∷ fresh n) (replace_in (numbered_depth n) (insert_numbered E fresh new n) bs τ page.1)
      ∙ ap (parts (depth n) E)
      (walk_map (depth n) (aside n) (map (aside n)) (λ bs τ x xs. insert_numbered E fresh new n bs τ x ++ xs) (λ x r. x ∷ r) []
      (λ bs τ x xs. insert_below E new n bs τ x ++ xs) (λ x r. x ∷ r) []
      (λ bs τ x xs. map-append (aside n) (insert_numbered E fresh new n bs τ x) xs
      ∙ ap (λ r. r ++ map (aside n) xs) (insert_aside new n bs τ x))
      (λ x r. refl) refl bs τ page.1)

  -- New roots, page numbers aside.
  pub grow_aside : (fuel n : ℕ) (xs : List (Numbered (suc n)))
      → tree_aside (grow_numbered E fresh fuel n xs) ≡ grow E fuel n (map (aside (suc n)) xs)
  grow_aside zero n [] = refl
  grow_aside zero n (x ∷ []) = refl
  grow_aside zero n (x ∷ y ∷ xs) = refl
  grow_aside (suc fuel) n [] = refl
  grow_aside (suc fuel) n (x ∷ []) = refl
  grow_aside (suc fuel) n (x ∷ y ∷ xs) =
      grow_aside fuel (suc n) (under (fresh (suc n)) (parts (numbered_depth (suc n)) E (x ∷ y ∷ xs)))
      ∙ ap (grow E fuel (suc n)) (parts_aside E (suc n) (fresh (suc n)) (x ∷ y ∷ xs))

  -- The tree with the new entries, page numbers aside.
  pub insert_tree_aside : (new : Replacement) (bs : List ℕ) (t : NumberedTree)
      → tree_aside (insert_numbered_tree E fresh new bs t) ≡ insert_tree E new bs (tree_aside t)
  insert_tree_aside new bs t =
      let xs : List (Numbered (suc t.0)) = insert_numbered E fresh new (suc t.0) bs 0 t.1 in
      grow_aside (length xs) t.0 xs
      ∙ ap (λ (k : ℕ). grow E k t.0 (map (aside (suc t.0)) xs)) (sym (length-map xs (aside (suc t.0))))
      ∙ ap (grown E t.0) (insert_aside new (suc t.0) bs 0 t.1)

  -- On, page numbers aside.
  pub on_aside : (w : ℕ) (key_of : ℕ → ℕ) (key r : ℕ) (t : NumberedTree)
      → tree_aside (on_numbered E fresh w key_of key r t) ≡ on_tree w E key_of key r (tree_aside t)
  on_aside w key_of key r t = insert_tree_aside (new_entries (λ x. bits w (key_of x)) (bits w key) r) (positions 0 (bits w key)) t

-- What is left of a thing, page numbers aside.
abbrev pub left_aside : (n : ℕ) → Left (Numbered n) → Left (Node n)
left_aside n r = (map (aside n) r.0, r.1)

-- A page that is kept, or not.
pub kept_aside : (n p : ℕ) (row : List (Numbered n)) → map (aside (suc n)) (kept_under p row) ≡ unless_empty (map (aside n) row)
kept_aside n p [] = refl
kept_aside n p (x ∷ xs) = refl

-- A page made of what is left of its row.
page_aside : (n p : ℕ) (r : Left (Numbered n)) (r' : Left (Node n)) → left_aside n r ≡ r'
    → left_aside (suc n) (kept_under p r.0, r.1) ≡ (unless_empty r'.0, r'.1)
page_aside n p r r' e = rw (kept_aside n p r.0) (ap (λ (v : Left (Node n)). (unless_empty v.0, v.1)) e)

-- One thing more on the left, where a step over it is the same, page numbers aside.
over_aside : (n : ℕ) → ((s : Unwind) (x : Numbered n) → left_aside n (step_numbered n s x) ≡ step_below n s (aside n x))
    → (x : Numbered n) (r : Left (Numbered n)) → left_aside n (over (step_numbered n) x r) ≡ over (step_below n) (aside n x) (left_aside n r)
over_aside n e x r =
    rw (map-append (aside n) (step_numbered n r.1 x).0 r.0) (ap (λ (v : Left (Node n)). (v.0 ++ map (aside n) r.0, v.1)) (e r.1 x))

-- The way back over a row, where each step is the same.
sweep_aside : (n : ℕ) → ((s : Unwind) (x : Numbered n) → left_aside n (step_numbered n s x) ≡ step_below n s (aside n x))
    → (s : Unwind) (xs ys : List (Numbered n))
    → left_aside n (sweep (step_numbered n) s xs ys) ≡ sweep (step_below n) s (map (aside n) xs) (map (aside n) ys)
sweep_aside n e s [] ys = refl
sweep_aside n e s (x ∷ xs) ys =
    over_aside n e x (sweep (step_numbered n) s xs ys) ∙ ap (over (step_below n) (aside n x)) (sweep_aside n e s xs ys)

-- The way back over a page, page numbers aside.
pub step_aside : (n : ℕ) (s : Unwind) (x : Numbered n) → left_aside n (step_numbered n s x) ≡ step_below n s (aside n x)
step_aside zero s x = rw (map-id (step_entry s x).0)
step_aside (suc n) s page =
    page_aside n page.0 (sweep (step_numbered n) s page.1 []) (sweep (step_below n) s (map (aside n) page.1) [])
    (sweep_aside n (step_aside n) s page.1 [])

-- Figure 11 below an entry, page numbers aside: what is left, and what is asked of the entry before.
pub delete_aside : (n ν : ℕ) (bs : List ℕ) (τ : ℕ) (x : Numbered n) → left_aside n (delete_numbered n ν bs τ x) ≡ delete_below n ν bs τ (aside n x)
delete_aside zero ν bs τ x = rw (map-id (strike τ ν x).0)
delete_aside (suc n) ν bs τ page =
    page_aside n page.0 (strike_in (numbered_depth n) (numbered_leaves n) (step_numbered n) (delete_numbered n) ν bs τ page.1)
    (strike_in (depth n) (leaves n) (step_below n) (delete_below n) ν bs τ (map (aside n) page.1))
    (walk_map (depth n) (aside n) (left_aside n)
    (λ bs τ x xs. ((delete_numbered n (next_depth ν (flats (numbered_leaves n) xs)) bs τ x).0 ++ xs, (delete_numbered n (next_depth ν (flats (numbered_leaves n) xs)) bs τ x).1))
    (over (step_numbered n)) ([], Idle)
    (λ bs τ x xs. ((delete_below n (next_depth ν (flats (leaves n) xs)) bs τ x).0 ++ xs, (delete_below n (next_depth ν (flats (leaves n) xs)) bs τ x).1))
    (over (step_below n)) ([], Idle)
    (λ bs τ x xs. struck (next_depth ν (flats (numbered_leaves n) xs)) bs τ x xs (delete_aside n (next_depth ν (flats (numbered_leaves n) xs)) bs τ x)
    ∙ ap (λ (es : List Entry). onto (delete_below n (next_depth ν es) bs τ (aside n x)) (map (aside n) xs)) (flats_map (leaves n) (aside n) xs))
    (over_aside n (step_aside n)) refl bs τ page.1)
  where
    onto : Left (Node n) → List (Node n) → Left (Node n)
    onto o xs = (o.0 ++ xs, o.1)

    struck : (ν : ℕ) (bs : List ℕ) (τ : ℕ) (x : Numbered n) (xs : List (Numbered n))
        → left_aside n (delete_numbered n ν bs τ x) ≡ delete_below n ν bs τ (aside n x)
        → left_aside n ((delete_numbered n ν bs τ x).0 ++ xs, (delete_numbered n ν bs τ x).1) ≡ onto (delete_below n ν bs τ (aside n x)) (map (aside n) xs)
    struck ν bs τ x xs e =
        rw (map-append (aside n) (delete_numbered n ν bs τ x).0 xs) (ap (λ (v : Left (Node n)). onto v (map (aside n) xs)) e)

-- "its child becomes root", page numbers aside.
pub lower_aside : (n p : ℕ) (row : List (Numbered n)) → tree_aside (lower_numbered n p row) ≡ lower n (map (aside n) row)
lower_aside zero p row = refl
lower_aside (suc n) p [] = refl
lower_aside (suc n) p (x ∷ []) = lower_aside n x.0 x.1
lower_aside (suc n) p (x ∷ y ∷ ys) = refl

-- The tree over what is left of the root, page numbers aside.
pub rooted_aside : (n : ℕ) (xs : List (Numbered (suc n))) → tree_aside (rooted_numbered n xs) ≡ rooted n (map (aside (suc n)) xs)
rooted_aside n [] = refl
rooted_aside n (x ∷ xs) = lower_aside n x.0 x.1

-- A page is merged alike, page numbers aside.
pub merge_aside : (E n : ℕ) (bs : List ℕ) (page : Numbered (suc n)) → aside (suc n) (merge_numbered E n bs page) ≡ merge_page E n bs (aside (suc n) page)
merge_aside E zero bs page = refl
merge_aside E (suc n) bs page =
    merge_in_map E (depth (suc n)) (aside (suc n)) (λ (x : Numbered (suc n)). length x.1) length (join_numbered n) (λ x y. x ++ y) (merge_numbered E n) (merge_page E n)
    (λ x. sym (length-map x.1 (aside n))) (λ x y. map-append (aside n) x.1 y.1) (merge_aside E n) bs page.1

-- So are pages that are left of the root.
merged_aside : (E n : ℕ) (bs : List ℕ) (xs : List (Numbered (suc n)))
    → map (aside (suc n)) (map (merge_numbered E n bs) xs) ≡ map (merge_page E n bs) (map (aside (suc n)) xs)
merged_aside E n bs [] = refl
merged_aside E n bs (x ∷ xs) = ap₂ (λ (y : Node (suc n)) (ys : List (Node (suc n))). y ∷ ys) (merge_aside E n bs x) (merged_aside E n bs xs)

-- Off, page numbers aside.
pub off_aside : (w E key : ℕ) (t : NumberedTree) → tree_aside (off_numbered w E key t) ≡ off_tree w E key (tree_aside t)
off_aside w E key t =
    let bs : List ℕ = positions 0 (bits w key) in
    let left : List (Numbered (suc t.0)) = (delete_numbered (suc t.0) 0 bs 0 t.1).0 in
    rooted_aside t.0 (map (merge_numbered E t.0 bs) left)
    ∙ ap (rooted t.0) (merged_aside E t.0 bs left)
    ∙ ap (λ (r : Left (Node (suc t.0))). rooted t.0 (map (merge_page E t.0 bs) r.0)) (delete_aside (suc t.0) 0 bs 0 t.1)

-- Two replacements that agree at what a search found.
abbrev pub AgreeAt : Replacement → Replacement → Found → Type 0
AgreeAt new new' found = new found.0 found.1 found.2 ≡ new' found.0 found.1 found.2

module _ (E : ℕ) (new new' : Replacement) where
  -- They make the same of what stands below an entry,
  pub insert_below_here : (n : ℕ) (bs : List ℕ) (τ : ℕ) (x : Node n) → AgreeAt new new' (find_below n bs τ x)
      → insert_below E new n bs τ x ≡ insert_below E new' n bs τ x
  insert_below_here zero bs τ x q = q
  insert_below_here (suc n) bs τ page q =
      ap (parts (depth n) E)
      (walk_here (depth n) (λ bs τ x xs. insert_below E new n bs τ x ++ xs) (λ bs τ x xs. insert_below E new' n bs τ x ++ xs) (λ x r. x ∷ r) []
      (find_below n) (AgreeAt new new') (λ bs τ x xs q. ap (λ r. r ++ xs) (insert_below_here n bs τ x q)) bs τ page q)

  -- take as many pages there,
  pub pages_below_here : (n : ℕ) (bs : List ℕ) (τ : ℕ) (x : Node n) → AgreeAt new new' (find_below n bs τ x)
      → pages_below E new n bs τ x ≡ pages_below E new' n bs τ x
  pages_below_here zero bs τ x q = refl
  pages_below_here (suc n) bs τ page q =
      ap₂ (λ (k l : ℕ). (k - 1) + l) (ap length (insert_below_here (suc n) bs τ page q))
      (walk_here (depth n) (λ bs τ x xs. pages_below E new n bs τ x) (λ bs τ x xs. pages_below E new' n bs τ x) (λ x r. r) 0 (find_below n) (AgreeAt new new')
      (λ bs τ x xs q. pages_below_here n bs τ x q) bs τ page q)

  -- make rows as long before they are cut,
  pub longest_below_here : (n : ℕ) (bs : List ℕ) (τ : ℕ) (x : Node n) → AgreeAt new new' (find_below n bs τ x)
      → longest_below E new n bs τ x ≡ longest_below E new' n bs τ x
  longest_below_here zero bs τ x q = refl
  longest_below_here (suc n) bs τ page q =
      ap₂ max
      (ap length
      (walk_here (depth n) (λ bs τ x xs. insert_below E new n bs τ x ++ xs) (λ bs τ x xs. insert_below E new' n bs τ x ++ xs) (λ x r. x ∷ r) []
      (find_below n) (AgreeAt new new') (λ bs τ x xs q. ap (λ r. r ++ xs) (insert_below_here n bs τ x q)) bs τ page q))
      (walk_here (depth n) (λ bs τ x xs. longest_below E new n bs τ x) (λ bs τ x xs. longest_below E new' n bs τ x) (λ x r. r) 0 (find_below n) (AgreeAt new new')
      (λ bs τ x xs q. longest_below_here n bs τ x q) bs τ page q)

  -- the same of a tree,
  pub insert_tree_here : (bs : List ℕ) (t : Tree) → AgreeAt new new' (find_in bs t) → insert_tree E new bs t ≡ insert_tree E new' bs t
  insert_tree_here bs t q = ap (grown E t.0) (insert_below_here (suc t.0) bs 0 t.1 q)

  module _ (fresh : ℕ → List ℕ) where
    -- with page numbers too,
    pub insert_numbered_here : (n : ℕ) (bs : List ℕ) (τ : ℕ) (x : Numbered n) → AgreeAt new new' (find_below n bs τ (aside n x))
        → insert_numbered E fresh new n bs τ x ≡ insert_numbered E fresh new' n bs τ x
    insert_numbered_here zero bs τ x q = q
    insert_numbered_here (suc n) bs τ page q =
        ap (λ (row : List (Numbered n)). under (page.0 ∷ fresh n) (parts (numbered_depth n) E row))
        (walk_here (numbered_depth n) (λ bs τ x xs. insert_numbered E fresh new n bs τ x ++ xs) (λ bs τ x xs. insert_numbered E fresh new' n bs τ x ++ xs)
        (λ x r. x ∷ r) [] (λ bs τ x. find_below n bs τ (aside n x)) (AgreeAt new new')
        (λ bs τ x xs q. ap (λ r. r ++ xs) (insert_numbered_here n bs τ x q)) bs τ page.1
        (rw (walk_map (depth n) (aside n) (λ (r : Found). r) (λ bs τ x xs. find_below n bs τ (aside n x)) (λ x r. r) nowhere
        (λ bs τ x xs. find_below n bs τ x) (λ x r. r) nowhere (λ bs τ x xs. refl) (λ x r. refl) refl bs τ page.1) q))

    -- and of a whole tree with page numbers.
    pub insert_numbered_tree_here : (bs : List ℕ) (t : NumberedTree) → AgreeAt new new' (find_in bs (tree_aside t))
        → insert_numbered_tree E fresh new bs t ≡ insert_numbered_tree E fresh new' bs t
    insert_numbered_tree_here bs t q = ap (grown_numbered E fresh t.0) (insert_numbered_here (suc t.0) bs 0 t.1 q)
