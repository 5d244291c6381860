-- Deletion from a whole tree (01, "while the root is above level 0 with one entry, its child becomes root"). Assumes nothing.
use mathlib.Core.Path.{◌≡◌, refl, ap, sym, ◌∙◌}
use mathlib.Core.List.{List, [], ◌∷◌, append-nil, map}
use Prim.Native.Nat.{ℕ, zero, suc}
use native.Mathlib.Omega.{arith}
use Rattle.leaf_list.specs.Keys.{bits}
use Rattle.leaf_list.specs.Entries.{Entry}
use Rattle.leaf_list.specs.Search.{positions}
use Rattle.leaf_list.proofs.Positions.{Beyond, Rising}
use Rattle.leaf_list.proofs.Depths.{Neighbours}
use Rattle.page_tree.specs.declared.Unwind.{Unwind}
use Rattle.page_tree.specs.declared.Unwind.TheVariants.{Idle, Give, Clear}
use Rattle.page_tree.specs.Rows.{flats}
use Rattle.page_tree.specs.Tree.{Node, depth, leaves, Sound, Tree, leaves_of, SoundTree, RootRule}
use Rattle.page_tree.specs.Merging.{merge_page}
use Rattle.page_tree.specs.OffPages.{Left, step_below, unless_empty, strike_in, delete_below, lower, rooted, delete_tree, off_tree}
use Rattle.page_tree.proofs.DeletionLeaves.{flats_unless_empty, delete_flat, delete_below_leaves}
use Rattle.page_tree.proofs.DeletionSound.{Remains, delete_below_remains}
use Rattle.page_tree.proofs.MergingLaws.{merge_page_leaves, merge_page_sound}

-- After lowering, "a root above level 0 has at least two entries".
pub lower_root : (E n : ℕ) (page : Node (suc n)) → Sound E (suc n) page → RootRule (lower n page)
lower_root E zero page s = λ h. absurd (omega arith)
lower_root E (suc n) [] s = absurd s.0.0
lower_root E (suc n) (x ∷ []) s = lower_root E n x s.1.0
lower_root E (suc n) (x ∷ y ∷ ys) s = λ h. omega arith

-- The tree is as sound,
pub lower_sound : (E n : ℕ) (page : Node (suc n)) → Sound E (suc n) page → SoundTree E (lower n page)
lower_sound E zero page s = s
lower_sound E (suc n) [] s = s
lower_sound E (suc n) (x ∷ []) s = lower_sound E n x s.1.0
lower_sound E (suc n) (x ∷ y ∷ ys) s = s

-- and has the same level 0.
pub lower_leaves : (n : ℕ) (page : Node (suc n)) → leaves_of (lower n page) ≡ leaves (suc n) page
lower_leaves zero page = refl
lower_leaves (suc n) [] = refl
lower_leaves (suc n) (x ∷ []) = lower_leaves n x ∙ sym (append-nil (leaves (suc n) x))
lower_leaves (suc n) (x ∷ y ∷ ys) = refl

-- The tree over what is left of the root's row has on level 0 what the row has.
pub rooted_leaves : (n : ℕ) (row : List (Node n)) → leaves_of (rooted n (unless_empty row)) ≡ flats (leaves n) row
rooted_leaves n [] = refl
rooted_leaves n (x ∷ xs) = lower_leaves n (x ∷ xs)

-- The tree over what is left of the root has the same level 0, whether it is merged or not.
pub merged_leaves : (E n : ℕ) (bs : List ℕ) (left : List (Node (suc n))) → leaves_of (rooted n (map (merge_page E n bs) left)) ≡ leaves_of (rooted n left)
merged_leaves E n bs [] = refl
merged_leaves E n bs (x ∷ xs) = lower_leaves n (merge_page E n bs x) ∙ merge_page_leaves E n bs x ∙ sym (lower_leaves n x)

-- "The leaf list that an off leaves is what it would have been without merging" (02, request (i)).
pub off_unmerged : (w E key : ℕ) (t : Tree)
    → leaves_of (off_tree w E key t) ≡ leaves_of (rooted t.0 (delete_below (suc t.0) 0 (positions 0 (bits w key)) 0 t.1).0)
off_unmerged w E key t =
    let bs = positions 0 (bits w key) in
    merged_leaves E t.0 bs (delete_below (suc t.0) 0 bs 0 t.1).0

-- On level 0, figure 11 over the whole list.
pub delete_tree_leaves : (E : ℕ) (bs : List ℕ) (t : Tree) → SoundTree E t → Rising bs → Beyond (depth (suc t.0) t.1) bs
    → leaves_of (delete_tree E bs t) ≡ (delete_flat 0 bs 0 (leaves_of t)).0
delete_tree_leaves E bs t s a e =
    let row = (strike_in (depth t.0) (leaves t.0) (step_below t.0) (delete_below t.0) 0 bs 0 t.1).0 in
    merged_leaves E t.0 bs (unless_empty row)
    ∙ rooted_leaves t.0 row
    ∙ sym (flats_unless_empty (leaves t.0) row)
    ∙ sym (append-nil (flats (leaves (suc t.0)) (unless_empty row)))
    ∙ ap (λ (r : Left Entry). r.0) (delete_below_leaves E (suc t.0) 0 bs 0 t.1 [] s a e)
    ∙ ap (λ (es : List Entry). (delete_flat 0 bs 0 es).0) (append-nil (leaves_of t))

-- The pages' rules and the root's hold afterwards.
pub delete_tree_sound : (E : ℕ) (bs : List ℕ) (t : Tree) → SoundTree E t → Rising bs → depth (suc t.0) t.1 ≡ 0 → Beyond 0 bs
    → Neighbours (leaves_of t)
    → SoundTree E (delete_tree E bs t) × RootRule (delete_tree E bs t)
delete_tree_sound E bs t s a z e r =
    go (delete_below (suc t.0) 0 bs 0 t.1).0 (delete_below (suc t.0) 0 bs 0 t.1).1
    (rw z at (delete_below_remains E (suc t.0) 0 bs 0 t.1 s r a (rw z e)))
  where
    go : (left : List (Node (suc t.0))) (w : Unwind) → Remains (depth (suc t.0)) (Sound E (suc t.0)) 0 0 1 left w
        → (let t' : Tree = rooted t.0 (map (merge_page E t.0 bs) left) in SoundTree E t' × RootRule t')
    go [] Idle q = absurd q
    go [] (Give d) q = absurd (omega (arith, q.1))
    go [] (Clear d) q = absurd (omega (arith, q.1))
    go (x ∷ xs) w q =
        let page = merge_page E t.0 bs x in
        let s = (merge_page_sound E t.0 bs x q.0.good.0).sound in
        (lower_sound E t.0 page s, lower_root E t.0 page s)
