-- Level 0 after a deletion in pages (01, "Deletion is figure 11 over the whole list, across pages"). Assumes nothing.
use mathlib.Core.Path.{◌≡◌, refl, ap, sym, ◌∙◌}
use mathlib.Core.List.{List, [], ◌∷◌, ◌++◌, append_assoc, append-nil, foldr, foldr-append}
use Prim.Native.Nat.{ℕ, zero, suc}
use Rattle.leaf_list.specs.Entries.{Entry, entry}
use Rattle.leaf_list.proofs.Positions.{Beyond, Rising}
use Rattle.page_tree.specs.declared.Unwind.TheVariants.{Idle}
use Rattle.page_tree.specs.Rows.{flats}
use Rattle.page_tree.specs.Tree.{Node, depth, leaves, Sound}
use Rattle.page_tree.specs.Walk.{walk}
use Rattle.page_tree.specs.OffPages.{Left, Step, step_entry, over, sweep, unless_empty, step_below, next_depth, strike, strike_in, delete_below}
use Rattle.page_tree.proofs.ListLaws.{flats_append, flats_single}
use Rattle.page_tree.proofs.WalkLaws.{walk_stop, walk_flats}
use Rattle.page_tree.proofs.TreeLaws.{closed_leaves}

-- The first depth of two lists.
pub next_depth_append : (ν : ℕ) (xs ys : List Entry) → next_depth ν (xs ++ ys) ≡ next_depth (next_depth ν ys) xs
next_depth_append ν [] ys = refl
next_depth_append ν (entry d p ∷ xs) ys = refl

-- An emptied page had nothing below it.
pub flats_unless_empty : {A X : Type 0} (f : X → List A) (xs : List X) → flats (flats f) (unless_empty xs) ≡ flats f xs
flats_unless_empty f [] = refl
flats_unless_empty f (x ∷ xs) = append-nil (flats f (x ∷ xs))

-- The way back over a row of things is the way back over their leaves.
pub sweep_leaves : {X : Type 0} (step : Step X) (leaves_x : X → List Entry)
    → ((x : X) (r : Left Entry) → foldr (over step_entry) r (leaves_x x) ≡ (flats leaves_x (step r.1 x).0 ++ r.0, (step r.1 x).1))
    → (r : Left Entry) (xs : List X)
    → foldr (over step_entry) r (flats leaves_x xs) ≡ (flats leaves_x (sweep step r.1 xs []).0 ++ r.0, (sweep step r.1 xs []).1)
sweep_leaves step leaves_x e r [] = refl
sweep_leaves {X} step leaves_x e r (x ∷ xs) =
    foldr-append (over step_entry) r (leaves_x x) (flats leaves_x xs)
    ∙ ap (λ (v : Left Entry). foldr (over step_entry) v (leaves_x x)) (sweep_leaves step leaves_x e r xs)
    ∙ e x _
    ∙ rw (flats_append leaves_x (step w.1 x).0 w.0, append_assoc)
  where
    w : Left X
    w = sweep step r.1 xs []

-- So it is below an entry, at every level.
pub step_below_leaves : (n : ℕ) (x : Node n) (r : Left Entry)
    → foldr (over step_entry) r (leaves n x) ≡ (flats (leaves n) (step_below n r.1 x).0 ++ r.0, (step_below n r.1 x).1)
step_below_leaves zero x r = rw (flats_single (step_entry r.1 x).0)
step_below_leaves (suc n) x r =
    sweep_leaves (step_below n) (leaves n) (step_below_leaves n) r x ∙ rw (flats_unless_empty (leaves n) (sweep (step_below n) r.1 x []).0)

-- What is left of one thing, before the others of its row.
abbrev pub onto : {A : Type 0} → Left A → List A → Left A
onto o xs = (o.0 ++ xs, o.1)

-- Figure 11 at an entry of a flat list, with the depth ν after the list.
abbrev pub strike_flat : ℕ → List ℕ → ℕ → Entry → List Entry → Left Entry
strike_flat ν bs τ e es = onto (strike τ (next_depth ν es) e) es

-- Figure 11 over a flat list.
abbrev pub delete_flat : ℕ → List ℕ → ℕ → List Entry → Left Entry
delete_flat ν = walk (depth 0) (strike_flat ν) (over step_entry) ([], Idle)

-- The leaves of what is left of one thing, before the others of its row and what stands after.
onto_leaves : {X : Type 0} (leaves_x : X → List Entry) (o : Left X) (xs : List X) (after : List Entry)
    → ◌≡◌ {A = Left Entry} (flats leaves_x (o.0 ++ xs) ++ after, o.1) (flats leaves_x o.0 ++ (flats leaves_x xs ++ after), o.1)
onto_leaves leaves_x o xs after = rw (flats_append leaves_x o.0 xs, append_assoc)

-- Below an entry, whatever stands after it on level 0: figure 11 on level 0, and the same is asked of the entry before.
pub delete_below_leaves : (E n ν : ℕ) (bs : List ℕ) (τ : ℕ) (x : Node n) (after : List Entry) → Sound E n x → Rising bs → Beyond (depth n x) bs
    → (let o : Left (Node n) = delete_below n (next_depth ν after) bs τ x in
    ◌≡◌ {A = Left Entry} (flats (leaves n) o.0 ++ after, o.1) (delete_flat ν bs τ (leaves n x ++ after)))
delete_below_leaves E zero ν bs τ x after s a e =
    rw (flats_single (strike τ (next_depth ν after) x).0) (sym (walk_stop (depth 0) (strike_flat ν) (over step_entry) ([], Idle) bs τ x after e))
delete_below_leaves E (suc n) ν bs τ x after s a e =
    rw (flats_unless_empty (leaves n) (strike_in (depth n) (leaves n) (step_below n) (delete_below n) (next_depth ν after) bs τ x).0)
    (walk_flats (depth 0) (depth n) (leaves n) (Sound E n) (strike_flat ν) (over step_entry) ([], Idle)
    (λ bs τ y ys. onto (delete_below n (next_depth (next_depth ν after) (flats (leaves n) ys)) bs τ y) ys) (over (step_below n)) ([], Idle)
    (λ r. (flats (leaves n) r.0 ++ after, r.1)) after (closed_leaves E n)
    (λ bs τ y ys p a e. onto_leaves (leaves n) (delete_below n (next_depth (next_depth ν after) (flats (leaves n) ys)) bs τ y) ys after
    ∙ rw (← (next_depth_append ν (flats (leaves n) ys) after)) (delete_below_leaves E n ν bs τ y (flats (leaves n) ys ++ after) p a e))
    (λ y r p. onto_leaves (leaves n) (step_below n r.1 y) r.0 after ∙ sym (step_below_leaves n y (flats (leaves n) r.0 ++ after, r.1)))
    (depth (suc n) x) bs τ x s.0.0 s.1 a e)
