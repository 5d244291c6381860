-- Level 0 after an insertion in pages (01, "Insertion changes the page of entry i"). Assumes nothing.
use mathlib.Core.Path.{◌≡◌, ap, sym, ◌∙◌}
use mathlib.Core.List.{List, [], ◌∷◌, ◌++◌, append_assoc, append-nil}
use Prim.Native.Nat.{ℕ, zero, suc}
use lib.ListN.{length}
use Rattle.leaf_list.specs.Entries.{Entry}
use Rattle.leaf_list.proofs.Positions.{Beyond, Rising}
use Rattle.page_tree.specs.Rows.{flats}
use Rattle.page_tree.specs.Tree.{Node, depth, leaves, Sound, Tree, leaves_of, SoundTree}
use Rattle.page_tree.specs.OnPages.{Replacement, replace_in, insert_below, insert_tree}
use Rattle.page_tree.proofs.ListLaws.{flats_append, flats_single, append_foldr}
use Rattle.page_tree.proofs.WalkLaws.{walk_stop, walk_flats}
use Rattle.page_tree.proofs.TreeLaws.{closed_leaves}
use Rattle.page_tree.proofs.Growing.{parts_leaves, grow_leaves}

module _ (E : ℕ) (new : Replacement) where
  -- On level 0 below what stands for an entry, with whatever follows: the entry found on level 0 is replaced.
  pub insert_below_leaves : (n : ℕ) (bs : List ℕ) (τ : ℕ) (x : Node n) (after : List Entry) → Sound E n x → Rising bs → Beyond (depth n x) bs
      → flats (leaves n) (insert_below E new n bs τ x) ++ after ≡ replace_in (depth 0) new bs τ (leaves n x ++ after)
  insert_below_leaves zero bs τ x after s a e =
      rw (flats_single (new bs τ x)) (sym (walk_stop (depth 0) (λ bs τ x xs. new bs τ x ++ xs) (λ x r. x ∷ r) [] bs τ x after e))
  insert_below_leaves (suc n) bs τ x after s a e =
      rw (parts_leaves E n (replace_in (depth n) (insert_below E new n) bs τ x))
      (walk_flats (depth 0) (depth n) (leaves n) (Sound E n) (λ bs τ x xs. new bs τ x ++ xs) (λ x r. x ∷ r) []
      (λ bs τ x xs. insert_below E new n bs τ x ++ xs) (λ x r. x ∷ r) []
      (λ r. flats (leaves n) r ++ after) after (closed_leaves E n)
      (λ bs τ y ys p a e.
      rw (flats_append (leaves n) (insert_below E new n bs τ y) ys, append_assoc) (insert_below_leaves n bs τ y (flats (leaves n) ys ++ after) p a e))
      (λ y r p. append_assoc (leaves n y) (flats (leaves n) r) after ∙ append_foldr (leaves n y) (flats (leaves n) r ++ after))
      (depth (suc n) x) bs τ x s.0.0 s.1 a e)

  -- "Insertion changes the page of entry i": on level 0 the entry that figure 6 finds is replaced, and no other.
  pub insert_tree_leaves : (bs : List ℕ) (t : Tree) → SoundTree E t → Rising bs → Beyond (depth (suc t.0) t.1) bs
      → leaves_of (insert_tree E new bs t) ≡ replace_in (depth 0) new bs 0 (leaves_of t)
  insert_tree_leaves bs t s a e =
      grow_leaves E (length (insert_below E new (suc t.0) bs 0 t.1)) t.0 (insert_below E new (suc t.0) bs 0 t.1)
      ∙ sym (append-nil (flats (leaves (suc t.0)) (insert_below E new (suc t.0) bs 0 t.1)))
      ∙ insert_below_leaves (suc t.0) bs 0 t.1 [] s a e
      ∙ ap (replace_in (depth 0) new bs 0) (append-nil (leaves_of t))
