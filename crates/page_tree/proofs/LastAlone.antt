-- An entry that ends its page and is no shallower than the entry before it is alone in it, at every level. Assumes nothing.
use mathlib.Core.Path.{◌≡◌, ap, sym, ◌∙◌}
use mathlib.Core.Option.{none}
use mathlib.Core.List.{List, [], ◌∷◌, ◌++◌, append-nil}
use Prim.Native.Nat.{ℕ, zero, suc, ◌≤◌, ◌<◌}
use native.Mathlib.Omega.{arith}
use lib.ListN.{length, length-append}
use Rattle.leaf_list.specs.Entries.{Entry, entry}
use Rattle.leaf_list.proofs.Depths.{Neighbours}
use Rattle.page_tree.specs.Rows.{flats, Closed, last_depth}
use Rattle.page_tree.specs.Tree.{Node, depth, leaves, Sound}
use Rattle.page_tree.proofs.ClosedRows.{closed_nonempty}
use Rattle.page_tree.proofs.TreeLaws.{closed_leaves}
use Rattle.page_tree.proofs.DeletionSteps.{dummy_after}

-- The entry stands alone: one entry in each page down to it.
abbrev pub Alone : (n : ℕ) → Node n → Entry → Type 0
Alone zero x e = x ≡ e
Alone (suc n) [] e = ⊥
Alone (suc n) (x ∷ []) e = Alone n x e
Alone (suc n) (x ∷ y ∷ ys) e = ⊥

-- A sole entry on level 0 is alone in every page above it.
pub leaves_alone : (E n : ℕ) (x : Node n) (e : Entry) → Sound E n x → leaves n x ≡ e ∷ [] → Alone n x e
leaves_alone E zero x e s h = cc
leaves_alone E (suc n) [] e s h = absurd s.0.0
leaves_alone E (suc n) (x ∷ []) e s h = leaves_alone E n x e s.1.0 (sym (append-nil (leaves n x)) ∙ h)
leaves_alone E (suc n) (x ∷ y ∷ ys) e s h =
    absurd
    (omega (
      arith,
      closed_nonempty (depth 0) (depth n x) (leaves n x) (closed_leaves E n x s.1.0),
      closed_nonempty (depth 0) (depth n y) (leaves n y) (closed_leaves E n y s.1.1.0),
      length-append (leaves n x) (leaves n y ++ flats (leaves n) ys),
      length-append (leaves n y) (flats (leaves n) ys),
      ap length h,
    ))

-- In a closed row the last but one is deeper than the last.
pub closed_before : {A : Type 0} (depth_a : A → ℕ) (c : ℕ) (x : A) (xs : List A) (y : A) → Closed depth_a c (x ∷ xs ++ y ∷ [])
    → depth_a y < last_depth depth_a (depth_a x) xs
closed_before depth_a c x [] y h = omega (arith, h.0, h.1)
closed_before depth_a c x (z ∷ zs) y h = closed_before depth_a c z zs y h.1

module _ (E n : ℕ) (page : Node (suc n)) (s : Sound E (suc n) page) where
  -- A 0-leaf with a shallower next, or any entry no shallower than the one before it, that is last in a page is alone in it.
  pub last_alone : (es : List Entry) (e : Entry) → leaves (suc n) page ≡ es ++ e ∷ [] → last_depth (depth 0) 0 es ≤ depth 0 e → Alone (suc n) page e
  last_alone [] e h l = leaves_alone E (suc n) page e s h
  last_alone (x ∷ xs) e h l = absurd (omega (arith, closed_before (depth 0) (depth (suc n) page) x xs e (rw h at (closed_leaves E (suc n) page s))))

  -- A dummy that is last in a page is alone in it.
  pub dummy_alone : (es : List Entry) (d : ℕ) → Neighbours (leaves (suc n) page) → leaves (suc n) page ≡ es ++ entry d none ∷ []
      → Alone (suc n) page (entry d none)
  dummy_alone [] d r h = last_alone [] (entry d none) h (omega arith)
  dummy_alone (x ∷ xs) d r h = last_alone (x ∷ xs) (entry d none) h (omega (arith, dummy_after d x xs (rw h at r)))
