-- Of a tree whose last depth is 0 a root is left (01, "A sole entry becomes (0, NIL)"), and what the root rule makes of it is sound. Assumes nothing.
use mathlib.Core.Path.{◌≡◌, refl, ◌∙◌}
use mathlib.Core.List.{List, [], ◌∷◌}
use Prim.Native.Nat.{ℕ, zero, suc}
use native.Mathlib.Omega.{arith}
use Rattle.leaf_list.proofs.Positions.{Beyond, Rising}
use Rattle.leaf_list.proofs.Depths.{Neighbours}
use Rattle.page_tree.specs.declared.Unwind.{Unwind}
use Rattle.page_tree.specs.declared.Unwind.TheVariants.{Idle, Give, Clear}
use Rattle.page_tree.specs.Tree.{Node, depth, Sound, Tree, leaves_of, SoundTree, RootRule}
use Rattle.page_tree.specs.OffPages.{delete_below, lower}
use Rattle.page_tree.proofs.DeletionSound.{Remains, delete_below_remains}
use Rattle.page_tree.proofs.DeletionTrees.{lower_sound, lower_root}

-- What is left of the root is one page, sound and closed by depth 0.
pub record LeftAtRoot (E n : ℕ) (left : List (Node (suc n))) : Type 0 where
  pub root : Node (suc n)
  pub is : left ≡ root ∷ []
  pub sound : Sound E (suc n) root
  pub shallow : depth (suc n) root ≡ 0

-- Something is left, for nothing is shallower than depth 0.
pub root_left : (E : ℕ) (bs : List ℕ) (t : Tree) → SoundTree E t → Rising bs → depth (suc t.0) t.1 ≡ 0 → Beyond 0 bs → Neighbours (leaves_of t)
    → LeftAtRoot E t.0 (delete_below (suc t.0) 0 bs 0 t.1).0
root_left E bs t s a z e r =
    go (delete_below (suc t.0) 0 bs 0 t.1).0 (delete_below (suc t.0) 0 bs 0 t.1).1
    (rw z at (delete_below_remains E (suc t.0) 0 bs 0 t.1 s r a (rw z e)))
  where
    go : (left : List (Node (suc t.0))) (w : Unwind) → Remains (depth (suc t.0)) (Sound E (suc t.0)) 0 0 1 left w → LeftAtRoot E t.0 left
    go [] Idle q = absurd q
    go [] (Give d) q = absurd (omega (arith, q.1))
    go [] (Clear d) q = absurd (omega (arith, q.1))
    go (x ∷ []) w q = record { root = x; is = refl; sound = q.0.good.0; shallow = q.0.closed }
    go (x ∷ y ∷ ys) w q = absurd (omega (arith, q.0.short))

-- Lowering keeps the last depth.
lower_depth : (n : ℕ) (page : Node (suc n)) → depth (suc (lower n page).0) (lower n page).1 ≡ depth (suc n) page
lower_depth zero page = refl
lower_depth (suc n) [] = refl
lower_depth (suc n) (x ∷ []) = lower_depth n x
lower_depth (suc n) (x ∷ y ∷ ys) = refl

-- A sound tree under the root rule, closed by depth 0.
pub record SoundRoot (E : ℕ) (t : Tree) : Type 0 where
  pub sound : SoundTree E t
  pub rule : RootRule t
  pub shallow : depth (suc t.0) t.1 ≡ 0

-- So is what the root rule makes of a sound page.
pub lowered_root : (E n : ℕ) (page : Node (suc n)) → Sound E (suc n) page → depth (suc n) page ≡ 0 → SoundRoot E (lower n page)
lowered_root E n page s z = record { sound = lower_sound E n page s; rule = lower_root E n page s; shallow = lower_depth n page ∙ z }
