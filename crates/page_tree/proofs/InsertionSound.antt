-- The pages' rules after an insertion (01, "New parts enter the parent, which may be cut in turn"). Assumes nothing.
use mathlib.Core.Path.{◌≡◌}
use mathlib.Core.Logic.{◌⊎◌, inl, inr}
use mathlib.Core.List.{List, [], ◌∷◌}
use Prim.Native.Nat.{ℕ, zero, suc, ◌≤◌}
use native.Mathlib.Omega.{arith}
use lib.ListN.{length}
use Rattle.leaf_list.proofs.Positions.{Beyond, Rising}
use Rattle.page_tree.specs.Tree.{Node, depth, Sound, Tree, SoundTree, RootRule}
use Rattle.page_tree.specs.Cutting.{parts}
use Rattle.page_tree.specs.Finding.{Found, find_below, find_in}
use Rattle.page_tree.specs.OnPages.{Replacement, replace_in, insert_below, grown, insert_tree}
use Rattle.page_tree.proofs.CuttingLaws.{cut_few, cut_cases}
use Rattle.page_tree.proofs.Replacing.{InPlace, replace_in_in_place}
use Rattle.page_tree.proofs.Growing.{parts_sound, grow_sound}

-- The new entries may stand in the place of the entry found: they are closed by its depth, and at most m more.
abbrev pub Fits : ℕ → Replacement → Found → Type 0
Fits m new found = InPlace (depth 0) (λ e. Unit {0}) m (depth 0 found.2) (found.2 ∷ []) (new found.0 found.1 found.2)

module _ (E m : ℕ) (new : Replacement) (one : 1 ≤ E) where
  -- The parts of what may stand in the place of a page's row may stand in the place of the page.
  pub parts_in_place : (n c : ℕ) (page row : Node (suc n)) → length page ≤ E → InPlace (depth n) (Sound E n) m c page row
      → InPlace (depth (suc n)) (Sound E (suc n)) m c (page ∷ []) (parts (depth n) E row)
  parts_in_place n c page row l o =
      let k = parts_sound E n c row one o.closed o.good in
      let f = cut_few (depth n) E one (length row) row in
      record { closed = k.0; good = k.1; longer = omega (arith, f.0); few = omega (arith, f.1, o.few) }

  -- What stands for a thing, at every level, may stand in its place: so at most m things come in.
  pub insert_below_in_place : (n : ℕ) (bs : List ℕ) (τ : ℕ) (x : Node n) → Sound E n x → Rising bs → Beyond (depth n x) bs
      → Fits m new (find_below n bs τ x)
      → InPlace (depth n) (Sound E n) m (depth n x) (x ∷ []) (insert_below E new n bs τ x)
  insert_below_in_place zero bs τ x s a e q = q
  insert_below_in_place (suc n) bs τ x s a e q =
      parts_in_place n (depth (suc n) x) x (replace_in (depth n) (insert_below E new n) bs τ x) s.0.1
      (replace_in_in_place (depth n) (Sound E n) m (insert_below E new n) (find_below n) (Fits m new) (insert_below_in_place n) (depth (suc n) x) bs τ x
      s.0.0 s.1 a e q)

  -- So may the row of a page before it is cut.
  pub row_in_place : (n : ℕ) (bs : List ℕ) (τ : ℕ) (page : Node (suc n)) → Sound E (suc n) page → Rising bs → Beyond (depth (suc n) page) bs
      → Fits m new (find_below (suc n) bs τ page)
      → InPlace (depth n) (Sound E n) m (depth (suc n) page) page (replace_in (depth n) (insert_below E new n) bs τ page)
  row_in_place n bs τ page s a e q =
      replace_in_in_place (depth n) (Sound E n) m (insert_below E new n) (find_below n) (Fits m new) (insert_below_in_place n)
      (depth (suc n) page) bs τ page s.0.0 s.1 a e q

module _ (E m : ℕ) (new : Replacement) (bs : List ℕ) (t : Tree) (two : 2 ≤ E) (s : SoundTree E t) (a : Rising bs)
    (e : Beyond (depth (suc t.0) t.1) bs) (q : Fits m new (find_in bs t)) where
  -- The parts of the root.
  abbrev roots : List (Node (suc t.0))
  roots = insert_below E new (suc t.0) bs 0 t.1

  -- They may stand in its place.
  roots_in_place : InPlace (depth (suc t.0)) (Sound E (suc t.0)) m (depth (suc t.0) t.1) (t.1 ∷ []) roots
  roots_in_place = insert_below_in_place E m new (omega arith) (suc t.0) bs 0 t.1 s a e q

  -- The pages' rules hold afterwards.
  pub insert_tree_sound : SoundTree E (insert_tree E new bs t)
  insert_tree_sound =
      (grow_sound E two (length roots) t.0 roots (depth (suc t.0) t.1) roots_in_place.closed roots_in_place.good (omega arith)).0

  -- "a root above level 0 has at least two entries", afterwards too.
  pub insert_tree_root : RootRule t → RootRule (insert_tree E new bs t)
  insert_tree_root r = cases (cut_cases (depth t.0) E (omega arith) (length row) row)
    where
      row : List (Node t.0)
      row = replace_in (depth t.0) (insert_below E new t.0) bs 0 t.1

      cases : (roots ≡ row ∷ []) ⊎ (2 ≤ length roots) → RootRule (grown E t.0 roots)
      cases (inl w) = rw w (λ g. omega (arith, r g, (row_in_place E m new (omega arith) t.0 bs 0 t.1 s a e q).longer))
      cases (inr k) =
          λ g. (grow_sound E two (length roots) t.0 roots (depth (suc t.0) t.1) roots_in_place.closed roots_in_place.good
          (omega arith)).1 k
