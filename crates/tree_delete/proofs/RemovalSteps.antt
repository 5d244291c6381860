-- The steps of a removal as the code takes them, from a rank above 0 to the one below it. Assumes nothing.
use mathlib.Core.Path.{◌≡◌, refl, ◌∙◌}
use mathlib.Core.List.{List}
use Prim.Native.Nat.{ℕ, zero, suc, ◌+◌, ◌-◌, ◌≤◌, ◌<◌}
use native.Mathlib.Omega.{arith}
use lib.ListN.{length, get_or}
use Rattle.std.specs.Prelude.{Option}
use Rattle.page_tree.specs.declared.Entry.{Entry as Stored}
use Rattle.page_tree.specs.declared.Unwind.{Unwind}
use Rattle.page_tree.specs.declared.Row.{Row}
use Rattle.page_tree.specs.Row.{row_of}
use Rattle.index_table.specs.Layout.{layout_of, Ref, Within}
use Rattle.index_table.specs.Pages.{pages_at}
use Rattle.table_search.specs.declared.Spot.{Spot}
use Rattle.table_search.specs.Places.{SeekPre}
use Rattle.entry_delete.specs.declared.Remnant.{Remnant}
use Rattle.tree_delete.specs.Rows.{PutPost, SettlePre, SettlePost}
use Rattle.tree_delete.specs.Unwinding.{SweepPre, SweepPost}
use Rattle.tree_delete.specs.Removing.{AfterPre, RemovePre, RemovePost}
use Rattle.tree_delete.proofs.Sweeps.{down_settle}
use Rattle.tree_delete.proofs.FoundPlaces.{found_down}
use Rattle.tree_delete.proofs.Removals.{locate_load, locate_seek, locate_after, Located, found_sweep, found_post}

-- The page below can be loaded, searched and read behind the place found.
pub record Below (e P n : ℕ) (b : List ℕ) (p w key position : ℕ) : Type 0 where
  pub load : Within (layout_of e) b p × (length (pages_at (layout_of e) b p) ≤ e)
  pub seek : SeekPre b e p w key position
  pub after : AfterPre e P n b p

pub remove_below : (n : ℕ) {e P : ℕ} {b : List ℕ} {x : Ref} {w key position : ℕ} {p : ℕ} → p ≡ x.1 → (n ≡ 0 → ⊥) → RemovePre e P n b x w key position → Below e P (n - 1) b p w key position
remove_below zero s ne h = absurd (ne refl)
remove_below (suc n) s ne h = let m : suc n - 1 ≡ n = omega arith in rw (m, s) (record { load = locate_load h; seek = locate_seek h; after = locate_after h })

module _ (n : ℕ) {e P : ℕ} {b : List ℕ} {x : Ref} {w key position τ ν : ℕ} {row : Row} {spot : Spot} {next : ℕ} (p : ℕ) (s : p ≡ x.1) (ne : n ≡ 0 → ⊥) (h : RemovePre e P n b x w key position)
    (a : Located e (n - 1) b p w key position τ ν row spot next) {z : Ref} (f : z ≡ get_or (row_of row) spot.at (0, 0)) where
  pub remove_down : RemovePre e P (n - 1) b z w key spot.position
  remove_down = go n ne h (rw s at a)
    where
      go : (n : ℕ) → (n ≡ 0 → ⊥) → RemovePre e P n b x w key position → Located e (n - 1) b x.1 w key position τ ν row spot next → RemovePre e P (n - 1) b z w key spot.position
      go zero ne h a = absurd (ne refl)
      go (suc n) ne h a =
          let m : suc n - 1 ≡ n = omega arith in
          rw (m, f, a.row.entries) (found_down h spot (rw m at a).stopped)

  module _ (small : e < 256) (b₁ : List ℕ) (r : Remnant) (g : RemovePost e P (n - 1) b z w key spot.position spot.trail next b₁ r) (row' : Row) (w' : ℕ) (put : PutPost row (spot.at + 1) r.left row' w') where
    g_at : RemovePost e P (n - 1) b (get_or (pages_at (layout_of e) b x.1) spot.at (0, 0)) w key spot.position spot.trail next b₁ r
    g_at = rw (f, a.row.entries, s) at g

    -- What was passed in the page is to be swept.
    pub remove_sweep : SweepPre e P (n - 1) b₁ row' spot.at w'
    remove_sweep = go n ne h (rw s at a) g_at
      where
        go : (n : ℕ) → (n ≡ 0 → ⊥) → RemovePre e P n b x w key position → Located e (n - 1) b x.1 w key position τ ν row spot next
            → RemovePost e P (n - 1) b (get_or (pages_at (layout_of e) b x.1) spot.at (0, 0)) w key spot.position spot.trail next b₁ r
            → SweepPre e P (n - 1) b₁ row' spot.at w'
        go zero ne h a g = absurd (ne refl)
        go (suc n) ne h a g = let m : suc n - 1 ≡ n = omega arith in rw m (found_sweep h (rw m at a) small b₁ r (rw m at g) row' w' put)

    module _ (b₂ : List ℕ) (done : Row) (s' : Unwind) (t : SweepPost e P (n - 1) b₁ row' spot.at w' r.state b₂ done s') where
      -- The row that is left can be settled.
      pub remove_settle : SettlePre e b₂ p done
      remove_settle = down_settle n p b₂ done s ne h.back (put.count ∙ a.row.count) g.kept.long t

      -- What is left of the entry.
      pub remove_post : (b₃ : List ℕ) (left : Option Stored) → SettlePost e (n - 1) b₂ p done b₃ left → RemovePost e P n b x w key position τ ν b₃ (record { left = left; state = s' })
      remove_post b₃ left u = go n ne h (rw s at a) g_at t (rw s at u)
        where
          go : (n : ℕ) → (n ≡ 0 → ⊥) → RemovePre e P n b x w key position → Located e (n - 1) b x.1 w key position τ ν row spot next
              → RemovePost e P (n - 1) b (get_or (pages_at (layout_of e) b x.1) spot.at (0, 0)) w key spot.position spot.trail next b₁ r
              → SweepPost e P (n - 1) b₁ row' spot.at w' r.state b₂ done s' → SettlePost e (n - 1) b₂ x.1 done b₃ left → RemovePost e P n b x w key position τ ν b₃ (record { left = left; state = s' })
          go zero ne h a g t u = absurd (ne refl)
          go (suc n) ne h a g t u =
              let m : suc n - 1 ≡ n = omega arith in
              found_post h (rw m at a) small b₁ r (rw m at g) row' w' put b₂ done s' (rw m at t) b₃ left (rw m at u)
