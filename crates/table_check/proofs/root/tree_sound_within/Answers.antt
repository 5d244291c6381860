-- A map of zeros, one byte for each of so many pages. Assumes nothing.
use native.Mathlib.Omega.{arith}
use Prim.Native.Nat.{ℕ}
use lib.ListN.{length-replicate}
use Rattle.table_check.proofs.WholeTree.{no_marks}
use Rattle.table_check.proofs.root.tree_sound_within.Goals as goal

pub whole_as_slice-tree_marked : goal.whole_as_slice-tree_marked
whole_as_slice-tree_marked g c = omega (arith, c.requires.2)

pub tree_marked-requires : goal.tree_marked-requires
tree_marked-requires g c = (c.requires.0, omega (arith, c.requires.1, length-replicate {A = ℕ} g.row.PAGES 0), no_marks g.row.PAGES, c.requires.3)
