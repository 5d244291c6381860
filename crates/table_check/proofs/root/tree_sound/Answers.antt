-- The table of the bits behind each depth. Assumes nothing.
use native.Mathlib.Omega.{arith}
use Rattle.leaf_check.proofs.DepthTable.{all_ones}
use Rattle.table_check.proofs.root.tree_sound.Goals as goal

pub set_masks-requires : goal.set_masks-requires
set_masks-requires c = (omega (arith, c.requires.width, c.from.ensures), all_ones)
