-- `leaf_list::first_difference` meets its contract. Assumes nothing.
use native.Mathlib.Omega.{arith}
use Rattle.leaf_list.proofs.KeyLaws.{difference_by_zeros}
use Rattle.leaf_list.proofs.first_difference.Goals as goal

pub returns : goal.returns
returns c = rw c.from.ensures (difference_by_zeros _ _ _ c.requires.0 c.requires.1 c.requires.2)

pub overflow_sub-result : goal.overflow_sub-result
overflow_sub-result c = omega (arith, (returns c).1)
