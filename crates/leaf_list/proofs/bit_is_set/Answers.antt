-- `leaf_list::bit_is_set` meets its contract. Assumes nothing.
use Rattle.leaf_list.proofs.KeyLaws.{bit_by_and}
use Rattle.leaf_list.proofs.bit_is_set.Goals as goal

pub returns : goal.returns
returns c = bit_by_and _ _ _ _ c.bit.ensures
