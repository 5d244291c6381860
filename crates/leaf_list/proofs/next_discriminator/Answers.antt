-- `leaf_list::next_discriminator` meets its contract. Assumes nothing.
use Rattle.leaf_list.proofs.KeyLaws.{set_by_shifts}
use Rattle.leaf_list.proofs.next_discriminator.Goals as goal

pub returns : goal.returns
returns c = set_by_shifts _ _ _ c.requires.0 c.requires.1 c.requires.2 c.requires.3
