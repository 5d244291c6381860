-- The first position behind low is the key's first one-bit there. Assumes nothing.
use Rattle.new_entries.proofs.Dummies.{dummies_begun}
use Rattle.new_entries.proofs.dummy.Dummies.between.Goals as goal

pub returns : goal.returns
returns c = dummies_begun _ _ _ _ _ c.requires.low_inside c.next_position-position.ensures
