-- The count and the entries of a page, compared. Assumes nothing.
use Rattle.index_change.proofs.PageOpening.{room_tested}
use Rattle.index_change.proofs.has_room.Goals as goal

pub count-m-requires : goal.count-m-requires
count-m-requires c = rw c.read-e.ensures.entries c.requires.1

pub returns : goal.returns
returns c = room_tested _ _ _ c.read-e.ensures.entries c.count-m.ensures c.from.ensures c.from-2.ensures
