-- The page's last depth is read, and an entry made of it. Assumes nothing.
use native.Mathlib.Omega.{arith}
use Rattle.table_insert.proofs.Insertions.{alone_some, alone_inside, alone_holds}
use Rattle.table_insert.proofs.page_alone.Goals as goal

pub overflow_sub-n : goal.overflow_sub-n
overflow_sub-n c = omega (arith, alone_some c.requires _ _ c.count.ensures c.from-n.ensures)

pub depth-d-requires : goal.depth-d-requires
depth-d-requires c = (c.requires.within, alone_inside c.requires _ _ c.count.ensures c.from-n.ensures)

pub returns : goal.returns
returns c = alone_holds c.requires _ _ c.count.ensures c.from-n.ensures _ _ c.depth-d.ensures c.from.ensures.0 c.new.ensures c.push.ensures
