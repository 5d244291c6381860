-- The next entry of the page, or what came in. Assumes nothing.
use Rattle.tree_delete.proofs.Following.{after_within, after_read, after_first, after_some, after_none}
use Rattle.tree_delete.proofs.removal.after.Goals as goal

pub count-requires : goal.count-requires
count-requires c = after_within c.requires

pub depth-requires : goal.depth-requires
depth-requires c =
    after_read c.requires _ c.count.ensures c.from.ensures c.if-from-i.false

pub pointer-requires : goal.pointer-requires
pointer-requires c =
    after_read c.requires _ c.count.ensures c.from.ensures c.if-from-i.false

pub first_depth-requires : goal.first_depth-requires
first_depth-requires c =
    after_first c.requires _ c.count.ensures c.from.ensures c.if-from-i.false c.depth.ensures c.pointer.ensures.0

pub returns : goal.returns
returns c =
    after_some c.requires _ c.count.ensures c.from.ensures c.if-from-i.false c.depth.ensures c.pointer.ensures.0 _ _ c.first_depth.ensures

pub returns-then-from-i : goal.returns-then-from-i
returns-then-from-i c =
    after_none c.requires _ c.count.ensures c.from.ensures _ c.if-from-i.true
