-- The entry of a key taken out of the pages, under its new root. Assumes nothing.
use Rattle.index_change.proofs.Repaged.{root_inside, take_pre, off_repaged}
use Rattle.index_change.proofs.strike_pages.Goals as goal

pub level-level-requires : goal.level-level-requires
level-level-requires c = root_inside c.requires.changeable _ c.read-h.ensures

pub take_out_at-root-requires : goal.take_out_at-root-requires
take_out_at-root-requires c =
    take_pre c.requires.changeable _ c.read-h.ensures _ _ c.from.ensures c.level-level.ensures _ c.requires

pub returns : goal.returns
returns c =
    off_repaged c.requires.changeable _ c.read-h.ensures _ _ c.from.ensures c.level-level.ensures _ _ _ _ c.take_out_at-root.ensures c.set_root.ensures c.set_held.ensures
