-- Entries put in the place of a key's entry, under the new root. Assumes nothing.
use native.Mathlib.Omega.{arith}
use Rattle.index_change.proofs.Repaged.{header_bytes_lem, root_inside, put_pre, on_repaged}
use Rattle.index_change.proofs.splice_pages.Goals as goal

pub level-level-requires : goal.level-level-requires
level-level-requires c = root_inside c.requires.0.changeable _ c.read-h.ensures

pub put_in-root-requires : goal.put_in-root-requires
put_in-root-requires c =
    put_pre c.requires.0.changeable _ c.read-h.ensures _ _ c.from.ensures c.level-level.ensures _ c.requires.0 c.requires.1

pub set_held-requires : goal.set_held-requires
set_held-requires c =
    omega (arith, c.set_root.auto.index, c.put_in-root.auto.index, header_bytes_lem c.requires.0.changeable _ c.read-h.ensures)

pub returns : goal.returns
returns c =
    on_repaged c.requires.0.changeable _ c.read-h.ensures _ _ c.from.ensures c.level-level.ensures _ c.requires.0 _ _ _ _ c.put_in-root.ensures c.set_root.ensures c.set_held.ensures
