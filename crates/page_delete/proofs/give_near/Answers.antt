-- The entry takes the pointer of the one before it, and the entries before it up to one that stays go. Assumes nothing.
use native.Mathlib.Omega.{arith}
use Rattle.page_delete.proofs.NearRows.{near_some, give_close, give_done}
use Rattle.page_delete.proofs.give_near.Goals as goal

pub close-requires : goal.close-requires
close-requires c =
    give_close c.requires.near c.requires.depth_is c.if-at-eq0.false c.staying-from.ensures (omega (arith, c.pointer-p.ensures.1)) _ c.replace_entry.ensures

pub returns : goal.returns
returns c =
    near_some (give_done c.requires.near c.requires.depth_is c.if-at-eq0.false c.staying-from.ensures (omega (arith, c.pointer-p.ensures.1)) _ c.replace_entry.ensures c.pointer-p.ensures.0 (c.reaches_back.ensures c.if-reaches_back.false) _ c.close.ensures)
