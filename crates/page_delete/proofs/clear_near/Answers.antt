-- The entry goes with the entries before it up to one that stays. Assumes nothing.
use mathlib.Core.Path.{refl}
use Rattle.page_delete.proofs.NearRows.{near_some, clear_close, clear_done}
use Rattle.page_delete.proofs.clear_near.Goals as goal

pub close-requires : goal.close-requires
close-requires c =
    clear_close c.requires c.staying-from.ensures refl

pub returns : goal.returns
returns c =
    near_some (clear_done c.requires c.staying-from.ensures (c.reaches_back.ensures c.if-reaches_back.false) refl _ c.close.ensures)
