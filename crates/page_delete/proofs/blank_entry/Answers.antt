-- The entry's pointer is set to NIL, or it is no dummy that is left. Assumes nothing.
use native.Mathlib.Omega.{arith}
use Rattle.page_delete.proofs.NearRows.{dummy_some}
use Rattle.page_delete.proofs.blank_entry.Goals as goal

pub returns : goal.returns
returns c =
    dummy_some c.requires (omega (arith, c.from.ensures, c.if-from-trail.false)) (omega (arith, c.if-next-d.false)) _ c.replace_entry.ensures
