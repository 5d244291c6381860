-- The part is written over. Assumes nothing.
use native.Mathlib.Omega.{arith}
use Rattle.byte_moves.proofs.OverLaws.{over_part}
use Rattle.byte_moves.proofs.store.Goals as goal

pub returns : goal.returns
returns g c = over_part _ _ _ (omega (arith, c.requires)) c.copy_from_slice.ensures.len c.copy_from_slice.ensures.after
