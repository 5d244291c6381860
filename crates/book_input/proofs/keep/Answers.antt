-- What was copied stands behind what was held. Assumes nothing.
use Rattle.std.proofs.Common.{arith}
use Rattle.book_input.proofs.TakenBytes.{keeps}
use Rattle.book_input.proofs.keep.Goals as goal

pub returns : goal.returns
returns c = keeps _ _ _ _ _ _ c.requires c.min-kept.ensures (omega arith) c.copy_from_slice.ensures.after
