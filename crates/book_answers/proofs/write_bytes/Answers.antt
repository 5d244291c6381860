-- The bytes are put in the place of as many. Assumes nothing.
use Rattle.std.proofs.Common.{arith}
use Rattle.book_answers.proofs.Writing.{wrote_bytes}
use Rattle.book_answers.proofs.write_bytes.Goals as goal

pub returns : goal.returns
returns c = wrote_bytes _ _ _ _ _ c.requires (omega arith) c.copy_from_slice.ensures.after
