-- By the zeros behind the last one-bit. Assumes nothing.
use native.Mathlib.Omega.{arith}
use Rattle.table_search.proofs.LastBits.{zeros_fewer}
use Rattle.table_search.proofs.last_position.Goals as goal

pub overflow_sub-result : goal.overflow_sub-result
overflow_sub-result c = let z = c.if-number-eq0.false in omega (arith, c.from.ensures, zeros_fewer 64 c.args.w c.args.number (omega arith) c.requires.1)
