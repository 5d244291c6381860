-- No byte is moved. Assumes nothing.
use mathlib.Core.Path.{◌≡◌}
use native.Mathlib.Omega.{arith}
use Rattle.byte_moves.proofs.OverLaws.{over_none}
use Rattle.byte_moves.proofs.move_few.Goals as goal

pub returns-else-n-eq1 : goal.returns-else-n-eq1
returns-else-n-eq1 c =
    let none : 0 ≡ c.args.n = omega arith in
    rw (← none) (over_none _ _)
