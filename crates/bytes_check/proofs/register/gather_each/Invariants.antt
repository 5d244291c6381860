-- The records before i are gathered. Assumes nothing.
use Rattle.bytes_check.specs.Gatherings.{Gathered}
use Rattle.bytes_check.proofs.register.gather_each.Given as goal

abbrev pub invariant-loop-i : goal.invariant-loop-i
invariant-loop-i l = Gathered l.keys l.used l.i l.sum
