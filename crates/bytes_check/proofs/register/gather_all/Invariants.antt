-- The records before these eight are gathered. Assumes nothing.
use Rattle.std.proofs.Common.{◌*◌}
use Rattle.bytes_check.specs.Gatherings.{Gathered}
use Rattle.bytes_check.proofs.register.gather_all.Given as goal

abbrev pub invariant-loop-eight : goal.invariant-loop-eight
invariant-loop-eight l = Gathered l.keys l.used (8 * l.eight) l.g
