-- The bits gathered so far are as wide as the widest byte so far. Assumes nothing.
use Rattle.std.proofs.Common.{arith, pow_pos}
use Rattle.bytes_check.proofs.Gathered.{bits_more}
use Rattle.bytes_check.proofs.zeros.bits_of.Goals as goal

pub loop-byte-init : goal.loop-byte-init
loop-byte-init c = λ m. ((λ h k l. absurd (omega arith)), (λ f. pow_pos m))

pub loop-byte-preserved : goal.loop-byte-preserved
loop-byte-preserved c = λ m. bits_more m _ _ _ (c.loop-byte.invariant m)
