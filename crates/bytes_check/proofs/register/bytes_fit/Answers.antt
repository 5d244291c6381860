-- Bytes of one bit are 0 or 1. Assumes nothing.
use Rattle.std.proofs.Common.{arith, le-leb, leb-true}
use Rattle.bytes_check.proofs.register.bytes_fit.Goals as goal

pub returns : goal.returns
returns c = (
  (λ t k l. omega (arith, (c.bits_of.ensures 1).0 (omega (arith, leb-true _ _ t)) k l)),
  (λ f. le-leb _ _ (omega (arith, (c.bits_of.ensures 1).1 (λ k l. omega (arith, f k l))))),
)
