-- Bytes with no bit are zero. Assumes nothing.
use Rattle.bytes_check.proofs.ZeroBytes.{no_bits}
use Rattle.bytes_check.proofs.zeros.all_zero.Goals as goal

pub returns : goal.returns
returns c = no_bits _ _ _ _ c.requires.0 c.requires.1 (c.bits_of.ensures 0)
