-- The bits gathered so far are as wide as the widest byte so far. Assumes nothing.
use Rattle.std.proofs.Common.{ℕ, ◌^◌, ◌<◌, ◌↔◌, get_or}
use Rattle.bytes_check.proofs.zeros.bits_of.Given as goal

abbrev pub invariant-loop-byte : goal.invariant-loop-byte
invariant-loop-byte l = (m : ℕ) → (l.bits < 2 ^ m) ↔ ((k : ℕ) → k < l.byte-index → get_or l.bytes k 0 < 2 ^ m)
