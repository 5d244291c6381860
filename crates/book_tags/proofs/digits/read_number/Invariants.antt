-- The loop takes digits into the value until a byte that is none, or the end. Assumes nothing.
use mathlib.Core.Path.{◌≡◌}
use Prim.Native.Nat.{◌<◌, ◌^◌}
use lib.ListN.{drop}
use Rattle.book_tags.specs.Tags.{number_after, number_of}
use Rattle.book_tags.proofs.digits.read_number.Given as goal

abbrev pub invariant-loop-byte : goal.invariant-loop-byte
invariant-loop-byte l = (l.value < 16 ^ l.byte-index) × (number_after l.base l.value (drop l.byte-index l.digits) ≡ number_of l.base l.digits)
