-- The three bytes of the entry. Assumes nothing.
use native.Mathlib.Omega.{arith}
use Rattle.byte_moves.proofs.OverLaws.{over_part}
use Rattle.index_table.specs.Bytes.{bytes_of}
use Rattle.index_table.specs.Layout.{ref_bytes}
use Rattle.index_write.proofs.write.write_entry.Goals as goal

pub returns : goal.returns
unfolding bytes_of ref_bytes
returns c =
    over_part _ _ _ (omega (arith, c.requires)) c.copy_from_slice.ensures.len (rw c.to_be_bytes.ensures at c.copy_from_slice.ensures.after)
