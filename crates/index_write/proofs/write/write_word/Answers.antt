-- The two bytes of the number. Assumes nothing.
use mathlib.Core.Path.{◌∙◌}
use native.Mathlib.Omega.{arith}
use Rattle.byte_moves.proofs.OverLaws.{over_part}
use Rattle.index_table.specs.Bytes.{bytes_of}
use Rattle.index_write.proofs.write.write_word.Goals as goal

pub returns : goal.returns
unfolding bytes_of
returns c = over_part _ _ _ (omega (arith, c.requires)) c.copy_from_slice.ensures.len (c.copy_from_slice.ensures.after ∙ c.to_be_bytes.ensures)
