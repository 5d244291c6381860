-- The header's bytes, number by number. Assumes nothing.
use Rattle.index_write.proofs.Writing.{header_over}
use Rattle.index_write.proofs.write.write_header.Goals as goal

pub returns : goal.returns
returns c = header_over _ _ _ _ _ _ _ _ _ _ c.write_word.ensures c.write_word-2.ensures c.write_word-3.ensures c.clear.ensures
