-- Zeros everywhere, then the header, then the entry of the empty herd. Assumes nothing.
use mathlib.Core.Path.{sym, ◌∙◌}
use native.Mathlib.Omega.{arith}
use lib.ListN.{length-set, length-replicate}
use Rattle.table_format.proofs.EmptyTables.{made, over_whole}
use Rattle.table_format.proofs.make_empty.Goals as goal

pub bounds-index-17 : goal.bounds-index-17
bounds-index-17 c = simp length-set (omega arith)

pub write_entry-requires : goal.write_entry-requires
write_entry-requires c = (simp length-set (omega arith), omega arith)

pub shape_of-index : goal.shape_of-index
shape_of-index c =
    c.write_entry.auto.index ∙ simp length-set (c.write_header.auto.index ∙ c.fill.auto.self)

pub returns : goal.returns
returns c =
    made _ _ _ _ _ _ _ c.requires (c.fill.ensures.after (λ y e. e) ∙ sym (over_whole _ _ (length-replicate _ 0))) c.write_header.ensures c.write_entry.ensures
