-- After i movements it is as `LoadLaws.antt` says of them. Assumes nothing.
use Rattle.std.proofs.Common.{length}
use Rattle.tag_index.specs.Tables.{tables}
use Rattle.tag_index.specs.Loads.{LoadRow}
use Rattle.tag_index.proofs.LoadLaws.{Done}
use Rattle.tag_index.proofs.c.tag_index_load.Given as goal

abbrev pub invariant-loop-i : goal.invariant-loop-i
invariant-loop-i l = record {
  declines : LoadRow (tables l.fn.index l.fn.keys l.fn.used) (length l.fn.movements) (length l.fn.answers) l.answer.number;
  so_far : Done (tables l.fn.index l.fn.keys l.fn.used) l.fn.movements l.fn.answers l.answer.number declines l.i (tables l.index l.keys l.used) l.answers;
}
