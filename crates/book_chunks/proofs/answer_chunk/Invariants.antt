-- From the first place on each line is answered, and the place goes on. Assumes nothing.
use Rattle.std.proofs.Common.{length, ◌-◌}
use Rattle.day_book.specs.LineAnswers.{tables}
use Rattle.book_chunks.proofs.Passing.{Going}
use Rattle.book_chunks.proofs.answer_chunk.Given as goal

abbrev pub invariant-loop-p : goal.invariant-loop-p
invariant-loop-p l =
    Going (tables l.initial.index l.initial.keys l.initial.used) l.chunk l.initial.held l.initial.out l.initial.p (tables l.index l.keys l.used) l.held l.out l.p

abbrev pub decreases-loop-p : goal.decreases-loop-p
decreases-loop-p l = length l.chunk - l.p.at
