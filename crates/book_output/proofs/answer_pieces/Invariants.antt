-- Piece after piece the lines of the chunk are told to the library, and the place goes on. Assumes nothing.
use Rattle.std.proofs.Common.{◌≡◌, length, ◌-◌}
use Rattle.day_book.specs.LineAnswers.{tables}
use Rattle.book_output.specs.Readings.{at_front, behind}
use Rattle.book_output.proofs.Pieces.{Through}
use Rattle.book_output.proofs.answer_pieces.Given as goal

abbrev pub invariant-loop-p : goal.invariant-loop-p
invariant-loop-p g l = Through (tables l.fn.index l.fn.keys l.fn.used) l.chunk l.fn.held (at_front l.fn.reading) (tables l.index l.keys l.used) l.held l.out l.p × (l.reading ≡ behind l.p)

abbrev pub decreases-loop-p : goal.decreases-loop-p
decreases-loop-p g l = length l.chunk - l.p.at
