-- Between two reads the claim is the same. Assumes nothing.
use Rattle.book_output.specs.Readings.{Between}
use Rattle.daybook.proofs.answer_all.Given as goal

abbrev pub invariant-loop : goal.invariant-loop
invariant-loop g l = Between l.held l.out l.reading
