-- A turn takes a line, which is answered, or a part of it. Assumes nothing.
use Rattle.book_chunks.proofs.Passing.{turn_room, turn_part, turn_line}
use Rattle.book_chunks.proofs.answer_next.Goals as goal

pub answer_held-requires : goal.answer_held-requires
answer_held-requires c = turn_room c.requires (rw c.in-Whole.is at c.take_next.ensures)

pub returns-in-Whole : goal.returns-in-Whole
returns-in-Whole c = turn_line c.requires (rw c.in-Whole.is at c.take_next.ensures) c.answer_held.ensures

pub returns-in-Part : goal.returns-in-Part
returns-in-Part c = turn_part c.requires (rw c.in-Part.is at c.take_next.ensures)
