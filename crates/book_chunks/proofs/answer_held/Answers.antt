-- The line that is held stands at the front of the lent bytes, and its answer fits. Assumes nothing.
use Rattle.book_chunks.proofs.Passing.{held_settled}
use Rattle.book_chunks.proofs.answer_held.Goals as goal

pub returns : goal.returns
returns c = held_settled _ _ _ _ _ _ _ _ c.requires c.answer_line-more.ensures c.line_answered.ensures
