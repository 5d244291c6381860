-- No line is held, or it is answered. Assumes nothing.
use Rattle.book_chunks.proofs.Passing.{last_none, last_some}
use Rattle.book_chunks.proofs.answer_last.Goals as goal

pub returns-then-progress-eq0 : goal.returns-then-progress-eq0
returns-then-progress-eq0 c = last_none _ _ _ c.requires c.if-progress-eq0.true

pub returns : goal.returns
returns c =
    last_some _ _ _ _ _ c.requires c.if-progress-eq0.false c.answer_held.ensures
