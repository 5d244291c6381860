-- The tab is stored, and the number written behind it. Assumes nothing.
use Rattle.book_answers.proofs.Lines.{field_wrote}
use Rattle.book_answers.proofs.write_field.Goals as goal

pub returns : goal.returns
returns c = field_wrote _ c.write_number.ensures
