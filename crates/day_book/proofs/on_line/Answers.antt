-- The answer to an `on` line. Assumes nothing.
use mathlib.Core.Path.{ap}
use Rattle.table_find.specs.declared.answer.Answer.{Answer}
use Rattle.table_find.specs.Answers.{plain}
use Rattle.index_table.specs.Refusals.{answer_number}
use Rattle.day_book.specs.Books.{number_alone}
use Rattle.day_book.proofs.Showing.{shown_at}
use Rattle.day_book.proofs.on_line.Goals as goal

pub returns : goal.returns
returns c =
    record {
      shown = number_alone c.from-a.result.number;
      does = record { answer = plain (answer_number c.on.result); does = c.on.ensures; shows = ap (λ (a : Answer). number_alone a.number) c.from-a.ensures };
      written = shown_at (number_alone c.from-a.result.number) c.write_answer.ensures;
    }
