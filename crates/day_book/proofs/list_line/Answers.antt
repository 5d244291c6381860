-- The answer to a `list` line. Assumes nothing.
use mathlib.Core.Path.{refl, ap, ◌∙◌}
use Rattle.index_table.specs.Refusals.{number_of}
use Rattle.table_find.specs.Answers.{plain, with_count}
use Rattle.day_book.specs.Books.{number_alone, list_shown}
use Rattle.day_book.proofs.Showing.{shown_at, list_writable}
use Rattle.day_book.proofs.list_line.Goals as goal

pub write_answer-requires : goal.write_answer-requires
write_answer-requires c = list_writable c.in-Ok.ensures c.requires

pub returns-in-Ok : goal.returns-in-Ok
returns-in-Ok c =
    let answer = with_count c.in-Ok.listed.count c.in-Ok.listed.more in
    record {
      shown = list_shown answer _;
      does = record { answer = answer; out = _; does = c.in-Ok.ensures; shows = refl; kept = refl };
      written = shown_at (list_shown answer _) c.write_answer.ensures;
    }

pub returns-in-Err : goal.returns-in-Err
returns-in-Err c =
    let line = c.declined_line.ensures in
    record {
      shown = line.shown;
      does = record { answer = plain (number_of c.in-Err.refusal); out = _; does = c.in-Err.ensures; shows = line.does ∙ ap number_alone c.from.ensures; kept = refl };
      written = line.written;
    }
