-- The answer to a `find` line. Assumes nothing.
use mathlib.Core.Path.{refl, ap, ◌∙◌}
use borrow.Author.Rules.{rules}
use Prim.Native.Nat.{◌≤◌}
use Rattle.index_table.specs.Refusals.{number_of}
use Rattle.index_table.proofs.RefusalLaws.{refusal_not_0}
use Rattle.table_find.specs.Answers.{plain, with_record}
use Rattle.day_book.specs.Books.{number_alone, find_shown}
use Rattle.day_book.proofs.Showing.{shown_at, find_small, find_refused}
use Rattle.day_book.proofs.find_line.Goals as goal

pub write_answer-requires : goal.write_answer-requires
write_answer-requires c =
    let small : c.in-Ok.«record».0 ≤ 65535 = find_small c.in-Ok.ensures in
    record { few = search rules; numbers = search rules; room = search rules }

pub returns-in-Ok : goal.returns-in-Ok
returns-in-Ok c =
    record {
      shown = find_shown (with_record c.in-Ok.«record».0);
      does = record { answer = with_record c.in-Ok.«record».0; does = c.in-Ok.ensures; shows = refl; kept = refl };
      written = shown_at (find_shown (with_record c.in-Ok.«record».0)) c.write_answer.ensures;
    }

pub returns-in-Err : goal.returns-in-Err
returns-in-Err c =
    let line = c.declined_line.ensures in
    record {
      shown = line.shown;
      does = record { answer = plain (number_of c.in-Err.refusal); does = c.in-Err.ensures; shows = line.does ∙ ap number_alone c.from.ensures ∙ find_refused _ (refusal_not_0 _); kept = refl };
      written = line.written;
    }
