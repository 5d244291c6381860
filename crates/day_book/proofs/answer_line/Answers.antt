-- A line is answered as what it says. Assumes nothing.
use mathlib.Core.Path.{sym, ◌∙◌}
use Rattle.day_book.proofs.Showing.{said_call, line_declined}
use Rattle.day_book.proofs.answer_line.Goals as goal

pub returns-in-Ok-On : goal.returns-in-Ok-On
returns-in-Ok-On c =
    said_call _ _ (sym c.in-Ok-On.is ∙ c.read_line.ensures) c.in-Ok-On.field-0-is c.on_line.ensures

pub returns-in-Ok-Off : goal.returns-in-Ok-Off
returns-in-Ok-Off c =
    said_call _ _ (sym c.in-Ok-Off.is ∙ c.read_line.ensures) c.in-Ok-Off.field-0-is c.off_line.ensures

pub returns-in-Ok-Find : goal.returns-in-Ok-Find
returns-in-Ok-Find c =
    said_call _ _ (sym c.in-Ok-Find.is ∙ c.read_line.ensures) c.in-Ok-Find.field-0-is c.find_line.ensures

pub returns-in-Ok-List : goal.returns-in-Ok-List
returns-in-Ok-List c =
    said_call _ _ (sym c.in-Ok-List.is ∙ c.read_line.ensures) c.in-Ok-List.field-0-is c.list_line.ensures

pub returns-in-Err : goal.returns-in-Err
returns-in-Err c =
    line_declined _ _ (sym c.in-Err.is ∙ c.read_line.ensures) c.number.ensures c.declined_line.ensures
