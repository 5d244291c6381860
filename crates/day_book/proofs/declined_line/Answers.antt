-- The answer to a line that asks for no call. Assumes nothing.
use mathlib.Core.Path.{refl}
use Rattle.day_book.specs.Books.{number_alone}
use Rattle.day_book.proofs.Showing.{shown_at}
use Rattle.day_book.proofs.declined_line.Goals as goal

pub returns : goal.returns
returns c = record { shown = number_alone _; does = refl; written = shown_at (number_alone _) c.write_answer.ensures }
