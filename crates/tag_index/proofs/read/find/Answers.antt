-- Rows 1 and 2, or the find behind them. Assumes nothing.
use mathlib.Core.Path.{refl}
use borrow.Author.Tests.{leb-false}
use Rattle.index_table.proofs.RefusalLaws.{refusal_not_0, handed_on}
use Rattle.tag_index.proofs.Judging.{none_sound, behind_declined, behind_done}
use Rattle.tag_index.proofs.read.find.Goals as goal

pub returns-in_err-first_row : goal.returns-in_err-first_row
returns-in_err-first_row c =
    let row = c.in_err-first_row.ensures in
    rw (handed_on c.from_residual.result c.from_residual.ensures.1)
    (record { judged = row.judged; answer = behind_declined _ _ row.number (refusal_not_0 _) })

pub find_held-requires : goal.find_held-requires
find_held-requires c =
    let none = none_sound c.in_ok-first_row.ensures refl in
    (none.0, leb-false _ _ none.1)

pub returns : goal.returns
returns c =
    let row = c.in_ok-first_row.ensures in
    record { judged = row.judged; answer = behind_done _ _ row.number refl c.find_held.ensures }
