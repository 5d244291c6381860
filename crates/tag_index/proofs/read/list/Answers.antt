-- Rows 1 and 2, or the list behind them. Assumes nothing.
use borrow.Author.Tests.{leb-false}
use mathlib.Core.Path.{refl, ◌∙◌}
use Rattle.index_table.proofs.RefusalLaws.{refusal_not_0, handed_on}
use Rattle.tag_index.proofs.Judging.{none_sound, behind_declined, behind_done, kept_declined, kept_done}
use Rattle.tag_index.proofs.read.list.Goals as goal

pub returns-in_err-first_row : goal.returns-in_err-first_row
returns-in_err-first_row c =
    let row = c.in_err-first_row.ensures in
    rw (handed_on c.from_residual.result c.from_residual.ensures.1)
    (record { judged = row.judged; answer = behind_declined _ _ row.number (refusal_not_0 _); slice = kept_declined _ _ _ row.number (refusal_not_0 _) })

pub list_held-requires : goal.list_held-requires
list_held-requires c =
    let none = none_sound c.in_ok-first_row.ensures refl in
    (none.0, leb-false _ _ none.1)

pub returns : goal.returns
returns c =
    let row = c.in_ok-first_row.ensures in
    record {
      judged = row.judged;
      answer = behind_done _ _ row.number refl c.list_held.ensures.answered;
      slice = c.list_held.ensures.slice ∙ kept_done _ _ row.number refl;
    }
