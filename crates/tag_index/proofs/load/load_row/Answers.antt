-- Row 1, then row 12. Assumes nothing.
use borrow.Author.Rules.{rules}
use borrow.Author.Tests.{not-true, not-false}
use Rattle.tag_index.proofs.LoadLaws.{row_one, row_twelve, row_none}
use Rattle.tag_index.proofs.load.load_row.Goals as goal

pub returns-then-not-check : goal.returns-then-not-check
returns-then-not-check c = search (rules, row_one, not-true)

pub returns-then-answers-movements : goal.returns-then-answers-movements
returns-then-answers-movements c = search (rules, row_twelve, not-false)

pub returns : goal.returns
returns c = search (rules, row_none, not-false)
