-- One leaf, or dummies and two leaves, in a row. Assumes nothing.
use Rattle.new_entries.proofs.NewsWriting.{both_row}
use Rattle.new_entries.proofs.news.row_of.Goals as goal

pub returns-in-Beside : goal.returns-in-Beside
returns-in-Beside c =
    let made = rw c.in-Beside.is at c.requires in
    let pushed = rw c.from.ensures at c.push_dummies-row.ensures.0 in
    rw c.in-Beside.is (both_row _ _ _ _ _ _ _ _ made c.new-in-Beside.ensures pushed c.push-in-Beside.ensures c.push-in-Beside-2.ensures)
