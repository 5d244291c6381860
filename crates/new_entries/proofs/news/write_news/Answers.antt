-- One leaf, or dummies and two leaves. Assumes nothing.
use native.Mathlib.Omega.{arith}
use Rattle.new_entries.proofs.NewsWriting.{single_written, both_count, both_written}
use Rattle.new_entries.proofs.news.write_news.Goals as goal

pub returns-in-Alone : goal.returns-in-Alone
returns-in-Alone c = rw c.in-Alone.is (single_written c.args.w c.args.key _ _ _ _ c.write_entry.ensures)

pub write_dummies-next-requires : goal.write_dummies-next-requires
write_dummies-next-requires c =
    let pre = rw c.in-Beside.is at c.requires in
    rw c.from.ensures (pre.0.between, omega (arith, pre.1, both_count _ _ _ _ _ _ _ _ pre.0))

pub write_entry-requires-in-Beside : goal.write_entry-requires-in-Beside
write_entry-requires-in-Beside c =
    let pre = rw c.in-Beside.is at c.requires in
    let told = rw c.from.ensures at c.write_dummies-next.ensures in
    (omega (arith, pre.1, both_count _ _ _ _ _ _ _ _ pre.0, told.1, c.write_dummies-next.auto.index), omega (arith, pre.0.first_fits))

pub overflow_add-next : goal.overflow_add-next
overflow_add-next c =
    let pre = rw c.in-Beside.is at c.requires in
    let told = rw c.from.ensures at c.write_dummies-next.ensures in
    omega (arith, pre.1, both_count _ _ _ _ _ _ _ _ pre.0, told.1)

pub write_entry-requires-in-Beside-2 : goal.write_entry-requires-in-Beside-2
write_entry-requires-in-Beside-2 c =
    let pre = rw c.in-Beside.is at c.requires in
    let told = rw c.from.ensures at c.write_dummies-next.ensures in
    (omega (arith, pre.1, both_count _ _ _ _ _ _ _ _ pre.0, told.1, c.write_dummies-next.auto.index, c.write_entry-in-Beside.auto.index), omega (arith, pre.0.second_fits))

pub returns-in-Beside : goal.returns-in-Beside
returns-in-Beside c =
    let told = rw c.from.ensures at c.write_dummies-next.ensures in
    rw c.in-Beside.is (both_written c.args.w c.args.key _ _ _ _ _ c.in-Beside.count _ _ told.0 told.1 c.write_entry-in-Beside.ensures c.write_entry-in-Beside-2.ensures)
