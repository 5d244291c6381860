-- The loop's invariant: the fields of the records so far stand from `at` on. Assumes nothing.
use Rattle.book_answers.proofs.Lines.{records_none, record_room, record_wrote, records_wrote}
use Rattle.book_answers.proofs.write_records.Goals as goal

pub loop-record-init : goal.loop-record-init
loop-record-init c = records_none _ _ c.args.records.now

pub write_field-next-requires : goal.write_field-next-requires
write_field-next-requires c = record_room _ c.requires c.loop-record.invariant c.loop-record-test.true c.from.ensures

pub loop-record-preserved : goal.loop-record-preserved
loop-record-preserved c = record_wrote _ c.loop-record.invariant c.loop-record-test.true c.from.ensures c.write_field-next.ensures

pub returns : goal.returns
returns c = records_wrote _ c.loop-record.invariant c.loop-record-test.false
