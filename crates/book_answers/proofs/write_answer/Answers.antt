-- The line's parts are written one behind the other, and there is room for each. Assumes nothing.
use native.Mathlib.Omega.{arith}
use Rattle.book_answers.proofs.Lines.{answer_of, room_number, room_answer, room_records, room_end, answer_written}
use Rattle.book_answers.proofs.write_answer.Goals as goal

pub write_number-numbered-requires : goal.write_number-numbered-requires
write_number-numbered-requires c = room_number _ _ _ _ (answer_of c.args.line c.args.number c.args.more c.requires (omega arith) (omega arith))

pub write_field-answered-requires : goal.write_field-answered-requires
write_field-answered-requires c = room_answer _ _ _ _ (answer_of c.args.line c.args.number c.args.more c.requires (omega arith) (omega arith)) c.write_number-numbered.ensures c.from.ensures

pub write_records-listed-requires : goal.write_records-listed-requires
write_records-listed-requires c = room_records _ _ _ _ (answer_of c.args.line c.args.number c.args.more c.requires (omega arith) (omega arith)) c.write_number-numbered.ensures c.from.ensures c.write_field-answered.ensures

pub write_end-requires : goal.write_end-requires
write_end-requires c = room_end _ _ _ _ (answer_of c.args.line c.args.number c.args.more c.requires (omega arith) (omega arith)) c.write_number-numbered.ensures c.from.ensures c.write_field-answered.ensures c.write_records-listed.ensures

pub returns : goal.returns
returns c = answer_written _ _ _ _ (answer_of c.args.line c.args.number c.args.more c.requires (omega arith) (omega arith)) c.write_number-numbered.ensures c.from.ensures c.write_field-answered.ensures c.write_records-listed.ensures c.requires.room c.write_end.ensures
