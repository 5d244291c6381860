-- The loop's invariant: the fields of the records so far stand from `at` on. Assumes nothing.
use Rattle.std.proofs.Common.{take}
use Rattle.book_answers.specs.Answers.{fields_of}
use Rattle.book_answers.specs.Writing.{Wrote}
use Rattle.book_answers.proofs.write_records.Given as goal

abbrev pub invariant-loop-record : goal.invariant-loop-record
invariant-loop-record l = Wrote l.initial.out l.at (fields_of (take l.record-index l.records)) l.out l.next
