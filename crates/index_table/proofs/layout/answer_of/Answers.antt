-- A pointer is a record unless it is NIL. Assumes nothing.
use borrow.Author.Tests.{eq-eqb, ne_eqb}
use Rattle.index_table.proofs.layout.answer_of.Goals as goal

pub returns-then-pointer-eq65535 : goal.returns-then-pointer-eq65535
returns-then-pointer-eq65535 c = rw (eq-eqb _ 65535 c.if-pointer-eq65535.true)

pub returns : goal.returns
returns c = rw (ne_eqb _ 65535 c.if-pointer-eq65535.false)
