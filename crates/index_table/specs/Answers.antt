-- What an entry on level 0 points at, as the code answers it (01: "Only a live leaf yields a record"). Assumes nothing.
use Rattle.std.specs.Prelude.{cond, ℕ, eqb}
use Rattle.index_table.specs.declared.layout.Answer.{Answer}
use Rattle.index_table.specs.declared.layout.Answer.TheVariants.{Live, Dummy}

abbrev pub answer_of : ℕ → Answer
answer_of pointer = cond (eqb pointer 65535) Dummy (Live (record { 0 = pointer }))
