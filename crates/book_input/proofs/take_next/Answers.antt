-- The first newline ends what was kept, or there is none. Assumes nothing.
use Rattle.std.proofs.Common.{refl, sym, ◌∙◌}
use Rattle.std.proofs.lemmas.List.{take_rest}
use Rattle.book_input.proofs.TakenBytes.{takes_whole, takes_part}
use Rattle.book_input.proofs.take_next.Goals as goal

pub returns-in-Some : goal.returns-in-Some
returns-in-Some c =
    let takes = takes_whole c.requires c.keep.ensures _ (take_rest c.args.chunk.now c.args.progress.at) _ (sym c.in-Some.is ∙ c.newline_in.ensures) refl in
    record { takes = takes; lines = refl; filled = refl }

pub returns-in-None : goal.returns-in-None
returns-in-None c =
    let takes = takes_part c.requires c.keep-in-None.ensures _ (take_rest c.args.chunk.now c.args.progress.at) (sym c.in-None.is ∙ c.newline_in.ensures) refl in
    record { takes = takes; lines = refl; filled = refl }
