-- A new key put into the page found and into the register. Assumes nothing.
use borrow.Author.Rules.{rules}
use native.Mathlib.Omega.{arith}
use Rattle.table_change.proofs.Opening.{open_pre, open_done}
use Rattle.table_change.proofs.on.open_on.Goals as goal

pub open_leaf-requires : goal.open_leaf-requires
open_leaf-requires c = open_pre c.requires

pub enter-requires : goal.enter-requires
enter-requires c =
    let free = c.requires.found_key.new_key.free_record in
    (omega (arith, free.inside, free.sound.lengths.register), free.inside)

pub returns : goal.returns
returns c = open_done c.requires (search rules) c.open_leaf.ensures c.enter.ensures.0 c.enter.ensures.1
