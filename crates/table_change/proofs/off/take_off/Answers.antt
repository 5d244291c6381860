-- A held key taken out of the pages and of the register. Assumes nothing.
use native.Mathlib.Omega.{arith}
use Rattle.table_change.proofs.Changed.{off_taken}
use Rattle.table_change.proofs.RowChoice.{strike_pre, held_inside}
use Rattle.table_change.proofs.off.take_off.Goals as goal

pub strike_pages-requires : goal.strike_pages-requires
strike_pages-requires c = strike_pre c.requires

pub bounds-keys-at : goal.bounds-keys-at
bounds-keys-at c =
    omega (arith, held_inside c.requires, c.requires.sound.lengths.register)

pub bounds-used-at : goal.bounds-used-at
bounds-used-at c = held_inside c.requires

pub returns : goal.returns
returns c = off_taken c.requires c.strike_pages.ensures
