-- One dummy less is left, or none was. Assumes nothing.
use mathlib.Core.Path.{ap}
use mathlib.Core.List.{map}
use Rattle.new_entries.specs.Entries.{ref_of}
use Rattle.new_entries.proofs.Dummies.{dummies_end}
use Rattle.new_entries.proofs.dummy.DummiesIterator.next.Goals as goal

pub returns-then-self-clause-steps : goal.returns-then-self-clause-steps
returns-then-self-clause-steps c =
    let s = c.args.self.now in
    let none = ap (map ref_of) (dummies_end s.w s.key 0 s.high s.position c.if-self.true) in (none, none)
