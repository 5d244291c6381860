-- Row 1, or on in sound tables. Assumes nothing.
use Rattle.tag_index.proofs.Changes.{on_unsound, on_sound}
use Rattle.tag_index.proofs.change.on.Goals as goal

pub returns-then-not-check : goal.returns-then-not-check
returns-then-not-check c = on_unsound _ c.check.ensures c.if-not-check.true

pub on_sound-requires : goal.on_sound-requires
on_sound-requires c =
    c.check.ensures.0 c.if-not-check.false

pub returns : goal.returns
returns c =
    on_sound _ c.check.ensures c.if-not-check.false c.on_sound.ensures
