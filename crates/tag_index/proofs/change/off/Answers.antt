-- Row 1, or off in sound tables. Assumes nothing.
use Rattle.tag_index.proofs.Changes.{off_unsound, off_sound}
use Rattle.tag_index.proofs.change.off.Goals as goal

pub returns-then-not-check : goal.returns-then-not-check
returns-then-not-check c = off_unsound _ c.check.ensures c.if-not-check.true

pub off_sound-requires : goal.off_sound-requires
off_sound-requires c =
    c.check.ensures.0 c.if-not-check.false

pub returns : goal.returns
returns c =
    off_sound _ c.check.ensures c.if-not-check.false c.off_sound.ensures
