-- A movement: off where on is 0, and else on. Assumes nothing.
use Rattle.tag_index.proofs.LoadLaws.{moved_off, moved_on}
use Rattle.tag_index.proofs.load.move_one.Goals as goal
use Rattle.tag_index.proofs.load.move_one.Goals.{then-on-eq0, else-on-eq0}

pub returns : goal.returns
returns c =
    elim c.if-on-eq0.branch [
      | then-on-eq0 w ↦ rw (w.index-is, w.keys-is, w.used-is) (moved_off _ _ _ w.if-on-eq0.true w.off_sound-done.ensures (rw w.done-is at c.from.ensures))
      | else-on-eq0 w ↦ rw (w.index-is, w.keys-is, w.used-is) (moved_on _ _ w.if-on-eq0.false w.on_sound-done.ensures (rw w.done-is at c.from.ensures))
    ]
