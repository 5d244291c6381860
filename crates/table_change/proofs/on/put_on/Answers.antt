-- A new key put into the pages and into the register. Assumes nothing.
use native.Mathlib.Omega.{arith}
use Rattle.table_change.proofs.Changed.{on_entered}
use Rattle.table_change.proofs.RowChoice.{splice_pre}
use Rattle.table_change.proofs.on.put_on.Goals as goal

pub splice_pages-requires : goal.splice_pages-requires
splice_pages-requires c =
    let pre = c.requires in
    (splice_pre pre.0.free_record _ pre.0.news_for, pre.1)

pub enter-requires : goal.enter-requires
enter-requires c =
    let free = c.requires.0.free_record in
    (omega (arith, free.inside, free.sound.lengths.register), free.inside)

pub returns : goal.returns
returns c = on_entered c.requires.0 c.splice_pages.ensures c.enter.ensures.0 c.enter.ensures.1
