-- Room is made, the entries are written, and one record more is held. Assumes nothing.
use mathlib.Core.Path.{◌∙◌}
use native.Mathlib.Omega.{arith}
use Rattle.index_change.proofs.PageOpening.{write_pre, opened_written}
use Rattle.index_change.proofs.open_leaf.Goals as goal

pub open_page-place-requires : goal.open_page-place-requires
open_page-place-requires c = rw (c.read-head.ensures.entries, c.count.ensures) c.requires.openable

pub write_news-requires : goal.write_news-requires
write_news-requires c = write_pre c.requires c.read-head.ensures (rw c.count.ensures at c.open_page-place.ensures) c.from.ensures

pub overflow_add-head : goal.overflow_add-head
overflow_add-head c = omega (arith, c.read-head.ensures.held, c.requires.held)

pub set_held-requires : goal.set_held-requires
set_held-requires c = omega (arith, c.write_news.auto.index, c.open_page-place.auto.index, c.requires.header)

pub shape_of-index : goal.shape_of-index
shape_of-index c = c.set_held.auto.index ∙ c.write_news.auto.index ∙ c.open_page-place.auto.index

pub returns : goal.returns
returns c = opened_written c.requires c.read-head.ensures (rw c.count.ensures at c.open_page-place.ensures) c.from.ensures c.write_news.ensures c.set_held.ensures
