-- The first position, the insertion below the root, and the new roots. Assumes nothing.
use native.Mathlib.Omega.{arith}
use borrow.Author.Rules.{rules}
use Rattle.page_tree.proofs.RowLaws.{length_row}
use Rattle.table_insert.proofs.Puttings.{put_insert, put_grow, put_done}
use Rattle.table_insert.proofs.put_in.Goals as goal

pub insert-parts-requires : goal.insert-parts-requires
insert-parts-requires c =
    let pre = c.requires in
    put_insert pre c.next_position-position.ensures (length_row c.args.news (search rules, search rules) (omega (arith, pre.few, pre.tree.width)))

pub grow-requires : goal.grow-requires
grow-requires c =
    put_grow c.requires c.next_position-position.ensures c.insert-parts.ensures

pub returns : goal.returns
returns c =
    put_done c.requires c.next_position-position.ensures c.insert-parts.ensures c.grow.ensures
