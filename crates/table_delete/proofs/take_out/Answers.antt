-- From the root's entry, with the key's first position and no depth before or after. Assumes nothing.
use borrow.Author.Rules.{rules}
use Rattle.table_delete.proofs.TakingOut.{take_remove, take_left, take_fits, take_finish, take_post}
use Rattle.tree_merge.proofs.MergeLaws.{covered_all}
use Rattle.table_delete.proofs.take_out.Goals as goal

pub remove-x-requires : goal.remove-x-requires
remove-x-requires c = take_remove c.requires (search rules) _ _ c.next_position-position.ensures c.from.ensures.0

pub unwrap-requires : goal.unwrap-requires
unwrap-requires c = take_left c.requires c.next_position-position.ensures c.from.ensures.0 c.remove-x.ensures

pub from_pointer-page-requires : goal.from_pointer-page-requires
from_pointer-page-requires c =
    take_fits c.requires c.next_position-position.ensures c.from.ensures.0 c.remove-x.ensures c.unwrap.ensures

pub finish-requires : goal.finish-requires
finish-requires c =
    take_finish c.requires c.next_position-position.ensures c.from.ensures.0 c.remove-x.ensures c.unwrap.ensures _ c.from_pointer-page.ensures _ covered_all

pub returns : goal.returns
returns c =
    take_post c.requires c.next_position-position.ensures c.from.ensures.0 c.remove-x.ensures c.unwrap.ensures _ c.from_pointer-page.ensures _ _ c.finish.ensures
