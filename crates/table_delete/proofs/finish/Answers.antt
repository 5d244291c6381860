-- From the root down with the key's first position, then the root rule. Assumes nothing.
use Rattle.table_delete.proofs.Finishing.{finish_merge, finish_lower, finish_post}
use Rattle.table_delete.proofs.finish.Goals as goal

pub merge-requires : goal.merge-requires
merge-requires c = finish_merge c.requires c.next_position-position.ensures

pub lower-requires : goal.lower-requires
lower-requires c =
    finish_lower c.requires c.next_position-position.ensures c.merge.ensures

pub returns : goal.returns
returns c =
    finish_post c.requires c.next_position-position.ensures c.merge.ensures c.lower.ensures
