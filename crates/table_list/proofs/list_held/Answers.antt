-- From the root, with the lower end's first position. Assumes nothing.
use Rattle.table_find.proofs.FoundLeaves.{root_page}
use Rattle.table_list.proofs.ListedHerds.{list_start, list_end}
use Rattle.table_list.proofs.list_held.Goals as goal

pub level-level-requires : goal.level-level-requires
level-level-requires c = root_page c.requires.0 _ c.read-h.ensures

pub list_from-requires : goal.list_from-requires
list_from-requires c =
    list_start c.requires.0 _ c.read-h.ensures _ _ _ c.from-w.ensures c.level-level.ensures c.requires.1 _ c.next_position-position.ensures

pub returns-in-Continue : goal.returns-in-Continue
returns-in-Continue c =
    list_end c.requires.0 _ c.read-h.ensures _ _ _ c.from-w.ensures c.level-level.ensures c.requires.1 _ _ _ _ c.next_position-position.ensures c.in-Continue.ensures

pub returns-in-Break : goal.returns-in-Break
returns-in-Break c =
    list_end c.requires.0 _ c.read-h.ensures _ _ _ c.from-w.ensures c.level-level.ensures c.requires.1 _ _ _ _ c.next_position-position.ensures c.in-Break.ensures
