-- The first of the bits left, or w + 1 where none is. Assumes nothing.
use Rattle.table_search.proofs.BitsAhead.{next_first}
use Rattle.table_search.proofs.next_position.Goals as goal

pub returns : goal.returns
returns c =
    rw c.first_position.ensures (next_first _ _ _ _ c.requires.0 c.requires.1 c.last_bits.ensures)
