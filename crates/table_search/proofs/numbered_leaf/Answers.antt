-- All but the depth is read off the number, and the depth from the page. Assumes nothing.
use mathlib.Core.Path.{◌∙◌}
use Rattle.table_search.proofs.LeafNumbers.{depth_read}
use Rattle.table_search.proofs.numbered_leaf.Goals as goal

pub returns : goal.returns
returns c =
    let pre = c.requires in
    depth_read pre c.number_pointer.ensures (c.from.ensures ∙ c.depth.ensures)
