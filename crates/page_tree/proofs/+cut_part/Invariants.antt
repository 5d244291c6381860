-- `page_tree::cut_part` meets its contract; the part that is cut gets shorter. Assumes nothing.
use Prim.Native.Nat.{◌-◌}
use Rattle.page_tree.proofs.+cut_part.Given as goal

-- How many entries the part has.
abbrev pub decreases-cut_part : goal.decreases-cut_part
decreases-cut_part l = l.to - l.from
