-- The one-bits between two depths, counted at once. Assumes nothing.
use Rattle.new_entries.proofs.Dummies.{counted, count_low}
use Rattle.new_entries.proofs.entries.count_dummies.Goals as goal

pub returns : goal.returns
returns c =
    let pre = c.requires in
    (counted _ _ _ _ pre.0.low_inside pre.2 _ c.last_bits-behind.ensures, count_low _ _ _ _ _ c.last_bits-behind.ensures)
