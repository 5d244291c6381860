-- `page_tree::split_at` meets its contract: each turn tries one entry more. Assumes nothing.
use Rattle.std.proofs.Common.{◌≡◌, ◌+◌, ◌-◌, max, get_or}
use Rattle.page_tree.proofs.QuickSearchLaws.{Trying}
use Rattle.page_tree.proofs.split_at.Given as goal

abbrev pub invariant-loop-i : goal.invariant-loop-i
invariant-loop-i l =
    (l.end ≡ l.to - 1) × (l.stop ≡ get_or l.row.depths (l.to - 1) 0 + 1) × (l.limit ≡ max l.least (l.stop + 1))
    × Trying l.row.depths l.from l.to (get_or l.row.depths (l.to - 1) 0) l.i l.at l.least
