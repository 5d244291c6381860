-- Every page passed is as its mark says. Assumes nothing.
use Rattle.std.proofs.Common.{ℕ, ◌<◌, get_or}
use Rattle.bytes_check.specs.Scans.{PageCleared}
use Rattle.bytes_check.proofs.cleared.all_cleared.Given as goal

abbrev pub invariant-loop-page : goal.invariant-loop-page
invariant-loop-page l = (q : ℕ) → q < l.page → PageCleared l.h l.index q (get_or l.map q 0)
