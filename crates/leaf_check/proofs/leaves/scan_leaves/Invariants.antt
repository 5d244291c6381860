-- The entries of a page of level 0: after each turn what is left is in order exactly if the whole row is. Assumes nothing.
use Rattle.leaf_check.proofs.PassTurns.{Named, PassTurn}
use Rattle.leaf_check.proofs.leaves.scan_leaves.Given as goal

abbrev pub invariant-loop-i : goal.invariant-loop-i
invariant-loop-i l = record {
  named : Named l.h l.index l.page.0 l.c l.w l.held l.close l.n l.last l.most;
  turn : PassTurn l.h l.index l.keys l.used l.page.0 l.c l.n l.s l.pass l.i;
}
