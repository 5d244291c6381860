-- Rank by rank, to the first entry of each page. Assumes nothing.
use Rattle.tree_delete.proofs.Following.{first_leaf, first_fits, first_read, first_down, first_post}
use native.Mathlib.Omega.{arith}
use Rattle.tree_delete.proofs.removal.+first_depth.Goals as goal

pub returns-then-rank-eq0 : goal.returns-then-rank-eq0
returns-then-rank-eq0 t c = first_leaf _ _ _ c.if-rank-eq0.true

pub from_pointer-page-requires : goal.from_pointer-page-requires
from_pointer-page-requires t c = first_fits _ c.requires

pub depth-requires : goal.depth-requires
depth-requires t c = first_read _ _ c.from_pointer-page.ensures c.if-rank-eq0.false c.requires

pub pointer-requires : goal.pointer-requires
pointer-requires t c = first_read _ _ c.from_pointer-page.ensures c.if-rank-eq0.false c.requires

pub first_depth-requires : goal.first_depth-requires
first_depth-requires t c = (omega (arith, c.decreases, c.if-rank-eq0.false), first_down _ _ _ _ c.from_pointer-page.ensures c.if-rank-eq0.false c.requires c.depth.ensures c.pointer.ensures.0)

pub returns : goal.returns
returns t c = first_post _ _ _ _ _ c.from_pointer-page.ensures c.if-rank-eq0.false c.requires c.depth.ensures c.pointer.ensures.0 c.first_depth.ensures
