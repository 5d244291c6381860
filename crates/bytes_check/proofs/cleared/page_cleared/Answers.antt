-- A page against its mark: free or in use. Assumes nothing.
use Rattle.std.proofs.Common.{sym, ◌∙◌, arith, eq-eqb, ne_eqb}
use Rattle.bytes_check.proofs.Iff.{iff_no, iff_trans}
use Rattle.bytes_check.proofs.ZeroBytes.{free_marked, used_unmarked, free_cleared, used_cleared, used_few}
use Rattle.bytes_check.proofs.cleared.page_cleared.Goals as goal

pub returns-then-mark-eq0 : goal.returns-then-mark-eq0
returns-then-mark-eq0 c = iff_trans c.all_zero.ensures (free_cleared _ _ _ _ c.requires.0 _ _ c.page_start-at.ensures (rw c.from.ensures) (sym c.count-n.ensures ∙ c.if-n-eq0.true) c.if-mark-eq0.true)

pub returns-else-mark-eq0 : goal.returns-else-mark-eq0
returns-else-mark-eq0 c = rw (ne_eqb _ 0 c.if-mark-eq0.false) (iff_no (free_marked _ _ _ _ c.requires.0 (sym c.count-n.ensures ∙ c.if-n-eq0.true) c.if-mark-eq0.false))

pub all_zero-requires-then-mark-ne0 : goal.all_zero-requires-then-mark-ne0
all_zero-requires-then-mark-ne0 c = let f = used_few c.args.h c.args.index.now c.args.page.0 _ c.count-n.ensures (c.requires.2 (omega (arith, c.if-mark-ne0.true, c.requires.1))) in (omega (arith, f, c.from-then-mark-ne0.ensures, c.from.ensures), omega (arith, c.requires.0, c.page_start-at.ensures, c.from.ensures))

pub returns-then-mark-ne0 : goal.returns-then-mark-ne0
returns-then-mark-ne0 c = iff_trans c.all_zero-then-mark-ne0.ensures (rw c.from-then-mark-ne0.ensures (used_cleared _ _ _ _ c.requires.0 _ _ _ c.page_start-at.ensures (rw c.from.ensures) c.count-n.ensures c.if-n-eq0.false (omega (arith, c.if-mark-ne0.true, c.requires.1))))

pub returns-else-mark-ne0 : goal.returns-else-mark-ne0
returns-else-mark-ne0 c = rw (eq-eqb _ 0 c.if-mark-ne0.false) (iff_no (used_unmarked _ _ _ _ c.requires.0 (λ z. c.if-n-eq0.false (c.count-n.ensures ∙ z)) c.if-mark-ne0.false))
