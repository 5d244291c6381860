-- The walk to its end, and then the pages against their marks. Assumes nothing.
use mathlib.Core.Path.{sym, ◌∙◌}
use mathlib.Core.Bool.{true≢false}
use native.Mathlib.Omega.{arith}
use borrow.Author.Tests.{not-true, not-false}
use Rattle.bytes_check.proofs.Iff.{iff_no, iff_trans}
use Rattle.table_check.proofs.WholeTree.{tree_walked, tree_closed, tree_live, marks_small, marks_few, tree_cleared}
use Rattle.table_check.proofs.root.tree_marked.Goals as goal
use Rattle.table_check.proofs.root.tree_marked.Goals.{then-end-ne0-via-then-end-ne0, then-end-ne0-via-else-end-ne0+then-not-end, then-end-ne0-via-else-end-ne0+else-not-end+then-end-from}

pub returns-then-end-ne0 : goal.returns-then-end-ne0
returns-then-end-ne0 c =
    elim c.then-end-ne0.branch [
      | then-end-ne0-via-then-end-ne0 w ↦ iff_no (λ t. w.if-end-ne0.true (tree_walked c.requires.2 c.page_ok-end.ensures t))
      | then-end-ne0-via-else-end-ne0+then-not-end w ↦ iff_no (λ t. true≢false (sym (tree_closed c.requires.2 c.page_ok-end.ensures w.if-end-ne0.false t) ∙ not-true _ w.if-not-end.true))
      | then-end-ne0-via-else-end-ne0+else-not-end+then-end-from w ↦ iff_no (λ t. w.if-end-from.true (tree_live c.requires.2 c.page_ok-end.ensures w.if-end-ne0.false t ∙ sym w.from.ensures))
    ]

pub all_cleared-requires : goal.all_cleared-requires
all_cleared-requires c = (omega (arith, c.requires.0.table), omega (arith, c.requires.1, c.page_ok-end.auto.map), marks_small c.requires.2 c.page_ok-end.ensures c.if-end-ne0.false, marks_few c.requires.2 c.page_ok-end.ensures c.if-end-ne0.false)

pub returns : goal.returns
returns c = iff_trans c.all_cleared.ensures (tree_cleared c.requires.2 c.page_ok-end.ensures c.if-end-ne0.false c.requires.0.table (not-false _ c.if-not-end.false) (c.if-end-from.false ∙ c.from.ensures))
