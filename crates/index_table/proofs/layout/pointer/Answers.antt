-- The two bytes behind an entry's depth are its pointer, high byte first. Assumes nothing.
use native.Mathlib.Omega.{arith}
use Rattle.index_table.proofs.PageReads.{read_pointer}
use Rattle.index_table.proofs.layout.pointer.Goals as goal

pub returns : goal.returns
returns c =
    let read = read_pointer c.args.e c.args.index.now c.args.page.0 c.args.i _ c.page_start.ensures c.requires.0 c.requires.1 in
    (omega (arith, read), omega arith)
