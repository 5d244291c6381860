-- The entries of a page appended to a row. Assumes nothing.
use Rattle.std.proofs.Common.{◌+◌, ◌-◌, ◌≤◌, length, take}
use Rattle.page_tree.specs.Row.{places}
use Rattle.page_tree.proofs.RowLaws.{Appended}
use Rattle.index_table.specs.Layout.{Within, layout_of}
use Rattle.index_table.specs.Pages.{pages_at}
use Rattle.index_write.proofs.rows.append_page.Given as goal

abbrev pub invariant-loop-i : goal.invariant-loop-i
invariant-loop-i l =
    (l.i ≤ l.to)
    × Within (layout_of l.e) l.index l.page.0
    × (l.to ≤ length (pages_at (layout_of l.e) l.index l.page.0))
    × (length (pages_at (layout_of l.e) l.index l.page.0) ≤ l.e)
    × (l.initial.k + (l.to - l.from) ≤ 319)
    × Appended l.from l.i l.initial.k l.k (take l.initial.k (places l.initial.r)) (pages_at (layout_of l.e) l.index l.page.0) l.r.depths l.r.pointers
