-- `page_tree::cut_part` meets its contract; the part that is cut gets shorter. Assumes nothing.
use Rattle.std.proofs.Common.{arith, rules}
use Rattle.page_tree.proofs.RowCuts.{cut_one, cut_inside, cut_both}
use Rattle.page_tree.proofs.+cut_part.Goals as goal

pub returns-then-to-from : goal.returns-then-to-from
returns-then-to-from t c = cut_one _ (search rules) c.requires (search rules) (omega (arith, c.from.ensures))

pub cut_part-requires : goal.cut_part-requires
cut_part-requires t c =
    let same_size = c.from.ensures in
    let inside = cut_inside _ (search rules) c.requires (omega arith) _ c.split_at-m.ensures in
    (omega (arith, c.decreases), inside.left_part)

pub cut_part-requires-2 : goal.cut_part-requires-2
cut_part-requires-2 t c =
    let same_size = c.from.ensures in
    let inside = cut_inside _ (search rules) c.requires (omega arith) _ c.split_at-m.ensures in
    (omega (arith, c.decreases), inside.right_part _ c.cut_part.ensures)

pub returns : goal.returns
returns t c =
    cut_both _ (search rules) c.requires (omega (arith, c.from.ensures)) _ c.split_at-m.ensures _ _ c.cut_part.ensures c.cut_part-2.ensures
