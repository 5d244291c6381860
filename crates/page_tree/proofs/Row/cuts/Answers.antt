-- `page_tree::Row::cuts` meets its contract. Assumes nothing.
use Rattle.std.proofs.Common.{refl, arith, rules}
use Rattle.page_tree.proofs.RowCuts.{cut_start, cut_all}
use Rattle.page_tree.proofs.Row.cuts.Goals as goal

pub cut_part-requires : goal.cut_part-requires
cut_part-requires c =
    let pre = c.requires in
    cut_start _ _ (search rules, search rules) pre.0 (search rules) pre.1 pre.2 pre.3 refl

pub returns : goal.returns
returns c = cut_all (search rules, search rules) (omega arith) c.requires.2 c.cut_part.ensures.places refl c.cut_part.ensures
