-- The first part is stored in the own page; then the loop stores part after part. Assumes nothing.
use Rattle.std.proofs.Common.{refl, arith, rules}
use Rattle.table_insert.proofs.PlacedParts.{first_entry, first_storable, first_end, storing_start, next_pre, next_end, storing_more, storing_end}
use Rattle.table_insert.proofs.place_parts.Goals as goal

pub store_page-requires : goal.store_page-requires
store_page-requires c =
    first_storable c.requires (search rules, search rules) c.cuts-cuts.ensures (search rules)

pub overflow_sub-r : goal.overflow_sub-r
overflow_sub-r c =
    omega (arith, (first_end c.requires (search rules, search rules) c.cuts-cuts.ensures (search rules)).0)

pub bounds-row-from : goal.bounds-row-from
bounds-row-from c =
    omega (arith, first_end c.requires (search rules, search rules) c.cuts-cuts.ensures (search rules))

pub loop-k-init : goal.loop-k-init
loop-k-init c =
    ((search rules, search rules), storing_start c.requires (search rules, search rules) c.cuts-cuts.ensures (search rules) _ c.store_page.ensures _ _ (search rules, search rules))

pub place_part-page-requires : goal.place_part-page-requires
place_part-page-requires c =
    next_pre c.requires c.loop-k.invariant.0 c.cuts-cuts.ensures (search rules) _ c.store_page.ensures c.loop-k.invariant.1 (search rules)

pub overflow_sub-r-in-loop-k : goal.overflow_sub-r-in-loop-k
overflow_sub-r-in-loop-k c =
    omega (arith, (next_end c.requires c.loop-k.invariant.0 c.cuts-cuts.ensures (search rules) _ c.store_page.ensures c.loop-k.invariant.1 (search rules)).0)

pub bounds-row-to : goal.bounds-row-to
bounds-row-to c =
    omega (arith, next_end c.requires c.loop-k.invariant.0 c.cuts-cuts.ensures (search rules) _ c.store_page.ensures c.loop-k.invariant.1 (search rules))

pub loop-k-preserved : goal.loop-k-preserved
loop-k-preserved c =
    (c.loop-k.invariant.0, storing_more c.requires c.loop-k.invariant.0 c.cuts-cuts.ensures (search rules) _ c.store_page.ensures c.loop-k.invariant.1 (search rules) c.place_part-page.ensures _ refl _ c.from-in-loop-k.ensures.0)

pub returns : goal.returns
returns c =
    storing_end c.requires c.loop-k.invariant.0 c.cuts-cuts.ensures (search rules) _ c.store_page.ensures c.loop-k.invariant.1 _ (first_entry c.new-r.result.depths c.new-r.result.pointers (search rules, search rules) _ _ _ c.from.ensures.0) refl (omega arith)
