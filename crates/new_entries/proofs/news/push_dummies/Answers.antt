-- The dummies between two depths, behind the entries of a row. Assumes nothing.
use Rattle.std.proofs.Common.{ap, ◌∙◌, arith, rules}
use Rattle.new_entries.specs.Entries.{dummies_left}
use Rattle.new_entries.proofs.Dummies.{dummying_none, dummying_room, dummying_more, dummying_all, dummies_few}
use Rattle.new_entries.proofs.news.push_dummies.Goals as goal

pub loop-depth-init : goal.loop-depth-init
loop-depth-init c = dummying_none _ _ _ (search rules, search rules) (ap dummies_left c.into_iter-depth-iterator.ensures.into_iter_gives ∙ c.between-depth-items.ensures)

pub bounds-r-n : goal.bounds-r-n
bounds-r-n c =
    let room = dummying_room _ _ _ _ c.requires.1 c.requires.0.width c.requires.0.high_inside c.loop-depth.invariant c.in-Some.ensures.steps in
    omega arith

pub offset_bounds-r-n : goal.offset_bounds-r-n
offset_bounds-r-n c =
    let room = dummying_room _ _ _ _ c.requires.1 c.requires.0.width c.requires.0.high_inside c.loop-depth.invariant c.in-Some.ensures.steps in
    omega arith

pub bounds-r-n-in-loop-depth : goal.bounds-r-n-in-loop-depth
bounds-r-n-in-loop-depth c =
    let room = dummying_room _ _ _ _ c.requires.1 c.requires.0.width c.requires.0.high_inside c.loop-depth.invariant c.in-Some.ensures.steps in
    omega arith

pub overflow_add-r : goal.overflow_add-r
overflow_add-r c =
    let room = dummying_room _ _ _ _ c.requires.1 c.requires.0.width c.requires.0.high_inside c.loop-depth.invariant c.in-Some.ensures.steps in
    omega arith

pub loop-depth-preserved : goal.loop-depth-preserved
loop-depth-preserved c =
    dummying_more c.loop-depth.invariant (dummying_room _ _ _ _ c.requires.1 c.requires.0.width c.requires.0.high_inside c.loop-depth.invariant c.in-Some.ensures.steps) c.in-Some.ensures.steps

pub returns : goal.returns
returns c =
    let all = dummying_all c.loop-depth.invariant c.in-None.ensures.steps.0 in
    let few = dummies_few c.args.w c.args.key c.args.low c.args.high c.requires.0.high_inside in
    (record { count = all.0; entries = all.1 }, omega (arith, all.0, few))
