-- Figure 11 at the entry, case by case. Assumes nothing.
use native.Mathlib.Omega.{arith}
use Rattle.page_delete.proofs.NearRows.{followed_read, near_give, near_followed, strike_give, strike_clear, strike_dummy}
use Rattle.page_delete.proofs.strike_near.Goals as goal

pub give_near-requires : goal.give_near-requires
give_near-requires c =
    near_give c.requires c.depth-d.ensures

pub returns-then-from-trail : goal.returns-then-from-trail
returns-then-from-trail c =
    strike_give c.requires c.depth-d.ensures (omega (arith, c.from.ensures, c.if-from-trail.true)) _ _ c.give_near.ensures

pub depth-next-requires : goal.depth-next-requires
depth-next-requires c =
    let followed = near_followed c.requires c.count.ensures c.from-2.ensures (omega (arith, c.if-from-at.false)) in
    followed_read followed _ (omega arith)

pub clear_near-requires : goal.clear_near-requires
clear_near-requires c =
    let followed = near_followed c.requires c.count.ensures c.from-2.ensures (omega (arith, c.if-from-at.false)) in
    followed

pub returns-then-next-d : goal.returns-then-next-d
returns-then-next-d c =
    let followed = near_followed c.requires c.count.ensures c.from-2.ensures (omega (arith, c.if-from-at.false)) in
    strike_clear c.requires c.depth-d.ensures followed.followed c.depth-next.ensures _ (omega (arith, c.from.ensures, c.if-from-trail.false)) c.if-next-d.true _ _ c.clear_near.ensures

pub returns : goal.returns
returns c =
    let followed = near_followed c.requires c.count.ensures c.from-2.ensures (omega (arith, c.if-from-at.false)) in
    strike_dummy c.requires c.depth-d.ensures followed.followed c.depth-next.ensures _ (omega (arith, c.from.ensures, c.if-from-trail.false)) (omega (arith, c.if-next-d.false)) _ c.replace_entry.ensures
