-- `page_tree::split_at` meets its contract: each turn tries one entry more. Assumes nothing.
use Rattle.std.proofs.Common.{refl, arith, rules}
use Rattle.page_tree.proofs.QuickSearchLaws.{trying_begun, trying_better, trying_on, trying_met, trying_all}
use Rattle.page_tree.proofs.split_at.Goals as goal
use Rattle.page_tree.proofs.split_at.Goals.{then-d-limit+else-d-stop+then-d-least, then-d-limit+else-d-stop+else-d-least, else-d-limit}

pub loop-i-init : goal.loop-i-init
loop-i-init c = (
  refl,
  omega (arith, c.from-stop.ensures),
  c.max-limit.ensures,
  trying_begun _ _ _ _ _ c.from-least.ensures (omega arith) (omega arith) (search rules),
)

pub returns-then-d-stop : goal.returns-then-d-stop
returns-then-d-stop c =
    let inv = c.loop-i.invariant in
    let met = trying_met _ _ _ _ _ _ inv.3 (omega arith) _ c.from-d.ensures (omega (arith, inv.1, c.if-d-stop.true)) in
    record { place = met.0; count = met.1 }

pub loop-i-preserved : goal.loop-i-preserved
loop-i-preserved c =
    let inv = c.loop-i.invariant in
    let d = c.from-d.ensures in
    elim c.if-d-limit.branch [
      | then-d-limit+else-d-stop+then-d-least w ↦ rw (w.at-is, w.least-is, w.limit-is) (
        refl,
        inv.1,
        w.max-limit-then-d-least.ensures,
        trying_better _ _ _ _ _ _ _ inv.3 (omega arith) _ d (λ e. w.if-d-stop.false (omega (arith, e, inv.1))) (omega (arith, w.if-d-least.true)) _ refl,
      )
      | then-d-limit+else-d-stop+else-d-least w ↦ rw (w.at-is, w.least-is, w.limit-is) (
        refl,
        inv.1,
        inv.2,
        trying_on _ _ _ _ _ _ _ inv.3 (omega arith) _ d (λ e. w.if-d-stop.false (omega (arith, e, inv.1))) (omega (arith, w.if-d-least.false)),
      )
      | else-d-limit w ↦
          let deep = w.if-d-limit.false in rw (w.at-is, w.least-is, w.limit-is) (
            refl,
            inv.1,
            inv.2,
            trying_on _ _ _ _ _ _ _ inv.3 (omega arith) _ d (λ e. omega (arith, e, inv.1, inv.2, deep)) (omega (arith, inv.2, deep)),
          )
    ]

pub returns : goal.returns
returns c =
    let inv = c.loop-i.invariant in
    let all = trying_all _ _ _ _ _ _ inv.3 (omega (arith, inv.3.high)) in
    record { place = all.0; count = all.1 }
