-- The page's number, level and count. Assumes nothing.
use Rattle.std.proofs.Common.{◌≡◌, ◌≤◌, true, ◌↔◌, sym, ◌∙◌, true≢false, rules, le-ltb, eqb-true}
use Rattle.bytes_check.proofs.Iff.{iff_trans}
use Rattle.table_check.proofs.MetPages.{sized_few}
use Rattle.table_check.proofs.pages.sized.Goals as goal
use Rattle.table_check.proofs.pages.sized.Goals.{then-page-h, else-page-h}

pub returns-then-level : goal.returns-then-level
returns-then-level c =
    elim c.if-page-h.branch [
      | then-page-h w ↦
          let few : (c.contains.result ≡ true) ↔ ((1 ≤ c.count.result) × (c.count.result ≤ c.args.h.entries)) = search rules in
          iff_trans few (sized_few c.args.h _ _ _ _ w.if-page-h.true (sym w.level.ensures ∙ eqb-true _ _ (sym w.value-is ∙ c.if-level.true)) c.count.ensures)
      | else-page-h w ↦ absurd (true≢false (sym c.if-level.true ∙ w.value-is ∙ le-ltb _ _ w.if-page-h.false))
    ]
