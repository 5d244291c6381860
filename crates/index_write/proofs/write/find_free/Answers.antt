-- The loop's invariant: all pages before page i are in use. Assumes nothing.
use Rattle.std.proofs.Common.{sym, ◌∙◌, arith, rules}
use Rattle.index_table.proofs.PageBytes.{within_table}
use Rattle.index_table.proofs.PageRows.{length_refs}
use Rattle.index_write.proofs.Writing.{all_used_more, all_used_end}
use Rattle.index_write.proofs.write.find_free.Goals as goal

pub count-requires : goal.count-requires
count-requires c = within_table _ _ _ c.args.index.now c.requires.0 (search rules)

pub returns-then-count-eq0 : goal.returns-then-count-eq0
returns-then-count-eq0 c = (search rules, length_refs _ _ ∙ sym c.count.ensures ∙ c.if-count-eq0.true)

pub loop-i-preserved : goal.loop-i-preserved
loop-i-preserved c = (omega arith, all_used_more _ _ _ c.loop-i.invariant.1 (λ z. c.if-count-eq0.false (c.count.ensures ∙ z)))

pub returns : goal.returns
returns c = absurd (all_used_end _ _ _ _ c.loop-i.invariant.0 (search rules) c.loop-i.invariant.1 c.requires.1)
