-- One entry: what is refused, and what is carried on. Assumes nothing.
use Rattle.std.proofs.Common.{sym, ◌∙◌}
use Rattle.leaf_check.proofs.EntryTests.{entry_closed, entry_refused, entry_beyond, entry_last, entry_next}
use Rattle.leaf_check.proofs.entries.scan_entry.Goals as goal
use Rattle.leaf_check.proofs.entries.scan_entry.Goals.{then-s-via-then-s, then-s-via-else-s+then-not-entry_fits, then-s-via-else-s+else-not-entry_fits+then-too_many}

pub returns-then-s : goal.returns-then-s
returns-then-s c =
    elim c.then-s.branch [
      | then-s-via-then-s w ↦ entry_closed _ _ _ _ _ _ c.args.p w.if-s.true
      | then-s-via-else-s+then-not-entry_fits w ↦ entry_refused _ _ _ _ _ _ c.args.p w.if-s.false (sym w.entry_fits.ensures ∙ w.if-not-entry_fits.true)
      | then-s-via-else-s+else-not-entry_fits+then-too_many w ↦ entry_beyond _ _ _ _ _ _ c.args.p (sym w.too_many.ensures ∙ w.if-too_many.true)
    ]

pub returns-then-d-eq0 : goal.returns-then-d-eq0
returns-then-d-eq0 c = entry_last _ _ _ _ _ _ c.args.p c.if-s.false (sym c.entry_fits.ensures ∙ c.if-not-entry_fits.false) (sym c.too_many.ensures ∙ c.if-too_many.false) c.requires.2 _ c.live_behind-live.ensures c.if-d-eq0.true

pub returns : goal.returns
returns c = entry_next _ _ _ _ _ _ c.args.p c.if-s.false (sym c.entry_fits.ensures ∙ c.if-not-entry_fits.false) (sym c.too_many.ensures ∙ c.if-too_many.false) c.requires.2 _ c.live_behind-live.ensures c.if-d-eq0.false _ c.next_discriminator-disc.ensures.0 c.next_discriminator-disc.ensures.1
