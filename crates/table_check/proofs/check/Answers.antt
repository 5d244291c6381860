-- The header and the register in order, the pages decide. Assumes nothing.
use mathlib.Core.Path.{sym, ◌∙◌, subst}
use Prim.Native.Nat.{ℕ}
use Rattle.bytes_check.specs.Scans.{SoundRecords}
use Rattle.bytes_check.proofs.Iff.{iff_trans}
use Rattle.table_check.proofs.Verdict.{sound_pages}
use Rattle.table_check.proofs.check.Goals as goal

pub returns-then-held-from : goal.returns-then-held-from
returns-then-held-from c =
    iff_trans c.pages_sound.ensures
    (sound_pages _ _ _ c.if-keys-used.false (c.header_fits.ensures.0 c.if-not-header_fits.false)
    (subst (λ (w : ℕ). SoundRecords w c.args.keys.now c.args.used.now) (c.from.ensures ∙ c.read-h.ensures.width) c.in-Some.ensures.0) _ c.read-h.ensures
    (sym (c.if-held-from.true ∙ c.from-2.ensures) ∙ c.in-Some.ensures.1))
