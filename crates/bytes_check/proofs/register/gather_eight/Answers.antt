-- Eight records in use by the bits of their keys, others one by one. Assumes nothing.
use Rattle.bytes_check.proofs.Gathered.{gathered_eight}
use Rattle.bytes_check.proofs.register.gather_eight.Goals as goal

pub returns : goal.returns
returns c =
    gathered_eight _ _ _ _ _ c.requires.1 c.four_keys.ensures c.four_keys-2.ensures (c.all_in_use.ensures.0 c.if-not-all_in_use.false) c.requires.2
