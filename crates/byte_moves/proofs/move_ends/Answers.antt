-- The two ends, read before either is written, meet or share bytes. Assumes nothing.
use Rattle.byte_moves.proofs.MovedBytes.{ends_moved}
use Rattle.byte_moves.proofs.move_ends.Goals as goal

pub returns : goal.returns
returns g c =
    ends_moved c.args.index.now c.args.to c.args.from c.args.n c.requires.0 _ c.requires.2 c.requires.3 c.load-first_bytes.ensures c.load-last_bytes.ensures c.store.ensures c.store-2.ensures
