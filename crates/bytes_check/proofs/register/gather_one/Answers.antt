-- One record more, by its byte. Assumes nothing.
use Rattle.std.proofs.Common.{arith}
use Rattle.bytes_check.proofs.Gathered.{gathered_more}
use Rattle.bytes_check.proofs.register.gather_one.Goals as goal

pub overflow_add-result : goal.overflow_add-result
overflow_add-result c =
    omega (arith, c.requires.0.bytes c.args.i c.requires.1, c.requires.2.small, c.from-byte.ensures)

pub returns : goal.returns
returns c =
    let byte = c.from-byte.ensures in
    gathered_more _ _ _ c.requires.1 _ _ (omega (arith, c.type_inv.keys c.args.i)) byte (omega (arith, c.requires.0.bytes c.args.i c.requires.1, byte)) (omega arith) (omega arith) c.requires.2
