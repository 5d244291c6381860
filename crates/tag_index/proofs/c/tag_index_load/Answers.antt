-- The laws of a load lead from turn to turn. Assumes nothing.
use Rattle.std.proofs.Common.{◌≡◌, refl, ◌<◌, length, add-one, arith}
use Rattle.table_find.specs.Answers.{plain}
use Rattle.tag_index.specs.LoadTurns.{turns_of}
use Rattle.tag_index.proofs.LoadLaws.{starts, goes_on, ends}
use Rattle.tag_index.proofs.c.tag_index_load.Goals as goal

pub loop-i-init : goal.loop-i-init
loop-i-init c =
    rw c.from-answer.ensures (record { declines = c.load_row.ensures; so_far = starts _ _ _ _ c.load_row.ensures })

pub loop-i-preserved : goal.loop-i-preserved
loop-i-preserved c =
    let so_far = c.loop-i.invariant in
    let below : c.loop-i.i < turns_of c.from-answer.result.number (length c.args.movements.now) = omega (arith, c.turns-n.ensures) in
    record {
      declines = so_far.declines;
      so_far = rw add-one (goes_on _ _ _ _ so_far.declines c.loop-i.i below so_far.so_far c.move_one.ensures);
    }

pub returns : goal.returns
returns c =
    let so_far = c.loop-i.invariant in
    let all : c.loop-i.i ≡ turns_of c.from-answer.result.number (length c.args.movements.now) = omega (arith, c.turns-n.ensures) in
    let answer : c.from-answer.result ≡ plain c.from-answer.result.number = rw c.from-answer.ensures refl in
    ends _ _ _ _ so_far.declines answer (rw all at so_far.so_far)
