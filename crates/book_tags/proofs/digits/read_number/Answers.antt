-- The loop takes digits into the value until a byte that is none, or the end. Assumes nothing.
use mathlib.Core.Path.{sym, ◌∙◌}
use native.Mathlib.Omega.{arith}
use native.Mathlib.Numerals.{add-one}
use Rattle.book_tags.proofs.NumberLaws.{number_none, number_more, number_end, digit_fits, digit_grows}
use Rattle.book_tags.proofs.digits.read_number.Goals as goal

pub returns-in_err-next : goal.returns-in_err-next
returns-in_err-next c =
    let at = c.loop-byte in
    c.from_residual.ensures ∙ sym (number_none _ at.value c.args.digits.now at.byte-index c.in_err-next.ensures (omega arith) (omega arith))
    ∙ at.invariant.1

pub returns-then-next-base : goal.returns-then-next-base
returns-then-next-base c =
    let at = c.loop-byte in
    sym (number_none _ at.value c.args.digits.now at.byte-index c.in_ok-next.ensures (omega arith) c.if-next-base.true) ∙ at.invariant.1

pub overflow_mul-value : goal.overflow_mul-value
overflow_mul-value c =
    let at = c.loop-byte in
    omega (arith, digit_fits c.args.base at.value c.in_ok-next.next at.byte-index (omega arith) (omega arith) at.invariant.0 (omega arith))

pub overflow_add-value : goal.overflow_add-value
overflow_add-value c =
    let at = c.loop-byte in
    omega (arith, digit_fits c.args.base at.value c.in_ok-next.next at.byte-index (omega arith) (omega arith) at.invariant.0 (omega arith))

pub loop-byte-preserved : goal.loop-byte-preserved
loop-byte-preserved c =
    let at = c.loop-byte in (
      rw (add-one at.byte-index) (digit_grows c.args.base at.value c.in_ok-next.next at.byte-index (omega arith) at.invariant.0 (omega arith)),
      sym (number_more c.args.base at.value c.args.digits.now at.byte-index c.in_ok-next.ensures (omega arith) (omega arith)) ∙ at.invariant.1,
    )

pub returns : goal.returns
returns c =
    let at = c.loop-byte in
    sym (number_end c.args.base at.value c.args.digits.now at.byte-index (omega arith)) ∙ at.invariant.1
