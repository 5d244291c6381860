-- The line is cut at its tabs, field by field. Assumes nothing.
use mathlib.Core.Path.{sym, ◌∙◌}
use Rattle.std.proofs.Common.{rules, tests}
use Rattle.book_lines.proofs.FieldLaws.{line_fields}
use Rattle.book_lines.proofs.LineLaws.{says_long, says_one, says_two, says_three, says_more}
use Rattle.book_lines.proofs.read_line.Goals as goal

pub returns-then-line-gt80 : goal.returns-then-line-gt80
returns-then-line-gt80 c = sym (says_long _ c.if-line-gt80.true)

pub returns-in_default : goal.returns-in_default
returns-in_default c =
    let cut = c.split-fields.ensures in
    let known = c.in_default in
    sym
    (says_one c.args.line.now c.if-line-gt80.false c.split-fields.result
    (line_fields _ c.args.line.now cut.rest cut.done cut.closure (λ x r q k. search (rules, tests))) known.field-0-0 c.next.new.self known.ensures.steps
    c.next-2.new.self known.ensures'.steps)

pub returns-in-None-default : goal.returns-in-None-default
returns-in-None-default c =
    let cut = c.split-fields.ensures in
    let known = c.in-Some-Some in
    c.two_fields.ensures
    ∙ sym
    (says_two c.args.line.now c.if-line-gt80.false c.split-fields.result
    (line_fields _ c.args.line.now cut.rest cut.done cut.closure (λ x r q k. search (rules, tests))) known.verb c.next.new.self
    known.ensures.steps known.second c.next-2.new.self known.ensures'.steps c.next-3.new.self c.in-None-default.ensures.steps)

pub returns-in-Some-None : goal.returns-in-Some-None
returns-in-Some-None c =
    let cut = c.split-fields.ensures in
    let known = c.in-Some-Some in
    let more = c.in-Some-None in
    c.three_fields.ensures
    ∙ sym
    (says_three c.args.line.now c.if-line-gt80.false c.split-fields.result
    (line_fields _ c.args.line.now cut.rest cut.done cut.closure (λ x r q k. search (rules, tests))) known.verb c.next.new.self
    known.ensures.steps known.second c.next-2.new.self known.ensures'.steps more.third c.next-3.new.self more.ensures.steps
    c.next-4.new.self more.ensures'.steps)

pub returns-in_default-2 : goal.returns-in_default-2
returns-in_default-2 c =
    let cut = c.split-fields.ensures in
    let known = c.in-Some-Some in
    let more = c.in_default-2 in
    sym
    (says_more c.args.line.now c.if-line-gt80.false c.split-fields.result
    (line_fields _ c.args.line.now cut.rest cut.done cut.closure (λ x r q k. search (rules, tests))) known.verb c.next.new.self
    known.ensures.steps known.second c.next-2.new.self known.ensures'.steps more.field-0-0 c.next-3.new.self more.ensures.steps
    more.field-0-1 c.next-4.new.self more.ensures'.steps)
