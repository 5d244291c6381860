-- One part is the root; else the row stands one level up, with fewer parts. Assumes nothing.
use Rattle.std.proofs.Common.{◌≡◌, ℕ, ap, get_or, arith}
use native.Mathlib.Numerals.{add-one}
use Rattle.page_tree.proofs.RowLaws.{length_row}
use Rattle.table_insert.proofs.RootSteps.{root_fits, root_alone, root_free, root_level_lem, root_place, up_fewer, up_again, up_done}
use borrow.Author.Rules.{rules}
use Rattle.table_insert.proofs.+grow.Goals as goal

pub from_pointer-requires : goal.from_pointer-requires
from_pointer-requires t c =
    omega (arith, root_fits c.requires (search rules, search rules) c.if-parts-le1.true)

pub returns-then-parts-le1 : goal.returns-then-parts-le1
returns-then-parts-le1 t c =
    let page : c.from_pointer.result ≡ record { 0 = get_or c.args.parts.pointers 0 0 } = ap (λ (p : ℕ). record { 0 = p }) c.from_pointer.ensures in
    rw page (root_alone c.requires (search rules, search rules) c.if-parts-le1.true)

pub find_free-own-requires : goal.find_free-own-requires
find_free-own-requires t c =
    root_free c.requires c.if-parts-le1.false

pub overflow_add-level : goal.overflow_add-level
overflow_add-level t c =
    omega (arith, root_level_lem c.requires c.if-parts-le1.false)

pub place_parts-row-requires : goal.place_parts-row-requires
place_parts-row-requires t c =
    root_place c.requires c.if-parts-le1.false _ c.find_free-own.ensures.0

pub overflow_add-level-2 : goal.overflow_add-level-2
overflow_add-level-2 t c =
    omega (arith, root_level_lem c.requires c.if-parts-le1.false)

pub grow-requires : goal.grow-requires
grow-requires t c =
    (omega (arith, c.decreases, up_fewer c.requires c.if-parts-le1.false c.find_free-own.ensures.1 (omega (arith, c.ranges)) _ (add-one c.args.level) c.place_parts-row.ensures (length_row c.place_parts-row.result (search rules, search rules) (omega (arith, c.place_parts-row.ensures.few)))), up_again c.requires c.if-parts-le1.false c.find_free-own.ensures.1 (omega (arith, c.ranges)) _ (add-one c.args.level) c.place_parts-row.ensures (length_row c.place_parts-row.result (search rules, search rules) (omega (arith, c.place_parts-row.ensures.few))))

pub returns : goal.returns
returns t c =
    up_done c.requires c.if-parts-le1.false c.find_free-own.ensures.1 (omega (arith, c.ranges)) _ (add-one c.args.level) c.place_parts-row.ensures (length_row c.place_parts-row.result (search rules, search rules) (omega (arith, c.place_parts-row.ensures.few))) c.grow.ensures
