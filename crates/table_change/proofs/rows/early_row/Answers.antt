-- Rows 2, 3 and 4, in this order. Assumes nothing.
use mathlib.Core.Path.{refl}
use borrow.Author.Tests.{le-leb, lt-leb, eq-eqb, ne_eqb}
use native.Mathlib.Omega.{arith}
use lib.ListN.{length, get_or}
use Rattle.table_change.proofs.RowChoice.{wide_is}
use Rattle.table_change.proofs.rows.early_row.Goals as goal

-- src/rows.rt:28:9
pub returns-then-too_wide : goal.returns-then-too_wide
returns-then-too_wide c =
    rw (wide_is _ c.width.ensures.0 c.too_wide.ensures c.if-too_wide.true) refl

-- src/rows.rt:32:9
pub returns-then-used-at : goal.returns-then-used-at
returns-then-used-at c =
    let wide = wide_is _ c.width.ensures.0 c.too_wide.ensures c.if-too_wide.false in
    rw (wide, le-leb (length c.args.used.now) c.args.«record» (omega arith)) refl

-- src/rows.rt:35:9
pub returns-then-used-at-eq1 : goal.returns-then-used-at-eq1
returns-then-used-at-eq1 c =
    let wide = wide_is _ c.width.ensures.0 c.too_wide.ensures c.if-too_wide.false in
    rw (wide, lt-leb (length c.args.used.now) c.args.«record» (omega arith), eq-eqb (get_or c.args.used.now c.args.«record» 0) 1 (omega arith)) refl

-- src/rows.rt:23:1
pub returns : goal.returns
returns c =
    let wide = wide_is _ c.width.ensures.0 c.too_wide.ensures c.if-too_wide.false in
    rw (wide, lt-leb (length c.args.used.now) c.args.«record» (omega arith), ne_eqb (get_or c.args.used.now c.args.«record» 0) 1 (λ e. omega arith)) refl
