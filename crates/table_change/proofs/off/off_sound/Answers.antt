-- Rows 2 and 6, or off. Assumes nothing.
use native.Mathlib.Omega.{arith}
use Rattle.index_table.proofs.SoundTables.{header_long}
use Rattle.table_change.proofs.RowChoice.{wide_is, off_refused, off_accepted, off_wide}
use Rattle.table_change.proofs.Leaving.{narrow, inside, row_six, row_none, held_key}
use Rattle.table_change.proofs.off.off_sound.Goals as goal

pub width-requires : goal.width-requires
width-requires c = header_long c.requires

pub too_wide-requires : goal.too_wide-requires
too_wide-requires c = omega (arith, c.width.ensures.0, c.requires.limits.width_high)

pub returns-then-too_wide : goal.returns-then-too_wide
returns-then-too_wide c =
    let wide = wide_is _ c.width.ensures.0 c.too_wide.ensures c.if-too_wide.true in
    off_refused 2 (λ e. omega (arith, e)) (off_wide c.args.index.now c.args.keys.now c.args.used.now c.args.key wide)

pub leaf_of-leaf-requires : goal.leaf_of-leaf-requires
leaf_of-leaf-requires c =
    let wide = wide_is _ c.width.ensures.0 c.too_wide.ensures c.if-too_wide.false in
    (c.requires, narrow c.requires wide)

pub is_key-requires : goal.is_key-requires
is_key-requires c =
    let wide = wide_is _ c.width.ensures.0 c.too_wide.ensures c.if-too_wide.false in
    inside c.requires wide _ c.leaf_of-leaf.ensures

pub returns-then-not-is_key : goal.returns-then-not-is_key
returns-then-not-is_key c =
    let wide = wide_is _ c.width.ensures.0 c.too_wide.ensures c.if-too_wide.false in
    off_refused 6 (λ e. omega (arith, e)) (row_six c.requires wide _ c.leaf_of-leaf.ensures c.is_key.ensures c.if-not-is_key.true)

pub take_off-requires : goal.take_off-requires
take_off-requires c =
    let wide = wide_is _ c.width.ensures.0 c.too_wide.ensures c.if-too_wide.false in
    held_key c.requires wide _ c.leaf_of-leaf.ensures c.is_key.ensures c.if-not-is_key.false

pub returns : goal.returns
returns c =
    let wide = wide_is _ c.width.ensures.0 c.too_wide.ensures c.if-too_wide.false in
    off_accepted (row_none c.requires wide _ c.leaf_of-leaf.ensures c.is_key.ensures c.if-not-is_key.false) c.take_off.ensures
