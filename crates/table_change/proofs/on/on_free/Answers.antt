-- Row 5, or the key with its entries is put in. Assumes nothing.
use native.Mathlib.Omega.{arith}
use Rattle.index_table.proofs.SoundTables.{header_long}
use Rattle.table_change.proofs.RowChoice.{on_refused}
use Rattle.table_change.proofs.Entering.{leaf_inside, row_five, entries_pre, found_key}
use Rattle.table_change.proofs.on.on_free.Goals as goal

pub leaf_of-leaf-requires : goal.leaf_of-leaf-requires
leaf_of-leaf-requires c =
    (c.requires.sound, c.requires.narrow)

pub is_key-requires : goal.is_key-requires
is_key-requires c = leaf_inside c.requires _ c.leaf_of-leaf.ensures

pub returns-then-is_key : goal.returns-then-is_key
returns-then-is_key c = on_refused 5 (λ e. omega (arith, e)) (row_five c.requires _ c.leaf_of-leaf.ensures c.is_key.ensures c.if-is_key.true)

pub width-w-requires : goal.width-w-requires
width-w-requires c = header_long c.requires.sound

pub new_entries-news-requires : goal.new_entries-news-requires
new_entries-news-requires c = entries_pre c.requires _ c.leaf_of-leaf.ensures c.is_key.ensures c.if-is_key.false c.width-w.ensures.0

pub place_on-requires : goal.place_on-requires
place_on-requires c = found_key c.requires _ c.leaf_of-leaf.ensures c.is_key.ensures c.if-is_key.false c.width-w.ensures.0 c.new_entries-news.ensures

pub returns : goal.returns
returns c = c.place_on.ensures
