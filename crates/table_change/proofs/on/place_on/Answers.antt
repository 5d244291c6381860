-- The key is put into the page found, or pages are cut. Assumes nothing.
use Rattle.index_table.proofs.SoundTables.{header_long}
use Rattle.table_change.proofs.RowChoice.{on_accepted}
use Rattle.table_change.proofs.Entering.{row_key}
use Rattle.table_change.proofs.Opening.{room_pre, newly_at, fitting_key, opens_accepted}
use Rattle.table_change.proofs.on.place_on.Goals as goal

pub has_room-requires : goal.has_room-requires
has_room-requires c = rw c.count.ensures (room_pre c.requires)

pub open_on-requires : goal.open_on-requires
open_on-requires c = fitting_key c.requires (rw c.count.ensures at c.has_room.ensures) c.if-has_room.true

pub returns-then-has_room : goal.returns-then-has_room
returns-then-has_room c = on_accepted (opens_accepted (fitting_key c.requires (rw c.count.ensures at c.has_room.ensures) c.if-has_room.true)) c.open_on.ensures

pub width-w-requires : goal.width-w-requires
width-w-requires c = header_long c.requires.new_key.free_record.sound

pub row_of-row-requires : goal.row_of-row-requires
row_of-row-requires c = newly_at c.requires c.width-w.ensures.0

pub cut_on-requires : goal.cut_on-requires
cut_on-requires c = row_key c.requires c.width-w.ensures.0 c.row_of-row.ensures

pub returns : goal.returns
returns c = c.cut_on.ensures
