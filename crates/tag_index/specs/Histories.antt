-- Histories (01, "Histories"): the calls on one index table and one register, and the ordered map that they are held to. Assumes nothing.
use Rattle.std.specs.Prelude.{Bool, true, false, cond, List, [], ◌∷◌, ◌++◌, ℕ, leb, eqb, length, drop}
use Rattle.std.proofs.Math.Option.{Option, none, some}
use Rattle.leaf_list.specs.Herd.{Herd, lookup, add, remove}
use Rattle.table_find.specs.declared.answer.Answer.{Answer}
use Rattle.table_find.specs.Answers.{plain, found}
use Rattle.table_list.specs.Ranges.{records_between, listed, list_slice}
use Rattle.table_format.specs.Format.{format_fits}
use Rattle.table_change.specs.Changes.{too_wide, is_some, is_held, row_eight, row_seven, on_row, off_row}
use Rattle.tag_index.specs.declared.load.Movement.{Movement}
use Rattle.tag_index.specs.Reading.{first_row, behind, kept_behind}
use Rattle.tag_index.specs.Loads.{load_row}
use Rattle.tag_index.specs.Tables.{Tables}

-- A call and its arguments. "Each list call is lent a slice of its own, of any length and content", and so is each load for its answers.
pub data Call : Type 0 where
  format : ℕ → ℕ → ℕ → Call
  on : ℕ → ℕ → Call
  off : ℕ → Call
  find : ℕ → Call
  list : ℕ → ℕ → List ℕ → Call
  check : Call
  load : List Movement → List ℕ → Call

-- What a call gives back: an answer; an answer and the slice, of a list or a load; yes or no.
pub data Reply : Type 0 where
  answered : Answer → Reply
  sliced : Answer → List ℕ → Reply
  said : Bool → Reply

-- "Its state is W and the held keys, each with its record"
pub record OrderedMap : Type 0 where
  pub width : ℕ
  pub herd : Herd

-- "The ordered map is fed each call's arguments, the lengths of the tables"
pub record Sizes : Type 0 where
  pub table : ℕ
  pub keys : ℕ
  pub used : ℕ

-- The lengths of tables.
abbrev pub sizes_of : Tables → Sizes
sizes_of t = record { table = length t.index; keys = length t.keys; used = length t.used }

-- "and, of an on that rows 2 to 5 let pass, whether row 8 and whether row 7 applies to the tables it gets. It sees no answer and no page."
-- (Rows 2 to 5 come first in on_row: of an on that they decline, nothing here is looked at.)
pub record Late : Type 0 where
  pub eight : Bool
  pub seven : Bool

abbrev pub late_of : Tables → ℕ → ℕ → Late
late_of t key r = record { eight = row_eight t.index t.keys key r; seven = row_seven t.index t.keys key r }

-- The same of each movement of a load, on the tables that it gets; between has the tables that each left. (Of an off, and of a load that is refused,
-- nothing here is looked at.)
abbrev pub lates_of : Tables → List Movement → List Tables → List Late
lates_of t [] between = []
lates_of t (x ∷ xs) [] = []
lates_of t (x ∷ xs) (u ∷ between) = late_of t x.key x.«record» ∷ lates_of u xs between

-- What the map is fed of a call: of an on, of each movement of a load,
pub record Feed : Type 0 where
  pub late : Late
  pub lates : List Late

-- and of any other call, nothing.
abbrev pub none_late : Late
none_late = record { eight = false; seven = false }

abbrev pub nothing_fed : Feed
nothing_fed = record { late = none_late; lates = [] }

-- What it is fed of an on, and of a load.
abbrev pub on_fed : Tables → ℕ → ℕ → Feed
on_fed t key r = record { late = late_of t key r; lates = [] }

abbrev pub load_fed : Tables → List Movement → List Tables → Feed
load_fed t xs between = record { late = none_late; lates = lates_of t xs between }

-- ---- the rows that decline a call, by the map

-- "9 by its row": whether it lets a format pass.
abbrev pub formats : Sizes → ℕ → ℕ → ℕ → Bool
formats z w e p = format_fits w e p z.table z.keys z.used

-- The key that has a record: "a record is in use if a held key has it".
abbrev pub key_with : ℕ → Herd → Option ℕ
key_with r [] = none
key_with r (x ∷ s) = cond (eqb r x.1) (some x.0) (key_with r s)

-- "2, 3, 4 or 5, the first whose row applies"; "Else 8 if row 8 applies, else 7 if row 7 does."
abbrev pub map_on_row : Sizes → Late → OrderedMap → ℕ → ℕ → ℕ
map_on_row z l m key r = on_row (too_wide m.width key) (leb z.used r) (is_some (key_with r m.herd)) (is_held key m.herd) l.eight l.seven

-- "2; else 6 if the key is not held"
abbrev pub map_off_row : OrderedMap → ℕ → ℕ
map_off_row m key = off_row (too_wide m.width key) (is_held key m.herd)

-- The map with another herd, where no row applies. "A refused step changes nothing"
abbrev pub changed : ℕ → Herd → OrderedMap → OrderedMap
changed row herd m = cond (eqb row 0) (record { width = m.width; herd = herd }) m

-- "Else 0, and the key is held with that record."
abbrev pub map_on : Sizes → Late → OrderedMap → ℕ → ℕ → OrderedMap
map_on z l m key r = changed (map_on_row z l m key r) (add key r m.herd) m

-- "else 0, and it is held no more"
abbrev pub map_off : OrderedMap → ℕ → OrderedMap
map_off m key = changed (map_off_row m key) (remove key m.herd) m

-- ---- the movements of a load

-- What the map answers to a movement, by on: 0 is an off.
abbrev pub move_row : Sizes → Late → OrderedMap → Movement → ℕ
move_row z l m x = cond (eqb x.on 0) (map_off_row m x.key) (map_on_row z l m x.key x.«record»)

-- The map behind a movement.
abbrev pub map_move : Sizes → Late → OrderedMap → Movement → OrderedMap
map_move z l m x = cond (eqb x.on 0) (map_off m x.key) (map_on z l m x.key x.«record»)

-- What it answers to each of them, "A refused movement is passed over and the rest go on",
abbrev pub move_rows : Sizes → OrderedMap → List Movement → List Late → List ℕ
move_rows z m [] ls = []
move_rows z m (x ∷ xs) [] = []
move_rows z m (x ∷ xs) (l ∷ ls) = move_row z l m x ∷ move_rows z (map_move z l m x) xs ls

-- and the map behind all of them.
abbrev pub map_moves : Sizes → OrderedMap → List Movement → List Late → OrderedMap
map_moves z m [] ls = m
map_moves z m (x ∷ xs) [] = m
map_moves z m (x ∷ xs) (l ∷ ls) = map_moves z (map_move z l m x) xs ls

-- "12, the answer list is shorter than the list of movements"
abbrev pub map_load_row : List Movement → List ℕ → ℕ
map_load_row xs answers = load_row true (length xs) (length answers)

-- ---- one call

-- What the map answers to a call. "1 is never answered"
abbrev pub map_reply : Sizes → Feed → OrderedMap → Call → Reply
map_reply z f m (format w e p) = answered (plain (cond (formats z w e p) 0 9))
map_reply z f m (on key r) = answered (plain (map_on_row z f.late m key r))
map_reply z f m (off key) = answered (plain (map_off_row m key))
map_reply z f m (find key) = answered (behind (first_row true m.width key key) (found (lookup key m.herd)))
map_reply z f m (list a b out) = sliced
    (behind (first_row true m.width a b) (listed (records_between a b m.herd) (length out)))
    (kept_behind (first_row true m.width a b) out (list_slice (records_between a b m.herd) out))
map_reply z f m check = said true
map_reply z f m (load xs answers) =
    sliced (plain (map_load_row xs answers)) (kept_behind (map_load_row xs answers) answers (move_rows z m xs f.lates ++ drop (length xs) answers))

-- The map of keys of w bits: "at first none is held".
abbrev pub empty_map : ℕ → OrderedMap
empty_map w = record { width = w; herd = [] }

-- The map behind a call.
abbrev pub map_after : Sizes → Feed → OrderedMap → Call → OrderedMap
map_after z f m (format w e p) = cond (formats z w e p) (empty_map w) m
map_after z f m (on key r) = map_on z f.late m key r
map_after z f m (off key) = map_off m key
map_after z f m (find key) = m
map_after z f m (list a b out) = m
map_after z f m check = m
map_after z f m (load xs answers) = cond (eqb (map_load_row xs answers) 0) (map_moves z m xs f.lates) m

-- ---- all calls of a history, one after the other, with what the map is fed of each

-- What the map answers to each.
abbrev pub map_replies : Sizes → OrderedMap → List Call → List Feed → List Reply
map_replies z m [] fs = []
map_replies z m (c ∷ cs) [] = []
map_replies z m (c ∷ cs) (f ∷ fs) = map_reply z f m c ∷ map_replies z (map_after z f m c) cs fs

-- The map behind all of them.
abbrev pub map_behind : Sizes → OrderedMap → List Call → List Feed → OrderedMap
map_behind z m [] fs = m
map_behind z m (c ∷ cs) [] = m
map_behind z m (c ∷ cs) (f ∷ fs) = map_behind z (map_after z f m c) cs fs
