-- The ordered map on 01's small examples of the rows (W 8, 4 records), and on a load. Assumes nothing.
use mathlib.Core.Path.{◌≡◌, refl}
use mathlib.Core.Bool.{Bool, true, false}
use mathlib.Core.List.{List, [], ◌∷◌}
use Prim.Native.Nat.{ℕ}
use Rattle.table_find.specs.Answers.{plain, with_record, with_count}
use Rattle.table_format.specs.Format.{format_fits}
use Rattle.tag_index.specs.declared.load.Movement.{Movement}
use Rattle.tag_index.specs.Histories.{Call, format, on, off, find, list, check, load, Reply, answered, sliced, said, Sizes, Feed, none_late, nothing_fed, empty_map, map_replies, map_behind}

-- One page of two entries, four records.
abbrev pub sizes : Sizes
sizes = record { table = 24; keys = 4; used = 4 }

-- Calls, what the map is fed of each, and what it answers.
abbrev pub calls : List Call
calls =
    format 0 2 1 ∷ on 256 0 ∷ on 7 4 ∷ find 7 ∷ on 7 0 ∷ on 9 0 ∷ on 7 1 ∷ off 9 ∷ on 9 1 ∷ on 9 1 ∷ on 9 1 ∷ on 9 1 ∷ find 9 ∷ list 0 255 (5 ∷ 5 ∷ 5 ∷ []) ∷ list 0 255 (5 ∷ [])
    ∷ list 9 7 (5 ∷ [])
    ∷ list 0 256 (5 ∷ [])
    ∷ off 7 ∷ find 7 ∷ find 256 ∷ check ∷ format 64 2 1 ∷ find 9 ∷ []

abbrev pub feeds : List Feed
feeds =
    nothing_fed ∷ both ∷ both ∷ nothing_fed ∷ nothing_fed ∷ both ∷ both ∷ nothing_fed ∷ both ∷ eight ∷ seven ∷ nothing_fed ∷ nothing_fed ∷ nothing_fed ∷ nothing_fed
    ∷ nothing_fed
    ∷ nothing_fed
    ∷ nothing_fed ∷ nothing_fed ∷ nothing_fed ∷ nothing_fed ∷ nothing_fed ∷ nothing_fed ∷ []
  where
    fed : Bool → Bool → Feed
    fed eight seven = record { late = record { eight = eight; seven = seven }; lates = [] }

    both : Feed
    both = fed true true

    eight : Feed
    eight = fed true false

    seven : Feed
    seven = fed false true

abbrev pub replies : List Reply
replies =
    answered (plain 9) ∷ answered (plain 2) ∷ answered (plain 3) ∷ answered (plain 6) ∷ answered (plain 0) ∷ answered (plain 4) ∷ answered (plain 5) ∷ answered (plain 6)
    ∷ answered (plain 8)
    ∷ answered (plain 8)
    ∷ answered (plain 7)
    ∷ answered (plain 0)
    ∷ answered (with_record 1)
    ∷ sliced (with_count 2 false) (0 ∷ 1 ∷ 5 ∷ [])
    ∷ sliced (with_count 1 true) (0 ∷ [])
    ∷ sliced (with_count 0 false) (5 ∷ [])
    ∷ sliced (plain 2) (5 ∷ [])
    ∷ answered (plain 0)
    ∷ answered (plain 6)
    ∷ answered (plain 2)
    ∷ said true
    ∷ answered (plain 0)
    ∷ answered (plain 6)
    ∷ []

-- Each row's example, in order; behind the last format no key is held.
pub map_examples : (map_replies sizes (empty_map 8) calls feeds ≡ replies) × (map_behind sizes (empty_map 8) calls feeds ≡ empty_map 64)
unfolding format_fits
map_examples = (refl, refl)

-- ---- a load: off 7, which is not held, and is passed over; on 7 and 9 with one record, and 9 with another, where row 8 applies and then none; off 7

abbrev pub movements : List Movement
movements = moving 7 0 0 ∷ moving 7 0 1 ∷ moving 9 0 2 ∷ moving 9 1 1 ∷ moving 9 1 1 ∷ moving 7 3 0 ∷ []
  where
    moving : ℕ → ℕ → ℕ → Movement
    moving key r verb = record { key = key; «record» = r; on = verb }

-- What a load is fed: rows 8 and 7 apply to its fourth movement.
abbrev fed_load : Feed
fed_load = record { late = none_late; lates = none_late ∷ none_late ∷ none_late ∷ record { eight = true; seven = true } ∷ none_late ∷ none_late ∷ [] }

abbrev fed_loads : List Feed
fed_loads = fed_load ∷ fed_load ∷ fed_load ∷ []

abbrev pub loads : List Call
loads = load movements (1 ∷ 1 ∷ 1 ∷ 1 ∷ 1 ∷ []) ∷ load movements (1 ∷ 1 ∷ 1 ∷ 1 ∷ 1 ∷ 1 ∷ 1 ∷ []) ∷ load [] [] ∷ []

abbrev pub load_replies : List Reply
load_replies = sliced (plain 12) (1 ∷ 1 ∷ 1 ∷ 1 ∷ 1 ∷ []) ∷ sliced (plain 0) (6 ∷ 0 ∷ 4 ∷ 8 ∷ 0 ∷ 0 ∷ 1 ∷ []) ∷ sliced (plain 0) [] ∷ []

-- It is refused by 12 where there are five answers for its six movements; the seventh answer is kept. Behind it 9 is held with record 1.
pub load_example : (map_replies sizes (empty_map 8) loads fed_loads ≡ load_replies) × (map_behind sizes (empty_map 8) loads fed_loads ≡ record { width = 8; herd = (9, 1) ∷ [] })
load_example = (refl, refl)
