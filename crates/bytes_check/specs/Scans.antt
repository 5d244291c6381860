-- What the plain passes over bytes and records answer. Assumes nothing.
use Rattle.std.specs.Prelude.{◌≡◌, ℕ, ◌<◌, ◌≤◌, List, length, slice_index, Option, MatchOption}
use Rattle.leaf_list.specs.Register.{count_in_use}
use Rattle.index_table.specs.Bytes.{AllZero}
use Rattle.index_table.specs.Layout.{layout_of, page_start, page_bytes}
use Rattle.index_table.specs.Header.{width_of, entries_of, pages_of, spare_of}
use Rattle.index_table.specs.Pages.{Pages, pages_at, in_use}
use Rattle.index_table.specs.Soundness.{Limits, SoundRecord, Cleared}
use Rattle.index_table.specs.declared.header.Index.{Index}

-- The bytes from one place up to another are all zero.
abbrev pub ZeroBetween : ℕ → ℕ → List ℕ → Type 0
ZeroBetween from to bytes = (k : ℕ) → from ≤ k → k < to → slice_index bytes k ≡ 0

-- The first n bytes are 0 or 1.
abbrev pub SmallBytes : ℕ → List ℕ → Type 0
SmallBytes n bytes = (k : ℕ) → k < n → slice_index bytes k ≤ 1

-- Every record is sound by itself.
abbrev pub SoundRecords : ℕ → List ℕ → List ℕ → Type 0
SoundRecords w keys used = (r : ℕ) → r < length used → SoundRecord w (slice_index keys r) (slice_index used r)

-- One pass over the register: how many records are in use if every record is sound, and else none.
abbrev pub Tallied : ℕ → List ℕ → List ℕ → Option ℕ → Type 0
Tallied w keys used t = MatchOption t (SoundRecords w keys used → ⊥) (λ held. SoundRecords w keys used × (held ≡ count_in_use used))

-- The pages of a table whose header says h.
abbrev pub rows_of : Index → List ℕ → Pages
rows_of h index = pages_at (layout_of h.entries) index

-- A page is in use exactly if it was met, and "Unused entries and free pages are all zero".
pub record PageCleared (h : Index) (index : List ℕ) (page mark : ℕ) : Type 0 where
  pub met : mark ≡ in_use (rows_of h index page)
  pub zero : Cleared (layout_of h.entries) (page_bytes (layout_of h.entries) index page)

-- The header is in order, for a register of so many records, and the table as long as it says.
pub record HeaderFits (index : List ℕ) (records : ℕ) : Type 0 where
  pub limits : Limits (width_of index) (entries_of index) (pages_of index) records
  pub table : length index ≡ page_start (layout_of (entries_of index)) (pages_of index)
  pub spare : AllZero (spare_of index)
