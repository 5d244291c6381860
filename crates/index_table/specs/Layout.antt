-- Where pages stand in the index table's bytes, what is read from one, and what is written (01, "Pages"). Assumes nothing.
use Rattle.std.specs.Prelude.{List, [], ◌∷◌, ◌++◌, ℕ, suc, ◌+◌, ◌*◌, ◌-◌, ◌^◌, ◌≤◌, ◌<◌, length, get_or, take, drop, replicate}
use Rattle.page_tree.specs.Rows.{All}
use Rattle.byte_moves.specs.Over.{over}
use Rattle.index_table.specs.Bytes.{number, bytes_of, table}

-- The sizes that a table's format fixes, in bytes: before the pages; of a page before its entries; of a pointer. Then the entries a page may hold.
pub record Layout : Type 0 where
  pub front : ℕ
  pub head : ℕ
  pub pointer : ℕ
  pub entries : ℕ

-- "a 16-byte header, then P pages of 2 + 3E bytes"; "entries of depth byte and two pointer bytes"
abbrev pub layout_of : ℕ → Layout
layout_of E = record { front = 16; head = 2; pointer = 2; entries = E }

abbrev pub entry_size : Layout → ℕ
entry_size L = suc L.pointer

abbrev pub page_size : Layout → ℕ
page_size L = L.head + entry_size L * L.entries

-- "Pages and records are numbered from 0."
abbrev pub page_start : Layout → ℕ → ℕ
page_start L p = L.front + p * page_size L

-- Page p is within the bytes.
abbrev pub Within : Layout → List ℕ → ℕ → Type 0
Within L b p = page_start L p + page_size L ≤ length b

-- The bytes of page p.
unfoldable pub page_bytes : Layout → List ℕ → ℕ → List ℕ
page_bytes L b p = take (page_size L) (drop (page_start L p) b)

-- "Page: level, count, then entries"
abbrev pub level_of : List ℕ → ℕ
level_of page = get_or page 0 0

abbrev pub count_of : List ℕ → ℕ
count_of page = get_or page 1 0

-- An entry as it is stored: its depth and its pointer.
abbrev pub Ref : Type 0
Ref = ℕ × ℕ

-- "NIL is 65,535": all ones in the pointer's bytes.
abbrev pub nil_pointer : Layout → ℕ
nil_pointer L = 256 ^ L.pointer - 1

-- The entry whose bytes stand first.
unfoldable pub first_ref : ℕ → List ℕ → Ref
first_ref pointer bytes = (get_or bytes 0 0, number (take pointer (drop 1 bytes)))

unfoldable pub ref_at : Layout → List ℕ → ℕ → Ref
ref_at L page i = first_ref L.pointer (drop (L.head + entry_size L * i) page)

-- The entries of a page, as many as its count says.
unfoldable pub refs_of : Layout → List ℕ → List Ref
refs_of L page = table (ref_at L page) 0 (count_of page)

-- The bytes of an entry, of a row of entries, and of a page: its head, its row, and zeros ("Unused entries .. are all zero").
unfoldable pub ref_bytes : ℕ → Ref → List ℕ
ref_bytes pointer x = x.0 ∷ bytes_of pointer x.1

unfoldable pub row_bytes : ℕ → List Ref → List ℕ
row_bytes pointer [] = []
row_bytes pointer (x ∷ xs) = ref_bytes pointer x ++ row_bytes pointer xs

unfoldable pub page_of : Layout → List ℕ → List Ref → List ℕ
page_of L head row = head ++ row_bytes L.pointer row ++ replicate (entry_size L * (L.entries - length row)) 0

-- The pointers of a row fit their bytes.
abbrev pub Fitting : ℕ → List Ref → Type 0
Fitting pointer row = All (λ (x : Ref). x.1 < 256 ^ pointer) row

-- "Page: level, count, then entries": the page of a level with a row.
abbrev pub row_page : ℕ → ℕ → List Ref → List ℕ
row_page E level row = page_of (layout_of E) (level ∷ length row ∷ []) row

-- The table with page p written.
abbrev pub store : Layout → List ℕ → ℕ → List ℕ → List ℕ
store L b p page = over b (page_start L p) page
