-- The index table's header (01, "Pages": "Header: byte 0 W; byte 1 E ..; bytes 2-3 P; 4-5 root page; 6-7 records held; the rest zero"). Assumes nothing.
use Rattle.std.specs.Prelude.{◌≡◌, List, [], ◌∷◌, ◌++◌, ℕ, suc, ◌+◌, ◌*◌, get_or, take, drop}
use Rattle.byte_moves.specs.Over.{over}
use Rattle.index_table.specs.Bytes.{bytes_of}

-- Two bytes from place i on, as a number.
abbrev pub word_at : List ℕ → ℕ → ℕ
word_at b i = get_or b i 0 * 256 + get_or b (suc i) 0

abbrev pub width_of : List ℕ → ℕ
width_of b = get_or b 0 0

abbrev pub entries_of : List ℕ → ℕ
entries_of b = get_or b 1 0

abbrev pub pages_of : List ℕ → ℕ
pages_of b = word_at b 2

abbrev pub root_of : List ℕ → ℕ
root_of b = word_at b 4

abbrev pub held_of : List ℕ → ℕ
held_of b = word_at b 6

-- The bytes of the header that are not used.
abbrev pub spare_of : List ℕ → List ℕ
spare_of b = take 8 (drop 8 b)

unfoldable pub header_bytes : ℕ → ℕ → ℕ → ℕ → ℕ → List ℕ
header_bytes w e p root held = w ∷ e ∷ bytes_of 2 p ++ bytes_of 2 root ++ bytes_of 2 held ++ 0 ∷ 0 ∷ 0 ∷ 0 ∷ 0 ∷ 0 ∷ 0 ∷ 0 ∷ []

-- The table with another root page, and with another number of records held.
abbrev pub with_root : List ℕ → ℕ → List ℕ
with_root b root = over b 4 (bytes_of 2 root)

abbrev pub with_held : List ℕ → ℕ → List ℕ
with_held b held = over b 6 (bytes_of 2 held)

-- The header of b' is that of b, but for the root and the records held.
pub record HeaderFrom (b b' : List ℕ) (r h : ℕ) : Type 0 where
  pub width : width_of b' ≡ width_of b
  pub entries : entries_of b' ≡ entries_of b
  pub pages : pages_of b' ≡ pages_of b
  pub root : root_of b' ≡ r
  pub held : held_of b' ≡ h
  pub spare : spare_of b' ≡ spare_of b
