-- Format (01, "Format writes the header, the empty herd's entry in page 0 as root on level 0, and zeros in every other byte and key"). Assumes nothing.
use Rattle.std.specs.Prelude.{◌≡◌, Bool, cond, ◌&&◌, List, [], ◌∷◌, ◌++◌, ℕ, ◌*◌, ◌-◌, ◌≤◌, leb, eqb, length, replicate}
use Rattle.index_table.specs.Layout.{layout_of, page_size, page_start, row_page}
use Rattle.index_table.specs.Header.{header_bytes}
use Rattle.table_find.specs.declared.answer.Answer.{Answer}
use Rattle.table_find.specs.Answers.{plain}

-- From low to high.
abbrev pub within : ℕ → ℕ → ℕ → Bool
within low high n = leb low n && leb n high

-- Row 9: "W, E, P or record count outside its limits, or a table length not as above".
unfoldable pub format_fits : ℕ → ℕ → ℕ → ℕ → ℕ → ℕ → Bool
format_fits w e p table keys used =
    within 1 64 w
    && (within 2 255 e && (within 1 65534 p && (within 1 65534 used && (eqb keys used && eqb table (page_start (layout_of e) p)))))

-- "the empty herd's entry in page 0 as root on level 0"
unfoldable pub empty_table : ℕ → ℕ → ℕ → List ℕ
empty_table w e p = header_bytes w e p 0 0 ++ row_page e 0 ((0, 65535) ∷ []) ++ replicate ((p - 1) * page_size (layout_of e)) 0

-- The table has the length that it is to be made with.
pub record EmptyPre (e p : ℕ) (index : List ℕ) : Type 0 where
  pub entries : 2 ≤ e
  pub pages : 1 ≤ p
  pub table : length index ≡ page_start (layout_of e) p
  pub long : 21 ≤ length index

-- What format answers, and what it leaves of the tables.
pub record FormatDoes (w e p : ℕ) (index₀ keys₀ used₀ index₁ keys₁ used₁ : List ℕ) (r : Answer) : Type 0 where
  pub answer : r ≡ plain (cond (format_fits w e p (length index₀) (length keys₀) (length used₀)) 0 9)
  pub index : index₁ ≡ cond (format_fits w e p (length index₀) (length keys₀) (length used₀)) (empty_table w e p) index₀
  pub keys : keys₁ ≡ cond (format_fits w e p (length index₀) (length keys₀) (length used₀)) (replicate (length keys₀) 0) keys₀
  pub used : used₁ ≡ cond (format_fits w e p (length index₀) (length keys₀) (length used₀)) (replicate (length used₀) 0) used₀
