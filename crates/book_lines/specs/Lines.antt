-- What a line of the day book says (01, "Day-book program"). Assumes nothing.
use Rattle.std.specs.Prelude.{Bool, true, false, cond, ◌&&◌, Option, Some, None, Result, Ok, Err, List, [], ◌∷◌, ℕ, eqb, leb, length}
use Rattle.book_tags.specs.declared.TagError.{TagError}
use Rattle.book_tags.specs.declared.TagError.TheVariants as tag
use Rattle.book_tags.specs.Tags.{tag_of, record_of}
use Rattle.book_lines.specs.declared.Call.{Call}
use Rattle.book_lines.specs.declared.Call.TheVariants as call
use Rattle.book_lines.specs.declared.Declined.{Declined}
use Rattle.book_lines.specs.declared.Declined.TheVariants as declined
use Rattle.book_lines.specs.Fields.{cut_at_tabs}

-- Whether two fields are the same bytes.
unfoldable pub same_bytes : List ℕ → List ℕ → Bool
same_bytes [] [] = true
same_bytes [] (b ∷ others) = false
same_bytes (a ∷ rest) [] = false
same_bytes (a ∷ rest) (b ∷ others) = eqb a b && same_bytes rest others

-- The four verbs: `on`, `off`, `find`, `list`.
abbrev pub on_word : List ℕ
on_word = 111 ∷ 110 ∷ []

abbrev pub off_word : List ℕ
off_word = 111 ∷ 102 ∷ 102 ∷ []

abbrev pub find_word : List ℕ
find_word = 102 ∷ 105 ∷ 110 ∷ 100 ∷ []

abbrev pub list_word : List ℕ
list_word = 108 ∷ 105 ∷ 115 ∷ 116 ∷ []

-- Why a line with such a tag is declined, and the number of that: "10 .. bad line", "11 .. country above 999, or a field too large for its bits".
abbrev pub declined_for : TagError → Declined
declined_for tag.Malformed = declined.Bad
declined_for tag.OutOfRange = declined.OutOfRange

abbrev pub declined_number : Declined → ℕ
declined_number declined.Bad = 10
declined_number declined.OutOfRange = 11

-- What a line with one tag says: the call `asks` on its key.
abbrev pub one_tag : (ℕ → Result Call Declined) → Result ℕ TagError → Result Call Declined
one_tag asks (Err e) = Err (declined_for e)
one_tag asks (Ok key) = asks key

-- What an `off` line says, and a `find` line.
abbrev pub off_line : Result ℕ TagError → Result Call Declined
off_line first = one_tag (λ key. Ok (call.Off key)) first

abbrev pub find_line : Result ℕ TagError → Result Call Declined
find_line first = one_tag (λ key. Ok (call.Find key)) first

-- What an `on` line says; a record that is none is bad before a tag is out of range.
abbrev pub on_line : Result ℕ TagError → Option ℕ → Result Call Declined
on_line first None = Err declined.Bad
on_line first (Some value) = one_tag (λ key. Ok (call.On key value)) first

-- What a `list` line says; a tag that is none, first or second, is bad before the other is out of range.
abbrev pub list_line : Result ℕ TagError → Result ℕ TagError → Result Call Declined
list_line (Err tag.Malformed) last = Err declined.Bad
list_line (Err tag.OutOfRange) last = one_tag (λ to. Err declined.OutOfRange) last
list_line (Ok from) last = one_tag (λ to. Ok (call.List from to)) last

-- "`off` tag; `find` tag".
unfoldable pub two_fields : List ℕ → List ℕ → Result Call Declined
two_fields verb second =
    cond (same_bytes verb off_word) (off_line (tag_of second))
    (cond (same_bytes verb find_word) (find_line (tag_of second)) (Err declined.Bad))

-- "`on` tag record"; "`list` tag tag".
unfoldable pub three_fields : List ℕ → List ℕ → List ℕ → Result Call Declined
three_fields verb second third =
    cond (same_bytes verb on_word) (on_line (tag_of second) (record_of third))
    (cond (same_bytes verb list_word) (list_line (tag_of second) (tag_of third)) (Err declined.Bad))

-- What the fields of a line say.
abbrev pub fields_say : List (List ℕ) → Result Call Declined
fields_say [] = Err declined.Bad
fields_say (verb ∷ []) = Err declined.Bad
fields_say (verb ∷ second ∷ []) = two_fields verb second
fields_say (verb ∷ second ∷ third ∷ []) = three_fields verb second third
fields_say (verb ∷ second ∷ third ∷ fourth ∷ more) = Err declined.Bad

-- What a line says. "A line over 80 bytes, newline not counted, is bad."
unfoldable pub meaning : List ℕ → Result Call Declined
meaning line = cond (leb (length line) 80) (fields_say (cut_at_tabs line)) (Err declined.Bad)
