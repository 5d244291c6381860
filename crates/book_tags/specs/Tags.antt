-- The tags and records that the fields of a day book's line write (01, "Day-book program"). Assumes nothing.
use Rattle.std.specs.Prelude.{Bool, cond, ◌&&◌, Option, Some, None, Result, Ok, Err, List, [], ◌∷◌, ℕ, ◌+◌, ◌*◌, ◌-◌, ◌≤◌, eqb, ltb, leb, length, take, drop, get_or}
use Rattle.tag_code.specs.declared.TagFields.{TagFields}
use Rattle.tag_code.specs.TagCode.{packed, unpacked}
use Rattle.book_tags.specs.declared.TagError.{TagError}
use Rattle.book_tags.specs.declared.TagError.TheVariants as tag

-- A byte from `low` to `high`.
abbrev pub between : ℕ → ℕ → ℕ → Bool
between low high byte = leb low byte && leb byte high

-- The value of a digit: `0` to `9`, then lower-case `a` to `f`; 16 for any other byte, which is no digit in any base here.
unfoldable pub digit_of : ℕ → ℕ
digit_of byte = cond (between 48 57 byte) (byte - 48) (cond (between 97 102 byte) (byte - 87) 16)

-- The number that digits write after those that wrote `value`; none if one of them is no digit of the base.
unfoldable pub number_after : ℕ → ℕ → List ℕ → Option ℕ
number_after base value [] = Some value
number_after base value (byte ∷ bytes) =
    cond (ltb (digit_of byte) base) (number_after base (value * base + digit_of byte) bytes) None

-- The number that digits write in a base.
abbrev pub number_of : ℕ → List ℕ → Option ℕ
number_of base bytes = number_after base 0 bytes

-- "15 decimal digits (three of country, twelve of national number; flag 1, other fields 0)".
abbrev pub decimal_fields : ℕ → ℕ → TagFields
decimal_fields country national =
    record { animal = 1; retag = 0; user = 0; reserved = 0; block = 0; country = country; national = national }

-- The tag of a country and a national number: the tag code's, if it is not refused.
unfoldable pub decimal_tag : Option ℕ → Option ℕ → Result ℕ TagError
decimal_tag None national = Err tag.Malformed
decimal_tag (Some country) None = Err tag.Malformed
decimal_tag (Some country) (Some national) =
    cond (eqb (packed (decimal_fields country national)).number 0) (Ok (packed (decimal_fields country national)).code) (Err tag.OutOfRange)

-- "`h` and 16 lower-case hexadecimal digits": the key itself, if the tag code does not refuse it.
unfoldable pub hexadecimal_tag : Option ℕ → Result ℕ TagError
hexadecimal_tag None = Err tag.Malformed
hexadecimal_tag (Some code) = cond (eqb (unpacked code).number 0) (Ok code) (Err tag.OutOfRange)

-- A tag: 15 decimal digits, or `h` and 16 hexadecimal ones.
unfoldable pub tag_of : List ℕ → Result ℕ TagError
tag_of field =
    cond (eqb (length field) 15) (decimal_tag (number_of 10 (take 3 field)) (number_of 10 (drop 3 field)))
    (cond (eqb (length field) 17 && eqb (get_or field 0 0) 104) (hexadecimal_tag (number_of 16 (drop 1 field))) (Err tag.Malformed))

-- "A record is 1 to 5 decimal digits."
unfoldable pub record_of : List ℕ → Option ℕ
record_of field = cond (between 1 5 (length field)) (number_of 10 field) None

-- A number, if there is one, is at most so large.
abbrev pub record_at_most : ℕ → Option ℕ → Type 0
record_at_most most None = Unit {0}
record_at_most most (Some value) = value ≤ most
