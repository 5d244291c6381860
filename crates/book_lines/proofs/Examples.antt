-- Lines and what they say: 01's five lines, then good, bad and out_of_range ones. Assumes nothing.
use mathlib.Core.Path.{◌≡◌, refl}
use mathlib.Core.List.{List, [], ◌∷◌, ◌++◌}
use Prim.Native.Nat.{ℕ}
use Prim.Native.Char.{code}
use Prim.Native.String.{String, [] as nothing, ◌∷◌ as ◌then◌}
use lib.ListN.{replicate}
use Rattle.std.specs.Prelude.{Result, Ok, Err}
use Rattle.tag_code.specs.TagCode.{fields_fit, code_of, packed, unpacked}
use Rattle.book_tags.specs.Tags.{digit_of, number_after, decimal_tag, hexadecimal_tag, tag_of, record_of}
use Rattle.book_lines.specs.declared.Call.{Call}
use Rattle.book_lines.specs.declared.Call.TheVariants as call
use Rattle.book_lines.specs.declared.Declined.{Declined}
use Rattle.book_lines.specs.declared.Declined.TheVariants as declined
use Rattle.book_lines.specs.Fields.{cut_at_tabs}
use Rattle.book_lines.specs.Lines.{same_bytes, two_fields, three_fields, meaning}

-- The bytes of a text of ASCII characters.
abbrev pub bytes_of : String → List ℕ
bytes_of nothing = []
bytes_of (c then s) = code c ∷ bytes_of s

-- The line `text` says `s`.
abbrev pub Says : String → Result Call Declined → Type 0
Says text s = meaning (bytes_of text) ≡ s

-- What each of the lines says.
abbrev pub said_by : List String → List (Result Call Declined)
said_by [] = []
said_by (text ∷ texts) = meaning (bytes_of text) ∷ said_by texts

-- The five lines of 01.
pub lines_of_01 : Says "on\t826000000000017\t5" (Ok (call.On 9223599086005911569 5))
    × Says "on\t826000000000016\t2" (Ok (call.On 9223599086005911568 2))
    × Says "find\t826000000000017" (Ok (call.Find 9223599086005911569))
    × Says "list\t826000000000000\t826274877906943" (Ok (call.List 9223599086005911552 9223599360883818495))
    × Says "off\t826000000000099" (Ok (call.Off 9223599086005911651))
unfolding meaning cut_at_tabs two_fields three_fields same_bytes tag_of record_of decimal_tag hexadecimal_tag number_after digit_of packed unpacked fields_fit code_of
lines_of_01 = (refl, refl, refl, refl, refl)

-- A tag in hexadecimal digits, with any flag and fields; the largest country; leading zeros; the largest record.
pub good_lines : Says "find\th8000ce8000000011" (Ok (call.Find 9223599086005911569))
    × Says "off\th0000000000000007" (Ok (call.Off 7))
    × Says "find\th7fff0000000000ff" (Ok (call.Find 9223090561878065407))
    × Says "find\t999000000000000" (Ok (call.Find 9223646639883812864))
    × Says "on\t826000000000017\t00005" (Ok (call.On 9223599086005911569 5))
    × Says "on\t826000000000017\t99999" (Ok (call.On 9223599086005911569 99999))
unfolding meaning cut_at_tabs two_fields three_fields same_bytes tag_of record_of decimal_tag hexadecimal_tag number_after digit_of packed unpacked fields_fit code_of
good_lines = (refl, refl, refl, refl, refl, refl)

-- No line at all; no such verb; a space; two tabs in a row; a tab too many; a field too few or too many.
pub bad_fields : said_by (""
    ∷ "find"
    ∷ "find1\t826000000000017"
    ∷ "Find\t826000000000017"
    ∷ "find 826000000000017"
    ∷ "find\t\t826000000000017"
    ∷ "\tfind\t826000000000017"
    ∷ "find\t826000000000017\t"
    ∷ "on\t826000000000017\t\t5"
    ∷ "list\t826000000000017\t826000000000017\t826000000000017"
    ∷ "on\t826000000000017"
    ∷ "find\t826000000000017\t5" ∷ []) ≡ replicate 12 (Err declined.Bad)
unfolding meaning cut_at_tabs two_fields three_fields same_bytes tag_of record_of decimal_tag hexadecimal_tag number_after digit_of packed unpacked fields_fit code_of
bad_fields = refl

-- Tags and records of the wrong length or with a byte that is no digit; upper case; a carriage return.
pub bad_words : said_by ("find\t82600000000017"
    ∷ "find\t8260000000000170"
    ∷ "find\t82600000000001a"
    ∷ "find\th800000000000000A"
    ∷ "find\tH8000000000000000"
    ∷ "find\th800000000000000"
    ∷ "on\t826000000000017\t"
    ∷ "on\t826000000000017\t000005"
    ∷ "on\t826000000000017\t+5"
    ∷ "on\t826000000000017\ta"
    ∷ "find\t826000000000017\r" ∷ []) ≡ replicate 11 (Err declined.Bad)
unfolding meaning cut_at_tabs two_fields three_fields same_bytes tag_of record_of decimal_tag hexadecimal_tag number_after digit_of packed unpacked fields_fit code_of
bad_words = refl

-- 10 stands before 11: a tag out of range on a line that is bad elsewhere.
pub bad_before_range : said_by ("on\t826274877906944\tx"
    ∷ "list\t826274877906944\t82600000000001"
    ∷ "list\t82600000000001\t826274877906944" ∷ []) ≡ replicate 3 (Err declined.Bad)
unfolding meaning cut_at_tabs two_fields three_fields same_bytes tag_of record_of decimal_tag hexadecimal_tag number_after digit_of packed unpacked fields_fit code_of
bad_before_range = refl

-- National number 274,877,906,944; country 1000 and 1023; in any of the tags.
pub out_of_range : said_by ("find\t826274877906944"
    ∷ "off\t999999999999999"
    ∷ "find\th8000fa0000000000"
    ∷ "off\th0000ffc000000000"
    ∷ "on\t826274877906944\t5"
    ∷ "list\t826274877906944\t826000000000017"
    ∷ "list\t826000000000017\t826274877906944"
    ∷ "list\th8000fa0000000000\t826274877906944" ∷ []) ≡ replicate 8 (Err declined.OutOfRange)
unfolding meaning cut_at_tabs two_fields three_fields same_bytes tag_of record_of decimal_tag hexadecimal_tag number_after digit_of packed unpacked fields_fit code_of
out_of_range = refl

-- A line of 81 bytes.
pub long_line : meaning (bytes_of "find\t826000000000017" ++ replicate 61 48) ≡ Err declined.Bad
unfolding meaning cut_at_tabs two_fields three_fields same_bytes tag_of record_of decimal_tag hexadecimal_tag number_after digit_of packed unpacked fields_fit code_of
long_line = refl
