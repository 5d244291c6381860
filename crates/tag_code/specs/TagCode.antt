-- The tag code (01, "Tag code"). Assumes nothing.
use Rattle.std.specs.Prelude.{Bool, Result, Ok, Err, cond, ◌&&◌, ℕ, suc, ◌+◌, ◌*◌, ◌-◌, ◌/◌, ◌%◌, ◌^◌, ltb, leb}
use Rattle.tag_code.specs.declared.TagFields.{TagFields}
use Rattle.tag_code.specs.declared.OutOfRange.{OutOfRange}
use Rattle.tag_code.specs.declared.Packed.{Packed}
use Rattle.tag_code.specs.declared.Unpacked.{Unpacked}

-- Bits a to b of a code of 64 bits, "bit 1 most significant", as a number.
abbrev pub bits_of : ℕ → ℕ → ℕ → ℕ
bits_of a b code = code / 2 ^ (64 - b) % 2 ^ (suc b - a)

-- A number that stands in bits up to bit b, as a part of the code.
abbrev pub up_to_bit : ℕ → ℕ → ℕ
up_to_bit b x = x * 2 ^ (64 - b)

-- A number that bits a to b can hold.
abbrev pub fits_bits : ℕ → ℕ → ℕ → Bool
fits_bits a b x = ltb x (2 ^ (suc b - a))

-- "animal flag in bit 1, retag counter in 2 to 4, user field in 5 to 9, reserved in 10 to 15, data-block flag in 16,
-- country in bits 17 to 26, national number in bits 27 to 64"; "A country above 999 is refused", so its ten bits suffice.
unfoldable pub fields_fit : TagFields → Bool
fields_fit f =
    fits_bits 1 1 f.animal
    && (fits_bits 2 4 f.retag
    && (fits_bits 5 9 f.user
    && (fits_bits 10 15 f.reserved && (fits_bits 16 16 f.block && (leb f.country 999 && fits_bits 27 64 f.national)))))

-- The code of fields that fit, as a sum of powers of two.
unfoldable pub code_of : TagFields → ℕ
code_of f =
    up_to_bit 1 f.animal + up_to_bit 4 f.retag + up_to_bit 9 f.user + up_to_bit 15 f.reserved + up_to_bit 16 f.block
    + up_to_bit 26 f.country
    + up_to_bit 64 f.national

-- The fields of a code.
unfoldable pub fields_of : ℕ → TagFields
fields_of c =
    record {
      animal = bits_of 1 1 c;
      retag = bits_of 2 4 c;
      user = bits_of 5 9 c;
      reserved = bits_of 10 15 c;
      block = bits_of 16 16 c;
      country = bits_of 17 26 c;
      national = bits_of 27 64 c;
    }

abbrev pub no_fields : TagFields
no_fields = record { animal = 0; retag = 0; user = 0; reserved = 0; block = 0; country = 0; national = 0 }

-- Row 11: "country above 999, or a field too large for its bits"; "from the tag code: code and fields 0".
unfoldable pub packed : TagFields → Packed
packed f = cond (fields_fit f) (record { number = 0; code = code_of f }) (record { number = 11; code = 0 })

unfoldable pub unpacked : ℕ → Unpacked
unpacked c = cond (leb (bits_of 17 26 c) 999) (record { number = 0; fields = fields_of c }) (record { number = 11; fields = no_fields })

-- A result as C is given it: the number 0 beside the value, or 11 beside zeros.
abbrev pub as_packed : Result ℕ OutOfRange → Packed
as_packed (Ok code) = record { number = 0; code = code }
as_packed (Err e) = record { number = 11; code = 0 }

abbrev pub as_unpacked : Result TagFields OutOfRange → Unpacked
as_unpacked (Ok fields) = record { number = 0; fields = fields }
as_unpacked (Err e) = record { number = 11; fields = no_fields }
