-- What tags write, from the tag code's answers. Assumes nothing.
use mathlib.Core.Path.{◌≡◌, refl}
use mathlib.Core.Bool.{Bool, true, false, ◌&&◌}
use mathlib.Core.List.{List}
use Prim.Native.Nat.{ℕ, ◌≤◌, ◌<◌}
use native.Mathlib.Omega.{arith}
use lib.Dec.{eqb}
use lib.ListN.{length, take, drop, get_or}
use borrow.Author.Tests.{eqb-true, eq-eqb, ne_eqb, le-leb, lt-leb}
use Rattle.tag_code.specs.declared.OutOfRange.{OutOfRange}
use Rattle.tag_code.specs.declared.TagFields.{TagFields}
use Rattle.tag_code.specs.TagCode.{unpacked, as_unpacked}
use Rattle.std.specs.Prelude.{Option, Some, None, Result, Ok, Err}
use Rattle.book_tags.specs.declared.TagError.TheVariants as tag
use Rattle.book_tags.specs.Tags.{number_of, decimal_tag, hexadecimal_tag, tag_of, record_of}

-- A hexadecimal tag that the tag code does not refuse.
pub hexadecimal_key : {x : Option ℕ} {code : ℕ} → x ≡ Some code → {answer : Result TagFields OutOfRange} → as_unpacked answer ≡ unpacked code → {fields : TagFields}
    → answer ≡ Ok fields
    → hexadecimal_tag x ≡ Ok code
unfolding hexadecimal_tag
hexadecimal_key p e h = rw (p, ← e, h)

-- Two tests, of which one fails.
both_false : (a b x y : ℕ) → (a ≡ b → x ≡ y → ⊥) → (eqb a b && eqb x y) ≡ false
both_false a b x y h = go (eqb a b) (eqb x y) refl refl
  where
    go : (s t : Bool) → eqb a b ≡ s → eqb x y ≡ t → (s && t) ≡ false
    go true true e f = absurd (h (eqb-true a b e) (eqb-true x y f))
    go true false e f = refl
    go false t e f = refl

-- A tag, by its length and its first byte.
pub tag_decimal : (field : List ℕ) → length field ≡ 15 → tag_of field ≡ decimal_tag (number_of 10 (take 3 field)) (number_of 10 (drop 3 field))
unfolding tag_of
tag_decimal field h = rw (eq-eqb (length field) 15 h)

pub tag_none : (field : List ℕ) → (length field ≡ 15 → ⊥) → (length field ≡ 17 → get_or field 0 0 ≡ 104 → ⊥) → tag_of field ≡ Err tag.Malformed
unfolding tag_of
tag_none field h k = rw (ne_eqb (length field) 15 h, both_false (length field) 17 (get_or field 0 0) 104 k)

pub tag_hexadecimal : (field : List ℕ) → length field ≡ 17 → get_or field 0 0 ≡ 104 → tag_of field ≡ hexadecimal_tag (number_of 16 (drop 1 field))
unfolding tag_of
tag_hexadecimal field h k = rw (ne_eqb (length field) 15 (λ e. omega arith), eq-eqb (length field) 17 h, eq-eqb (get_or field 0 0) 104 k)

-- A record, by its length.
pub record_short : (field : List ℕ) → length field < 1 → record_of field ≡ None
unfolding record_of
record_short field h = rw (lt-leb 1 (length field) h)

pub record_long : (field : List ℕ) → 1 ≤ length field → 5 < length field → record_of field ≡ None
unfolding record_of
record_long field h k = rw (le-leb 1 (length field) h, lt-leb (length field) 5 k)

pub record_number : (field : List ℕ) → 1 ≤ length field → length field ≤ 5 → record_of field ≡ number_of 10 field
unfolding record_of
record_number field h k = rw (le-leb 1 (length field) h, le-leb (length field) 5 k)
