-- The plain way to write what a line says, and that it is read back. Assumes nothing.
use mathlib.Core.Path.{◌≡◌, refl, sym, ap, ap₂, ◌∙◌}
use mathlib.Core.Bool.{Bool, true, false, cond}
use mathlib.Core.List.{List, [], ◌∷◌, ◌++◌}
use Prim.Native.Nat.{ℕ, zero, suc, ◌+◌, ◌*◌, ◌/◌, ◌%◌, ◌^◌, ◌≤◌, ◌<◌}
use native.Mathlib.Omega.{arith}
use native.Mathlib.Nat.{add-mul, mul_assoc, pow-zero, pow-succ', one-le-pow, mod-lt, div-add-mod', div-lt_iff_lt-mul}
use lib.Dec.{ltb}
use lib.ListN.{length, length-append}
use borrow.Author.Tests.{lt-ltb, ltb-true, ltb-false, ne_eqb}
use Rattle.std.specs.Prelude.{Some, Result, Ok, Err}
use Rattle.tag_code.specs.TagCode.{bits_of, fields_of, unpacked}
use Rattle.tag_code.proofs.Codes.{unpacked_done}
use Rattle.book_tags.specs.Tags.{digit_of, number_after, number_of, hexadecimal_tag, tag_of, record_of}
use Rattle.book_tags.proofs.NumberLaws.{digit_decimal, digit_letter}
use Rattle.book_tags.proofs.TagLaws.{hexadecimal_key, tag_hexadecimal, record_number}
use Rattle.book_lines.specs.declared.Call.{Call}
use Rattle.book_lines.specs.declared.Call.TheVariants as call
use Rattle.book_lines.specs.declared.Declined.{Declined}
use Rattle.book_lines.specs.declared.Declined.TheVariants as declined
use Rattle.book_lines.specs.Fields.{tab, cut_at_tabs}
use Rattle.book_lines.specs.Lines.{
  same_bytes,
  on_word,
  off_word,
  find_word,
  list_word,
  two_fields,
  on_line,
  off_line,
  find_line,
  list_line,
  fields_say,
  meaning,
}
use Rattle.book_lines.proofs.LineLaws.{short_says, says_off, says_find, says_on, says_list}

-- The byte that writes a digit: `0` to `9`, `a` to `f`.
unfoldable pub letter : ℕ → ℕ
letter d = cond (ltb d 10) (48 + d) (87 + d)

-- A number in so many digits.
unfoldable pub digits_of : ℕ → ℕ → ℕ → List ℕ
digits_of base zero x = []
digits_of base (suc n) x = letter (x / base ^ n) ∷ digits_of base n (x % base ^ n)

-- A tag: `h` and 16 hexadecimal digits.
abbrev pub written_tag : ℕ → List ℕ
written_tag key = 104 ∷ digits_of 16 16 key

-- How many decimal digits a record has without leading zeros.
unfoldable pub width : ℕ → ℕ
width r = cond (ltb r 10) 1 (cond (ltb r 100) 2 (cond (ltb r 1000) 3 (cond (ltb r 10000) 4 5)))

-- A record: decimal digits without leading zeros.
abbrev pub written_record : ℕ → List ℕ
written_record r = digits_of 10 (width r) r

-- A line of two fields, and of three.
abbrev pub two_written : List ℕ → List ℕ → List ℕ
two_written verb second = verb ++ tab ∷ second

abbrev pub three_written : List ℕ → List ℕ → List ℕ → List ℕ
three_written verb second third = verb ++ tab ∷ (second ++ tab ∷ third)

-- The plain way to write each line; an empty line is bad, and country 1000 out of range.
unfoldable pub written : Result Call Declined → List ℕ
written (Ok (call.On key value)) = three_written on_word (written_tag key) (written_record value)
written (Ok (call.Off key)) = two_written off_word (written_tag key)
written (Ok (call.Find key)) = two_written find_word (written_tag key)
written (Ok (call.List from to)) = three_written list_word (written_tag from) (written_tag to)
written (Err declined.Bad) = []
written (Err declined.OutOfRange) = two_written find_word (written_tag (1000 * 2 ^ 38))

-- A key of 64 bits whose country is at most 999.
pub record GoodKey (key : ℕ) : Type 0 where
  pub wide : key < 2 ^ 64
  pub country : bits_of 17 26 key ≤ 999

-- What a line can say: its keys are good, its record is at most 99999.
abbrev pub Writable : Result Call Declined → Type 0
Writable (Ok (call.On key value)) = GoodKey key × (value ≤ 99999)
Writable (Ok (call.Off key)) = GoodKey key
Writable (Ok (call.Find key)) = GoodKey key
Writable (Ok (call.List from to)) = GoodKey from × GoodKey to
Writable (Err declined.Bad) = Unit {0}
Writable (Err declined.OutOfRange) = Unit {0}

-- A digit is read as itself, and is no tab.
letter_back : (d : ℕ) → d < 16 → digit_of (letter d) ≡ d
unfolding letter
letter_back d h = go (ltb d 10) refl
  where
    go : (t : Bool) → ltb d 10 ≡ t → digit_of (cond t (48 + d) (87 + d)) ≡ d
    go true e = let k = ltb-true d 10 e in digit_decimal (48 + d) (omega arith) (omega arith) ∙ omega arith
    go false e = let k = ltb-false d 10 e in digit_letter (87 + d) (omega arith) (omega arith) ∙ omega arith

letter_no_tab : (d : ℕ) → letter d ≡ tab → ⊥
unfolding letter
letter_no_tab d = go (ltb d 10)
  where
    go : (t : Bool) → cond t (48 + d) (87 + d) ≡ tab → ⊥
    go true e = omega arith
    go false e = omega arith

-- Digits: how many, and the number that they write.
digits_length : (base n x : ℕ) → length (digits_of base n x) ≡ n
unfolding digits_of
digits_length base zero x = refl
digits_length base (suc n) x = ap suc (digits_length base n (x % base ^ n))

-- Long division, one step.
division : (base v x n : ℕ) → (v * base + x / base ^ n) * base ^ n + x % base ^ n ≡ v * base ^ suc n + x
division base v x n =
    let power = base ^ n in
    let e : (v * base + x / power) * power ≡ v * base * power + x / power * power = add-mul (v * base) (x / power) power in
    let f : v * base * power ≡ v * (base * power) = mul_assoc v base power in
    let g : v * base ^ suc n ≡ v * (base * power) = ap (λ p. v * p) (pow-succ' base n) in
    omega (arith, div-add-mod' x power)

digits_number : (base : ℕ) → 0 < base → base ≤ 16 → (n v x : ℕ) → x < base ^ n → number_after base v (digits_of base n x) ≡ Some (v * base ^ n + x)
unfolding digits_of number_after
digits_number base p h zero v x k =
    let e : v * base ^ 0 ≡ v * 1 = ap (λ p. v * p) (pow-zero base) in
    ap Some (omega (arith, pow-zero base))
digits_number base p h (suc n) v x k =
    let power : 0 < base ^ n = one-le-pow n base p in
    let small : x / base ^ n < base = (div-lt_iff_lt-mul power).1 (omega (arith, pow-succ' base n)) in
    let back : digit_of (letter (x / base ^ n)) ≡ x / base ^ n = letter_back (x / base ^ n) (omega arith) in
    rw (back, lt-ltb (x / base ^ n) base small)
    (digits_number base p h n (v * base + x / base ^ n) (x % base ^ n) (mod-lt x power) ∙ ap Some (division base v x n))

digits_back : (base : ℕ) → 0 < base → base ≤ 16 → (n x : ℕ) → x < base ^ n → number_of base (digits_of base n x) ≡ Some x
digits_back base p h n x k = digits_number base p h n 0 x k ∙ ap Some (omega arith)

-- A tag and a record are read back.
tag_back : (key : ℕ) → GoodKey key → tag_of (written_tag key) ≡ Ok key
tag_back key h =
    tag_hexadecimal (written_tag key) (ap suc (digits_length 16 16 key)) refl
    ∙ ap hexadecimal_tag (digits_back 16 (omega arith) (omega arith) 16 key (omega (arith, h.wide)))
    ∙ hexadecimal_key {x = Some key} {code = key} refl {answer = Ok (fields_of key)} (sym (unpacked_done key h.country)) refl

record Width (r n : ℕ) : Type 0 where
  some : 1 ≤ n
  few : n ≤ 5
  fits : r < 10 ^ n

width_fits : (r : ℕ) → r ≤ 99999 → Width r (width r)
unfolding width
width_fits r h = go (ltb r 10) (ltb r 100) (ltb r 1000) (ltb r 10000) refl refl refl refl
  where
    go : (a b c d : Bool) → ltb r 10 ≡ a → ltb r 100 ≡ b → ltb r 1000 ≡ c → ltb r 10000 ≡ d → Width r (cond a 1 (cond b 2 (cond c 3 (cond d 4 5))))
    go true b c d e f g k = record { some = omega arith; few = omega arith; fits = ltb-true r 10 e }
    go false true c d e f g k = record { some = omega arith; few = omega arith; fits = ltb-true r 100 f }
    go false false true d e f g k = record { some = omega arith; few = omega arith; fits = ltb-true r 1000 g }
    go false false false true e f g k = record { some = omega arith; few = omega arith; fits = ltb-true r 10000 k }
    go false false false false e f g k = record { some = omega arith; few = omega arith; fits = omega arith }

record_back : (r : ℕ) → r ≤ 99999 → record_of (written_record r) ≡ Some r
record_back r h =
    let w = width_fits r h in
    let n = digits_length 10 (width r) r in
    record_number (written_record r) (omega (arith, w.some)) (omega (arith, w.few))
    ∙ digits_back 10 (omega arith) (omega arith) (width r) r w.fits

-- Bytes without a tab are one field.
abbrev NoTab : List ℕ → Type 0
NoTab [] = Unit {0}
NoTab (byte ∷ bytes) = (byte ≡ tab → ⊥) × NoTab bytes

digits_no_tab : (base n x : ℕ) → NoTab (digits_of base n x)
unfolding digits_of
digits_no_tab base zero x = tt
digits_no_tab base (suc n) x = (letter_no_tab (x / base ^ n), digits_no_tab base n (x % base ^ n))

tag_no_tab : (key : ℕ) → NoTab (written_tag key)
tag_no_tab key = ((λ e. omega arith), digits_no_tab 16 16 key)

cut_only : (word : List ℕ) → NoTab word → cut_at_tabs word ≡ word ∷ []
unfolding cut_at_tabs
cut_only [] h = refl
cut_only (byte ∷ bytes) h = rw (ne_eqb byte tab h.0, cut_only bytes h.1)

cut_word : (word rest : List ℕ) → NoTab word → cut_at_tabs (word ++ tab ∷ rest) ≡ word ∷ cut_at_tabs rest
unfolding cut_at_tabs
cut_word [] rest h = refl
cut_word (byte ∷ bytes) rest h = rw (ne_eqb byte tab h.0, cut_word bytes rest h.1)

-- Written lines of two and of three fields, cut again.
two_cut : (verb second : List ℕ) → NoTab verb → NoTab second → cut_at_tabs (two_written verb second) ≡ verb ∷ second ∷ []
two_cut verb second h k = cut_word verb second h ∙ ap (λ fields. verb ∷ fields) (cut_only second k)

three_cut : (verb second third : List ℕ) → NoTab verb → NoTab second → NoTab third
    → cut_at_tabs (three_written verb second third) ≡ verb ∷ second ∷ third ∷ []
three_cut verb second third h k l =
    cut_word verb (second ++ tab ∷ third) h
    ∙ ap (λ fields. verb ∷ fields) (cut_word second third k ∙ ap (λ fields. second ∷ fields) (cut_only third l))

-- What a written line says, by its fields.
two_says : (verb second : List ℕ) → NoTab verb → NoTab second → length verb ≤ 4 → length second ≤ 17
    → meaning (two_written verb second) ≡ fields_say (verb ∷ second ∷ [])
two_says verb second h k n m =
    short_says (two_written verb second) (omega (arith, length-append verb (tab ∷ second))) ∙ ap fields_say (two_cut verb second h k)

three_says : (verb second third : List ℕ) → NoTab verb → NoTab second → NoTab third → length verb ≤ 4 → length second ≤ 17 → length third ≤ 17
    → meaning (three_written verb second third) ≡ fields_say (verb ∷ second ∷ third ∷ [])
three_says verb second third h k l n m o =
    short_says (three_written verb second third)
    (omega (arith, length-append verb (tab ∷ (second ++ tab ∷ third)), length-append second (tab ∷ third)))
    ∙ ap fields_say (three_cut verb second third h k l)

tag_length : (key : ℕ) → length (written_tag key) ≤ 17
tag_length key = omega (arith, digits_length 16 16 key)

-- The four verbs have no tab.
on_no_tab : NoTab on_word
on_no_tab = ((λ e. omega arith), ((λ e. omega arith), tt))

off_no_tab : NoTab off_word
off_no_tab = ((λ e. omega arith), ((λ e. omega arith), ((λ e. omega arith), tt)))

find_no_tab : NoTab find_word
find_no_tab = ((λ e. omega arith), ((λ e. omega arith), ((λ e. omega arith), ((λ e. omega arith), tt))))

list_no_tab : NoTab list_word
list_no_tab = ((λ e. omega arith), ((λ e. omega arith), ((λ e. omega arith), ((λ e. omega arith), tt))))

on_back : (key value : ℕ) → GoodKey key → value ≤ 99999 → meaning (written (Ok (call.On key value))) ≡ Ok (call.On key value)
unfolding written same_bytes
on_back key value h k =
    three_says on_word (written_tag key) (written_record value) on_no_tab (tag_no_tab key) (digits_no_tab 10 (width value) value) (omega arith)
    (tag_length key)
    (omega (arith, digits_length 10 (width value) value, (width_fits value k).few))
    ∙ says_on on_word (written_tag key) (written_record value) refl refl refl
    ∙ ap₂ on_line (tag_back key h) (record_back value k)

list_back : (from to : ℕ) → GoodKey from → GoodKey to → meaning (written (Ok (call.List from to))) ≡ Ok (call.List from to)
unfolding written same_bytes
list_back from to h k =
    three_says list_word (written_tag from) (written_tag to) list_no_tab (tag_no_tab from) (tag_no_tab to) (omega arith) (tag_length from) (tag_length to)
    ∙ says_list list_word (written_tag from) (written_tag to) refl refl refl refl refl
    ∙ ap₂ list_line (tag_back from h) (tag_back to k)

off_back : (key : ℕ) → GoodKey key → meaning (written (Ok (call.Off key))) ≡ Ok (call.Off key)
unfolding written same_bytes
off_back key h =
    two_says off_word (written_tag key) off_no_tab (tag_no_tab key) (omega arith) (tag_length key)
    ∙ says_off off_word (written_tag key) refl refl refl refl
    ∙ ap off_line (tag_back key h)

find_back : (key : ℕ) → GoodKey key → meaning (written (Ok (call.Find key))) ≡ Ok (call.Find key)
unfolding written same_bytes
find_back key h =
    two_says find_word (written_tag key) find_no_tab (tag_no_tab key) (omega arith) (tag_length key)
    ∙ says_find find_word (written_tag key) refl refl refl refl refl
    ∙ ap find_line (tag_back key h)

refused_back : (meaning (written (Err declined.Bad)) ≡ Err declined.Bad) × (meaning (written (Err declined.OutOfRange)) ≡ Err declined.OutOfRange)
unfolding written digits_of letter meaning cut_at_tabs two_fields same_bytes tag_of hexadecimal_tag number_after digit_of unpacked
refused_back = (refl, refl)

-- Whatever a line can say is said by the line that is written for it.
pub written_read : (s : Result Call Declined) → Writable s → meaning (written s) ≡ s
written_read (Ok (call.On key value)) h = on_back key value h.0 h.1
written_read (Ok (call.Off key)) h = off_back key h
written_read (Ok (call.Find key)) h = find_back key h
written_read (Ok (call.List from to)) h = list_back from to h.0 h.1
written_read (Err declined.Bad) h = refused_back.0
written_read (Err declined.OutOfRange) h = refused_back.1
