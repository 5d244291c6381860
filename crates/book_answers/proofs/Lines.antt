-- A line is written number by number; how much room it takes. Assumes nothing.
use mathlib.Core.Path.{◌≡◌, refl, sym, ap, ◌∙◌}
use mathlib.Core.Bool.{Bool, true, false}
use mathlib.Core.List.{List, [], ◌∷◌, ◌++◌, append-nil, append_assoc}
use Prim.Native.Nat.{ℕ, zero, suc, ◌+◌, ◌*◌, ◌^◌, ◌≤◌, ◌<◌}
use native.Mathlib.Omega.{arith}
use native.Mathlib.Numerals.{add-one}
use lib.ListN.{length, get_or, take, set, length-append}
use lib.Seq.{take-suc, take_all}
use Rattle.book_answers.specs.Answers.{decimal, field, fields_of, end_of, answer_line}
use Rattle.book_answers.specs.Writing.{Wrote, RecordNumbers, Writable, AnswerWritten}
use Rattle.book_answers.proofs.Decimals.{decimal_length}
use Rattle.book_answers.proofs.Writing.{wrote_long, wrote_none, wrote_one, wrote_then, wrote_front, wrote_rest}

-- ---- a field

-- A field takes a byte more than its number.
pub length_field : (n : ℕ) → length (field n) ≡ length (decimal n) + 1
unfolding field
length_field n = omega arith

-- The tab, and the number behind it.
pub field_wrote : (n : ℕ) {b : List ℕ} {at : ℕ} {c : List ℕ} {next : ℕ} → Wrote (set b at 9) (at + 1) (decimal n) c next → Wrote b at (field n) c next
unfolding field
field_wrote n {b} {at} w = wrote_then (wrote_one b at 9) w

-- ---- records

-- Fields behind fields.
fields_append : (xs ys : List ℕ) → fields_of (xs ++ ys) ≡ fields_of xs ++ fields_of ys
unfolding fields_of
fields_append [] ys = refl
fields_append (x ∷ xs) ys = rw (fields_append xs ys) (sym (append_assoc (field x) (fields_of xs) (fields_of ys)))

-- One record more.
fields_more : (rs : List ℕ) (i : ℕ) → i < length rs → fields_of (take (i + 1) rs) ≡ fields_of (take i rs) ++ field (get_or rs i 0)
unfolding fields_of
fields_more rs i h =
    rw (add-one i, take-suc rs i 0 h) (fields_append (take i rs) (get_or rs i 0 ∷ []) ∙ ap (λ (l : List ℕ). fields_of (take i rs) ++ l) (append-nil (field (get_or rs i 0))))

-- The fields before place i, and the field there, are among all fields.
fields_room : (rs : List ℕ) (i : ℕ) → i < length rs → length (fields_of (take i rs)) + length (field (get_or rs i 0)) ≤ length (fields_of rs)
unfolding fields_of
fields_room [] i h = absurd (omega arith)
fields_room (r ∷ rs) zero h = omega (arith, length-append (field r) (fields_of rs))
fields_room (r ∷ rs) (suc i) h = omega (arith, length-append (field r) (fields_of (take i rs)), length-append (field r) (fields_of rs), fields_room rs i (omega arith))

-- No record is written.
pub records_none : (b : List ℕ) (at : ℕ) (rs : List ℕ) → Wrote b at (fields_of (take 0 rs)) b at
unfolding fields_of
records_none b at rs = wrote_none b at

-- There is room for the next record's field.
pub record_room : (rs : List ℕ) {b : List ℕ} {at i : ℕ} {c : List ℕ} {next n : ℕ} → at + length (fields_of rs) ≤ length b
    → Wrote b at (fields_of (take i rs)) c next → i < length rs → n ≡ get_or rs i 0 → next + length (field n) ≤ length c
record_room rs {b} {at} {i} {c} {next} {n} room w h e = rw e (omega (arith, room, w.ends, wrote_long w, fields_room rs i h))

-- The next record is written.
pub record_wrote : (rs : List ℕ) {b : List ℕ} {at i : ℕ} {c : List ℕ} {next n : ℕ} {d : List ℕ} {behind : ℕ}
    → Wrote b at (fields_of (take i rs)) c next → i < length rs → n ≡ get_or rs i 0 → Wrote c next (field n) d behind → Wrote b at (fields_of (take (i + 1) rs)) d behind
record_wrote rs {b} {at} {i} v h e w = rw (fields_more rs i h) (wrote_then v (rw e at w))

-- All are written.
pub records_wrote : (rs : List ℕ) {b : List ℕ} {at i : ℕ} {c : List ℕ} {next : ℕ} → Wrote b at (fields_of (take i rs)) c next → length rs ≤ i
    → Wrote b at (fields_of rs) c next
records_wrote rs {b} {at} {i} w h = rw (take_all i rs h) at w

-- ---- the end of a line

-- What it takes.
length_end : (more : Bool) → length (end_of more) ≤ 3
unfolding end_of
length_end true = omega arith
length_end false = omega arith

-- ---- a line

-- Records that are small one by one are so together.
pub record_numbers : (rs : List ℕ) (count : ℕ) → ((k : ℕ) → k < count → get_or rs k 0 ≤ 65535) → RecordNumbers (take count rs)
record_numbers rs zero h = tt
record_numbers [] (suc count) h = tt
record_numbers (r ∷ rs) (suc count) h = (h 0 (omega arith), record_numbers rs count (λ k g. h (suc k) (omega arith)))

-- A record takes at most six bytes.
length_fields : (rs : List ℕ) → RecordNumbers rs → length (fields_of rs) ≤ 6 * length rs
unfolding fields_of
length_fields [] h = omega arith
length_fields (r ∷ rs) h =
    let five : length (decimal r) ≤ 5 = decimal_length 4 r (omega (arith, h.0)) in
    omega (arith, length-append (field r) (fields_of rs), length_field r, length_fields rs h.1)

-- What a line takes.
length_line : (line number : ℕ) (rs : List ℕ) (more : Bool)
    → length (answer_line line number rs more) ≡ length (decimal line) + length (field number) + length (fields_of rs) + length (end_of more)
unfolding answer_line
length_line line number rs more =
    omega (
      arith,
      length-append (decimal line) (field number ++ (fields_of rs ++ end_of more)),
      length-append (field number) (fields_of rs ++ end_of more),
      length-append (fields_of rs) (end_of more),
    )

-- The most that it takes: 20 digits of its number, 11 bytes of the answer number, 6 of each record, and 3 at its end.
pub line_small : (line number : ℕ) (rs : List ℕ) (more : Bool) → line < 2 ^ 64 → number < 2 ^ 32 → length rs ≤ 32 → RecordNumbers rs → length (answer_line line number rs more) ≤ 226
line_small line number rs more h g few small =
    let twenty : length (decimal line) ≤ 20 = decimal_length 19 line (omega arith) in
    let ten : length (decimal number) ≤ 10 = decimal_length 9 number (omega arith) in
    omega (arith, length_line line number rs more, length_field number, length_fields rs small, length_end more)

-- Where an answer can be written, so can this one.
pub record AnswerOf (b : List ℕ) (line number : ℕ) (rs : List ℕ) (more : Bool) : Type 0 where
  pub small : length (answer_line line number rs more) ≤ 226
  pub room : length (decimal line) + length (field number) + length (fields_of rs) + length (end_of more) ≤ length b

pub answer_of : {b rs : List ℕ} (line number : ℕ) (more : Bool) → Writable b rs → line < 2 ^ 64 → number < 2 ^ 32 → AnswerOf b line number rs more
answer_of {b} {rs} line number more w h g =
    let small : length (answer_line line number rs more) ≤ 226 = line_small line number rs more h g w.few w.numbers in
    record { small = small; room = omega (arith, length_line line number rs more, w.room) }

-- ---- a line, part by part

module _ {b : List ℕ} (line number : ℕ) (rs : List ℕ) (more : Bool) (a : AnswerOf b line number rs more) where
  -- Room for the line's number.
  pub room_number : 0 + length (decimal line) ≤ length b
  room_number = omega (arith, a.room)

  module _ {c : List ℕ} {numbered n : ℕ} (v : Wrote b 0 (decimal line) c numbered) (e : n ≡ number) where
    -- Room for the answer number.
    pub room_answer : numbered + length (field n) ≤ length c
    room_answer = rw e (omega (arith, a.room, v.ends, wrote_long v))

    module _ {d : List ℕ} {answered : ℕ} (w : Wrote c numbered (field n) d answered) where
      -- Room for the records.
      pub room_records : answered + length (fields_of rs) ≤ length d
      room_records = omega (arith, a.room, v.ends, wrote_long v, w.ends, wrote_long w, ap (λ (k : ℕ). length (field k)) e)

      module _ {f : List ℕ} {listed : ℕ} (x : Wrote d answered (fields_of rs) f listed) where
        -- Room for the end.
        pub room_end : listed + length (end_of more) ≤ length f
        room_end = omega (arith, a.room, v.ends, wrote_long v, w.ends, wrote_long w, x.ends, wrote_long x, ap (λ (k : ℕ). length (field k)) e)

        -- The whole line.
        line_wrote : {g : List ℕ} {size : ℕ} → Wrote f listed (end_of more) g size → Wrote b 0 (answer_line line number rs more) g size
        unfolding answer_line
        line_wrote y = wrote_then v (wrote_then (rw e at w) (wrote_then x y))

        -- The answer is written.
        pub answer_written : {g : List ℕ} {size : ℕ} → 256 ≤ length b → Wrote f listed (end_of more) g size → AnswerWritten b line number rs more g size
        answer_written {g} {size} large y = let z : Wrote b 0 (answer_line line number rs more) g size = line_wrote y in record {
          front = wrote_front z (omega (arith, a.small));
          rest = wrote_rest z (omega (arith, a.small));
          sized = omega (arith, z.ends);
          small = omega (arith, a.small, z.ends);
          long = wrote_long z;
        }
