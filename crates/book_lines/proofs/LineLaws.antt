-- What lines say, by their fields; what a function has found so far is given. Assumes nothing.
use mathlib.Core.Path.{◌≡◌, refl, sym, ap, ◌∙◌}
use mathlib.Core.Bool.{Bool, true, false}
use mathlib.Core.List.{List, ◌∷◌}
use Prim.Native.Nat.{ℕ, ◌≤◌, ◌<◌}
use native.Mathlib.Omega.{arith}
use lib.Dec.{ltb}
use lib.ListN.{length, take, get_or, length-take}
use lib.Seq.{take_all}
use borrow.Author.Tests.{le-leb, lt-leb, ltb-true, ltb-false}
use Rattle.book_tags.specs.Tags.{tag_of, record_of}
use Rattle.std.specs.Prelude.{Option, Some, None, Err}
use denote.Ref.{Bor}
use Rattle.std.proofs.lemmas.Slice.Eq.{HasBytesAt, text_from_reads, compares_Decides}
use Rattle.std.specs.Bool.{Decides}
use Rattle.book_lines.specs.declared.Declined.TheVariants as declined
use Rattle.book_lines.specs.Fields.{cut_at_tabs}
use Rattle.book_lines.proofs.FieldLaws.{Fields, ended, went}
use Rattle.book_lines.specs.Lines.{
  same_bytes,
  on_word,
  off_word,
  find_word,
  list_word,
  on_line,
  off_line,
  find_line,
  list_line,
  two_fields,
  three_fields,
  fields_say,
  meaning,
}

-- A verb is a word, or it isn't.
decided : (verb word : List ℕ) → Decides (same_bytes verb word) (verb ≡ word)
unfolding same_bytes
decided = compares_Decides same_bytes (record { empty = refl; shorter = λ y ys. refl; longer = λ x xs. refl; heads = λ x y xs ys. refl })

same_word : (verb word : List ℕ) → length verb ≡ length word → HasBytesAt verb 0 word → same_bytes verb word ≡ true
same_word verb word h k = (decided verb word).1 (text_from_reads verb word h k)

other_word : (verb word : List ℕ) → (verb ≡ word → ⊥) → same_bytes verb word ≡ false
other_word verb word h = go (same_bytes verb word) refl
  where
    go : (t : Bool) → same_bytes verb word ≡ t → t ≡ false
    go true e = absurd (h ((decided verb word).0 e))
    go false e = refl

-- Two fields, by the verb.
module _ (verb second : List ℕ) where
  pub says_off : length verb ≡ 3 → get_or verb 0 0 ≡ 111 → get_or verb 1 0 ≡ 102 → get_or verb 2 0 ≡ 102 → two_fields verb second ≡ off_line (tag_of second)
  unfolding two_fields
  says_off h a b c = rw (same_word verb off_word h (a, (b, (c, tt))))

  pub says_find : length verb ≡ 4 → get_or verb 0 0 ≡ 102 → get_or verb 1 0 ≡ 105 → get_or verb 2 0 ≡ 110 → get_or verb 3 0 ≡ 100
      → two_fields verb second ≡ find_line (tag_of second)
  unfolding two_fields
  says_find h a b c d = rw (other_word verb off_word (λ e. omega (arith, ap length e)), same_word verb find_word h (a, (b, (c, (d, tt)))))

  pub says_neither : (length verb ≡ 3 → get_or verb 0 0 ≡ 111 → get_or verb 1 0 ≡ 102 → get_or verb 2 0 ≡ 102 → ⊥)
      → (length verb ≡ 4 → get_or verb 0 0 ≡ 102 → get_or verb 1 0 ≡ 105 → get_or verb 2 0 ≡ 110 → get_or verb 3 0 ≡ 100 → ⊥)
      → two_fields verb second ≡ Err declined.Bad
  unfolding two_fields
  says_neither h k =
      rw (
        other_word verb off_word (λ e. rw e at h refl refl refl refl),
        other_word verb find_word (λ e. rw e at k refl refl refl refl refl),
      )

-- Three fields, by the verb.
module _ (verb second third : List ℕ) where
  pub says_on : length verb ≡ 2 → get_or verb 0 0 ≡ 111 → get_or verb 1 0 ≡ 110 → three_fields verb second third ≡ on_line (tag_of second) (record_of third)
  unfolding three_fields
  says_on h a b = rw (same_word verb on_word h (a, (b, tt)))

  pub says_list : length verb ≡ 4 → get_or verb 0 0 ≡ 108 → get_or verb 1 0 ≡ 105 → get_or verb 2 0 ≡ 115 → get_or verb 3 0 ≡ 116
      → three_fields verb second third ≡ list_line (tag_of second) (tag_of third)
  unfolding three_fields
  says_list h a b c d = rw (other_word verb on_word (λ e. omega (arith, ap length e)), same_word verb list_word h (a, (b, (c, (d, tt)))))

  pub says_none : (length verb ≡ 2 → get_or verb 0 0 ≡ 111 → get_or verb 1 0 ≡ 110 → ⊥)
      → (length verb ≡ 4 → get_or verb 0 0 ≡ 108 → get_or verb 1 0 ≡ 105 → get_or verb 2 0 ≡ 115 → get_or verb 3 0 ≡ 116 → ⊥)
      → three_fields verb second third ≡ Err declined.Bad
  unfolding three_fields
  says_none h k =
      rw (
        other_word verb on_word (λ e. rw e at h refl refl refl),
        other_word verb list_word (λ e. rw e at k refl refl refl refl refl),
      )

-- "A line over 80 bytes, newline not counted, is bad."
pub says_long : (line : List ℕ) → 80 < length line → meaning line ≡ Err declined.Bad
unfolding meaning
says_long line h = rw (lt-leb (length line) 80 h)

pub short_says : (line : List ℕ) → length line ≤ 80 → meaning line ≡ fields_say (cut_at_tabs line)
unfolding meaning
short_says line h = rw (le-leb (length line) 80 h)

-- So its first 81 bytes say what the whole line says.
pub says_cut : (line : List ℕ) → meaning (take 81 line) ≡ meaning line
says_cut line = go (ltb (length line) 82) refl where
  go : (t : Bool) → ltb (length line) 82 ≡ t → meaning (take 81 line) ≡ meaning line
  go true e = ap meaning (take_all 81 line (omega (arith, ltb-true (length line) 82 e)))
  go false e =
      let long : 82 ≤ length line = ltb-false (length line) 82 e in
      says_long (take 81 line) (rw length-take (omega arith)) ∙ sym (says_long line (omega arith))

-- A line of one field, of two, of three, of more, by what calls of `next` give.
module _ {S : Type 0} {steps : S → Option (Bor (List ℕ)) → S → Type 0} (line : List ℕ) (short : length line ≤ 80) (a : S) (all : Fields steps a (cut_at_tabs line))
    (verb : Bor (List ℕ)) (b : S) (k₁ : steps a (Some verb) b) where
  pub says_one : (c : S) → steps b None c → meaning line ≡ Err declined.Bad
  says_one c k₂ =
      let one = went all k₁ in
      short_says line short ∙ ap fields_say (one.first ∙ ap (λ fields. verb.now ∷ fields) (ended one.rest k₂))

  module _ (second : Bor (List ℕ)) (c : S) (k₂ : steps b (Some second) c) where
    pub says_two : (d : S) → steps c None d → meaning line ≡ two_fields verb.now second.now
    says_two d k₃ =
        let one = went all k₁ in
        let two = went one.rest k₂ in
        short_says line short ∙ ap fields_say (one.first ∙ ap (λ fields. verb.now ∷ fields) (two.first ∙ ap (λ fields. second.now ∷ fields) (ended two.rest k₃)))

    module _ (third : Bor (List ℕ)) (d : S) (k₃ : steps c (Some third) d) where
      pub says_three : (e : S) → steps d None e → meaning line ≡ three_fields verb.now second.now third.now
      says_three e k₄ =
          let one = went all k₁ in
          let two = went one.rest k₂ in
          let three = went two.rest k₃ in
          short_says line short
          ∙ ap fields_say
          (one.first
          ∙ ap (λ fields. verb.now ∷ fields) (two.first ∙ ap (λ fields. second.now ∷ fields) (three.first ∙ ap (λ fields. third.now ∷ fields) (ended three.rest k₄))))

      pub says_more : (fourth : Bor (List ℕ)) (e : S) → steps d (Some fourth) e → meaning line ≡ Err declined.Bad
      says_more fourth e k₄ =
          let one = went all k₁ in
          let two = went one.rest k₂ in
          let three = went two.rest k₃ in
          let four = went three.rest k₄ in
          short_says line short
          ∙ ap fields_say
          (one.first
          ∙ ap (λ fields. verb.now ∷ fields) (two.first ∙ ap (λ fields. second.now ∷ fields) (three.first ∙ ap (λ fields. third.now ∷ fields) four.first)))
