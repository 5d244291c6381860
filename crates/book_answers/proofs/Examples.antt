-- The five lines that 01's example prints, gathered as rows under one theorem, and a few numbers. Assumes nothing.
use mathlib.Core.Path.{◌≡◌, refl}
use mathlib.Core.Bool.{true, false}
use mathlib.Core.List.{[], ◌∷◌}
use Rattle.book_answers.specs.Answers.{digits_within, decimal, field, fields_of, end_of, answer_line}

-- 01, "Day-book program", its output. In bytes: a tab is 9, a newline 10, the digit 0 is 48.
pub record FiveLines : Type 0 where
  -- on 826000000000017 5: `1 0`
  pub first : answer_line 1 0 [] false ≡ 49 ∷ 9 ∷ 48 ∷ 10 ∷ []
  -- on 826000000000016 2: `2 0`
  pub second : answer_line 2 0 [] false ≡ 50 ∷ 9 ∷ 48 ∷ 10 ∷ []
  -- find 826000000000017: `3 0 5`
  pub third : answer_line 3 0 (5 ∷ []) false ≡ 51 ∷ 9 ∷ 48 ∷ 9 ∷ 53 ∷ 10 ∷ []
  -- list 826000000000000 826274877906943: `4 0 2 5`
  pub fourth : answer_line 4 0 (2 ∷ 5 ∷ []) false ≡ 52 ∷ 9 ∷ 48 ∷ 9 ∷ 50 ∷ 9 ∷ 53 ∷ 10 ∷ []
  -- off 826000000000099: `5 6`
  pub fifth : answer_line 5 6 [] false ≡ 53 ∷ 9 ∷ 54 ∷ 10 ∷ []

pub five_lines : FiveLines
unfolding digits_within decimal field fields_of end_of answer_line
five_lines = record { first = refl; second = refl; third = refl; fourth = refl; fifth = refl }

-- `10 0 65534 100 +`: numbers of several digits, and more remain.
pub more_remain : answer_line 10 0 (65534 ∷ 100 ∷ []) true
    ≡ 49 ∷ 48 ∷ 9 ∷ 48 ∷ 9 ∷ 54 ∷ 53 ∷ 53 ∷ 51 ∷ 52 ∷ 9 ∷ 49 ∷ 48 ∷ 48 ∷ 9 ∷ 43 ∷ 10 ∷ []
unfolding digits_within decimal field fields_of end_of answer_line
more_remain = refl

-- The largest u64 has twenty digits.
pub largest_number : decimal 18446744073709551615
    ≡ 49 ∷ 56 ∷ 52 ∷ 52 ∷ 54 ∷ 55 ∷ 52 ∷ 52 ∷ 48 ∷ 55 ∷ 51 ∷ 55 ∷ 48 ∷ 57 ∷ 53 ∷ 53 ∷ 49 ∷ 54 ∷ 49 ∷ 53 ∷ []
unfolding digits_within decimal
largest_number = refl
