-- The line that the day book prints for a line that it read (01, "Day-book program"). Assumes nothing.
use Rattle.std.specs.Prelude.{Bool, true, false, List, [], ◌∷◌, ◌++◌, ℕ, zero, suc, ◌+◌, ◌*◌, ◌-◌, ◌/◌, ◌%◌, ◌≤◌}

-- The bytes that a line is made of.
abbrev pub tab : ℕ
tab = 9

abbrev pub newline : ℕ
newline = 10

abbrev pub plus : ℕ
plus = 43

-- The byte of a digit from 0 to 9.
abbrev pub digit : ℕ → ℕ
digit d = 48 + d

-- The decimal digits of n, and none for 0, found from the last in so many steps.
unfoldable pub digits_within : ℕ → ℕ → List ℕ
digits_within zero n = []
digits_within (suc steps) zero = []
digits_within (suc steps) (suc n) = digits_within steps (suc n / 10) ++ (digit (suc n % 10) ∷ [])

-- A number in decimal: the digits of a tenth of it, none for 0, and its last digit. (n steps are enough: each divides by ten.)
unfoldable pub decimal : ℕ → List ℕ
decimal n = digits_within n (n / 10) ++ (digit (n % 10) ∷ [])

-- The number that decimal digits say, after the number a.
unfoldable pub value_after : ℕ → List ℕ → ℕ
value_after a [] = a
value_after a (x ∷ xs) = value_after (a * 10 + (x - 48)) xs

-- The number that decimal digits say.
abbrev pub value : List ℕ → ℕ
value bytes = value_after 0 bytes

-- Every byte is a digit.
abbrev pub Digits : List ℕ → Type 0
Digits [] = Unit {0}
Digits (x ∷ xs) = ((48 ≤ x) × (x ≤ 57)) × Digits xs

-- "all parted by tabs": a number with the tab before it.
unfoldable pub field : ℕ → List ℕ
field n = tab ∷ decimal n

-- Numbers, each with the tab before it.
unfoldable pub fields_of : List ℕ → List ℕ
fields_of [] = []
fields_of (n ∷ ns) = field n ++ fields_of ns

-- "and `+` if more remain"; the line's end.
unfoldable pub end_of : Bool → List ℕ
end_of false = newline ∷ []
end_of true = tab ∷ plus ∷ newline ∷ []

-- "For each line it prints line number from 1, answer number (0 if done), then, if done, for find the record, for list at most 32
-- records and `+` if more remain". A done find has one record, and all but find and list have none.
unfoldable pub answer_line : ℕ → ℕ → List ℕ → Bool → List ℕ
answer_line line number records more = decimal line ++ (field number ++ (fields_of records ++ end_of more))
