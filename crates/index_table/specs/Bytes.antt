-- Numbers in bytes. Assumes nothing.
use Rattle.std.specs.Prelude.{◌≡◌, List, [], ◌∷◌, ◌++◌, ℕ, zero, suc, ◌+◌, ◌*◌, ◌/◌, ◌%◌}

-- "Numbers are stored high byte first": the number of some bytes after the number a, and the k bytes of a number.
unfoldable pub number_after : ℕ → List ℕ → ℕ
number_after a [] = a
number_after a (x ∷ xs) = number_after (a * 256 + x) xs

abbrev pub number : List ℕ → ℕ
number bytes = number_after 0 bytes

unfoldable pub bytes_of : ℕ → ℕ → List ℕ
bytes_of zero n = []
bytes_of (suc k) n = bytes_of k (n / 256) ++ (n % 256 ∷ [])

-- f i, f (i + 1), .., n of them.
unfoldable pub table : {A : Type 0} → (ℕ → A) → ℕ → ℕ → List A
table f i zero = []
table f i (suc n) = f i ∷ table f (suc i) n

-- Every byte is 0.
abbrev pub AllZero : List ℕ → Type 0
AllZero [] = Unit {0}
AllZero (x ∷ xs) = (x ≡ 0) × AllZero xs
