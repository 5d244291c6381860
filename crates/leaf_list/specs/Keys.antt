-- Keys of W bits, bit 1 the most significant (01, "What the work covers"). Assumes nothing.
use Rattle.std.specs.Prelude.{Bool, true, false, List, [], ◌∷◌, ℕ, zero, suc, ◌+◌, ◌-◌, ◌*◌, ◌/◌, ◌%◌, ◌^◌, eqb, length}

-- A key, or any bit string: its bits, bit 1 first.
abbrev pub Key : Type 0
Key = List Bool

-- The last n bits of a number, so the key of n bits that the number is.
abbrev pub bits : ℕ → ℕ → Key
bits zero x = []
bits (suc n) x = eqb (x / 2 ^ n % 2) 1 ∷ bits n x

-- The number whose bits a key is.
abbrev pub value : Key → ℕ
value [] = 0
value (false ∷ k) = value k
value (true ∷ k) = 2 ^ length k + value k

-- A string of n zeros; "D0 is 0".
abbrev pub zero_bits : ℕ → Key
zero_bits zero = []
zero_bits (suc n) = false ∷ zero_bits n

-- Key k is below key k', for keys of the same length.
abbrev pub below : Key → Key → Bool
below [] k' = false
below (false ∷ k) [] = false
below (false ∷ k) (false ∷ k') = below k k'
below (false ∷ k) (true ∷ k') = true
below (true ∷ k) [] = false
below (true ∷ k) (false ∷ k') = false
below (true ∷ k) (true ∷ k') = below k k'

-- Two keys are the same in every bit ("its key is then compared whole").
abbrev pub same_key : Key → Key → Bool
same_key [] [] = true
same_key [] (x ∷ k') = false
same_key (x ∷ k) [] = false
same_key (false ∷ k) (false ∷ k') = same_key k k'
same_key (false ∷ k) (true ∷ k') = false
same_key (true ∷ k) (false ∷ k') = false
same_key (true ∷ k) (true ∷ k') = same_key k k'

-- "Let b be the first bit where the keys differ", counted on from l bits that went before.
abbrev pub first_difference : ℕ → Key → Key → ℕ
first_difference l [] k' = suc l
first_difference l (false ∷ k) [] = suc l
first_difference l (false ∷ k) (false ∷ k') = first_difference (suc l) k k'
first_difference l (false ∷ k) (true ∷ k') = suc l
first_difference l (true ∷ k) [] = suc l
first_difference l (true ∷ k) (false ∷ k') = suc l
first_difference l (true ∷ k) (true ∷ k') = first_difference (suc l) k k'

-- Bit d of a key.
abbrev pub bit_of : ℕ → Key → Bool
bit_of d [] = false
bit_of zero (x ∷ k) = false
bit_of (suc zero) (x ∷ k) = x
bit_of (suc (suc d)) (x ∷ k) = bit_of (suc d) k

-- "sets bit d(i) of D(i-1) and clears all later bits"
abbrev pub set_bit : ℕ → Key → Key
set_bit d [] = []
set_bit zero (x ∷ k) = x ∷ k
set_bit (suc zero) (x ∷ k) = true ∷ zero_bits (length k)
set_bit (suc (suc d)) (x ∷ k) = x ∷ set_bit (suc d) k

-- The same two on the number of a key of w bits, as the code has them.
abbrev pub bit_at : ℕ → ℕ → ℕ → Bool
bit_at w d x = eqb (x / 2 ^ (w - d) % 2) 1

abbrev pub set_bit_at : ℕ → ℕ → ℕ → ℕ
set_bit_at w d x = x / 2 ^ suc (w - d) * 2 ^ suc (w - d) + 2 ^ (w - d)

-- The first l of the w bits of a number.
abbrev pub first_bits : ℕ → ℕ → ℕ → ℕ
first_bits w l x = x / 2 ^ (w - l)
