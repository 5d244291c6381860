-- Numbers in bytes, high byte first (01, "Pages"). Assumes nothing.
use mathlib.Core.Path.{◌≡◌, refl, ◌∙◌}
use mathlib.Core.List.{List, [], ◌∷◌, ◌++◌}
use Prim.Native.Nat.{ℕ, zero, suc, ◌+◌, ◌*◌, ◌≤◌, ◌<◌, ◌/◌, ◌%◌, ◌^◌}
use native.Mathlib.Omega.{arith}
use native.Mathlib.Nat.{pow-succ', one-le-pow, one-mul, mul_assoc, mul-le-mul_left, mul-le-mul_right}
use lib.ListN.{length, get_or, take, drop, length-append, length-take}
use lib.Seq.{get_or-drop}
use Rattle.index_table.specs.Bytes.{number_after, number, bytes_of}

-- k bytes of a number are k.
pub length_bytes : (k n : ℕ) → length (bytes_of k n) ≡ k
unfolding bytes_of
length_bytes zero n = refl
length_bytes (suc k) n = length-append (bytes_of k (n / 256)) (n % 256 ∷ []) ∙ omega (arith, length_bytes k (n / 256))

number_snoc : (a : ℕ) (xs : List ℕ) (x : ℕ) → number_after a (xs ++ x ∷ []) ≡ number_after a xs * 256 + x
unfolding number_after
number_snoc a [] x = refl
number_snoc a (y ∷ xs) x = number_snoc (a * 256 + y) xs x

-- The k bytes of a number that fits them are read back as the number.
pub number_bytes : (k n : ℕ) → n < 256 ^ k → number (bytes_of k n) ≡ n
unfolding number_after bytes_of
number_bytes zero n h = omega (arith, h)
number_bytes (suc k) n h =
    let p : 256 ^ suc k ≡ 256 * 256 ^ k = pow-succ' 256 k in
    number_snoc 0 (bytes_of k (n / 256)) (n % 256) ∙ omega (arith, number_bytes k (n / 256) (omega arith))

-- The number of two bytes.
pub number_two : (l : List ℕ) → 2 ≤ length l → number (take 2 l) ≡ get_or l 0 0 * 256 + get_or l 1 0
unfolding number_after
number_two [] h = absurd (omega arith)
number_two (x ∷ []) h = absurd (omega arith)
number_two (x ∷ y ∷ l) h = omega arith

-- The two bytes of a number that fits them.
pub bytes_two : (n : ℕ) → n < 65536 → bytes_of 2 n ≡ n / 256 ∷ n % 256 ∷ []
unfolding bytes_of
bytes_two n h = let m : n / 256 % 256 ≡ n / 256 = omega arith in rw m

-- ---- bytes

-- Each is below 256: what is known of a slice of bytes.
abbrev pub Bytes : List ℕ → Type 0
Bytes l = (i : ℕ) → get_or l i 0 < 256

-- So is each that is left,
pub drop_bytes : (n : ℕ) (l : List ℕ) → Bytes l → Bytes (drop n l)
drop_bytes n l h i = rw (get_or-drop n l i 0) (h (n + i))

-- and each that is taken.
pub take_bytes : (n : ℕ) (l : List ℕ) → Bytes l → Bytes (take n l)
take_bytes zero l h i = omega arith
take_bytes (suc n) [] h i = omega arith
take_bytes (suc n) (x ∷ l) h zero = h zero
take_bytes (suc n) (x ∷ l) h (suc i) = take_bytes n l (λ j. h (suc j)) i

number_below : (a k : ℕ) (l : List ℕ) → Bytes l → length l ≤ k → number_after a l < suc a * 256 ^ k
unfolding number_after
number_below a k [] h g = omega (arith, mul-le-mul_left {m = 1} {n = 256 ^ k} (suc a) (one-le-pow k 256 (omega arith)))
number_below a zero (x ∷ l) h g = absurd (omega arith)
number_below a (suc k) (x ∷ l) h g =
    let p : 256 ^ suc k ≡ 256 * 256 ^ k = pow-succ' 256 k in
    let m : suc (a * 256 + x) * 256 ^ k ≤ suc a * 256 * 256 ^ k = mul-le-mul_right {m = suc (a * 256 + x)} {n = suc a * 256} (256 ^ k) (omega (arith, h zero)) in
    let s = mul_assoc (suc a) 256 (256 ^ k) in
    rw p (omega (arith, number_below (a * 256 + x) k l (λ j. h (suc j)) (omega arith)))

-- The number of k bytes fits k bytes.
pub number_fits : (k : ℕ) (l : List ℕ) → Bytes l → number (take k l) < 256 ^ k
number_fits k l h = omega (arith, number_below 0 k (take k l) (take_bytes k l h) (omega (arith, length-take k l)), one-mul (256 ^ k))
