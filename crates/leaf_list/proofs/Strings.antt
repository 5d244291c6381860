-- The strings that a leaf list looks at: all of 1 to w bits that end in 1, in the order of their discriminators. Assumes nothing.
use mathlib.Core.Path.{◌≡◌, refl, ap, sym}
use mathlib.Core.Logic.{◌↔◌}
use mathlib.Core.Bool.{Bool, true, false, true≢false}
use mathlib.Core.List.Memᴰ
use mathlib.Core.List.{List, ◌∷◌, map, [], Memᴰ, ◌++◌}
use Prim.Native.Nat.{ℕ, ◌≤◌, suc, zero}
use native.Mathlib.Omega.{arith}
use lib.ListN.{length}
use Rattle.leaf_list.specs.Keys.{Key, below, zero_bits}
use Rattle.leaf_list.specs.LeafList.{strings, discriminator}
use Rattle.leaf_list.proofs.Lists.{All, all_map, all_weaker, all_append, all_member}

-- Strings with a first bit in common, where Q asks of the rest what P asks of the whole.
pub all_cons : (P Q : Key → Type 0) (b : Bool) (vs : List Key) → ((v : Key) → Q v → P (b ∷ v)) → All Q vs → All P (map (λ v. b ∷ v) vs)
all_cons P Q b vs f h = all_map P (λ v. b ∷ v) vs (all_weaker Q (λ v. P (b ∷ v)) vs f h)

-- The string ends in 1.
abbrev pub EndsInOne : Key → Type 0
EndsInOne [] = ⊥
EndsInOne (x ∷ []) = x ≡ true
EndsInOne (x ∷ y ∷ v) = EndsInOne (y ∷ v)

-- "of 1 to W bits ending in 1"
abbrev pub OneToBits : ℕ → Key → Type 0
OneToBits w v = (1 ≤ length v) × (length v ≤ w) × EndsInOne v

-- One bit more in front.
pub one_to_bits_cons : (n : ℕ) (b : Bool) (v : Key) → OneToBits n v → OneToBits (suc n) (b ∷ v)
one_to_bits_cons n b [] h = absurd h.2
one_to_bits_cons n b (x ∷ v) h = (omega arith, omega (arith, h.1), h.2)

-- All string of the list is such a string.
pub strings_each : (n : ℕ) → All (OneToBits n) (strings n)
strings_each zero = tt
strings_each (suc n) =
    all_append (OneToBits (suc n)) (map (λ v. false ∷ v) (strings n)) ((true ∷ []) ∷ map (λ v. true ∷ v) (strings n))
    (all_cons (OneToBits (suc n)) (OneToBits n) false (strings n) (one_to_bits_cons n false) (strings_each n))
    ((omega arith, omega arith, refl), all_cons (OneToBits (suc n)) (OneToBits n) true (strings n) (one_to_bits_cons n true) (strings_each n))

-- All such string is in the list.
pub strings_all : (n : ℕ) (v : Key) → OneToBits n v → Memᴰ v (strings n)
strings_all n [] h = absurd h.2
strings_all zero (x ∷ v) h = absurd (omega (arith, h.1))
strings_all (suc n) (x ∷ []) h = Memᴰ.append_right (map (λ v. false ∷ v) (strings n)) (Memᴰ.head (ap (λ (b : Bool). b ∷ []) h.2))
strings_all (suc n) (false ∷ y ∷ v) h =
    Memᴰ.append_left ((true ∷ []) ∷ map (λ v. true ∷ v) (strings n))
    (Memᴰ.map (λ (v : Key). false ∷ v) (strings_all n (y ∷ v) (omega arith, omega (arith, h.1), h.2)))
strings_all (suc n) (true ∷ y ∷ v) h =
    Memᴰ.append_right (map (λ v. false ∷ v) (strings n))
    (Memᴰ.tail (Memᴰ.map (λ (v : Key). true ∷ v) (strings_all n (y ∷ v) (omega arith, omega (arith, h.1), h.2))))

-- "the strings v of 1 to W bits ending in 1": exactly these.
pub strings_exactly : (w : ℕ) (v : Key) → Memᴰ v (strings w) ↔ ((1 ≤ length v) × (length v ≤ w) × EndsInOne v)
strings_exactly w v = ((λ m. all_member (OneToBits w) m (strings_each w)), strings_all w v)

-- The discriminator of v is below those of the strings vs.
abbrev pub BelowEach : ℕ → Key → List Key → Type 0
BelowEach n v vs = All (λ v'. below (discriminator n v) (discriminator n v') ≡ true) vs

-- All discriminator is below all later ones.
abbrev pub RisingStrings : ℕ → List Key → Type 0
RisingStrings n [] = Unit {0}
RisingStrings n (v ∷ vs) = BelowEach n v vs × RisingStrings n vs

-- A first bit in common does not count.
pub below_each_cons : (b : Bool) (n : ℕ) (v : Key) (vs : List Key) → BelowEach n v vs → BelowEach (suc n) (b ∷ v) (map (λ u. b ∷ u) vs)
below_each_cons false n v vs h = all_cons _ (λ v'. below (discriminator n v) (discriminator n v') ≡ true) false vs (λ v' e. e) h
below_each_cons true n v vs h = all_cons _ (λ v'. below (discriminator n v) (discriminator n v') ≡ true) true vs (λ v' e. e) h

-- What begins with 0 is below what begins with 1.
pub below_each_cross : (n : ℕ) (v : Key) (vs : List Key) → BelowEach (suc n) (false ∷ v) (map (λ u. true ∷ u) vs)
below_each_cross n v [] = tt
below_each_cross n v (v' ∷ vs) = (refl, below_each_cross n v vs)

-- A string that ends in 1 has a discriminator above 0.
pub discriminator_positive : (n : ℕ) (v : Key) → OneToBits n v → below (zero_bits n) (discriminator n v) ≡ true
discriminator_positive n [] h = absurd h.2
discriminator_positive zero (x ∷ v) h = absurd (omega (arith, h.1))
discriminator_positive (suc n) (true ∷ v) h = refl
discriminator_positive (suc n) (false ∷ []) h = absurd (true≢false (sym h.2))
discriminator_positive (suc n) (false ∷ y ∷ v) h = discriminator_positive n (y ∷ v) (omega arith, omega (arith, h.1), h.2)

-- Rising strings, each with a 1 in front.
pub rising_one : (n : ℕ) (vs : List Key) → RisingStrings n vs → RisingStrings (suc n) (map (λ v. true ∷ v) vs)
rising_one n [] h = tt
rising_one n (v ∷ vs) h = (below_each_cons true n v vs h.0, rising_one n vs h.1)

-- Rising strings with a 0 in front, then the string 1 and those with a 1 in front.
pub rising_middle : (n : ℕ) (vs ws : List Key) → RisingStrings n vs → RisingStrings (suc n) ((true ∷ []) ∷ map (λ v. true ∷ v) ws)
    → RisingStrings (suc n) (map (λ v. false ∷ v) vs ++ ((true ∷ []) ∷ map (λ v. true ∷ v) ws))
rising_middle n [] ws h g = g
rising_middle n (v ∷ vs) ws h g = (
  all_append _ (map (λ u. false ∷ u) vs) ((true ∷ []) ∷ map (λ u. true ∷ u) ws) (below_each_cons false n v vs h.0) (refl, below_each_cross n v ws),
  rising_middle n vs ws h.1 g,
)

-- "In order of discriminator": the strings rise strictly.
pub strings_rising : (w : ℕ) → RisingStrings w (strings w)
strings_rising zero = tt
strings_rising (suc n) =
    rising_middle n (strings n) (strings n) (strings_rising n)
    (all_cons _ (OneToBits n) true (strings n) (discriminator_positive n) (strings_each n), rising_one n (strings n) (strings_rising n))
