-- Lists of keys with their records, and their two sides. Assumes nothing.
use mathlib.Core.Path.{◌≡◌, refl, sym}
use mathlib.Core.Bool.{false, true, true≢false}
use mathlib.Core.List.{List, reverse_aux, [], ◌∷◌}
use Prim.Native.Nat.{ℕ, suc}
use native.Mathlib.Omega.{arith}
use lib.ListN.{length}
use Rattle.leaf_list.specs.Keys.{Key, same_key, below}
use Rattle.leaf_list.specs.LeafList.{Item, item}
use Rattle.leaf_list.specs.Trie.{zero_side, one_side}
use Rattle.leaf_list.proofs.Lists.{All}

abbrev pub key_part : Item → Key
key_part (item k r) = k

abbrev pub record_part : Item → ℕ
record_part (item k r) = r

-- Each key has n bits.
abbrev pub Lengths : ℕ → List Item → Type 0
Lengths n = All (λ x. length (key_part x) ≡ n)

-- No key is k.
abbrev pub NoKey : Key → List Item → Type 0
NoKey k = All (λ x. same_key k (key_part x) ≡ false)

-- k is below every key.
abbrev pub Least : Key → List Item → Type 0
Least k = All (λ x. below k (key_part x) ≡ true)

-- key_of gives the keys, each after the path u.
abbrev pub ItemKeys : (ℕ → Key) → Key → List Item → Type 0
ItemKeys key_of u = All (λ x. key_of (record_part x) ≡ reverse_aux u (key_part x))

-- Each key and every later one.
abbrev pub Pairs : (Key → Key → Type 0) → List Item → Type 0
Pairs R [] = Unit {0}
Pairs R (x ∷ s) = All (λ y. R (key_part x) (key_part y)) s × Pairs R s

-- No key stands twice.
abbrev pub Distinct : List Item → Type 0
Distinct = Pairs (λ k k'. same_key k k' ≡ false)

-- The keys rise.
abbrev pub Ordered : List Item → Type 0
Ordered = Pairs (λ k k'. below k k' ≡ true)

-- A fact of the keys that go on with 0, of what is left of them.
pub all_zero : (P Q : Item → Type 0) → ((k : Key) (r : ℕ) → P (item (false ∷ k) r) → Q (item k r)) → (s : List Item) → All P s → All Q (zero_side s)
all_zero P Q f [] h = tt
all_zero P Q f (item [] r ∷ s) h = all_zero P Q f s h.1
all_zero P Q f (item (false ∷ k) r ∷ s) h = (f k r h.0, all_zero P Q f s h.1)
all_zero P Q f (item (true ∷ k) r ∷ s) h = all_zero P Q f s h.1

-- The same of those that go on with 1.
pub all_one : (P Q : Item → Type 0) → ((k : Key) (r : ℕ) → P (item (true ∷ k) r) → Q (item k r)) → (s : List Item) → All P s → All Q (one_side s)
all_one P Q f [] h = tt
all_one P Q f (item [] r ∷ s) h = all_one P Q f s h.1
all_one P Q f (item (false ∷ k) r ∷ s) h = all_one P Q f s h.1
all_one P Q f (item (true ∷ k) r ∷ s) h = (f k r h.0, all_one P Q f s h.1)

-- The keys on a side have a bit less.
pub lengths_zero : (n : ℕ) (s : List Item) → Lengths (suc n) s → Lengths n (zero_side s)
lengths_zero n s h = all_zero _ (λ x. length (key_part x) ≡ n) (λ k r e. omega (arith, e)) s h

pub lengths_one : (n : ℕ) (s : List Item) → Lengths (suc n) s → Lengths n (one_side s)
lengths_one n s h = all_one _ (λ x. length (key_part x) ≡ n) (λ k r e. omega (arith, e)) s h

-- A key that is not there is not on its side.
pub no_key_zero : (k : Key) (s : List Item) → NoKey (false ∷ k) s → NoKey k (zero_side s)
no_key_zero k s h = all_zero (λ x. same_key (false ∷ k) (key_part x) ≡ false) _ (λ k' r e. e) s h

pub no_key_one : (k : Key) (s : List Item) → NoKey (true ∷ k) s → NoKey k (one_side s)
no_key_one k s h = all_one (λ x. same_key (true ∷ k) (key_part x) ≡ false) _ (λ k' r e. e) s h

-- The keys on a side, with the path one longer.
pub item_keys_zero : (key_of : ℕ → Key) (u : Key) (s : List Item) → ItemKeys key_of u s → ItemKeys key_of (false ∷ u) (zero_side s)
item_keys_zero key_of u s h = all_zero (λ x. key_of (record_part x) ≡ reverse_aux u (key_part x)) _ (λ k r e. e) s h

pub item_keys_one : (key_of : ℕ → Key) (u : Key) (s : List Item) → ItemKeys key_of u s → ItemKeys key_of (true ∷ u) (one_side s)
item_keys_one key_of u s h = all_one (λ x. key_of (record_part x) ≡ reverse_aux u (key_part x)) _ (λ k r e. e) s h

-- The pairs on the 0-side.
pub pairs_zero : (R : Key → Key → Type 0) → ((k k' : Key) → R (false ∷ k) (false ∷ k') → R k k') → (s : List Item) → Pairs R s → Pairs R (zero_side s)
pairs_zero R f [] h = tt
pairs_zero R f (item [] r ∷ s) h = pairs_zero R f s h.1
pairs_zero R f (item (false ∷ k) r ∷ s) h =
    (all_zero (λ y. R (false ∷ k) (key_part y)) (λ y. R k (key_part y)) (λ k' r e. f k k' e) s h.0, pairs_zero R f s h.1)
pairs_zero R f (item (true ∷ k) r ∷ s) h = pairs_zero R f s h.1

-- The pairs on the 1-side.
pub pairs_one : (R : Key → Key → Type 0) → ((k k' : Key) → R (true ∷ k) (true ∷ k') → R k k') → (s : List Item) → Pairs R s → Pairs R (one_side s)
pairs_one R f [] h = tt
pairs_one R f (item [] r ∷ s) h = pairs_one R f s h.1
pairs_one R f (item (false ∷ k) r ∷ s) h = pairs_one R f s h.1
pairs_one R f (item (true ∷ k) r ∷ s) h = (all_one (λ y. R (true ∷ k) (key_part y)) (λ y. R k (key_part y)) (λ k' r e. f k k' e) s h.0, pairs_one R f s h.1)

-- No key stands twice on a side.
pub distinct_zero : (s : List Item) → Distinct s → Distinct (zero_side s)
distinct_zero s h = pairs_zero (λ k k'. same_key k k' ≡ false) (λ k k' e. e) s h

pub distinct_one : (s : List Item) → Distinct s → Distinct (one_side s)
distinct_one s h = pairs_one (λ k k'. same_key k k' ≡ false) (λ k k' e. e) s h

-- The keys of a side of rising keys rise.
pub ordered_zero : (s : List Item) → Ordered s → Ordered (zero_side s)
ordered_zero s h = pairs_zero (λ k k'. below k k' ≡ true) (λ k k' e. e) s h

pub ordered_one : (s : List Item) → Ordered s → Ordered (one_side s)
ordered_one s h = pairs_one (λ k k'. below k k' ≡ true) (λ k k' e. e) s h

-- After a key that goes on with 1 comes none that goes on with 0.
pub least_one : (k : Key) (s : List Item) → Least (true ∷ k) s → zero_side s ≡ []
least_one k [] h = refl
least_one k (item [] r ∷ s) h = least_one k s h.1
least_one k (item (false ∷ k') r ∷ s) h = absurd (true≢false (sym h.0))
least_one k (item (true ∷ k') r ∷ s) h = least_one k s h.1

-- With no bits left, a key that is not there leaves no other.
pub no_key_empty : (k : Key) (s : List Item) → length k ≡ 0 → Lengths 0 s → NoKey k s → s ≡ []
no_key_empty k [] e h m = refl
no_key_empty [] (item [] r ∷ s) e h m = absurd (true≢false m.0)
no_key_empty [] (item (x ∷ k') r ∷ s) e h m = absurd (omega (arith, h.0))
no_key_empty (x ∷ k) (y ∷ s) e h m = absurd (omega arith)
