-- The trie of a list of keys. Assumes nothing.
use mathlib.Core.Path.{◌≡◌, refl, ap}
use mathlib.Core.Bool.{false, true}
use mathlib.Core.Option.{none, Option, some}
use mathlib.Core.List.{[], List, ◌∷◌}
use Prim.Native.Nat.{ℕ, zero, suc}
use native.Mathlib.Omega.{arith}
use lib.ListN.{length}
use Rattle.leaf_list.specs.Keys.{Key}
use Rattle.leaf_list.specs.LeafList.{Item, item}
use Rattle.leaf_list.specs.Trie.{trie_of, join, zero_side, one_side, Trie, leaf, zero_only, one_only, fork}
use Rattle.leaf_list.proofs.Tries.{Branching, Given, Pruned, Sized, Reaches, sized_reaches, NotHeld, KeysIn}
use Rattle.leaf_list.proofs.Items.{Lengths, lengths_zero, lengths_one, NoKey, no_key_empty, no_key_zero, no_key_one, ItemKeys, item_keys_zero, item_keys_one}

-- No keys, no trie.
pub trie_of_nil : (n : ℕ) → trie_of n [] ≡ none
trie_of_nil zero = refl
trie_of_nil (suc n) = refl

-- The trie by its two sides, for every list.
pub trie_of_suc : (n : ℕ) (s : List Item) → trie_of (suc n) s ≡ join (trie_of n (zero_side s)) (trie_of n (one_side s))
trie_of_suc n [] = rw (trie_of_nil n)
trie_of_suc n (x ∷ s) = refl

-- A fact C of a joined trie, from A of its 0-side and B of its 1-side: a leaf stays a leaf, and only over two keys stands a node with one child.
pub given_join : (A B C : Trie → Type 0)
    → ((k : Key) (r : ℕ) → A (leaf k r) → C (leaf (false ∷ k) r)) → ((t : Trie) → Branching t → A t → C (zero_only t))
    → ((k : Key) (r : ℕ) → B (leaf k r) → C (leaf (true ∷ k) r)) → ((t : Trie) → Branching t → B t → C (one_only t))
    → ((a b : Trie) → A a → B b → C (fork a b)) → (a b : Option Trie) → Given A a → Given B b → Given C (join a b)
given_join A B C zl zn ol on both none none g h = tt
given_join A B C zl zn ol on both (some (leaf k r)) none g h = zl k r g
given_join A B C zl zn ol on both (some (zero_only t)) none g h = zn (zero_only t) tt g
given_join A B C zl zn ol on both (some (one_only t)) none g h = zn (one_only t) tt g
given_join A B C zl zn ol on both (some (fork a b)) none g h = zn (fork a b) tt g
given_join A B C zl zn ol on both none (some (leaf k r)) g h = ol k r h
given_join A B C zl zn ol on both none (some (zero_only t)) g h = on (zero_only t) tt h
given_join A B C zl zn ol on both none (some (one_only t)) g h = on (one_only t) tt h
given_join A B C zl zn ol on both none (some (fork a b)) g h = on (fork a b) tt h
given_join A B C zl zn ol on both (some a) (some b) g h = both a b g h

-- A fact that every trie has.
pub given_any : (P : Trie → Type 0) → ((t : Trie) → P t) → (o : Option Trie) → Given P o
given_any P f none = tt
given_any P f (some t) = f t

-- The trie of a list is pruned.
pub trie_of_pruned : (n : ℕ) (s : List Item) → Given Pruned (trie_of n s)
trie_of_pruned zero [] = tt
trie_of_pruned zero (item k r ∷ s) = tt
trie_of_pruned (suc n) s =
    rw (trie_of_suc n s)
    (given_join Pruned Pruned Pruned (λ k r g. tt) (λ t m g. (m, g)) (λ k r g. tt) (λ t m g. (m, g)) (λ a b g h. (g, h)) (trie_of n (zero_side s)) (trie_of n (one_side s))
    (trie_of_pruned n (zero_side s)) (trie_of_pruned n (one_side s)))

-- The trie of keys of n bits has n bits.
pub trie_of_sized : (n : ℕ) (s : List Item) → Lengths n s → Given (Sized n) (trie_of n s)
trie_of_sized zero [] h = tt
trie_of_sized zero (item k r ∷ s) h = h.0
trie_of_sized (suc n) s h =
    rw (trie_of_suc n s)
    (given_join (Sized n) (Sized n) (Sized (suc n)) (λ k r f. ap suc f) (λ t m f. f) (λ k r f. ap suc f) (λ t m f. f) (λ a b f g. (f, g)) (trie_of n (zero_side s))
    (trie_of n (one_side s)) (trie_of_sized n (zero_side s) (lengths_zero n s h)) (trie_of_sized n (one_side s) (lengths_one n s h)))

-- A key of n bits has the bits that the way down asks for.
pub trie_of_reaches : (n : ℕ) (k : Key) (s : List Item) → length k ≡ n → Lengths n s → Given (Reaches k) (trie_of n s)
trie_of_reaches n k s e h = go (trie_of n s) (trie_of_sized n s h)
  where
    go : (o : Option Trie) → Given (Sized n) o → Given (Reaches k) o
    go none f = tt
    go (some t) f = sized_reaches t n k f e

-- A key that is not there is not held by the trie.
pub trie_of_not_held : (n : ℕ) (k : Key) (s : List Item) → length k ≡ n → Lengths n s → NoKey k s → Given (NotHeld k) (trie_of n s)
trie_of_not_held zero k s e h m = rw (no_key_empty k s e h m) tt
trie_of_not_held (suc n) [] s e h m = absurd (omega arith)
trie_of_not_held (suc n) (false ∷ k) s e h m =
    rw (trie_of_suc n s)
    (given_join (NotHeld k) (λ t. Unit {0}) (NotHeld (false ∷ k)) (λ k' r f. f) (λ t y f. f) (λ k' r f. tt) (λ t y f. tt) (λ a b f g. f) (trie_of n (zero_side s))
    (trie_of n (one_side s)) (trie_of_not_held n k (zero_side s) (omega arith) (lengths_zero n s h) (no_key_zero k s m))
    (given_any (λ t. Unit {0}) (λ t. tt) (trie_of n (one_side s))))
trie_of_not_held (suc n) (true ∷ k) s e h m =
    rw (trie_of_suc n s)
    (given_join (λ t. Unit {0}) (NotHeld k) (NotHeld (true ∷ k)) (λ k' r f. tt) (λ t y f. tt) (λ k' r f. f) (λ t y f. f) (λ a b f g. g) (trie_of n (zero_side s))
    (trie_of n (one_side s)) (given_any (λ t. Unit {0}) (λ t. tt) (trie_of n (zero_side s)))
    (trie_of_not_held n k (one_side s) (omega arith) (lengths_one n s h) (no_key_one k s m)))

-- The records of the trie have their keys.
pub trie_of_keys : (key_of : ℕ → Key) (n : ℕ) (u : Key) (s : List Item) → ItemKeys key_of u s → Given (KeysIn key_of u) (trie_of n s)
trie_of_keys key_of zero u [] h = tt
trie_of_keys key_of zero u (item k r ∷ s) h = h.0
trie_of_keys key_of (suc n) u s h =
    rw (trie_of_suc n s)
    (given_join (KeysIn key_of (false ∷ u)) (KeysIn key_of (true ∷ u)) (KeysIn key_of u) (λ k r g. g) (λ t m g. g) (λ k r g. g) (λ t m g. g) (λ a b g h. (g, h))
    (trie_of n (zero_side s)) (trie_of n (one_side s)) (trie_of_keys key_of n (false ∷ u) (zero_side s) (item_keys_zero key_of u s h))
    (trie_of_keys key_of n (true ∷ u) (one_side s) (item_keys_one key_of u s h)))
