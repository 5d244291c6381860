-- Facts that tries have or lack. Assumes nothing.
use mathlib.Core.Path.{◌≡◌, refl}
use mathlib.Core.Bool.{false, true}
use mathlib.Core.Option.{Option, none, some}
use mathlib.Core.List.{◌∷◌, [], reverse_aux}
use Prim.Native.Nat.{ℕ, zero, suc}
use native.Mathlib.Omega.{arith}
use lib.ListN.{length}
use Rattle.leaf_list.specs.Keys.{Key, same_key}
use Rattle.leaf_list.specs.Trie.{Trie, leaf, zero_only, one_only, fork, under_zero, under_one}
use Rattle.leaf_list.proofs.Paths.{Differ}

-- The record of the last leaf.
abbrev pub last_record : Trie → ℕ
last_record (leaf k r) = r
last_record (zero_only t) = last_record t
last_record (one_only t) = last_record t
last_record (fork a b) = last_record b

-- The bits left of the last leaf's key.
abbrev pub last_bits : Trie → Key
last_bits (leaf k r) = k
last_bits (zero_only t) = false ∷ last_bits t
last_bits (one_only t) = true ∷ last_bits t
last_bits (fork a b) = true ∷ last_bits b

-- The node holds more than one key: it is no leaf.
abbrev pub Branching : Trie → Type 0
Branching (leaf k r) = ⊥
Branching (zero_only t) = Unit {0}
Branching (one_only t) = Unit {0}
Branching (fork a b) = Unit {0}

-- By cases: a leaf, or a node with two keys.
pub leaf_or_branching : (P : Trie → Type 0) → ((k : Key) (r : ℕ) → P (leaf k r)) → ((t : Trie) → Branching t → P t) → (t : Trie) → P t
leaf_or_branching P f g (leaf k r) = f k r
leaf_or_branching P f g (zero_only t) = g (zero_only t) tt
leaf_or_branching P f g (one_only t) = g (one_only t) tt
leaf_or_branching P f g (fork a b) = g (fork a b) tt

-- A node with one child has at least two keys below it.
abbrev pub Pruned : Trie → Type 0
Pruned (leaf k r) = Unit {0}
Pruned (zero_only t) = Branching t × Pruned t
Pruned (one_only t) = Branching t × Pruned t
Pruned (fork a b) = Pruned a × Pruned b

-- The trie does not hold the key, which has the bits that the way down asks for.
abbrev pub NotHeld : Key → Trie → Type 0
NotHeld k (leaf k' r) = Differ k k'
NotHeld [] (zero_only t) = ⊥
NotHeld (false ∷ k) (zero_only t) = NotHeld k t
NotHeld (true ∷ k) (zero_only t) = Unit {0}
NotHeld [] (one_only t) = ⊥
NotHeld (false ∷ k) (one_only t) = Unit {0}
NotHeld (true ∷ k) (one_only t) = NotHeld k t
NotHeld [] (fork a b) = ⊥
NotHeld (false ∷ k) (fork a b) = NotHeld k a
NotHeld (true ∷ k) (fork a b) = NotHeld k b

-- The trie holds the key, with the record r.
abbrev pub Held : Key → ℕ → Trie → Type 0
Held k r (leaf k' r') = (same_key k k' ≡ true) × (r ≡ r')
Held [] r (zero_only t) = ⊥
Held (false ∷ k) r (zero_only t) = Held k r t
Held (true ∷ k) r (zero_only t) = ⊥
Held [] r (one_only t) = ⊥
Held (false ∷ k) r (one_only t) = ⊥
Held (true ∷ k) r (one_only t) = Held k r t
Held [] r (fork a b) = ⊥
Held (false ∷ k) r (fork a b) = Held k r a
Held (true ∷ k) r (fork a b) = Held k r b

-- P of every leaf's path, of the bits left of its key and of its record; u is the path to the trie, its last bit first.
abbrev pub EachLeaf : (Key → Key → ℕ → Type 0) → Key → Trie → Type 0
EachLeaf P u (leaf k r) = P u k r
EachLeaf P u (zero_only t) = EachLeaf P (false ∷ u) t
EachLeaf P u (one_only t) = EachLeaf P (true ∷ u) t
EachLeaf P u (fork a b) = EachLeaf P (false ∷ u) a × EachLeaf P (true ∷ u) b

-- The records of the trie have the keys that it says.
abbrev pub KeysIn : (ℕ → Key) → Key → Trie → Type 0
KeysIn key_of = EachLeaf (λ u k r. key_of r ≡ reverse_aux u k)

-- Each key of the trie has n bits left.
abbrev pub Sized : ℕ → Trie → Type 0
Sized n (leaf k r) = length k ≡ n
Sized zero (zero_only t) = ⊥
Sized zero (one_only t) = ⊥
Sized zero (fork a b) = ⊥
Sized (suc n) (zero_only t) = Sized n t
Sized (suc n) (one_only t) = Sized n t
Sized (suc n) (fork a b) = Sized n a × Sized n b

-- The key has the bits that the way down asks for.
abbrev pub Reaches : Key → Trie → Type 0
Reaches k (leaf k' r) = Unit {0}
Reaches [] (zero_only t) = ⊥
Reaches (false ∷ k) (zero_only t) = Reaches k t
Reaches (true ∷ k) (zero_only t) = Unit {0}
Reaches [] (one_only t) = ⊥
Reaches (false ∷ k) (one_only t) = Unit {0}
Reaches (true ∷ k) (one_only t) = Reaches k t
Reaches [] (fork a b) = ⊥
Reaches (false ∷ k) (fork a b) = Reaches k a
Reaches (true ∷ k) (fork a b) = Reaches k b

-- P, asked of a leaf only.
abbrev pub AtLeaf : Type 0 → Trie → Type 0
AtLeaf P (leaf k r) = P
AtLeaf P (zero_only t) = Unit {0}
AtLeaf P (one_only t) = Unit {0}
AtLeaf P (fork a b) = Unit {0}

-- Where P holds.
pub at_leaf : (P : Type 0) (t : Trie) → P → AtLeaf P t
at_leaf P (leaf k r) h = h
at_leaf P (zero_only t) h = tt
at_leaf P (one_only t) h = tt
at_leaf P (fork a b) h = tt

-- Where there is no leaf.
pub at_branching : (P : Type 0) (t : Trie) → Branching t → AtLeaf P t
at_branching P (leaf k r) m = absurd m
at_branching P (zero_only t) m = tt
at_branching P (one_only t) m = tt
at_branching P (fork a b) m = tt

-- A fact of the trie, if there is one.
abbrev pub Given : (Trie → Type 0) → Option Trie → Type 0
Given P none = Unit {0}
Given P (some t) = P t

-- A key as long as those of the trie has the bits that the way down asks for.
pub sized_reaches : (t : Trie) (n : ℕ) (k : Key) → Sized n t → length k ≡ n → Reaches k t
sized_reaches (leaf k' r) n k f h = tt
sized_reaches (zero_only t) zero k f h = absurd f
sized_reaches (one_only t) zero k f h = absurd f
sized_reaches (fork a b) zero k f h = absurd f
sized_reaches (zero_only t) (suc n) [] f h = absurd (omega arith)
sized_reaches (one_only t) (suc n) [] f h = absurd (omega arith)
sized_reaches (fork a b) (suc n) [] f h = absurd (omega arith)
sized_reaches (zero_only t) (suc n) (false ∷ k) f h = sized_reaches t n k f (omega arith)
sized_reaches (zero_only t) (suc n) (true ∷ k) f h = tt
sized_reaches (one_only t) (suc n) (false ∷ k) f h = tt
sized_reaches (one_only t) (suc n) (true ∷ k) f h = sized_reaches t n k f (omega arith)
sized_reaches (fork a b) (suc n) (false ∷ k) f h = sized_reaches a n k f.0 (omega arith)
sized_reaches (fork a b) (suc n) (true ∷ k) f h = sized_reaches b n k f.1 (omega arith)

-- The key of the last leaf's record.
pub key_of_last : (key_of : ℕ → Key) (t : Trie) (u : Key) → KeysIn key_of u t → key_of (last_record t) ≡ reverse_aux u (last_bits t)
key_of_last key_of (leaf k r) u g = g
key_of_last key_of (zero_only t) u g = key_of_last key_of t (false ∷ u) g
key_of_last key_of (one_only t) u g = key_of_last key_of t (true ∷ u) g
key_of_last key_of (fork a b) u g = key_of_last key_of b (true ∷ u) g.1

-- Over two keys, one bit further up is a node with one child.
pub under_zero_branching : (t : Trie) → Branching t → under_zero t ≡ zero_only t
under_zero_branching (leaf k r) m = absurd m
under_zero_branching (zero_only t) m = refl
under_zero_branching (one_only t) m = refl
under_zero_branching (fork a b) m = refl

-- The same on the other side.
pub under_one_branching : (t : Trie) → Branching t → under_one t ≡ one_only t
under_one_branching (leaf k r) m = absurd m
under_one_branching (zero_only t) m = refl
under_one_branching (one_only t) m = refl
under_one_branching (fork a b) m = refl
