-- The trie of a list with one key more. Assumes nothing.
use mathlib.Core.Path.{◌≡◌, refl, ap, ◌∙◌, sym, ap₂}
use mathlib.Core.Bool.{false, true}
use mathlib.Core.Option.{Option, none, some}
use mathlib.Core.List.{List, ◌∷◌, [], cons≢nil}
use Prim.Native.Nat.{ℕ, zero, suc}
use native.Mathlib.Omega.{arith}
use lib.ListN.{length}
use Rattle.leaf_list.specs.Keys.{Key}
use Rattle.leaf_list.specs.LeafList.{Item, item}
use Rattle.leaf_list.specs.Trie.{Trie, leaf, zero_only, one_only, fork, under_zero, under_one, join, zero_side, one_side, trie_of}
use Rattle.leaf_list.proofs.Bits.{same_key_refl}
use Rattle.leaf_list.proofs.Paths.{Differ}
use Rattle.leaf_list.proofs.Tries.{Branching, NotHeld, Given, under_zero_branching, under_one_branching, Held, Pruned}
use Rattle.leaf_list.proofs.TrieInsertion.{insert_trie, two_leaves}
use Rattle.leaf_list.proofs.TrieDeletion.{delete_trie}
use Rattle.leaf_list.proofs.Items.{Lengths, NoKey, no_key_empty, lengths_zero, no_key_zero, lengths_one, no_key_one}
use Rattle.leaf_list.proofs.TrieOf.{trie_of_suc, trie_of_not_held, trie_of_nil}

-- s' is s with x in it once more.
pub data With (x : Item) : List Item → List Item → Type 0 where
  here : {s : List Item} → With x s (x ∷ s)
  there : {y : Item} {s s' : List Item} → With x s s' → With x (y ∷ s) (y ∷ s')

-- A key put into what may be no trie.
abbrev pub insert_option : Key → ℕ → Option Trie → Option Trie
insert_option k r none = some (leaf k r)
insert_option k r (some t) = some (insert_trie k r t)

-- Two keys branch.
pub two_leaves_branching : (k k' : Key) (r r' : ℕ) → Differ k k' → Branching (two_leaves k r k' r')
two_leaves_branching [] k' r r' a = absurd a
two_leaves_branching (false ∷ k) [] r r' a = absurd a
two_leaves_branching (false ∷ k) (false ∷ k') r r' a = tt
two_leaves_branching (false ∷ k) (true ∷ k') r r' a = tt
two_leaves_branching (true ∷ k) [] r r' a = absurd a
two_leaves_branching (true ∷ k) (false ∷ k') r r' a = tt
two_leaves_branching (true ∷ k) (true ∷ k') r r' a = tt

-- A trie with a key more branches.
pub insert_trie_branching : (t : Trie) (k : Key) (r : ℕ) → NotHeld k t → Branching (insert_trie k r t)
insert_trie_branching (leaf k' r') k r f = two_leaves_branching k k' r r' f
insert_trie_branching (zero_only t) [] r f = tt
insert_trie_branching (zero_only t) (false ∷ k) r f = tt
insert_trie_branching (zero_only t) (true ∷ k) r f = tt
insert_trie_branching (one_only t) [] r f = tt
insert_trie_branching (one_only t) (false ∷ k) r f = tt
insert_trie_branching (one_only t) (true ∷ k) r f = tt
insert_trie_branching (fork a b) [] r f = tt
insert_trie_branching (fork a b) (false ∷ k) r f = tt
insert_trie_branching (fork a b) (true ∷ k) r f = tt

-- Insertion one bit further up.
pub insert_trie_under_zero : (t : Trie) (k : Key) (r : ℕ) → insert_trie (false ∷ k) r (under_zero t) ≡ zero_only (insert_trie k r t)
insert_trie_under_zero (leaf k' r') k r = refl
insert_trie_under_zero (zero_only t) k r = refl
insert_trie_under_zero (one_only t) k r = refl
insert_trie_under_zero (fork a b) k r = refl

-- The same on the other side.
pub insert_trie_under_one : (t : Trie) (k : Key) (r : ℕ) → insert_trie (true ∷ k) r (under_one t) ≡ one_only (insert_trie k r t)
insert_trie_under_one (leaf k' r') k r = refl
insert_trie_under_one (zero_only t) k r = refl
insert_trie_under_one (one_only t) k r = refl
insert_trie_under_one (fork a b) k r = refl

-- Insertion on the 0-side.
pub join_insert_zero : (k : Key) (r : ℕ) (a b : Option Trie) → Given (NotHeld k) a → join (insert_option k r a) b ≡ insert_option (false ∷ k) r (join a b)
join_insert_zero k r none none f = refl
join_insert_zero k r none (some (leaf k' r')) f = refl
join_insert_zero k r none (some (zero_only t)) f = refl
join_insert_zero k r none (some (one_only t)) f = refl
join_insert_zero k r none (some (fork a b)) f = refl
join_insert_zero k r (some t) none f = ap some (under_zero_branching (insert_trie k r t) (insert_trie_branching t k r f) ∙ sym (insert_trie_under_zero t k r))
join_insert_zero k r (some a) (some b) f = refl

-- Insertion on the 1-side.
pub join_insert_one : (k : Key) (r : ℕ) (a b : Option Trie) → Given (NotHeld k) b → join a (insert_option k r b) ≡ insert_option (true ∷ k) r (join a b)
join_insert_one k r none none f = refl
join_insert_one k r (some (leaf k' r')) none f = refl
join_insert_one k r (some (zero_only t)) none f = refl
join_insert_one k r (some (one_only t)) none f = refl
join_insert_one k r (some (fork a b)) none f = refl
join_insert_one k r none (some t) f = ap some (under_one_branching (insert_trie k r t) (insert_trie_branching t k r f) ∙ sym (insert_trie_under_one t k r))
join_insert_one k r (some a) (some b) f = refl

-- The key stands on its side.
pub with_zero_side : {k : Key} {r : ℕ} {s s' : List Item} → With (item (false ∷ k) r) s s' → With (item k r) (zero_side s) (zero_side s')
with_zero_side here = here
with_zero_side (there {y = item [] r} i) = with_zero_side i
with_zero_side (there {y = item (false ∷ k) r} i) = there (with_zero_side i)
with_zero_side (there {y = item (true ∷ k) r} i) = with_zero_side i

-- The same for the other side.
pub with_one_side : {k : Key} {r : ℕ} {s s' : List Item} → With (item (true ∷ k) r) s s' → With (item k r) (one_side s) (one_side s')
with_one_side here = here
with_one_side (there {y = item [] r} i) = with_one_side i
with_one_side (there {y = item (false ∷ k) r} i) = with_one_side i
with_one_side (there {y = item (true ∷ k) r} i) = there (with_one_side i)

-- A key of the 0-side is not on the 1-side.
pub one_side_same : {k : Key} {r : ℕ} {s s' : List Item} → With (item (false ∷ k) r) s s' → one_side s' ≡ one_side s
one_side_same here = refl
one_side_same (there {y = item [] r} i) = one_side_same i
one_side_same (there {y = item (false ∷ k) r} i) = one_side_same i
one_side_same (there {y = item (true ∷ k) r} i) = ap (λ (x : List Item). item k r ∷ x) (one_side_same i)

-- A key of the 1-side is not on the 0-side.
pub zero_side_same : {k : Key} {r : ℕ} {s s' : List Item} → With (item (true ∷ k) r) s s' → zero_side s' ≡ zero_side s
zero_side_same here = refl
zero_side_same (there {y = item [] r} i) = zero_side_same i
zero_side_same (there {y = item (false ∷ k) r} i) = ap (λ (x : List Item). item k r ∷ x) (zero_side_same i)
zero_side_same (there {y = item (true ∷ k) r} i) = zero_side_same i

-- With no bits left there is one key.
pub trie_of_only : {k : Key} {r : ℕ} {s s' : List Item} → With (item k r) s s' → s ≡ [] → trie_of 0 s' ≡ some (leaf k r)
trie_of_only here e = refl
trie_of_only (there i) e = absurd (cons≢nil e)

-- The trie of a list with one key more is the trie with the key.
pub trie_of_insert : (n : ℕ) (k : Key) (r : ℕ) (s s' : List Item) → With (item k r) s s' → length k ≡ n → Lengths n s → NoKey k s
    → trie_of n s' ≡ insert_option k r (trie_of n s)
trie_of_insert zero k r s s' i e h m = trie_of_only i (no_key_empty k s e h m) ∙ rw (no_key_empty k s e h m)
trie_of_insert (suc n) [] r s s' i e h m = absurd (omega arith)
trie_of_insert (suc n) (false ∷ k) r s s' i e h m =
    trie_of_suc n s'
    ∙ ap₂ join (trie_of_insert n k r (zero_side s) (zero_side s') (with_zero_side i) (omega arith) (lengths_zero n s h) (no_key_zero k s m))
    (ap (trie_of n) (one_side_same i))
    ∙ join_insert_zero k r (trie_of n (zero_side s)) (trie_of n (one_side s))
    (trie_of_not_held n k (zero_side s) (omega arith) (lengths_zero n s h) (no_key_zero k s m))
    ∙ ap (insert_option (false ∷ k) r) (sym (trie_of_suc n s))
trie_of_insert (suc n) (true ∷ k) r s s' i e h m =
    trie_of_suc n s'
    ∙ ap₂ join (ap (trie_of n) (zero_side_same i))
    (trie_of_insert n k r (one_side s) (one_side s') (with_one_side i) (omega arith) (lengths_one n s h) (no_key_one k s m))
    ∙ join_insert_one k r (trie_of n (zero_side s)) (trie_of n (one_side s)) (trie_of_not_held n k (one_side s) (omega arith) (lengths_one n s h) (no_key_one k s m))
    ∙ ap (insert_option (true ∷ k) r) (sym (trie_of_suc n s))

-- The trie of one key is a leaf.
pub trie_of_single : (n : ℕ) (k : Key) (r : ℕ) → length k ≡ n → trie_of n (item k r ∷ []) ≡ some (leaf k r)
trie_of_single n k r e = trie_of_insert n k r [] (item k r ∷ []) here e tt tt ∙ rw (trie_of_nil n)

-- The new one of two keys is held.
pub two_leaves_held : (k k' : Key) (r r' : ℕ) → Differ k k' → Held k r (two_leaves k r k' r')
two_leaves_held [] k' r r' a = absurd a
two_leaves_held (false ∷ k) [] r r' a = absurd a
two_leaves_held (false ∷ k) (false ∷ k') r r' a = two_leaves_held k k' r r' a
two_leaves_held (false ∷ k) (true ∷ k') r r' a = (same_key_refl k, refl)
two_leaves_held (true ∷ k) [] r r' a = absurd a
two_leaves_held (true ∷ k) (false ∷ k') r r' a = (same_key_refl k, refl)
two_leaves_held (true ∷ k) (true ∷ k') r r' a = two_leaves_held k k' r r' a

-- The inserted key is held.
pub insert_trie_held : (t : Trie) (k : Key) (r : ℕ) → NotHeld k t → Held k r (insert_trie k r t)
insert_trie_held (leaf k' r') k r f = two_leaves_held k k' r r' f
insert_trie_held (zero_only t) [] r f = f
insert_trie_held (zero_only t) (false ∷ k) r f = insert_trie_held t k r f
insert_trie_held (zero_only t) (true ∷ k) r f = (same_key_refl k, refl)
insert_trie_held (one_only t) [] r f = f
insert_trie_held (one_only t) (false ∷ k) r f = (same_key_refl k, refl)
insert_trie_held (one_only t) (true ∷ k) r f = insert_trie_held t k r f
insert_trie_held (fork a b) [] r f = f
insert_trie_held (fork a b) (false ∷ k) r f = insert_trie_held a k r f
insert_trie_held (fork a b) (true ∷ k) r f = insert_trie_held b k r f

-- Of two keys, deletion leaves the other.
pub delete_trie_two_leaves : (k k' : Key) (r r' : ℕ) → Differ k k' → delete_trie k (two_leaves k r k' r') ≡ some (leaf k' r')
delete_trie_two_leaves [] k' r r' a = absurd a
delete_trie_two_leaves (false ∷ k) [] r r' a = absurd a
delete_trie_two_leaves (false ∷ k) (false ∷ k') r r' a = rw (delete_trie_two_leaves k k' r r' a)
delete_trie_two_leaves (false ∷ k) (true ∷ k') r r' a = rw (same_key_refl k)
delete_trie_two_leaves (true ∷ k) [] r r' a = absurd a
delete_trie_two_leaves (true ∷ k) (false ∷ k') r r' a = rw (same_key_refl k)
delete_trie_two_leaves (true ∷ k) (true ∷ k') r r' a = rw (delete_trie_two_leaves k k' r r' a)

-- Deletion undoes insertion.
pub delete_trie_insert : (t : Trie) (k : Key) (r : ℕ) → NotHeld k t → Pruned t → delete_trie k (insert_trie k r t) ≡ some t
delete_trie_insert (leaf k' r') k r f g = delete_trie_two_leaves k k' r r' f
delete_trie_insert (zero_only t) [] r f g = absurd f
delete_trie_insert (zero_only t) (false ∷ k) r f g = rw (delete_trie_insert t k r f g.1) (ap some (under_zero_branching t g.0))
delete_trie_insert (zero_only t) (true ∷ k) r f g = rw (same_key_refl k) (ap some (under_zero_branching t g.0))
delete_trie_insert (one_only t) [] r f g = absurd f
delete_trie_insert (one_only t) (false ∷ k) r f g = rw (same_key_refl k) (ap some (under_one_branching t g.0))
delete_trie_insert (one_only t) (true ∷ k) r f g = rw (delete_trie_insert t k r f g.1) (ap some (under_one_branching t g.0))
delete_trie_insert (fork a b) [] r f g = absurd f
delete_trie_insert (fork a b) (false ∷ k) r f g = rw (delete_trie_insert a k r f g.0)
delete_trie_insert (fork a b) (true ∷ k) r f g = rw (delete_trie_insert b k r f g.1)
