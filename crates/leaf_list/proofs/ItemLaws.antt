-- Search, insertion and deletion in the written trie of a list of keys. Assumes nothing.
use mathlib.Core.Path.{◌≡◌, refl, ◌∙◌, ap, sym}
use mathlib.Core.Bool.{false, true}
use mathlib.Core.Option.{Option, none, some}
use mathlib.Core.List.{[], List, ◌∷◌, reverse_aux}
use Prim.Native.Nat.{ℕ, suc}
use native.Mathlib.Omega.{arith}
use lib.ListN.{length}
use Rattle.leaf_list.specs.Keys.{Key, same_key}
use Rattle.leaf_list.specs.Entries.{Entry}
use Rattle.leaf_list.specs.LeafList.{Item, item}
use Rattle.leaf_list.specs.Trie.{Trie, write_all, leaf, zero_only, one_only, fork, trie_of, write}
use Rattle.leaf_list.specs.Search.{pointer_at, compared, find}
use Rattle.leaf_list.specs.Insertion.{insertion}
use Rattle.leaf_list.specs.Deletion.{deletion}
use Rattle.leaf_list.proofs.Bits.{same_key_refl}
use Rattle.leaf_list.proofs.Paths.{same_key_path, differ_same_key}
use Rattle.leaf_list.proofs.Tries.{Given, Reaches, NotHeld, Pruned, KeysIn, at_leaf, Held, Branching, leaf_or_branching, key_of_last, last_bits}
use Rattle.leaf_list.proofs.Places.{stops_shallow, search_node, remaining}
use Rattle.leaf_list.proofs.TrieInsertion.{insert_node, insert_trie}
use Rattle.leaf_list.proofs.TrieDeletion.{Deletes, delete_trie, delete_node, write_left}
use Rattle.leaf_list.proofs.Items.{Lengths, NoKey, ItemKeys}
use Rattle.leaf_list.proofs.TrieOf.{trie_of_reaches, trie_of_not_held, trie_of_pruned, trie_of_keys}
use Rattle.leaf_list.proofs.TrieChange.{insert_option, With, trie_of_insert, insert_trie_held, delete_trie_insert}

-- Insertion into the entries of a whole trie.
pub insertion_trie : (key_of : ℕ → Key) (o : Option Trie) (k : Key) (r : ℕ) → Given (Reaches k) o → Given (NotHeld k) o → Given Pruned o
    → Given (KeysIn key_of []) o
    → insertion key_of k r (write_all o) ≡ write_all (insert_option k r o)
insertion_trie key_of none k r y f g q = rw (stops_shallow k 0 0 none [] [] (omega arith))
insertion_trie key_of (some t) k r y f g q =
    rw (search_node t k 0 0 [] [] y (omega arith))
    (insert_node key_of t [] k r 0 [] [] f g q (omega arith) (omega arith) (at_leaf _ t refl))

-- Deletion at the found entry, from two keys or more.
pub deletion_branching : (t : Trie) (k : Key) (r : ℕ) → Held k r t → Branching t → Pruned t
    → Deletes t k 0 0 [] [] (write_all (delete_trie k t))
deletion_branching t k r y m g = delete_node t k r 0 0 [] [] y m g (omega arith) (omega arith) ∙ plain (delete_trie k t)
  where
    plain : (o : Option Trie) → write_left 0 o 0 [] [] ≡ write_all o
    plain none = refl
    plain (some (leaf k r)) = refl
    plain (some (zero_only t)) = refl
    plain (some (one_only t)) = refl
    plain (some (fork a b)) = refl

-- Deletion at the found entry; a sole entry becomes (0, NIL).
pub deletion_found : (t : Trie) (k : Key) (r : ℕ) → Held k r t → Pruned t → Deletes t k 0 0 [] [] (write_all (delete_trie k t))
deletion_found t k r =
    leaf_or_branching (λ t. Held k r t → Pruned t → Deletes t k 0 0 [] [] (write_all (delete_trie k t))) (λ k' r' y g. rw y.0)
    (λ t m y g. deletion_branching t k r y m g) t

-- Deletion from the entries of a whole trie.
pub deletion_trie : (t : Trie) (k : Key) (r : ℕ) → Reaches k t → Held k r t → Pruned t → deletion k (write_all (some t)) ≡ write_all (delete_trie k t)
deletion_trie t k r z y g = rw (search_node t k 0 0 [] [] z (omega arith)) (deletion_found t k r y g)

-- Insertion gives the entries of the list with the key.
pub insertion_items : (key_of : ℕ → Key) (n : ℕ) (k : Key) (r : ℕ) (s s' : List Item) → With (item k r) s s' → length k ≡ n → Lengths n s → NoKey k s
    → ItemKeys key_of [] s
    → insertion key_of k r (write_all (trie_of n s)) ≡ write_all (trie_of n s')
insertion_items key_of n k r s s' i e h m q =
    insertion_trie key_of (trie_of n s) k r (trie_of_reaches n k s e h) (trie_of_not_held n k s e h m) (trie_of_pruned n s) (trie_of_keys key_of n [] s q)
    ∙ ap write_all (sym (trie_of_insert n k r s s' i e h m))

-- Deletion takes back an insertion.
pub deletion_back : (o : Option Trie) (k : Key) (r : ℕ) → Given (NotHeld k) o → Given Pruned o → Given (Reaches k) (insert_option k r o)
    → Given Pruned (insert_option k r o)
    → deletion k (write_all (insert_option k r o)) ≡ write_all o
deletion_back none k r f g z g' = deletion_trie (leaf k r) k r z (same_key_refl k, refl) tt ∙ rw (same_key_refl k)
deletion_back (some t) k r f g z g' = deletion_trie (insert_trie k r t) k r z (insert_trie_held t k r f) g' ∙ ap write_all (delete_trie_insert t k r f g)

-- Deletion gives the entries of the list without the key.
pub deletion_items : (n : ℕ) (k : Key) (r : ℕ) (s s' : List Item) → With (item k r) s s' → length k ≡ n → Lengths n s → Lengths n s' → NoKey k s
    → deletion k (write_all (trie_of n s')) ≡ write_all (trie_of n s)
deletion_items n k r s s' i e h h' m =
    let w : trie_of n s' ≡ insert_option k r (trie_of n s) = trie_of_insert n k r s s' i e h m in
    rw w (deletion_back (trie_of n s) k r (trie_of_not_held n k s e h m) (trie_of_pruned n s) (rw w at (trie_of_reaches n k s' e h')) (rw w at (trie_of_pruned n s')))

-- The found entry of a held key has its record.
pub remaining_held : (t : Trie) (k : Key) (r l c : ℕ) (rest : List Entry) → Held k r t → pointer_at (remaining l t k c rest) ≡ some r
remaining_held (leaf k' r') k r l c rest y = ap some (sym y.1)
remaining_held (zero_only t) [] r l c rest y = absurd y
remaining_held (zero_only t) (false ∷ k) r l c rest y = remaining_held t k r (suc l) c rest y
remaining_held (zero_only t) (true ∷ k) r l c rest y = absurd y
remaining_held (one_only t) [] r l c rest y = absurd y
remaining_held (one_only t) (false ∷ k) r l c rest y = absurd y
remaining_held (one_only t) (true ∷ k) r l c rest y = remaining_held t k r (suc l) c rest y
remaining_held (fork a b) [] r l c rest y = absurd y
remaining_held (fork a b) (false ∷ k) r l c rest y = remaining_held a k r (suc l) (suc l) (write (suc l) b c rest) y
remaining_held (fork a b) (true ∷ k) r l c rest y = remaining_held b k r (suc l) c rest y

-- The found entry of a key that is not held has another key's record or none.
pub remaining_not_held : (key_of : ℕ → Key) (t : Trie) (u k : Key) (l c : ℕ) (rest : List Entry) → NotHeld k t → KeysIn key_of u t
    → compared key_of (reverse_aux u k) (pointer_at (remaining l t k c rest)) ≡ none
remaining_not_held key_of (leaf k' r') u k l c rest f q = rw (q, same_key_path u k k', differ_same_key k k' f)
remaining_not_held key_of (zero_only t) u [] l c rest f q = absurd f
remaining_not_held key_of (zero_only t) u (false ∷ k) l c rest f q = remaining_not_held key_of t (false ∷ u) k (suc l) c rest f q
remaining_not_held key_of (zero_only t) u (true ∷ k) l c rest f q = rw (key_of_last key_of t (false ∷ u) q, same_key_path u (true ∷ k) (false ∷ last_bits t))
remaining_not_held key_of (one_only t) u [] l c rest f q = absurd f
remaining_not_held key_of (one_only t) u (false ∷ k) l c rest f q = refl
remaining_not_held key_of (one_only t) u (true ∷ k) l c rest f q = remaining_not_held key_of t (true ∷ u) k (suc l) c rest f q
remaining_not_held key_of (fork a b) u [] l c rest f q = absurd f
remaining_not_held key_of (fork a b) u (false ∷ k) l c rest f q = remaining_not_held key_of a (false ∷ u) k (suc l) (suc l) (write (suc l) b c rest) f q.0
remaining_not_held key_of (fork a b) u (true ∷ k) l c rest f q = remaining_not_held key_of b (true ∷ u) k (suc l) c rest f q.1

-- A key that a trie does not hold is not found.
pub find_trie_missing : (key_of : ℕ → Key) (o : Option Trie) (k : Key) → Given (Reaches k) o → Given (NotHeld k) o → Given (KeysIn key_of []) o
    → find key_of k (write_all o) ≡ none
find_trie_missing key_of none k y f q = rw (stops_shallow k 0 0 none [] [] (omega arith))
find_trie_missing key_of (some t) k y f q = rw (search_node t k 0 0 [] [] y (omega arith)) (remaining_not_held key_of t [] k 0 0 [] f q)

-- A key that a trie holds is found.
pub find_trie_held : (key_of : ℕ → Key) (t : Trie) (k : Key) (r : ℕ) → Reaches k t → Held k r t → same_key k (key_of r) ≡ true
    → find key_of k (write_all (some t)) ≡ some r
find_trie_held key_of t k r z y e = rw (search_node t k 0 0 [] [] z (omega arith), remaining_held t k r 0 0 [] y, e)

-- An inserted key is found.
pub find_inserted : (key_of : ℕ → Key) (o : Option Trie) (k : Key) (r : ℕ) → Given (Reaches k) (insert_option k r o) → Given (NotHeld k) o
    → same_key k (key_of r) ≡ true
    → find key_of k (write_all (insert_option k r o)) ≡ some r
find_inserted key_of none k r z f e = find_trie_held key_of (leaf k r) k r z (same_key_refl k, refl) e
find_inserted key_of (some t) k r z f e = find_trie_held key_of (insert_trie k r t) k r z (insert_trie_held t k r f) e

-- A key that is not there is not found.
pub find_missing : (key_of : ℕ → Key) (n : ℕ) (k : Key) (s : List Item) → length k ≡ n → Lengths n s → NoKey k s → ItemKeys key_of [] s
    → find key_of k (write_all (trie_of n s)) ≡ none
find_missing key_of n k s e h m q = find_trie_missing key_of (trie_of n s) k (trie_of_reaches n k s e h) (trie_of_not_held n k s e h m) (trie_of_keys key_of n [] s q)

-- A key that is there is found.
pub find_held : (key_of : ℕ → Key) (n : ℕ) (k : Key) (r : ℕ) (s s' : List Item) → With (item k r) s s' → length k ≡ n → Lengths n s → Lengths n s'
    → NoKey k s → key_of r ≡ k
    → find key_of k (write_all (trie_of n s')) ≡ some r
find_held key_of n k r s s' i e h h' m q =
    let w : trie_of n s' ≡ insert_option k r (trie_of n s) = trie_of_insert n k r s s' i e h m in
    rw w (find_inserted key_of (trie_of n s) k r (rw w at (trie_of_reaches n k s' e h')) (trie_of_not_held n k s e h m) (rw q (same_key_refl k)))
