-- The live entries that a search passes have smaller keys. Assumes nothing.
use mathlib.Core.Path.{◌≡◌, sym, ◌∙◌}
use mathlib.Core.Bool.{true, false}
use mathlib.Core.Option.{some, none, Option}
use mathlib.Core.List.{List, reverse_aux, ◌∷◌, []}
use Prim.Native.Nat.{ℕ, suc, ◌<◌, ◌^◌}
use native.Mathlib.Omega.{arith}
use lib.ListN.{take}
use borrow.Author.Tests.{ltb-true}
use Rattle.leaf_list.specs.Keys.{Key, below, bits}
use Rattle.leaf_list.specs.Entries.{Entry, live_records, entry}
use Rattle.leaf_list.specs.Herd.{Herd, KeysOf}
use Rattle.leaf_list.specs.LeafList.{items}
use Rattle.leaf_list.specs.Trie.{Trie, leaf, zero_only, one_only, fork, write_all, trie_list, trie_of}
use Rattle.leaf_list.specs.Search.{search, positions}
use Rattle.leaf_list.proofs.Lists.{All, all_weaker}
use Rattle.leaf_list.proofs.Bits.{bits_length, below_bits}
use Rattle.leaf_list.proofs.Paths.{below_path}
use Rattle.leaf_list.proofs.Tries.{KeysIn, last_record, Given, Reaches}
use Rattle.leaf_list.proofs.Places.{pass_front, passed, stops_shallow, search_node}
use Rattle.leaf_list.proofs.TrieOf.{trie_of_reaches, trie_of_keys}
use Rattle.leaf_list.proofs.HerdItems.{items_lengths, items_keys}
use Rattle.leaf_list.proofs.Indexed.{found_index, search_index}

-- Every live entry's record has a key below K.
abbrev pub LiveBelow : (ℕ → Key) → Key → List Entry → Type 0
LiveBelow key_of K es = All (λ r. below (key_of r) K ≡ true) (live_records es)

module _ (key_of : ℕ → Key) (K : Key) where
  -- The entries of a node all of whose keys are below K.
  pub front_below : (t : Trie) (v : Key) (l : ℕ) (before : List Entry) → ((e : Key) → below (reverse_aux v e) K ≡ true) → KeysIn key_of v t → LiveBelow key_of K before
      → LiveBelow key_of K (entry l (some (last_record t)) ∷ pass_front l t before)
  front_below (leaf k r) v l before o q h = (rw q (o k), h)
  front_below (zero_only t) v l before o q h = front_below t (false ∷ v) (suc l) before (λ e. o (false ∷ e)) q h
  front_below (one_only t) v l before o q h = front_below t (true ∷ v) (suc l) (entry (suc l) none ∷ before) (λ e. o (true ∷ e)) q h
  front_below (fork a b) v l before o q h =
      front_below b (true ∷ v) (suc l) (entry (suc l) (some (last_record a)) ∷ pass_front (suc l) a before) (λ e. o (true ∷ e)) q.1
      (front_below a (false ∷ v) (suc l) before (λ e. o (false ∷ e)) q.0 h)

module _ (key_of : ℕ → Key) where
  -- The entries that a search passes in a node.
  pub passed_below : (t : Trie) (u k : Key) (l : ℕ) (before : List Entry) → KeysIn key_of u t → LiveBelow key_of (reverse_aux u k) before
      → LiveBelow key_of (reverse_aux u k) (passed l t k before)
  passed_below (leaf k' r) u k l before q h = h
  passed_below (zero_only t) u [] l before q h = h
  passed_below (zero_only t) u (false ∷ k) l before q h = passed_below t (false ∷ u) k (suc l) before q h
  passed_below (zero_only t) u (true ∷ k) l before q h =
      (front_below key_of (reverse_aux u (true ∷ k)) t (false ∷ u) (suc l) before (λ e. below_path u (false ∷ e) (true ∷ k)) q h).1
  passed_below (one_only t) u [] l before q h = h
  passed_below (one_only t) u (false ∷ k) l before q h = h
  passed_below (one_only t) u (true ∷ k) l before q h = passed_below t (true ∷ u) k (suc l) (entry (suc l) none ∷ before) q h
  passed_below (fork a b) u [] l before q h = h
  passed_below (fork a b) u (false ∷ k) l before q h = passed_below a (false ∷ u) k (suc l) before q.0 h
  passed_below (fork a b) u (true ∷ k) l before q h =
      passed_below b (true ∷ u) k (suc l) (entry (suc l) (some (last_record a)) ∷ pass_front (suc l) a before) q.1
      (front_below key_of (reverse_aux u (true ∷ k)) a (false ∷ u) (suc l) before (λ e. below_path u (false ∷ e) (true ∷ k)) q.0 h)

  -- In a whole trie.
  pub passed_trie : (o : Option Trie) (k : Key) → Given (Reaches k) o → Given (KeysIn key_of []) o → LiveBelow key_of k (search [] (positions 0 k) (write_all o)).0
  passed_trie none k y q = rw (stops_shallow k 0 0 none [] [] (omega arith)) tt
  passed_trie (some t) k y q = rw (search_node t k 0 0 [] [] y (omega arith)) (passed_below t [] k 0 [] q tt)

-- A fact of the live entries of a stack and of those under it.
pub live_stack : (P : ℕ → Type 0) (xs ys : List Entry) → All P (live_records (reverse_aux xs ys)) → All P (live_records xs) × All P (live_records ys)
live_stack P [] ys h = (tt, h)
live_stack P (entry d none ∷ xs) ys h = live_stack P xs (entry d none ∷ ys) h
live_stack P (entry d (some r) ∷ xs) ys h =
    let i = live_stack P xs (entry d (some r) ∷ ys) h in
    ((i.1.0, i.0), i.1.1)

-- In the entries of a herd, by the index of the found entry and by numbers.
pub passed_trie_list : (key_of : ℕ → ℕ) (w x : ℕ) (s : Herd) → x < 2 ^ w → ((r : ℕ) → key_of r < 2 ^ w) → KeysOf key_of s
    → All (λ r. key_of r < x) (live_records (take (found_index (positions 0 (bits w x)) (trie_list w s)) (trie_list w s)))
passed_trie_list key_of w x s h n g =
    let es : List Entry = trie_list w s in
    let i : ℕ = found_index (positions 0 (bits w x)) es in
    let keys : LiveBelow (λ r. bits w (key_of r)) (bits w x) (search [] (positions 0 (bits w x)) es).0 =
    passed_trie (λ r. bits w (key_of r)) (trie_of w (items w s)) (bits w x) (trie_of_reaches w (bits w x) (items w s) (bits_length w x) (items_lengths w s))
    (trie_of_keys (λ r. bits w (key_of r)) w [] (items w s) (items_keys w key_of s g)) in
    all_weaker (λ r. below (bits w (key_of r)) (bits w x) ≡ true) (λ r. key_of r < x) (live_records (take i es))
    (λ r e. ltb-true (key_of r) x (sym (below_bits w (key_of r) x (n r) h) ∙ e))
    (live_stack (λ r. below (bits w (key_of r)) (bits w x) ≡ true) (take i es) [] (rw (search_index es [] (positions 0 (bits w x))) at keys)).0
