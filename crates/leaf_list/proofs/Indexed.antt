-- The found entry by its index, and insertion there. Assumes nothing.
use mathlib.Core.Path.{◌≡◌, refl}
use mathlib.Core.Bool.{cond, Bool, true, false}
use mathlib.Core.Option.{Option, none, some}
use mathlib.Core.List.{List, [], ◌∷◌, reverse_aux, ◌++◌}
use Prim.Native.Nat.{ℕ, zero, suc, ◌<◌}
use native.Mathlib.Omega.{arith}
use lib.Dec.{ltb, eqb}
use lib.ListN.{take, drop, length, length-drop}
use Rattle.leaf_list.specs.Keys.{Key, bits}
use Rattle.leaf_list.specs.Entries.{Entry, entry}
use Rattle.leaf_list.specs.Herd.{Herd}
use Rattle.leaf_list.specs.LeafList.{items}
use Rattle.leaf_list.specs.Trie.{Trie, leaf, zero_only, one_only, fork, write, write_all, trie_list, trie_of}
use Rattle.leaf_list.specs.Search.{search, positions}
use Rattle.leaf_list.specs.Insertion.{trailing, insertion, insert_at}
use Rattle.leaf_list.proofs.Bits.{bits_length}
use Rattle.leaf_list.proofs.Tries.{Reaches, Given}
use Rattle.leaf_list.proofs.Places.{remaining, stops_shallow, search_node}
use Rattle.leaf_list.proofs.TrieOf.{trie_of_reaches}
use Rattle.leaf_list.proofs.HerdItems.{items_lengths}

-- How many entries a search passes.
abbrev pub found_index : List ℕ → List Entry → ℕ
found_index bs [] = zero
found_index [] (e ∷ es) = zero
found_index (b ∷ bs) (entry d p ∷ es) = cond (ltb d b) zero (suc (found_index (cond (eqb d b) bs (b ∷ bs)) es))

-- Search by the index.
pub search_index : (es before : List Entry) (bs : List ℕ) → search before bs es ≡ (reverse_aux (take (found_index bs es) es) before, drop (found_index bs es) es)
search_index [] before bs = refl
search_index (e ∷ es) before [] = refl
search_index (entry d p ∷ es) before (b ∷ bs) = step (ltb d b) (search_index es (entry d p ∷ before) (cond (eqb d b) bs (b ∷ bs)))
  where
    bs' : List ℕ
    bs' = cond (eqb d b) bs (b ∷ bs)

    step : (t : Bool) → search (entry d p ∷ before) bs' es ≡ (reverse_aux (take (found_index bs' es) es) (entry d p ∷ before), drop (found_index bs' es) es)
        → cond t (before, entry d p ∷ es) (search (entry d p ∷ before) bs' es)
        ≡ (reverse_aux (take (cond t zero (suc (found_index bs' es))) (entry d p ∷ es)) before, drop (cond t zero (suc (found_index bs' es))) (entry d p ∷ es))
    step true ih = refl
    step false ih = ih

-- The depth before the entry i, or τ.
abbrev pub depth_before : ℕ → List Entry → ℕ → ℕ
depth_before τ es zero = τ
depth_before τ [] (suc i) = τ
depth_before τ (entry d p ∷ es) (suc i) = depth_before d es i

-- The depth of the last entry passed.
pub trailing_index : (es before : List Entry) (i : ℕ) → trailing (reverse_aux (take i es) before) ≡ depth_before (trailing before) es i
trailing_index es before zero = refl
trailing_index [] before (suc i) = refl
trailing_index (entry d p ∷ es) before (suc i) = trailing_index es (entry d p ∷ before) i

-- Entries put on a stack and back.
pub put_back : (xs before ys : List Entry) → reverse_aux (reverse_aux xs before) ys ≡ reverse_aux before (xs ++ ys)
put_back [] before ys = refl
put_back (x ∷ xs) before ys = put_back xs (x ∷ before) ys

-- Insertion by the index of the found entry.
pub insertion_index : (key_of : ℕ → Key) (k : Key) (r : ℕ) (es : List Entry)
    → insertion key_of k r es
    ≡ take (found_index (positions 0 k) es) es ++ insert_at key_of k r (depth_before 0 es (found_index (positions 0 k) es)) (drop (found_index (positions 0 k) es) es)
insertion_index key_of k r es =
    let n : ℕ = found_index (positions 0 k) es in
    rw (search_index es [] (positions 0 k), trailing_index es [] n, put_back (take n es) [] (insert_at key_of k r (depth_before 0 es n) (drop n es)))

-- An entry is found.
pub remaining_some : (t : Trie) (k : Key) (l c : ℕ) (rest : List Entry) → Reaches k t → 0 < length (remaining l t k c rest)
remaining_some (leaf k' r) k l c rest g = omega arith
remaining_some (zero_only t) [] l c rest g = absurd g
remaining_some (zero_only t) (false ∷ k) l c rest g = remaining_some t k (suc l) c rest g
remaining_some (zero_only t) (true ∷ k) l c rest g = omega arith
remaining_some (one_only t) [] l c rest g = absurd g
remaining_some (one_only t) (false ∷ k) l c rest g = omega arith
remaining_some (one_only t) (true ∷ k) l c rest g = remaining_some t k (suc l) c rest g
remaining_some (fork a b) [] l c rest g = absurd g
remaining_some (fork a b) (false ∷ k) l c rest g = remaining_some a k (suc l) (suc l) (write (suc l) b c rest) g
remaining_some (fork a b) (true ∷ k) l c rest g = remaining_some b k (suc l) c rest g

-- So in a whole trie.
pub search_some : (o : Option Trie) (k : Key) → Given (Reaches k) o → 0 < length (search [] (positions 0 k) (write_all o)).1
search_some none k y = rw (stops_shallow k 0 0 none [] [] (omega arith)) (omega arith)
search_some (some t) k y = rw (search_node t k 0 0 [] [] y (omega arith)) (remaining_some t k 0 0 [] y)

-- The found entry stands in the list.
pub found_index_trie_list : (w x : ℕ) (s : Herd) → found_index (positions 0 (bits w x)) (trie_list w s) < length (trie_list w s)
found_index_trie_list w x s =
    let i : ℕ = found_index (positions 0 (bits w x)) (trie_list w s) in
    let p : 0 < length (drop i (trie_list w s)) =
    rw (search_index (trie_list w s) [] (positions 0 (bits w x))) at
    (search_some (trie_of w (items w s)) (bits w x) (trie_of_reaches w (bits w x) (items w s) (bits_length w x) (items_lengths w s))) in
    omega (arith, length-drop i (trie_list w s))
