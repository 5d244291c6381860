-- The place that a search finds in the entries of a trie. Assumes nothing.
use mathlib.Core.Path.{◌≡◌, refl, ◌∙◌}
use mathlib.Core.Bool.{false, true}
use mathlib.Core.Option.{none, some, Option}
use mathlib.Core.List.{List, ◌∷◌, [], reverse_aux}
use Prim.Native.Nat.{ℕ, suc, ◌≤◌, ◌<◌}
use native.Mathlib.Omega.{arith}
use borrow.Author.Tests.{lt-ltb, le-ltb, ne_eqb, eq-eqb}
use Rattle.leaf_list.specs.Keys.{Key}
use Rattle.leaf_list.specs.Entries.{Entry, entry}
use Rattle.leaf_list.specs.Trie.{Trie, leaf, zero_only, one_only, fork, write}
use Rattle.leaf_list.specs.Search.{search, positions}
use Rattle.leaf_list.specs.Insertion.{trailing}
use Rattle.leaf_list.proofs.Tries.{last_record, Reaches, Branching, Pruned}

-- The entries of a node but its last, put on those passed before.
abbrev pub pass_front : ℕ → Trie → List Entry → List Entry
pass_front l (leaf k r) before = before
pass_front l (zero_only t) before = pass_front (suc l) t before
pass_front l (one_only t) before = pass_front (suc l) t (entry (suc l) none ∷ before)
pass_front l (fork a b) before = pass_front (suc l) b (entry (suc l) (some (last_record a)) ∷ pass_front (suc l) a before)

-- What the search for k passes in a node of depth l.
abbrev pub passed : ℕ → Trie → Key → List Entry → List Entry
passed l (leaf k' r) k before = before
passed l (zero_only t) [] before = before
passed l (zero_only t) (false ∷ k) before = passed (suc l) t k before
passed l (zero_only t) (true ∷ k) before = pass_front (suc l) t before
passed l (one_only t) [] before = before
passed l (one_only t) (false ∷ k) before = before
passed l (one_only t) (true ∷ k) before = passed (suc l) t k (entry (suc l) none ∷ before)
passed l (fork a b) [] before = before
passed l (fork a b) (false ∷ k) before = passed (suc l) a k before
passed l (fork a b) (true ∷ k) before = passed (suc l) b k (entry (suc l) (some (last_record a)) ∷ pass_front (suc l) a before)

-- What stands from the found entry on; c closes the node.
abbrev pub remaining : ℕ → Trie → Key → ℕ → List Entry → List Entry
remaining l (leaf k' r) k c rest = entry c (some r) ∷ rest
remaining l (zero_only t) [] c rest = rest
remaining l (zero_only t) (false ∷ k) c rest = remaining (suc l) t k c rest
remaining l (zero_only t) (true ∷ k) c rest = entry c (some (last_record t)) ∷ rest
remaining l (one_only t) [] c rest = rest
remaining l (one_only t) (false ∷ k) c rest = entry (suc l) none ∷ write (suc l) t c rest
remaining l (one_only t) (true ∷ k) c rest = remaining (suc l) t k c rest
remaining l (fork a b) [] c rest = rest
remaining l (fork a b) (false ∷ k) c rest = remaining (suc l) a k (suc l) (write (suc l) b c rest)
remaining l (fork a b) (true ∷ k) c rest = remaining (suc l) b k c rest

-- An entry that is no deeper than the node stops the search.
pub stops_shallow : (k : Key) (l c : ℕ) (p : Option ℕ) (before rest : List Entry) → c ≤ l
    → search before (positions l k) (entry c p ∷ rest) ≡ (before, entry c p ∷ rest)
stops_shallow [] l c p before rest h = rw (lt-ltb c (suc l) (omega arith))
stops_shallow (false ∷ k) l c p before rest h = stops_shallow k (suc l) c p before rest (omega arith)
stops_shallow (true ∷ k) l c p before rest h = rw (lt-ltb c (suc l) (omega arith))

-- A deeper entry is passed.
pub passes_deeper : (b d : ℕ) (bs : List ℕ) (p : Option ℕ) (before rest : List Entry) → b < d
    → search before (b ∷ bs) (entry d p ∷ rest) ≡ search (entry d p ∷ before) (b ∷ bs) rest
passes_deeper b d bs p before rest h = rw (le-ltb d b (omega arith), ne_eqb d b (omega arith))

-- An entry as deep as the position is passed, and the position with it.
pub passes_equal : (b : ℕ) (bs : List ℕ) (p : Option ℕ) (before rest : List Entry)
    → search before (b ∷ bs) (entry b p ∷ rest) ≡ search (entry b p ∷ before) bs rest
passes_equal b bs p before rest = rw (le-ltb b b (omega arith), eq-eqb b b refl)

-- The entries of a deeper node but its last are passed.
pub passes_front : (t : Trie) (b l c : ℕ) (bs : List ℕ) (before rest : List Entry) → b ≤ l
    → search before (b ∷ bs) (write l t c rest) ≡ search (pass_front l t before) (b ∷ bs) (entry c (some (last_record t)) ∷ rest)
passes_front (leaf k r) b l c bs before rest h = refl
passes_front (zero_only t) b l c bs before rest h = passes_front t b (suc l) c bs before rest (omega arith)
passes_front (one_only t) b l c bs before rest h =
    passes_deeper b (suc l) bs none before (write (suc l) t c rest) (omega arith)
    ∙ passes_front t b (suc l) c bs (entry (suc l) none ∷ before) rest (omega arith)
passes_front (fork a d) b l c bs before rest h =
    passes_front a b (suc l) (suc l) bs before (write (suc l) d c rest) (omega arith)
    ∙ passes_deeper b (suc l) bs (some (last_record a)) (pass_front (suc l) a before) (write (suc l) d c rest) (omega arith)
    ∙ passes_front d b (suc l) c bs (entry (suc l) (some (last_record a)) ∷ pass_front (suc l) a before) rest (omega arith)

-- Figure 6 over the entries of a node.
pub search_node : (t : Trie) (k : Key) (l c : ℕ) (before rest : List Entry) → Reaches k t → c ≤ l
    → search before (positions l k) (write l t c rest) ≡ (passed l t k before, remaining l t k c rest)
search_node (leaf k' r) k l c before rest g h = stops_shallow k l c (some r) before rest h
search_node (zero_only t) [] l c before rest g h = absurd g
search_node (zero_only t) (false ∷ k) l c before rest g h = search_node t k (suc l) c before rest g (omega arith)
search_node (zero_only t) (true ∷ k) l c before rest g h =
    passes_front t (suc l) (suc l) c (positions (suc l) k) before rest (omega arith)
    ∙ stops_shallow (true ∷ k) l c (some (last_record t)) (pass_front (suc l) t before) rest h
search_node (one_only t) [] l c before rest g h = absurd g
search_node (one_only t) (false ∷ k) l c before rest g h = stops_shallow k (suc l) (suc l) none before (write (suc l) t c rest) (omega arith)
search_node (one_only t) (true ∷ k) l c before rest g h =
    passes_equal (suc l) (positions (suc l) k) none before (write (suc l) t c rest)
    ∙ search_node t k (suc l) c (entry (suc l) none ∷ before) rest g (omega arith)
search_node (fork a b) [] l c before rest g h = absurd g
search_node (fork a b) (false ∷ k) l c before rest g h = search_node a k (suc l) (suc l) before (write (suc l) b c rest) g (omega arith)
search_node (fork a b) (true ∷ k) l c before rest g h =
    passes_front a (suc l) (suc l) (suc l) (positions (suc l) k) before (write (suc l) b c rest) (omega arith)
    ∙ passes_equal (suc l) (positions (suc l) k) (some (last_record a)) (pass_front (suc l) a before) (write (suc l) b c rest)
    ∙ search_node b k (suc l) c (entry (suc l) (some (last_record a)) ∷ pass_front (suc l) a before) rest g (omega arith)

-- The passed entries put back give the node's entries.
pub rewind : (t : Trie) (l c : ℕ) (before rest : List Entry)
    → reverse_aux (pass_front l t before) (entry c (some (last_record t)) ∷ rest) ≡ reverse_aux before (write l t c rest)
rewind (leaf k r) l c before rest = refl
rewind (zero_only t) l c before rest = rewind t (suc l) c before rest
rewind (one_only t) l c before rest = rewind t (suc l) c (entry (suc l) none ∷ before) rest
rewind (fork a b) l c before rest =
    rewind b (suc l) c (entry (suc l) (some (last_record a)) ∷ pass_front (suc l) a before) rest ∙ rewind a (suc l) (suc l) before (write (suc l) b c rest)

-- The entry before the last of a node with two keys is deeper than the node.
pub trailing_front : (t : Trie) (l : ℕ) (before : List Entry) → Branching t → Pruned t → l < trailing (pass_front l t before)
trailing_front (leaf k r) l before m g = absurd m
trailing_front (zero_only t) l before m g = omega (arith, trailing_front t (suc l) before g.0 g.1)
trailing_front (one_only t) l before m g = omega (arith, trailing_front t (suc l) (entry (suc l) none ∷ before) g.0 g.1)
trailing_front (fork a (leaf k r)) l before m g = omega arith
trailing_front (fork a (zero_only t)) l before m g =
    omega (arith, trailing_front (zero_only t) (suc l) (entry (suc l) (some (last_record a)) ∷ pass_front (suc l) a before) tt g.1)
trailing_front (fork a (one_only t)) l before m g =
    omega (arith, trailing_front (one_only t) (suc l) (entry (suc l) (some (last_record a)) ∷ pass_front (suc l) a before) tt g.1)
trailing_front (fork a (fork b d)) l before m g =
    omega (arith, trailing_front (fork b d) (suc l) (entry (suc l) (some (last_record a)) ∷ pass_front (suc l) a before) tt g.1)
