-- Deletion at the found entry writes the trie without the key. Assumes nothing.
use mathlib.Core.Path.{◌≡◌, refl, ◌∙◌}
use mathlib.Core.Bool.{cond, false, true}
use mathlib.Core.Option.{Option, none, some}
use mathlib.Core.List.{[], ◌∷◌, List, reverse_aux}
use Prim.Native.Nat.{ℕ, ◌≤◌, suc}
use native.Mathlib.Omega.{arith}
use borrow.Author.Tests.{le-ltb, lt-ltb}
use Rattle.leaf_list.specs.Keys.{Key, same_key}
use Rattle.leaf_list.specs.Entries.{Entry, entry}
use Rattle.leaf_list.specs.Trie.{Trie, leaf, zero_only, join, one_only, fork, write, under_one, under_zero}
use Rattle.leaf_list.specs.Insertion.{trailing}
use Rattle.leaf_list.specs.Deletion.{drop_dummies, delete_at, delete_other}
use Rattle.leaf_list.proofs.Tries.{Branching, Pruned, last_record, leaf_or_branching, under_one_branching, under_zero_branching, Held}
use Rattle.leaf_list.proofs.Places.{pass_front, rewind, passed, remaining}

-- The trie without a key.
abbrev pub delete_trie : Key → Trie → Option Trie
delete_trie k (leaf k' r) = cond (same_key k k') none (some (leaf k' r))
delete_trie [] (zero_only t) = some (zero_only t)
delete_trie (false ∷ k) (zero_only t) = join (delete_trie k t) none
delete_trie (true ∷ k) (zero_only t) = some (zero_only t)
delete_trie [] (one_only t) = some (one_only t)
delete_trie (false ∷ k) (one_only t) = some (one_only t)
delete_trie (true ∷ k) (one_only t) = join none (delete_trie k t)
delete_trie [] (fork a b) = some (fork a b)
delete_trie (false ∷ k) (fork a b) = join (delete_trie k a) (some b)
delete_trie (true ∷ k) (fork a b) = join (some a) (delete_trie k b)

-- Where a single key is left, the dummies before it go.
abbrev pub cut_before : ℕ → Trie → List Entry → List Entry
cut_before c (leaf k r) before = drop_dummies c before
cut_before c (zero_only t) before = before
cut_before c (one_only t) before = before
cut_before c (fork a b) before = before

-- The entries with what is left of a node in its place.
abbrev pub write_left : ℕ → Option Trie → ℕ → List Entry → List Entry → List Entry
write_left l none c before rest = reverse_aux before (entry c none ∷ rest)
write_left l (some t) c before rest = reverse_aux (cut_before c t before) (write l t c rest)

-- There is a trie.
abbrev pub NonEmpty : Option Trie → Type 0
NonEmpty none = ⊥
NonEmpty (some t) = Unit {0}

-- It stays so one bit further up.
pub non_empty_zero : (o : Option Trie) → NonEmpty o → NonEmpty (join o none)
non_empty_zero none h = absurd h
non_empty_zero (some t) h = tt

-- The same on the other side.
pub non_empty_one : (o : Option Trie) → NonEmpty o → NonEmpty (join none o)
non_empty_one none h = absurd h
non_empty_one (some t) h = tt

-- A node with a 1-side is there.
pub non_empty_left : (o : Option Trie) (b : Trie) → NonEmpty (join o (some b))
non_empty_left none b = tt
non_empty_left (some a) b = tt

-- A node with a 0-side is there.
pub non_empty_right : (a : Trie) (o : Option Trie) → NonEmpty (join (some a) o)
non_empty_right a none = tt
non_empty_right a (some b) = tt

-- Something is left of a node with two keys.
pub delete_trie_non_empty : (t : Trie) (k : Key) → Branching t → Pruned t → NonEmpty (delete_trie k t)
delete_trie_non_empty (leaf k' r) k m g = absurd m
delete_trie_non_empty (zero_only t) [] m g = tt
delete_trie_non_empty (zero_only t) (false ∷ k) m g = non_empty_zero (delete_trie k t) (delete_trie_non_empty t k g.0 g.1)
delete_trie_non_empty (zero_only t) (true ∷ k) m g = tt
delete_trie_non_empty (one_only t) [] m g = tt
delete_trie_non_empty (one_only t) (false ∷ k) m g = tt
delete_trie_non_empty (one_only t) (true ∷ k) m g = non_empty_one (delete_trie k t) (delete_trie_non_empty t k g.0 g.1)
delete_trie_non_empty (fork a b) [] m g = tt
delete_trie_non_empty (fork a b) (false ∷ k) m g = non_empty_left (delete_trie k a) b
delete_trie_non_empty (fork a b) (true ∷ k) m g = non_empty_right a (delete_trie k b)

-- After an entry that is no deeper stands no 1-leaf.
pub delete_at_other : (before rest : List Entry) (d : ℕ) (p : Option ℕ) → trailing before ≤ d → delete_at before (entry d p ∷ rest) ≡ delete_other before d rest
delete_at_other [] rest d p h = refl
delete_at_other (entry d' p' ∷ before) rest d p h = rw (le-ltb d d' h)

-- No dummy goes where the entry before is no deeper.
pub drop_dummies_none : (before : List Entry) (d : ℕ) → trailing before ≤ d → drop_dummies d before ≡ before
drop_dummies_none [] d h = refl
drop_dummies_none (entry d' none ∷ before) d h = rw (le-ltb d d' h)
drop_dummies_none (entry d' (some r) ∷ before) d h = refl

-- A node with two keys starts deeper than itself, so the entry before it becomes a dummy.
pub delete_other_dummy : (t : Trie) (before rest : List Entry) (m l c : ℕ) → Branching t → Pruned t → m ≤ l
    → delete_other before m (write l t c rest) ≡ reverse_aux before (entry m none ∷ write l t c rest)
delete_other_dummy (leaf k r) before rest m l c y g h = absurd y
delete_other_dummy (zero_only t) before rest m l c y g h = delete_other_dummy t before rest m (suc l) c g.0 g.1 (omega arith)
delete_other_dummy (one_only t) before rest m l c y g h = rw (le-ltb (suc l) m (omega arith))
delete_other_dummy (fork (leaf k r) b) before rest m l c y g h = rw (le-ltb (suc l) m (omega arith))
delete_other_dummy (fork (zero_only a) b) before rest m l c y g h =
    delete_other_dummy (zero_only a) before (write (suc l) b c rest) m (suc l) (suc l) tt g.0 (omega arith)
delete_other_dummy (fork (one_only a) b) before rest m l c y g h =
    delete_other_dummy (one_only a) before (write (suc l) b c rest) m (suc l) (suc l) tt g.0 (omega arith)
delete_other_dummy (fork (fork a d) b) before rest m l c y g h =
    delete_other_dummy (fork a d) before (write (suc l) b c rest) m (suc l) (suc l) tt g.0 (omega arith)

-- The entry before the last of a node with two keys is live.
pub drop_dummies_front : (t : Trie) (before : List Entry) (l c : ℕ) → Branching t → Pruned t → drop_dummies c (pass_front l t before) ≡ pass_front l t before
drop_dummies_front (leaf k r) before l c y g = absurd y
drop_dummies_front (zero_only t) before l c y g = drop_dummies_front t before (suc l) c g.0 g.1
drop_dummies_front (one_only t) before l c y g = drop_dummies_front t (entry (suc l) none ∷ before) (suc l) c g.0 g.1
drop_dummies_front (fork a (leaf k r)) before l c y g = refl
drop_dummies_front (fork a (zero_only b)) before l c y g =
    drop_dummies_front (zero_only b) (entry (suc l) (some (last_record a)) ∷ pass_front (suc l) a before) (suc l) c tt g.1
drop_dummies_front (fork a (one_only b)) before l c y g =
    drop_dummies_front (one_only b) (entry (suc l) (some (last_record a)) ∷ pass_front (suc l) a before) (suc l) c tt g.1
drop_dummies_front (fork a (fork b d)) before l c y g =
    drop_dummies_front (fork b d) (entry (suc l) (some (last_record a)) ∷ pass_front (suc l) a before) (suc l) c tt g.1

-- One bit further up, all keys on the 0-side.
pub write_left_zero : (o : Option Trie) (l c : ℕ) (before rest : List Entry) → write_left (suc l) o c before rest ≡ write_left l (join o none) c before rest
write_left_zero none l c before rest = refl
write_left_zero (some (leaf k r)) l c before rest = refl
write_left_zero (some (zero_only t)) l c before rest = refl
write_left_zero (some (one_only t)) l c before rest = refl
write_left_zero (some (fork a b)) l c before rest = refl

-- One bit further up, all keys on the 1-side.
pub write_left_one : (o : Option Trie) (l c : ℕ) (before rest : List Entry) → NonEmpty o → c ≤ l
    → write_left (suc l) o c (entry (suc l) none ∷ before) rest ≡ write_left l (join none o) c before rest
write_left_one none l c before rest y h = absurd y
write_left_one (some (leaf k r)) l c before rest y h = rw (lt-ltb c (suc l) (omega arith))
write_left_one (some (zero_only t)) l c before rest y h = refl
write_left_one (some (one_only t)) l c before rest y h = refl
write_left_one (some (fork a b)) l c before rest y h = refl

-- One bit further up, with a 1-side.
pub write_left_left : (o : Option Trie) (b : Trie) (l c : ℕ) (before rest : List Entry) → NonEmpty o → trailing before ≤ l
    → write_left (suc l) o (suc l) before (write (suc l) b c rest) ≡ write_left l (join o (some b)) c before rest
write_left_left none b l c before rest y h = absurd y
write_left_left (some (leaf k r)) b l c before rest y h = rw (drop_dummies_none before (suc l) (omega arith))
write_left_left (some (zero_only t)) b l c before rest y h = refl
write_left_left (some (one_only t)) b l c before rest y h = refl
write_left_left (some (fork a d)) b l c before rest y h = refl

-- One bit further up, with a 0-side.
pub write_left_right : (a : Trie) (o : Option Trie) (l c : ℕ) (before rest : List Entry) → NonEmpty o
    → write_left (suc l) o c (entry (suc l) (some (last_record a)) ∷ pass_front (suc l) a before) rest ≡ write_left l (join (some a) o) c before rest
write_left_right a none l c before rest y = absurd y
write_left_right a (some (leaf k r)) l c before rest y = rewind a (suc l) (suc l) before _
write_left_right a (some (zero_only t)) l c before rest y = rewind a (suc l) (suc l) before _
write_left_right a (some (one_only t)) l c before rest y = rewind a (suc l) (suc l) before _
write_left_right a (some (fork b d)) l c before rest y = rewind a (suc l) (suc l) before _

-- A 0-leaf with a sibling is taken out.
pub delete_zero_leaf : (b : Trie) (l c r : ℕ) (before rest : List Entry) → Pruned b → c ≤ l → trailing before ≤ l
    → delete_at before (entry (suc l) (some r) ∷ write (suc l) b c rest) ≡ write_left l (some (under_one b)) c before rest
delete_zero_leaf b l c r before rest g hc hτ =
    delete_at_other before (write (suc l) b c rest) (suc l) (some r) (omega arith)
    ∙ leaf_or_branching (λ b. Pruned b → delete_other before (suc l) (write (suc l) b c rest) ≡ write_left l (some (under_one b)) c before rest)
    (λ k r' g. rw (lt-ltb c (suc l) (omega arith)))
    (λ b m g. delete_other_dummy b before rest (suc l) (suc l) c m g (omega arith) ∙ rw (under_one_branching b m)) b g

-- A 1-leaf with a sibling is taken out.
pub delete_one_leaf : (a : Trie) (l c r : ℕ) (before rest : List Entry) → Pruned a → c ≤ l
    → delete_at (entry (suc l) (some (last_record a)) ∷ pass_front (suc l) a before) (entry c (some r) ∷ rest) ≡ write_left l (some (under_zero a)) c before rest
delete_one_leaf a l c r before rest g hc =
    rw (lt-ltb c (suc l) (omega arith))
    (leaf_or_branching
    (λ a. Pruned a → reverse_aux (drop_dummies c (pass_front (suc l) a before)) (entry c (some (last_record a)) ∷ rest) ≡ write_left l (some (under_zero a)) c before rest)
    (λ k r' g. refl)
    (λ a m g. rw (drop_dummies_front a before (suc l) c m g, under_zero_branching a m) (rewind a (suc l) c before rest)) a g)

-- Deletion at the place that a search for k finds in a node makes the entries es.
abbrev pub Deletes : Trie → Key → ℕ → ℕ → List Entry → List Entry → List Entry → Type 0
Deletes t k l c before rest es = delete_at (passed l t k before) (remaining l t k c rest) ≡ es

-- The 0-side of a fork: a leaf, or by the hypothesis.
abbrev pub DeletesLeft : Trie → Key → ℕ → ℕ → ℕ → List Entry → List Entry → Trie → Type 0
DeletesLeft b k r l c before rest a =
    Held k r a → Pruned a
    → (Branching a → Deletes a k (suc l) (suc l) before (write (suc l) b c rest) (write_left (suc l) (delete_trie k a) (suc l) before (write (suc l) b c rest)))
    → Deletes a k (suc l) (suc l) before (write (suc l) b c rest) (write_left l (join (delete_trie k a) (some b)) c before rest)

pub delete_left : (a b : Trie) (k : Key) (r l c : ℕ) (before rest : List Entry) → Pruned b → c ≤ l → trailing before ≤ l → DeletesLeft b k r l c before rest a
delete_left a b k r l c before rest g' hc hτ =
    leaf_or_branching (DeletesLeft b k r l c before rest) (λ k' r' y g ih. rw y.0 (delete_zero_leaf b l c r' before rest g' hc hτ))
    (λ a m y g ih. ih m ∙ write_left_left (delete_trie k a) b l c before rest (delete_trie_non_empty a k m g) hτ) a

-- The 1-side of a fork, after the entries of its 0-side.
abbrev pub DeletesRight : Trie → Key → ℕ → ℕ → ℕ → List Entry → List Entry → Trie → Type 0
DeletesRight a k r l c before rest b =
    Held k r b → Pruned b
    → (Branching b → Deletes b k (suc l) c (entry (suc l) (some (last_record a)) ∷ pass_front (suc l) a before) rest
    (write_left (suc l) (delete_trie k b) c (entry (suc l) (some (last_record a)) ∷ pass_front (suc l) a before) rest))
    → Deletes b k (suc l) c (entry (suc l) (some (last_record a)) ∷ pass_front (suc l) a before) rest (write_left l (join (some a) (delete_trie k b)) c before rest)

pub delete_right : (a b : Trie) (k : Key) (r l c : ℕ) (before rest : List Entry) → Pruned a → c ≤ l → DeletesRight a k r l c before rest b
delete_right a b k r l c before rest g hc =
    leaf_or_branching (DeletesRight a k r l c before rest) (λ k' r' y g' ih. rw y.0 (delete_one_leaf a l c r' before rest g hc))
    (λ b m y g' ih. ih m ∙ write_left_right a (delete_trie k b) l c before rest (delete_trie_non_empty b k m g')) b

-- Figure 11 in the entries of a node with two keys.
pub delete_node : (t : Trie) (k : Key) (r l c : ℕ) (before rest : List Entry) → Held k r t → Branching t → Pruned t → c ≤ l → trailing before ≤ l
    → Deletes t k l c before rest (write_left l (delete_trie k t) c before rest)
delete_node (leaf k' r') k r l c before rest y m g hc hτ = absurd m
delete_node (zero_only t) [] r l c before rest y m g hc hτ = absurd y
delete_node (zero_only t) (false ∷ k) r l c before rest y m g hc hτ =
    delete_node t k r (suc l) c before rest y g.0 g.1 (omega arith) (omega arith) ∙ write_left_zero (delete_trie k t) l c before rest
delete_node (zero_only t) (true ∷ k) r l c before rest y m g hc hτ = absurd y
delete_node (one_only t) [] r l c before rest y m g hc hτ = absurd y
delete_node (one_only t) (false ∷ k) r l c before rest y m g hc hτ = absurd y
delete_node (one_only t) (true ∷ k) r l c before rest y m g hc hτ =
    delete_node t k r (suc l) c (entry (suc l) none ∷ before) rest y g.0 g.1 (omega arith) (omega arith)
    ∙ write_left_one (delete_trie k t) l c before rest (delete_trie_non_empty t k g.0 g.1) hc
delete_node (fork a b) [] r l c before rest y m g hc hτ = absurd y
delete_node (fork a b) (false ∷ k) r l c before rest y m g hc hτ =
    delete_left a b k r l c before rest g.1 hc hτ y g.0
    (λ n. delete_node a k r (suc l) (suc l) before (write (suc l) b c rest) y n g.0 (omega arith) (omega arith))
delete_node (fork a b) (true ∷ k) r l c before rest y m g hc hτ =
    delete_right a b k r l c before rest g.0 hc y g.1
    (λ n. delete_node b k r (suc l) c (entry (suc l) (some (last_record a)) ∷ pass_front (suc l) a before) rest y n g.1 (omega arith) (omega arith))
