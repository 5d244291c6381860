-- The keys of a pruned trie, in order: the trie is theirs. Assumes nothing.
use mathlib.Core.Path.{◌≡◌, refl, ◌∙◌, ap, ap₂}
use mathlib.Core.Bool.{false, true}
use mathlib.Core.Option.{some}
use mathlib.Core.List.{List, ◌∷◌, []}
use Prim.Native.Nat.{ℕ, zero, suc}
use Rattle.leaf_list.specs.Keys.{Key, below}
use Rattle.leaf_list.specs.LeafList.{Item, item}
use Rattle.leaf_list.specs.Trie.{Trie, leaf, zero_only, one_only, fork, zero_side, one_side, trie_of, join}
use Rattle.leaf_list.proofs.Tries.{Sized, Pruned, under_zero_branching, under_one_branching}
use Rattle.leaf_list.proofs.Items.{Least, Ordered}
use Rattle.leaf_list.proofs.TrieOf.{trie_of_suc, trie_of_nil}
use Rattle.leaf_list.proofs.TrieChange.{trie_of_single}

-- The keys of a trie with their records, in order, each after what f puts before it.
abbrev pub leaves : (Key → Key) → Trie → List Item → List Item
leaves f (leaf k r) rest = item (f k) r ∷ rest
leaves f (zero_only t) rest = leaves (λ k. f (false ∷ k)) t rest
leaves f (one_only t) rest = leaves (λ k. f (true ∷ k)) t rest
leaves f (fork a b) rest = leaves (λ k. f (false ∷ k)) a (leaves (λ k. f (true ∷ k)) b rest)

-- The 0-side of keys that begin with 0.
pub zero_side_zero : (t : Trie) (f : Key → Key) (rest : List Item) → zero_side (leaves (λ k. false ∷ f k) t rest) ≡ leaves f t (zero_side rest)
zero_side_zero (leaf k r) f rest = refl
zero_side_zero (zero_only t) f rest = zero_side_zero t (λ k. f (false ∷ k)) rest
zero_side_zero (one_only t) f rest = zero_side_zero t (λ k. f (true ∷ k)) rest
zero_side_zero (fork a b) f rest =
    zero_side_zero a (λ k. f (false ∷ k)) (leaves (λ k. false ∷ f (true ∷ k)) b rest)
    ∙ ap (leaves (λ k. f (false ∷ k)) a) (zero_side_zero b (λ k. f (true ∷ k)) rest)

-- The 0-side of keys that begin with 1.
pub zero_side_one : (t : Trie) (f : Key → Key) (rest : List Item) → zero_side (leaves (λ k. true ∷ f k) t rest) ≡ zero_side rest
zero_side_one (leaf k r) f rest = refl
zero_side_one (zero_only t) f rest = zero_side_one t (λ k. f (false ∷ k)) rest
zero_side_one (one_only t) f rest = zero_side_one t (λ k. f (true ∷ k)) rest
zero_side_one (fork a b) f rest = zero_side_one a (λ k. f (false ∷ k)) (leaves (λ k. true ∷ f (true ∷ k)) b rest) ∙ zero_side_one b (λ k. f (true ∷ k)) rest

-- The 1-side of keys that begin with 1.
pub one_side_one : (t : Trie) (f : Key → Key) (rest : List Item) → one_side (leaves (λ k. true ∷ f k) t rest) ≡ leaves f t (one_side rest)
one_side_one (leaf k r) f rest = refl
one_side_one (zero_only t) f rest = one_side_one t (λ k. f (false ∷ k)) rest
one_side_one (one_only t) f rest = one_side_one t (λ k. f (true ∷ k)) rest
one_side_one (fork a b) f rest =
    one_side_one a (λ k. f (false ∷ k)) (leaves (λ k. true ∷ f (true ∷ k)) b rest) ∙ ap (leaves (λ k. f (false ∷ k)) a) (one_side_one b (λ k. f (true ∷ k)) rest)

-- The 1-side of keys that begin with 0.
pub one_side_zero : (t : Trie) (f : Key → Key) (rest : List Item) → one_side (leaves (λ k. false ∷ f k) t rest) ≡ one_side rest
one_side_zero (leaf k r) f rest = refl
one_side_zero (zero_only t) f rest = one_side_zero t (λ k. f (false ∷ k)) rest
one_side_zero (one_only t) f rest = one_side_zero t (λ k. f (true ∷ k)) rest
one_side_zero (fork a b) f rest = one_side_zero a (λ k. f (false ∷ k)) (leaves (λ k. false ∷ f (true ∷ k)) b rest) ∙ one_side_zero b (λ k. f (true ∷ k)) rest

-- A pruned trie is the trie of its keys.
pub trie_of_leaves : (t : Trie) (n : ℕ) → Sized n t → Pruned t → trie_of n (leaves (λ k. k) t []) ≡ some t
trie_of_leaves (leaf k r) n f g = trie_of_single n k r f
trie_of_leaves (zero_only t) zero f g = absurd f
trie_of_leaves (one_only t) zero f g = absurd f
trie_of_leaves (fork a b) zero f g = absurd f
trie_of_leaves (zero_only t) (suc n) f g =
    trie_of_suc n (leaves (λ k. false ∷ k) t [])
    ∙ rw (zero_side_zero t (λ k. k) [], one_side_zero t (λ k. k) [], trie_of_leaves t n f g.1, trie_of_nil n) (ap some (under_zero_branching t g.0))
trie_of_leaves (one_only t) (suc n) f g =
    trie_of_suc n (leaves (λ k. true ∷ k) t [])
    ∙ rw (zero_side_one t (λ k. k) [], one_side_one t (λ k. k) [], trie_of_leaves t n f g.1, trie_of_nil n) (ap some (under_one_branching t g.0))
trie_of_leaves (fork a b) (suc n) f g =
    trie_of_suc n (leaves (λ k. false ∷ k) a (leaves (λ k. true ∷ k) b []))
    ∙ ap₂ join
    (ap (trie_of n) (zero_side_zero a (λ k. k) (leaves (λ k. true ∷ k) b []) ∙ ap (leaves (λ k. k) a) (zero_side_one b (λ k. k) [])) ∙ trie_of_leaves a n f.0 g.0)
    (ap (trie_of n) (one_side_zero a (λ k. k) (leaves (λ k. true ∷ k) b []) ∙ one_side_one b (λ k. k) []) ∙ trie_of_leaves b n f.1 g.1)

-- A key below all that f makes is below the leaves.
pub least_leaves : (t : Trie) (f : Key → Key) (k₀ : Key) (rest : List Item) → ((k : Key) → below k₀ (f k) ≡ true) → Least k₀ rest → Least k₀ (leaves f t rest)
least_leaves (leaf k r) f k₀ rest h q = (h k, q)
least_leaves (zero_only t) f k₀ rest h q = least_leaves t (λ k. f (false ∷ k)) k₀ rest (λ k. h (false ∷ k)) q
least_leaves (one_only t) f k₀ rest h q = least_leaves t (λ k. f (true ∷ k)) k₀ rest (λ k. h (true ∷ k)) q
least_leaves (fork a b) f k₀ rest h q =
    least_leaves a (λ k. f (false ∷ k)) k₀ (leaves (λ k. f (true ∷ k)) b rest) (λ k. h (false ∷ k))
    (least_leaves b (λ k. f (true ∷ k)) k₀ rest (λ k. h (true ∷ k)) q)

-- The keys of a trie rise.
pub ordered_leaves : (t : Trie) (f : Key → Key) (rest : List Item) → ((k k' : Key) → below (f k) (f k') ≡ below k k') → Ordered rest
    → ((k : Key) → Least (f k) rest)
    → Ordered (leaves f t rest)
ordered_leaves (leaf k r) f rest h o q = (q k, o)
ordered_leaves (zero_only t) f rest h o q = ordered_leaves t (λ k. f (false ∷ k)) rest (λ k k'. h (false ∷ k) (false ∷ k')) o (λ k. q (false ∷ k))
ordered_leaves (one_only t) f rest h o q = ordered_leaves t (λ k. f (true ∷ k)) rest (λ k k'. h (true ∷ k) (true ∷ k')) o (λ k. q (true ∷ k))
ordered_leaves (fork a b) f rest h o q =
    ordered_leaves a (λ k. f (false ∷ k)) (leaves (λ k. f (true ∷ k)) b rest) (λ k k'. h (false ∷ k) (false ∷ k'))
    (ordered_leaves b (λ k. f (true ∷ k)) rest (λ k k'. h (true ∷ k) (true ∷ k')) o (λ k. q (true ∷ k)))
    (λ k. least_leaves b (λ k'. f (true ∷ k')) (f (false ∷ k)) rest (λ k'. h (false ∷ k) (true ∷ k')) (q (false ∷ k)))
