-- The leaf list by the paper's conceptual tree: the computable twin of LeafList, with which it agrees (proofs/Literal). Assumes nothing.
use Rattle.std.specs.Prelude.{true, false, List, [], ◌∷◌, ℕ, zero, suc}
use Rattle.std.proofs.Math.Option.{Option, none, some}
use Rattle.leaf_list.specs.Keys.{Key}
use Rattle.leaf_list.specs.Entries.{Entry, entry}
use Rattle.leaf_list.specs.Herd.{Herd}
use Rattle.leaf_list.specs.LeafList.{Item, item, items}

-- The tree over at least one key: a leaf, with the bits left of its key; all keys go on with 0; all go on with 1; some with each.
pub data Trie : Type 0 where
  leaf : Key → ℕ → Trie
  zero_only : Trie → Trie
  one_only : Trie → Trie
  fork : Trie → Trie → Trie

-- The keys that go on with 0, and those that go on with 1, each less that bit.
abbrev pub zero_side : List Item → List Item
zero_side [] = []
zero_side (item [] r ∷ s) = zero_side s
zero_side (item (false ∷ k) r ∷ s) = item k r ∷ zero_side s
zero_side (item (true ∷ k) r ∷ s) = zero_side s

abbrev pub one_side : List Item → List Item
one_side [] = []
one_side (item [] r ∷ s) = one_side s
one_side (item (false ∷ k) r ∷ s) = one_side s
one_side (item (true ∷ k) r ∷ s) = item k r ∷ one_side s

-- A tree one bit further up; a single key stays a leaf.
abbrev pub under_zero : Trie → Trie
under_zero (leaf k r) = leaf (false ∷ k) r
under_zero (zero_only t) = zero_only (zero_only t)
under_zero (one_only t) = zero_only (one_only t)
under_zero (fork a b) = zero_only (fork a b)

abbrev pub under_one : Trie → Trie
under_one (leaf k r) = leaf (true ∷ k) r
under_one (zero_only t) = one_only (zero_only t)
under_one (one_only t) = one_only (one_only t)
under_one (fork a b) = one_only (fork a b)

abbrev pub join : Option Trie → Option Trie → Option Trie
join none none = none
join (some a) none = some (under_zero a)
join none (some b) = some (under_one b)
join (some a) (some b) = some (fork a b)

abbrev pub trie_of : ℕ → List Item → Option Trie
trie_of zero [] = none
trie_of zero (item k r ∷ s) = some (leaf k r)
trie_of (suc n) [] = none
trie_of (suc n) (x ∷ s) = join (trie_of n (zero_side (x ∷ s))) (trie_of n (one_side (x ∷ s)))

-- The entries of a node of depth l, closed by the depth c, before the entries rest.
abbrev pub write : ℕ → Trie → ℕ → List Entry → List Entry
write l (leaf k r) c rest = entry c (some r) ∷ rest
write l (zero_only t) c rest = write (suc l) t c rest
write l (one_only t) c rest = entry (suc l) none ∷ write (suc l) t c rest
write l (fork a b) c rest = write (suc l) a (suc l) (write (suc l) b c rest)

abbrev pub write_all : Option Trie → List Entry
write_all none = entry 0 none ∷ []
write_all (some t) = write 0 t 0 []

abbrev pub trie_list : ℕ → Herd → List Entry
trie_list w herd = write_all (trie_of w (items w herd))
