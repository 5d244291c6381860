-- The entries at the bounding nodes are those of the trie. Assumes nothing.
use mathlib.Core.Path.{◌≡◌, refl, ◌∙◌, ap}
use mathlib.Core.Bool.{true}
use mathlib.Core.Option.{Option, none, some}
use mathlib.Core.List.{List, ◌∷◌, [], append-nil, map}
use Prim.Native.Nat.{ℕ, suc, ◌<◌, zero}
use native.Mathlib.Omega.{arith}
use lib.ListN.{length}
use Rattle.leaf_list.specs.Keys.{Key, zero_bits}
use Rattle.leaf_list.specs.Entries.{Entry, entry}
use Rattle.leaf_list.specs.LeafList.{Item, item}
use Rattle.leaf_list.specs.Trie.{Trie, write, trie_of, join, leaf, zero_only, one_only, fork, zero_side, one_side, write_all}
use Rattle.leaf_list.proofs.Bits.{zero_bits_length, below_zero_bits}
use Rattle.leaf_list.proofs.Tries.{Branching, Given, NotHeld}
use Rattle.leaf_list.proofs.TrieDeletion.{NonEmpty}
use Rattle.leaf_list.proofs.Items.{Lengths, Distinct, lengths_one, distinct_one, lengths_zero, distinct_zero}
use Rattle.leaf_list.proofs.TrieOf.{trie_of_not_held, trie_of_suc, trie_of_nil}
use Rattle.leaf_list.proofs.TrieChange.{insert_option, trie_of_insert, here, insert_trie_branching, trie_of_single}
use Rattle.leaf_list.proofs.Stems.{bounding_stems, bounding_stems_suc, count_one, bounding_stems_nil, bounding_stem, count_zero, bounding_stems_single, bounding_stem_two, bounding_stem_both}
use Rattle.leaf_list.proofs.Intervals.{entries_at, entries_at_zero, entries_at_middle, entries_at_one, from_start}

-- The entries of what may be no trie.
abbrev pub write_option : ℕ → Option Trie → ℕ → List Entry → List Entry
write_option l none c rest = entry c none ∷ rest
write_option l (some t) c rest = write l t c rest

-- The trie with a first key.
pub trie_of_cons : (n : ℕ) (k : Key) (r : ℕ) (s : List Item) → Lengths n (item k r ∷ s) → Distinct (item k r ∷ s)
    → trie_of n (item k r ∷ s) ≡ insert_option k r (trie_of n s)
trie_of_cons n k r s h d = trie_of_insert n k r s (item k r ∷ s) here h.0 h.1 d.0

-- One bit further up, all keys on the 0-side.
pub write_option_zero : (a : Option Trie) (l c : ℕ) (rest : List Entry) → write_option (suc l) a c rest ≡ write_option l (join a none) c rest
write_option_zero none l c rest = refl
write_option_zero (some (leaf k r)) l c rest = refl
write_option_zero (some (zero_only t)) l c rest = refl
write_option_zero (some (one_only t)) l c rest = refl
write_option_zero (some (fork a b)) l c rest = refl

-- There is a trie, and it branches.
abbrev pub BranchingOption : Option Trie → Type 0
BranchingOption none = ⊥
BranchingOption (some t) = Branching t

-- With a key in it there is a trie.
pub insert_option_non_empty : (k : Key) (r : ℕ) (o : Option Trie) → NonEmpty (insert_option k r o)
insert_option_non_empty k r none = tt
insert_option_non_empty k r (some t) = tt

-- With a key more it branches.
pub insert_option_branching : (k : Key) (r : ℕ) (o : Option Trie) → NonEmpty o → Given (NotHeld k) o → BranchingOption (insert_option k r o)
insert_option_branching k r none y f = absurd y
insert_option_branching k r (some t) y f = insert_trie_branching t k r f

-- The trie of one key or more is there.
pub trie_of_non_empty : (n : ℕ) (s : List Item) → Lengths n s → Distinct s → 0 < length s → NonEmpty (trie_of n s)
trie_of_non_empty n [] h d q = absurd (omega arith)
trie_of_non_empty n (item k r ∷ s) h d q = rw (trie_of_cons n k r s h d) (insert_option_non_empty k r (trie_of n s))

-- The trie of two keys or more branches.
pub trie_of_branching : (n : ℕ) (s : List Item) → Lengths n s → Distinct s → 1 < length s → BranchingOption (trie_of n s)
trie_of_branching n [] h d q = absurd (omega arith)
trie_of_branching n (item k r ∷ s) h d q =
    rw (trie_of_cons n k r s h d)
    (insert_option_branching k r (trie_of n s) (trie_of_non_empty n s h.1 d.1 (omega arith)) (trie_of_not_held n k s h.0 h.1 d.0))

-- Both sides are there, or the 1-side with two keys.
abbrev pub TwoSided : Option Trie → Option Trie → Type 0
TwoSided none b = BranchingOption b
TwoSided (some a) b = NonEmpty b

-- The entries of a node whose 1-side starts with a bounding node.
pub write_option_join : (a b : Option Trie) (l c : ℕ) (rest : List Entry) → TwoSided a b
    → write_option (suc l) a (suc l) (write_option (suc l) b c rest) ≡ write_option l (join a b) c rest
write_option_join none none l c rest y = absurd y
write_option_join none (some (leaf k r)) l c rest y = absurd y
write_option_join none (some (zero_only t)) l c rest y = refl
write_option_join none (some (one_only t)) l c rest y = refl
write_option_join none (some (fork a b)) l c rest y = refl
write_option_join (some a) none l c rest y = absurd y
write_option_join (some a) (some b) l c rest y = refl

-- Both sides are there.
pub two_sided : (a b : Option Trie) → NonEmpty a → NonEmpty b → TwoSided a b
two_sided none b y z = absurd y
two_sided (some a) b y z = z

-- At a node of depth l with the keys s, the entries at the bounding nodes are those of the trie.
abbrev pub SameEntries : ℕ → ℕ → List Item → ℕ → List Entry → Type 0
SameEntries n l s c rest = entries_at l s (zero_bits n) (bounding_stems n s) c rest ≡ write_option l (trie_of n s) c rest

-- One bit of the twin, by which sides have keys.
module _ (n l c : ℕ) (s : List Item) (rest : List Entry) (h : Lengths (suc n) s) (d : Distinct s)
    (zero_side_lem : (c : ℕ) (rest : List Entry) → SameEntries n (suc l) (zero_side s) c rest)
    (one_side_lem : (c : ℕ) (rest : List Entry) → SameEntries n (suc l) (one_side s) c rest) where
  -- All keys go on with 0.
  twin_zero : one_side s ≡ [] → SameEntries (suc n) l s c rest
  twin_zero e =
      rw (bounding_stems_suc n s, trie_of_suc n s, count_one [] s, e, bounding_stems_nil n, trie_of_nil n, append-nil)
      (entries_at_zero n l c s (zero_bits n) (bounding_stems n (zero_side s)) rest h e ∙ zero_side_lem c rest ∙ write_option_zero (trie_of n (zero_side s)) l c rest)

  -- The string 1 is bounding.
  twin_bounding : bounding_stem s [] ≡ true → TwoSided (trie_of n (zero_side s)) (trie_of n (one_side s)) → SameEntries (suc n) l s c rest
  twin_bounding e y =
      rw (bounding_stems_suc n s, trie_of_suc n s, e)
      (entries_at_middle n l c s (zero_bits n) (bounding_stems n (zero_side s)) (map (λ v. true ∷ v) (bounding_stems n (one_side s))) rest (zero_bits_length n)
      ∙ ap (entries_at (suc l) (zero_side s) (zero_bits n) (bounding_stems n (zero_side s)) (suc l))
      (entries_at_one n l c s (zero_bits n) (bounding_stems n (one_side s)) rest h ∙ one_side_lem c rest)
      ∙ zero_side_lem (suc l) (write_option (suc l) (trie_of n (one_side s)) c rest)
      ∙ write_option_join (trie_of n (zero_side s)) (trie_of n (one_side s)) l c rest y)

  -- There is one key, and it goes on with 1.
  twin_single : (k : Key) (r : ℕ) → zero_side s ≡ [] → one_side s ≡ item k r ∷ [] → SameEntries (suc n) l s c rest
  twin_single k r ez eo =
      let q : Lengths n (item k r ∷ []) = rw eo at (lengths_one n s h) in
      rw (bounding_stems_suc n s, trie_of_suc n s, count_one [] s, count_zero [] s, ez, eo, bounding_stems_nil n, bounding_stems_single n k r, trie_of_nil n)
      (rw (from_start n s h ez, eo, below_zero_bits k n, trie_of_single n k r q.0))

  -- In each case.
  twin_sides : (z o : List Item) → zero_side s ≡ z → one_side s ≡ o → SameEntries (suc n) l s c rest
  twin_sides z [] ez eo = twin_zero eo
  twin_sides [] (item k r ∷ []) ez eo = twin_single k r ez eo
  twin_sides [] (x ∷ y ∷ o) ez eo =
      twin_bounding (bounding_stem_two s (rw eo (omega arith)))
      (rw (ez, trie_of_nil n) (trie_of_branching n (one_side s) (lengths_one n s h) (distinct_one s d) (rw eo (omega arith))))
  twin_sides (x ∷ z) (y ∷ o) ez eo =
      twin_bounding (bounding_stem_both s (rw eo (omega arith)) (rw ez (omega arith)))
      (two_sided (trie_of n (zero_side s)) (trie_of n (one_side s)) (trie_of_non_empty n (zero_side s) (lengths_zero n s h) (distinct_zero s d) (rw ez (omega arith)))
      (trie_of_non_empty n (one_side s) (lengths_one n s h) (distinct_one s d) (rw eo (omega arith))))

-- The entries at the bounding nodes are those of the trie, below every node.
pub twin_node : (n l c : ℕ) (s : List Item) (rest : List Entry) → Lengths n s → Distinct s → SameEntries n l s c rest
twin_node zero l c [] rest h d = refl
twin_node zero l c (item [] r ∷ s) rest h d = refl
twin_node zero l c (item (x ∷ k) r ∷ s) rest h d = absurd (omega (arith, h.0))
twin_node (suc n) l c s rest h d =
    twin_sides n l c s rest h d (λ c rest. twin_node n (suc l) c (zero_side s) rest (lengths_zero n s h) (distinct_zero s d))
    (λ c rest. twin_node n (suc l) c (one_side s) rest (lengths_one n s h) (distinct_one s d)) (zero_side s) (one_side s) refl refl

-- At the root.
pub write_option_whole : (o : Option Trie) → write_option 0 o 0 [] ≡ write_all o
write_option_whole none = refl
write_option_whole (some t) = refl
