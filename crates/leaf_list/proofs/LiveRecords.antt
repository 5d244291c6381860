-- The live entries of a written trie, left to right, have the records in key order. Assumes nothing.
use mathlib.Core.Path.{◌≡◌, refl, ◌∙◌, ap, sym}
use mathlib.Core.Bool.{false, true, true≢false}
use mathlib.Core.Option.{Option, none, some}
use mathlib.Core.List.{List, ◌∷◌, [], ◌++◌}
use Prim.Native.Nat.{ℕ, suc, zero}
use native.Mathlib.Omega.{arith}
use Rattle.leaf_list.specs.Entries.{Entry, entry, live_records}
use Rattle.leaf_list.specs.LeafList.{Item, item}
use Rattle.leaf_list.specs.Trie.{Trie, leaf, zero_only, one_only, fork, write, join, zero_side, one_side, trie_of, write_all}
use Rattle.leaf_list.proofs.Items.{Lengths, Ordered, least_one, lengths_zero, ordered_zero, lengths_one, ordered_one}
use Rattle.leaf_list.proofs.TrieOf.{trie_of_suc}

-- The records of a trie in order, before the given ones.
abbrev pub trie_records : Trie → List ℕ → List ℕ
trie_records (leaf k r) rest = r ∷ rest
trie_records (zero_only t) rest = trie_records t rest
trie_records (one_only t) rest = trie_records t rest
trie_records (fork a b) rest = trie_records a (trie_records b rest)

-- The live entries of a node.
pub live_records_write : (t : Trie) (l c : ℕ) (rest : List Entry) → live_records (write l t c rest) ≡ trie_records t (live_records rest)
live_records_write (leaf k r) l c rest = refl
live_records_write (zero_only t) l c rest = live_records_write t (suc l) c rest
live_records_write (one_only t) l c rest = live_records_write t (suc l) c rest
live_records_write (fork a b) l c rest = live_records_write a (suc l) (suc l) (write (suc l) b c rest) ∙ ap (trie_records a) (live_records_write b (suc l) c rest)

-- The records of what may be no trie.
abbrev pub option_records : Option Trie → List ℕ → List ℕ
option_records none rest = rest
option_records (some t) rest = trie_records t rest

-- The records of a joined trie.
pub option_records_join : (a b : Option Trie) (rest : List ℕ) → option_records (join a b) rest ≡ option_records a (option_records b rest)
option_records_join none none rest = refl
option_records_join (some (leaf k r)) none rest = refl
option_records_join (some (zero_only t)) none rest = refl
option_records_join (some (one_only t)) none rest = refl
option_records_join (some (fork a b)) none rest = refl
option_records_join none (some (leaf k r)) rest = refl
option_records_join none (some (zero_only t)) rest = refl
option_records_join none (some (one_only t)) rest = refl
option_records_join none (some (fork a b)) rest = refl
option_records_join (some a) (some b) rest = refl

-- The records of a list of keys, before the given ones.
abbrev pub item_records : List Item → List ℕ → List ℕ
item_records [] rest = rest
item_records (item k r ∷ s) rest = r ∷ item_records s rest

-- The records of rising keys: the 0-side's, then the 1-side's.
pub records_by_sides : (n : ℕ) (s : List Item) (rest : List ℕ) → Lengths (suc n) s → Ordered s
    → item_records s rest ≡ item_records (zero_side s) (item_records (one_side s) rest)
records_by_sides n [] rest h o = refl
records_by_sides n (item [] r ∷ s) rest h o = absurd (omega (arith, h.0))
records_by_sides n (item (false ∷ k) r ∷ s) rest h o = ap (λ (x : List ℕ). r ∷ x) (records_by_sides n s rest h.1 o.1)
records_by_sides n (item (true ∷ k) r ∷ s) rest h o =
    let e : zero_side s ≡ [] = least_one k s o.0 in
    rw e (ap (λ (x : List ℕ). r ∷ x) (records_by_sides n s rest h.1 o.1 ∙ rw e))

-- The records of the trie of rising keys are theirs.
pub trie_of_records : (n : ℕ) (s : List Item) (rest : List ℕ) → Lengths n s → Ordered s → option_records (trie_of n s) rest ≡ item_records s rest
trie_of_records zero [] rest h o = refl
trie_of_records zero (item k r ∷ []) rest h o = refl
trie_of_records zero (item [] r ∷ item k' r' ∷ s) rest h o = absurd (true≢false (sym o.0.0))
trie_of_records zero (item (x ∷ k) r ∷ item k' r' ∷ s) rest h o = absurd (omega (arith, h.0))
trie_of_records (suc n) s rest h o =
    rw (trie_of_suc n s)
    (option_records_join (trie_of n (zero_side s)) (trie_of n (one_side s)) rest
    ∙ trie_of_records n (zero_side s) (option_records (trie_of n (one_side s)) rest) (lengths_zero n s h) (ordered_zero s o)
    ∙ ap (item_records (zero_side s)) (trie_of_records n (one_side s) rest (lengths_one n s h) (ordered_one s o))
    ∙ sym (records_by_sides n s rest h o))

-- The live entries of a whole trie.
pub live_records_write_all : (o : Option Trie) → live_records (write_all o) ≡ option_records o []
live_records_write_all none = refl
live_records_write_all (some t) = live_records_write t 0 0 []

-- The live entries of the trie of rising keys have their records.
pub live_records_items : (n : ℕ) (s : List Item) → Lengths n s → Ordered s → live_records (write_all (trie_of n s)) ≡ item_records s []
live_records_items n s h o = live_records_write_all (trie_of n s) ∙ trie_of_records n s [] h o

-- The live entries of two rows of entries.
pub live_records_append : (xs ys : List Entry) → live_records (xs ++ ys) ≡ live_records xs ++ live_records ys
live_records_append [] ys = refl
live_records_append (entry d none ∷ xs) ys = live_records_append xs ys
live_records_append (entry d (some r) ∷ xs) ys = ap (λ (l : List ℕ). r ∷ l) (live_records_append xs ys)
