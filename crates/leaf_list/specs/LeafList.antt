-- The leaf list as 01 words it ("The leaf list"), by the bounding nodes. Assumes nothing.
use Rattle.std.specs.Prelude.{Bool, true, false, cond, not, ◌&&◌, ◌||◌, List, [], ◌∷◌, ◌++◌, map, ℕ, zero, suc, leb, length}
use Rattle.std.proofs.Math.Option.{Option, none, some}
use Rattle.leaf_list.specs.Keys.{Key, bits, zero_bits, below, set_bit}
use Rattle.leaf_list.specs.Entries.{Entry, entry}
use Rattle.leaf_list.specs.Herd.{Herd}

-- A held key as its bits, with its record.
pub data Item : Type 0 where
  item : Key → ℕ → Item

abbrev pub items : ℕ → Herd → List Item
items w [] = []
items w (x ∷ s) = item (bits w x.0) x.1 ∷ items w s

-- "For a bit string v, its discriminator is v followed by zeros to W bits."
abbrev pub discriminator : ℕ → Key → Key
discriminator n [] = zero_bits n
discriminator zero (x ∷ v) = []
discriminator (suc n) (x ∷ v) = x ∷ discriminator n v

-- A key begins with v.
abbrev pub begins : Key → Key → Bool
begins [] k = true
begins (false ∷ v) [] = false
begins (false ∷ v) (false ∷ k) = begins v k
begins (false ∷ v) (true ∷ k) = false
begins (true ∷ v) [] = false
begins (true ∷ v) (false ∷ k) = false
begins (true ∷ v) (true ∷ k) = begins v k

-- How many keys begin with v.
abbrev pub count : Key → List Item → ℕ
count v [] = zero
count v (item k r ∷ s) = cond (begins v k) (suc (count v s)) (count v s)

-- "v's sibling (v with last bit 0)"
abbrev pub sibling : Key → Key
sibling [] = []
sibling (x ∷ []) = false ∷ []
sibling (x ∷ y ∷ v) = x ∷ sibling (y ∷ v)

-- "at least two keys begin with v, or at least one key begins with v and at least one begins with v's sibling"
abbrev pub is_bounding : List Item → Key → Bool
is_bounding s v = leb 2 (count v s) || (leb 1 (count v s) && leb 1 (count (sibling v) s))

-- "the strings v of 1 to W bits ending in 1", all of them, "in order of discriminator"
abbrev pub strings : ℕ → List Key
strings zero = []
strings (suc n) = map (λ v. false ∷ v) (strings n) ++ ((true ∷ []) ∷ map (λ v. true ∷ v) (strings n))

abbrev pub filter : (Key → Bool) → List Key → List Key
filter f [] = []
filter f (v ∷ vs) = let rest : List Key = filter f vs in cond (f v) (v ∷ rest) rest

-- "The bounding nodes of a set of keys", in order of discriminator.
abbrev pub bounding_nodes : ℕ → List Item → List Key
bounding_nodes w s = filter (is_bounding s) (strings w)

-- "the record of the one key from D(i-1) up to but not including D(i), or is NIL (a dummy) if there is none"
abbrev pub record_between : Key → Key → List Item → Option ℕ
record_between lo hi [] = none
record_between lo hi (item k r ∷ s) = cond (not (below k lo) && below k hi) (some r) (record_between lo hi s)

-- "The closing depth 0 stands for a bound above every key, so the last interval includes the key of all ones"
abbrev pub record_from : Key → List Item → Option ℕ
record_from lo [] = none
record_from lo (item k r ∷ s) = cond (not (below k lo)) (some r) (record_from lo s)

-- "their lengths are the depths d1, d2, ..; a last depth 0 closes the list"; D is the discriminator before the next entry.
abbrev pub entries_from : List Item → Key → List Key → List Entry
entries_from s D [] = entry 0 (record_from D s) ∷ []
entries_from s D (v ∷ vs) = entry (length v) (record_between D (set_bit (length v) D) s) ∷ entries_from s (set_bit (length v) D) vs

-- The leaf list of a herd whose keys have w bits.
unfoldable pub leaf_list : ℕ → Herd → List Entry
leaf_list w herd = entries_from (items w herd) (zero_bits w) (bounding_nodes w (items w herd))
