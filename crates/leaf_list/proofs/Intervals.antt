-- The key in an interval of discriminators, by the two sides. Assumes nothing.
use mathlib.Core.Path.{◌≡◌, refl, ◌∙◌}
use mathlib.Core.Bool.{false, true, and-true, not}
use mathlib.Core.List.{List, ◌∷◌, [], cons≢nil, map, ◌++◌}
use Prim.Native.Nat.{ℕ, suc, ◌+◌}
use native.Mathlib.Omega.{arith}
use lib.ListN.{length}
use Rattle.leaf_list.specs.Keys.{Key, zero_bits, below, set_bit}
use Rattle.leaf_list.specs.Entries.{Entry, entry}
use Rattle.leaf_list.specs.LeafList.{Item, record_between, item, record_from}
use Rattle.leaf_list.specs.Trie.{zero_side, one_side}
use Rattle.leaf_list.proofs.Bits.{below_zero_bits, set_bit_length}
use Rattle.leaf_list.proofs.Items.{Lengths}

-- Between two bounds that begin with 0.
pub between_zero : (lo hi : Key) (s : List Item) → record_between (false ∷ lo) (false ∷ hi) s ≡ record_between lo hi (zero_side s)
between_zero lo hi [] = refl
between_zero lo hi (item [] r ∷ s) = between_zero lo hi s
between_zero lo hi (item (false ∷ k) r ∷ s) = rw (between_zero lo hi s)
between_zero lo hi (item (true ∷ k) r ∷ s) = between_zero lo hi s

-- Between two bounds that begin with 1.
pub between_one : (lo hi : Key) (s : List Item) → record_between (true ∷ lo) (true ∷ hi) s ≡ record_between lo hi (one_side s)
between_one lo hi [] = refl
between_one lo hi (item [] r ∷ s) = between_one lo hi s
between_one lo hi (item (false ∷ k) r ∷ s) = between_one lo hi s
between_one lo hi (item (true ∷ k) r ∷ s) = rw (between_one lo hi s)

-- Up to the string 1.
pub between_middle : (lo : Key) (n : ℕ) (s : List Item) → record_between (false ∷ lo) (true ∷ zero_bits n) s ≡ record_from lo (zero_side s)
between_middle lo n [] = refl
between_middle lo n (item [] r ∷ s) = between_middle lo n s
between_middle lo n (item (false ∷ k) r ∷ s) = rw (and-true (not (below k lo)), between_middle lo n s)
between_middle lo n (item (true ∷ k) r ∷ s) = rw (below_zero_bits k n) (between_middle lo n s)

-- From a bound on that begins with 1.
pub from_one : (lo : Key) (n : ℕ) (s : List Item) → Lengths (suc n) s → record_from (true ∷ lo) s ≡ record_from lo (one_side s)
from_one lo n [] h = refl
from_one lo n (item [] r ∷ s) h = absurd (omega (arith, h.0))
from_one lo n (item (false ∷ k) r ∷ s) h = from_one lo n s h.1
from_one lo n (item (true ∷ k) r ∷ s) h = rw (from_one lo n s h.1)

-- From a bound on that begins with 0, where no key begins with 1.
pub from_zero : (lo : Key) (n : ℕ) (s : List Item) → Lengths (suc n) s → one_side s ≡ [] → record_from (false ∷ lo) s ≡ record_from lo (zero_side s)
from_zero lo n [] h e = refl
from_zero lo n (item [] r ∷ s) h e = absurd (omega (arith, h.0))
from_zero lo n (item (false ∷ k) r ∷ s) h e = rw (from_zero lo n s h.1 e)
from_zero lo n (item (true ∷ k) r ∷ s) h e = absurd (cons≢nil e)

-- From 0 on, where every key begins with 1.
pub from_start : (n : ℕ) (s : List Item) → Lengths (suc n) s → zero_side s ≡ [] → record_from (zero_bits (suc n)) s ≡ record_from (zero_bits n) (one_side s)
from_start n [] h e = refl
from_start n (item [] r ∷ s) h e = absurd (omega (arith, h.0))
from_start n (item (false ∷ k) r ∷ s) h e = absurd (cons≢nil e)
from_start n (item (true ∷ k) r ∷ s) h e = rw (below_zero_bits k n)

-- The depth of the string of a stem, below a node of depth l.
abbrev pub stem_depth : ℕ → Key → ℕ
stem_depth l [] = suc l
stem_depth l (x ∷ p) = stem_depth (suc l) p

-- The depth of a stem by its length.
pub stem_depth_length : (p : Key) (l : ℕ) → stem_depth l p ≡ suc (length p + l)
stem_depth_length [] l = omega arith
stem_depth_length (x ∷ p) l = stem_depth_length p (suc l) ∙ omega arith

-- The entries at the given stems, from the discriminator lo on; the depth c closes.
abbrev pub entries_at : ℕ → List Item → Key → List Key → ℕ → List Entry → List Entry
entries_at l s lo [] c rest = entry c (record_from lo s) ∷ rest
entries_at l s lo (p ∷ ps) c rest =
    entry (stem_depth l p) (record_between lo (set_bit (suc (length p)) lo) s) ∷ entries_at l s (set_bit (suc (length p)) lo) ps c rest

-- The entries at stems that begin with 0, where no key begins with 1.
pub entries_at_zero : (n l c : ℕ) (s : List Item) (lo : Key) (ps : List Key) (rest : List Entry) → Lengths (suc n) s → one_side s ≡ []
    → entries_at l s (false ∷ lo) (map (λ v. false ∷ v) ps) c rest ≡ entries_at (suc l) (zero_side s) lo ps c rest
entries_at_zero n l c s lo [] rest h e = rw (from_zero lo n s h e)
entries_at_zero n l c s lo (p ∷ ps) rest h e =
    rw (between_zero lo (set_bit (suc (length p)) lo) s, entries_at_zero n l c s (set_bit (suc (length p)) lo) ps rest h e)

-- The entries at stems that begin with 0, then at the string 1 and on.
pub entries_at_middle : (n l c : ℕ) (s : List Item) (lo : Key) (ps qs : List Key) (rest : List Entry) → length lo ≡ n
    → entries_at l s (false ∷ lo) (map (λ v. false ∷ v) ps ++ ([] ∷ qs)) c rest
    ≡ entries_at (suc l) (zero_side s) lo ps (suc l) (entries_at l s (true ∷ zero_bits n) qs c rest)
entries_at_middle n l c s lo [] qs rest h = rw (h, between_middle lo n s)
entries_at_middle n l c s lo (p ∷ ps) qs rest h =
    rw
    (between_zero lo (set_bit (suc (length p)) lo) s, entries_at_middle n l c s (set_bit (suc (length p)) lo) ps qs rest (set_bit_length (suc (length p)) lo ∙ h))

-- The entries at stems that begin with 1.
pub entries_at_one : (n l c : ℕ) (s : List Item) (lo : Key) (ps : List Key) (rest : List Entry) → Lengths (suc n) s
    → entries_at l s (true ∷ lo) (map (λ v. true ∷ v) ps) c rest ≡ entries_at (suc l) (one_side s) lo ps c rest
entries_at_one n l c s lo [] rest h = rw (from_one lo n s h)
entries_at_one n l c s lo (p ∷ ps) rest h = rw (between_one lo (set_bit (suc (length p)) lo) s, entries_at_one n l c s (set_bit (suc (length p)) lo) ps rest h)
