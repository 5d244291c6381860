-- Search over the leaf list (figure 6; 01, "Search"). Assumes nothing.
use Rattle.std.specs.Prelude.{true, false, cond, ◌||◌, List, [], ◌∷◌, ℕ, suc, ltb, eqb}
use Rattle.std.proofs.Math.Option.{Option, none, some}
use Rattle.leaf_list.specs.Keys.{Key, same_key, set_bit_at}
use Rattle.leaf_list.specs.Entries.{Entry, entry}

-- "the position list is the key's one-bits, then W + 1"; p bits of the key went before.
abbrev pub positions : ℕ → Key → List ℕ
positions p [] = suc p ∷ []
positions p (false ∷ k) = positions (suc p) k
positions p (true ∷ k) = suc p ∷ positions (suc p) k

-- The entries that a search passed, the last first, and those from the entry that it found on.
abbrev pub Place : Type 0
Place = List Entry × List Entry

-- Figure 6: an entry at least as deep as the position is passed, and the position with it where they are equal.
abbrev pub search : List Entry → List ℕ → List Entry → Place
search before bs [] = (before, [])
search before [] (e ∷ es) = (before, e ∷ es)
search before (b ∷ bs) (entry d p ∷ es) = cond (ltb d b) (before, entry d p ∷ es) (search (entry d p ∷ before) (cond (eqb d b) bs (b ∷ bs)) es)

-- "the first entry whose discriminator exceeds the key"; the closing depth 0 stands above every key. D is the discriminator before.
abbrev pub first_exceeding : ℕ → ℕ → List Entry → ℕ → List Entry → Place
first_exceeding w key before D [] = (before, [])
first_exceeding w key before D (entry d p ∷ es) =
    cond (eqb d 0 || ltb key (set_bit_at w d D)) (before, entry d p ∷ es) (first_exceeding w key (entry d p ∷ before) (set_bit_at w d D) es)

abbrev pub pointer_at : List Entry → Option ℕ
pointer_at [] = none
pointer_at (entry d p ∷ es) = p

-- "Only a live leaf yields a record, and its key is then compared whole."
abbrev pub compared : (ℕ → Key) → Key → Option ℕ → Option ℕ
compared key_of k none = none
compared key_of k (some r) = cond (same_key k (key_of r)) (some r) none

-- The record of a key, by search; key_of gives the key of a record.
abbrev pub find : (ℕ → Key) → Key → List Entry → Option ℕ
find key_of k es = compared key_of k (pointer_at (search [] (positions 0 k) es).1)
