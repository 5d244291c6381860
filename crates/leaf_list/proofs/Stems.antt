-- Bounding nodes by their stems: a string that ends in 1 without that 1. Assumes nothing.
use mathlib.Core.Path.{◌≡◌, refl, ap, ◌∙◌, sym}
use mathlib.Core.Bool.{false, true, Bool, ◌||◌, ◌&&◌, cond, true≢false, or-true}
use mathlib.Core.List.{List, [], map, ◌∷◌, ◌++◌}
use Prim.Native.Nat.{ℕ, zero, suc, ◌<◌}
use lib.Dec.{leb}
use lib.ListN.{length}
use borrow.Author.Tests.{le-leb}
use Rattle.leaf_list.specs.Keys.{Key}
use Rattle.leaf_list.specs.LeafList.{Item, count, filter, item, begins}
use Rattle.leaf_list.specs.Trie.{zero_side, one_side}

-- The stems of the strings of 1 to n bits, in the order of the discriminators.
abbrev pub stems : ℕ → List Key
stems zero = []
stems (suc n) = map (λ v. false ∷ v) (stems n) ++ ([] ∷ map (λ v. true ∷ v) (stems n))

-- The string of the stem p is a bounding node.
abbrev pub bounding_stem : List Item → Key → Bool
bounding_stem s p = leb 2 (count (p ++ (true ∷ [])) s) || (leb 1 (count (p ++ (true ∷ [])) s) && leb 1 (count (p ++ (false ∷ [])) s))

-- The stems of the bounding nodes.
abbrev pub bounding_stems : ℕ → List Item → List Key
bounding_stems n s = filter (bounding_stem s) (stems n)

-- The keys that begin with 0 and v.
pub count_zero : (v : Key) (s : List Item) → count (false ∷ v) s ≡ count v (zero_side s)
count_zero v [] = refl
count_zero v (item [] r ∷ s) = count_zero v s
count_zero v (item (false ∷ k) r ∷ s) = rw (count_zero v s)
count_zero v (item (true ∷ k) r ∷ s) = count_zero v s

-- The keys that begin with 1 and v.
pub count_one : (v : Key) (s : List Item) → count (true ∷ v) s ≡ count v (one_side s)
count_one v [] = refl
count_one v (item [] r ∷ s) = count_one v s
count_one v (item (false ∷ k) r ∷ s) = count_one v s
count_one v (item (true ∷ k) r ∷ s) = rw (count_one v s)

-- All keys begin with the empty string.
pub count_all : (s : List Item) → count [] s ≡ length s
count_all [] = refl
count_all (item k r ∷ s) = ap suc (count_all s)

-- A stem that begins with 0 is bounding on the 0-side.
pub bounding_stem_zero : (s : List Item) (p : Key) → bounding_stem s (false ∷ p) ≡ bounding_stem (zero_side s) p
bounding_stem_zero s p = rw (count_zero (p ++ (true ∷ [])) s, count_zero (p ++ (false ∷ [])) s)

-- A stem that begins with 1 is bounding on the 1-side.
pub bounding_stem_one : (s : List Item) (p : Key) → bounding_stem s (true ∷ p) ≡ bounding_stem (one_side s) p
bounding_stem_one s p = rw (count_one (p ++ (true ∷ [])) s, count_one (p ++ (false ∷ [])) s)

-- Filtering two lists in a row.
pub filter_append : (f : Key → Bool) (vs ws : List Key) → filter f (vs ++ ws) ≡ filter f vs ++ filter f ws
filter_append f [] ws = refl
filter_append f (v ∷ vs) ws = rw (filter_append f vs ws) (go (f v))
  where
    go : (t : Bool) → cond t (v ∷ (filter f vs ++ filter f ws)) (filter f vs ++ filter f ws) ≡ cond t (v ∷ filter f vs) (filter f vs) ++ filter f ws
    go true = refl
    go false = refl

-- Filtering strings that are all made by h, with the test that g does before.
pub filter_map : (f g : Key → Bool) (h : Key → Key) (vs : List Key) → ((v : Key) → f (h v) ≡ g v) → filter f (map h vs) ≡ map h (filter g vs)
filter_map f g h [] e = refl
filter_map f g h (v ∷ vs) e = rw (e v, filter_map f g h vs e) (go (g v))
  where
    go : (t : Bool) → cond t (h v ∷ map h (filter g vs)) (map h (filter g vs)) ≡ map h (cond t (v ∷ filter g vs) (filter g vs))
    go true = refl
    go false = refl

-- Filtering by a test that nothing passes.
pub filter_none : (f : Key → Bool) (vs : List Key) → ((v : Key) → f v ≡ false) → filter f vs ≡ []
filter_none f [] h = refl
filter_none f (v ∷ vs) h = rw (h v, filter_none f vs h)

-- The bounding nodes by the two sides.
pub bounding_stems_suc : (n : ℕ) (s : List Item)
    → bounding_stems (suc n) s
    ≡ map (λ v. false ∷ v) (bounding_stems n (zero_side s))
    ++ cond (bounding_stem s []) ([] ∷ map (λ v. true ∷ v) (bounding_stems n (one_side s))) (map (λ v. true ∷ v) (bounding_stems n (one_side s)))
bounding_stems_suc n s =
    filter_append (bounding_stem s) (map (λ v. false ∷ v) (stems n)) ([] ∷ map (λ v. true ∷ v) (stems n))
    ∙ rw (
      filter_map (bounding_stem s) (bounding_stem (zero_side s)) (λ v. false ∷ v) (stems n) (bounding_stem_zero s),
      filter_map (bounding_stem s) (bounding_stem (one_side s)) (λ v. true ∷ v) (stems n) (bounding_stem_one s),
    )

-- A key does not begin with a string and with its sibling.
pub begins_sibling : (p k : Key) → begins (p ++ (true ∷ [])) k ≡ true → begins (p ++ (false ∷ [])) k ≡ false
begins_sibling [] [] e = refl
begins_sibling [] (false ∷ k) e = absurd (true≢false (sym e))
begins_sibling [] (true ∷ k) e = refl
begins_sibling (false ∷ p) [] e = refl
begins_sibling (false ∷ p) (false ∷ k) e = begins_sibling p k e
begins_sibling (false ∷ p) (true ∷ k) e = refl
begins_sibling (true ∷ p) [] e = refl
begins_sibling (true ∷ p) (false ∷ k) e = refl
begins_sibling (true ∷ p) (true ∷ k) e = begins_sibling p k e

-- No keys, no bounding node.
pub bounding_stems_nil : (n : ℕ) → bounding_stems n [] ≡ []
bounding_stems_nil n = filter_none (bounding_stem []) (stems n) (λ v. refl)

-- A single key has no bounding node.
pub bounding_stem_single : (k : Key) (r : ℕ) (p : Key) → bounding_stem (item k r ∷ []) p ≡ false
bounding_stem_single k r p = go (begins (p ++ (true ∷ [])) k) refl
  where
    go : (t : Bool) → begins (p ++ (true ∷ [])) k ≡ t → bounding_stem (item k r ∷ []) p ≡ false
    go true e = rw (e, begins_sibling p k e)
    go false e = rw e

-- None at all.
pub bounding_stems_single : (n : ℕ) (k : Key) (r : ℕ) → bounding_stems n (item k r ∷ []) ≡ []
bounding_stems_single n k r = filter_none (bounding_stem (item k r ∷ [])) (stems n) (bounding_stem_single k r)

-- The string 1 is bounding where two keys begin with 1.
pub bounding_stem_two : (s : List Item) → 1 < length (one_side s) → bounding_stem s [] ≡ true
bounding_stem_two s h = rw (count_one [] s, count_all (one_side s), le-leb 2 (length (one_side s)) h)

-- It is where one begins with 1 and one with 0.
pub bounding_stem_both : (s : List Item) → 0 < length (one_side s) → 0 < length (zero_side s) → bounding_stem s [] ≡ true
bounding_stem_both s h g =
    rw
    (count_one [] s, count_zero [] s, count_all (one_side s), count_all (zero_side s), le-leb 1 (length (one_side s)) h, le-leb 1 (length (zero_side s)) g)
    (or-true (leb 2 (length (one_side s))))
