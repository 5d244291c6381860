-- What insertion puts in the place of the found entry. Assumes nothing.
use mathlib.Core.Path.{◌≡◌, refl, ap, ◌∙◌}
use mathlib.Core.Bool.{◌&&◌, Bool, cond, true, false}
use mathlib.Core.Option.{none, some, Option}
use mathlib.Core.List.{List, ◌++◌, [], ◌∷◌}
use Prim.Native.Nat.{ℕ, ◌≤◌, ◌<◌}
use native.Mathlib.Omega.{arith}
use lib.Dec.{ltb}
use borrow.Author.Tests.{ltb-true}
use Rattle.leaf_list.specs.Keys.{Key, first_difference, below}
use Rattle.leaf_list.specs.Entries.{Entry, entry, depth_of, pointer_of}
use Rattle.leaf_list.specs.Search.{positions}
use Rattle.leaf_list.specs.Insertion.{dummies, both_leaves, insert_at, leaf_depth}
use Rattle.leaf_list.proofs.Lists.{All}
use Rattle.leaf_list.proofs.TrieInsertion.{leaf_depth_max}
use Rattle.leaf_list.proofs.FoundEntry.{FoundOther}
use Rattle.leaf_list.proofs.Depths.{Closed, closed_cons}

-- Dummies before a longer row.
pub dummies_append : (l b : ℕ) (ps : List ℕ) (xs rest : List Entry) → dummies l b ps xs ++ rest ≡ dummies l b ps (xs ++ rest)
dummies_append l b [] xs rest = refl
dummies_append l b (p ∷ ps) xs rest = go (ltb l p && ltb p b) (dummies_append l b ps xs rest)
  where
    go : (t : Bool) → dummies l b ps xs ++ rest ≡ dummies l b ps (xs ++ rest)
        → cond t (entry p none ∷ dummies l b ps xs) (dummies l b ps xs) ++ rest
        ≡ cond t (entry p none ∷ dummies l b ps (xs ++ rest)) (dummies l b ps (xs ++ rest))
    go true e = ap (λ (es : List Entry). entry p none ∷ es) e
    go false e = e

-- Two leaves before a longer row.
pub both_leaves_append : (t : Bool) (b d new old : ℕ) (rest : List Entry) → both_leaves t b d new old [] ++ rest ≡ both_leaves t b d new old rest
both_leaves_append true b d new old rest = refl
both_leaves_append false b d new old rest = refl

-- The entries after the found one are not looked at.
pub insert_at_append : (key_of : ℕ → Key) (k : Key) (r τ : ℕ) (e : Entry) (rest : List Entry)
    → insert_at key_of k r τ (e ∷ []) ++ rest ≡ insert_at key_of k r τ (e ∷ rest)
insert_at_append key_of k r τ (entry d none) rest = refl
insert_at_append key_of k r τ (entry d (some old)) rest = go (ltb b (leaf_depth τ d))
  where
    b : ℕ
    b = first_difference 0 k (key_of old)

    go : (t : Bool)
        → cond t (entry b (some old) ∷ entry d (some r) ∷ []) (dummies (leaf_depth τ d) b (positions 0 k) (both_leaves (below k (key_of old)) b d r old [])) ++ rest
        ≡ cond t (entry b (some old) ∷ entry d (some r) ∷ rest) (dummies (leaf_depth τ d) b (positions 0 k) (both_leaves (below k (key_of old)) b d r old rest))
    go true = refl
    go false =
        dummies_append (leaf_depth τ d) b (positions 0 k) (both_leaves (below k (key_of old)) b d r old []) rest
        ∙ rw (both_leaves_append (below k (key_of old)) b d r old rest)

-- Dummies deeper than d before a row closed by d.
pub dummies_closed : (d l b : ℕ) (ps : List ℕ) (xs : List Entry) → d ≤ l → Closed depth_of d xs → Closed depth_of d (dummies l b ps xs)
dummies_closed d l b [] xs h g = g
dummies_closed d l b (p ∷ ps) xs h g = go (ltb l p) (ltb p b) refl (dummies_closed d l b ps xs h g)
  where
    go : (t u : Bool) → ltb l p ≡ t → Closed depth_of d (dummies l b ps xs)
        → Closed depth_of d (cond (t && u) (entry p none ∷ dummies l b ps xs) (dummies l b ps xs))
    go true true e i = closed_cons depth_of d (entry p none) (dummies l b ps xs) (omega (arith, ltb-true l p e)) i
    go true false e i = i
    go false u e i = i

-- Two leaves, closed by d.
pub both_leaves_closed : (t : Bool) (b d new old : ℕ) → d < b → Closed depth_of d (both_leaves t b d new old [])
both_leaves_closed true b d new old h = (h, refl)
both_leaves_closed false b d new old h = (h, refl)

-- The new entries end with the old depth, and all others are deeper: insertion never changes the last depth of a page.
pub insert_at_closed : (key_of : ℕ → Key) (k : Key) (r τ : ℕ) (e : Entry) (rest : List Entry) → FoundOther key_of k τ (e ∷ rest)
    → Closed depth_of (depth_of e) (insert_at key_of k r τ (e ∷ []))
insert_at_closed key_of k r τ (entry d none) rest h = refl
insert_at_closed key_of k r τ (entry d (some old)) rest h = go (ltb b (leaf_depth τ d))
  where
    b : ℕ
    b = first_difference 0 k (key_of old)

    go : (t : Bool)
        → Closed depth_of d (cond t (entry b (some old) ∷ entry d (some r) ∷ []) (dummies (leaf_depth τ d) b (positions 0 k) (both_leaves (below k (key_of old)) b d r old [])))
    go true = (h.deeper, refl)
    go false =
        dummies_closed d (leaf_depth τ d) b (positions 0 k) (both_leaves (below k (key_of old)) b d r old []) (omega (arith, leaf_depth_max τ d))
        (both_leaves_closed (below k (key_of old)) b d r old h.deeper)

-- A fact of NIL, of the new record and of the found pointer is one of every new pointer.
pub insert_at_pointers : (P : Option ℕ → Type 0) (key_of : ℕ → Key) (k : Key) (r τ : ℕ) (e : Entry) → P none → P (some r) → P (pointer_of e)
    → All (λ f. P (pointer_of f)) (insert_at key_of k r τ (e ∷ []))
insert_at_pointers P key_of k r τ (entry d none) n h g = (h, tt)
insert_at_pointers P key_of k r τ (entry d (some old)) n h g = go (ltb b (leaf_depth τ d))
  where
    b : ℕ
    b = first_difference 0 k (key_of old)

    Each : List Entry → Type 0
    Each = All (λ f. P (pointer_of f))

    before : (l : ℕ) (ps : List ℕ) (xs : List Entry) → Each xs → Each (dummies l b ps xs)
    before l [] xs i = i
    before l (p ∷ ps) xs i = at (ltb l p && ltb p b) (before l ps xs i)
      where
        at : (t : Bool) → Each (dummies l b ps xs)
            → Each (cond t (entry p none ∷ dummies l b ps xs) (dummies l b ps xs))
        at true i = (n, i)
        at false i = i

    both : (t : Bool) → Each (both_leaves t b d r old [])
    both true = (h, (g, tt))
    both false = (g, (h, tt))

    go : (t : Bool)
        → Each (cond t (entry b (some old) ∷ entry d (some r) ∷ []) (dummies (leaf_depth τ d) b (positions 0 k) (both_leaves (below k (key_of old)) b d r old [])))
    go true = (g, (h, tt))
    go false = before (leaf_depth τ d) (positions 0 k) (both_leaves (below k (key_of old)) b d r old []) (both (below k (key_of old)))
