-- Deletion by the index of the found entry, as a loop does it. Assumes nothing.
use mathlib.Core.Path.{◌≡◌, refl, sym, ◌∙◌, ap}
use mathlib.Core.Bool.{cond, ◌&&◌, Bool, true, false}
use mathlib.Core.Option.{none, some, Option}
use mathlib.Core.List.{List, ◌++◌, ◌∷◌, reverse_aux, [], reverse_aux-append}
use Prim.Native.Nat.{ℕ, zero, suc, ◌<◌, ◌≤◌}
use native.Mathlib.Omega.{arith}
use lib.Dec.{ltb}
use lib.ListN.{get_or, length, take, drop, set, drop_of_length-le}
use lib.Seq.{take-suc, set_split, drop-cons}
use borrow.Author.Tests.{ltb-true, ltb-false}
use Rattle.leaf_list.specs.Keys.{Key}
use Rattle.leaf_list.specs.Entries.{Entry, entry, is_nil, pointer_of, depth_of}
use Rattle.leaf_list.specs.Search.{positions}
use Rattle.leaf_list.specs.Deletion.{drop_dummies, delete_other, delete_at, deletion}
use Rattle.leaf_list.proofs.Indexed.{put_back, found_index, search_index}

-- The empty herd's entry.
abbrev pub sole : Entry
sole = entry 0 none

-- Entry i.
abbrev pub entry_at : List Entry → ℕ → Entry
entry_at es i = get_or es i sole

-- Back over the dummies deeper than d that stand right before i.
abbrev pub dummies_start : List Entry → ℕ → ℕ → ℕ
dummies_start es d zero = zero
dummies_start es d (suc i) = let r : ℕ = dummies_start es d i in cond (is_nil (pointer_of (entry_at es i)) && ltb d (depth_of (entry_at es i))) r (suc i)

-- The entry i is no 1-leaf.
abbrev pub delete_other_index : List Entry → ℕ → List Entry
delete_other_index es i =
    cond (ltb (suc i) (length es) && ltb (depth_of (entry_at es (suc i))) (depth_of (entry_at es i)))
    (take (dummies_start es (depth_of (entry_at es (suc i))) i) es ++ drop (suc i) es)
    (set es i (entry (depth_of (entry_at es i)) none))

-- Figure 11 at the entry i.
abbrev pub delete_index : List Entry → ℕ → List Entry
delete_index es zero = delete_other_index es zero
delete_index es (suc j) =
    cond (ltb (depth_of (entry_at es (suc j))) (depth_of (entry_at es j)))
    (take (dummies_start es (depth_of (entry_at es (suc j))) j) es ++ entry (depth_of (entry_at es (suc j))) (pointer_of (entry_at es j)) ∷ drop (suc (suc j)) es)
    (delete_other_index es (suc j))

-- One entry more on the stack.
pub stack_take : (es : List Entry) (i : ℕ) → i < length es → reverse_aux (take (suc i) es) [] ≡ entry_at es i ∷ reverse_aux (take i es) []
stack_take es i h = rw (take-suc es i sole h) (reverse_aux-append (take i es) (entry_at es i ∷ []) [])

-- The dummies dropped, by index.
pub drop_dummies_index : (es : List Entry) (d i : ℕ) → i ≤ length es → drop_dummies d (reverse_aux (take i es) []) ≡ reverse_aux (take (dummies_start es d i) es) []
drop_dummies_index es d zero h = refl
drop_dummies_index es d (suc i) h = rw (stack_take es i h) (go (entry_at es i) (stack_take es i h) (drop_dummies_index es d i (omega arith)))
  where
    go : (e : Entry) → reverse_aux (take (suc i) es) [] ≡ e ∷ reverse_aux (take i es) []
        → drop_dummies d (reverse_aux (take i es) []) ≡ reverse_aux (take (dummies_start es d i) es) []
        → drop_dummies d (e ∷ reverse_aux (take i es) []) ≡ reverse_aux (take (cond (is_nil (pointer_of e) && ltb d (depth_of e)) (dummies_start es d i) (suc i)) es) []
    go (entry d' (some r)) q ih = sym q
    go (entry d' none) q ih = by (ltb d d')
      where
        by : (t : Bool)
            → cond t (drop_dummies d (reverse_aux (take i es) [])) (entry d' none ∷ reverse_aux (take i es) [])
            ≡ reverse_aux (take (cond t (dummies_start es d i) (suc i)) es) []
        by true = ih
        by false = sym q

-- No 1-leaf, by index.
pub delete_other_index_lem : (es : List Entry) (i : ℕ) → i < length es
    → delete_other (reverse_aux (take i es) []) (depth_of (entry_at es i)) (drop (suc i) es) ≡ delete_other_index es i
delete_other_index_lem es i h = go (ltb (suc i) (length es)) refl
  where
    d : ℕ
    d = depth_of (entry_at es i)

    put : set es i (entry d none) ≡ reverse_aux (reverse_aux (take i es) []) (entry d none ∷ drop (suc i) es)
    put = set_split es i (entry d none) h ∙ sym (put_back (take i es) [] (entry d none ∷ drop (suc i) es))

    next : (e : Entry) → drop (suc i) es ≡ e ∷ drop (suc (suc i)) es
        → delete_other (reverse_aux (take i es) []) d (drop (suc i) es)
        ≡ cond (ltb (depth_of e) d) (take (dummies_start es (depth_of e) i) es ++ drop (suc i) es) (set es i (entry d none))
    next (entry d' p') q = rw (put, q) (by (ltb d' d))
      where
        by : (t : Bool)
            → cond t (reverse_aux (drop_dummies d' (reverse_aux (take i es) [])) (entry d' p' ∷ drop (suc (suc i)) es))
            (reverse_aux (reverse_aux (take i es) []) (entry d none ∷ entry d' p' ∷ drop (suc (suc i)) es))
            ≡ cond t (take (dummies_start es d' i) es ++ (entry d' p' ∷ drop (suc (suc i)) es))
            (reverse_aux (reverse_aux (take i es) []) (entry d none ∷ entry d' p' ∷ drop (suc (suc i)) es))
        by true = rw (drop_dummies_index es d' i (omega arith)) (put_back (take (dummies_start es d' i) es) [] (entry d' p' ∷ drop (suc (suc i)) es))
        by false = refl

    go : (t : Bool) → ltb (suc i) (length es) ≡ t
        → delete_other (reverse_aux (take i es) []) d (drop (suc i) es)
        ≡ cond (t && ltb (depth_of (entry_at es (suc i))) d) (take (dummies_start es (depth_of (entry_at es (suc i))) i) es ++ drop (suc i) es)
        (set es i (entry d none))
    go true e = next (entry_at es (suc i)) (drop-cons es (suc i) sole (ltb-true (suc i) (length es) e))
    go false e = rw (put, drop_of_length-le es {i = suc i} (ltb-false (suc i) (length es) e))

-- An entry is its depth and its pointer.
pub delete_at_entry : (before : List Entry) (e : Entry) (rest : List Entry)
    → delete_at before (e ∷ rest) ≡ delete_at before (entry (depth_of e) (pointer_of e) ∷ rest)
delete_at_entry before (entry d p) rest = refl

-- After an entry, by index.
pub delete_at_suc : (es : List Entry) (j : ℕ) (p : Option ℕ) (e : Entry) → suc j < length es → reverse_aux (take (suc j) es) [] ≡ e ∷ reverse_aux (take j es) []
    → delete_at (reverse_aux (take (suc j) es) []) (entry (depth_of (entry_at es (suc j))) p ∷ drop (suc (suc j)) es)
    ≡ cond (ltb (depth_of (entry_at es (suc j))) (depth_of e))
    (take (dummies_start es (depth_of (entry_at es (suc j))) j) es ++ entry (depth_of (entry_at es (suc j))) (pointer_of e) ∷ drop (suc (suc j)) es)
    (delete_other_index es (suc j))
delete_at_suc es j p (entry d₁ p₁) h q = rw q (by (ltb D d₁))
  where
    D : ℕ
    D = depth_of (entry_at es (suc j))

    X : List Entry
    X = drop (suc (suc j)) es

    by : (t : Bool)
        → cond t (reverse_aux (drop_dummies D (reverse_aux (take j es) [])) (entry D p₁ ∷ X)) (delete_other (entry d₁ p₁ ∷ reverse_aux (take j es) []) D X)
        ≡ cond t (take (dummies_start es D j) es ++ entry D p₁ ∷ X) (delete_other_index es (suc j))
    by true = rw (drop_dummies_index es D j (omega arith)) (put_back (take (dummies_start es D j) es) [] (entry D p₁ ∷ X))
    by false = rw q at (delete_other_index_lem es (suc j) h)

-- Figure 11, by index.
pub delete_at_index : (es : List Entry) (i : ℕ) → i < length es → delete_at (reverse_aux (take i es) []) (drop i es) ≡ delete_index es i
delete_at_index es zero h = ap (delete_at []) (drop-cons es zero sole h) ∙ delete_at_entry [] (entry_at es zero) (drop 1 es) ∙ delete_other_index_lem es zero h
delete_at_index es (suc j) h =
    ap (delete_at (reverse_aux (take (suc j) es) [])) (drop-cons es (suc j) sole h)
    ∙ delete_at_entry (reverse_aux (take (suc j) es) []) (entry_at es (suc j)) (drop (suc (suc j)) es)
    ∙ delete_at_suc es j (pointer_of (entry_at es (suc j))) (entry_at es j) h (stack_take es j (omega arith))

-- Deletion by the index of the found entry.
pub deletion_index : (k : Key) (es : List Entry) → found_index (positions 0 k) es < length es → deletion k es ≡ delete_index es (found_index (positions 0 k) es)
deletion_index k es h = rw (search_index es [] (positions 0 k)) (delete_at_index es (found_index (positions 0 k) es) h)
