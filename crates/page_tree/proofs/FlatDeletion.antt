-- Figure 11 from the entry found to the left is the leaf list's deletion (01, "Deletion is figure 11"). Assumes nothing.
use mathlib.Core.Path.{◌≡◌, refl, ◌∙◌}
use mathlib.Core.Bool.{Bool, true, false, cond}
use mathlib.Core.Option.{Option, none, some}
use mathlib.Core.List.{List, [], ◌∷◌, ◌++◌, reverse_aux}
use Prim.Native.Nat.{ℕ}
use native.Mathlib.Omega.{arith}
use lib.Dec.{ltb}
use borrow.Author.Tests.{lt-ltb, le-ltb}
use Rattle.leaf_list.specs.Entries.{Entry, entry}
use Rattle.leaf_list.specs.Search.{Place, search}
use Rattle.leaf_list.specs.Insertion.{trailing}
use Rattle.leaf_list.specs.Deletion.{drop_dummies, delete_other, delete_at, delete_from}
use Rattle.leaf_list.proofs.Positions.{Beyond}
use Rattle.page_tree.specs.declared.Unwind.{Unwind}
use Rattle.page_tree.specs.declared.Unwind.TheVariants.{Idle, Give, Clear}
use Rattle.page_tree.specs.Rows.{Closed}
use Rattle.page_tree.specs.Tree.{depth}
use Rattle.page_tree.specs.Walk.{rest}
use Rattle.page_tree.specs.OffPages.{Left, step_entry, over, next_depth, strike}
use Rattle.page_tree.proofs.WalkLaws.{rest_beyond}
use Rattle.page_tree.proofs.DeletionLeaves.{delete_flat}

-- What is asked, done to the entries before, which stand last first, and the entries after them.
abbrev pub settle : Unwind → List Entry → List Entry → List Entry
settle Idle before es = reverse_aux before es
settle (Give d) [] es = es
settle (Give d) (entry d' p ∷ before) es = reverse_aux (drop_dummies d before) (entry d p ∷ es)
settle (Clear d) before es = reverse_aux (drop_dummies d before) es

-- One step to the left.
pub settle_step : (s : Unwind) (e : Entry) (before es : List Entry)
    → settle s (e ∷ before) es ≡ settle (step_entry s e).1 before ((step_entry s e).0 ++ es)
settle_step Idle e before es = refl
settle_step (Give d) (entry d' p) before es = refl
settle_step (Clear d) (entry d' (some r)) before es = refl
settle_step (Clear d) (entry d' none) before es = go (ltb d d')
  where
    left : Bool → Left Entry
    left t = cond t ([], Clear d) (entry d' none ∷ [], Idle)

    go : (t : Bool) → reverse_aux (cond t (drop_dummies d before) (entry d' none ∷ before)) es ≡ settle (left t).1 before ((left t).0 ++ es)
    go true = refl
    go false = refl

-- At the entry found, no 1-leaf; the last has no next, and 0 stands for it.
delete_other_strike : (before after : List Entry) (d : ℕ) (p : Option ℕ) → Closed (depth 0) 0 (entry d p ∷ after)
    → delete_other before d after
    ≡ cond (ltb (next_depth 0 after) d) (settle (Clear (next_depth 0 after)) before after) (reverse_aux before (entry d none ∷ after))
delete_other_strike before [] d p h = rw h
delete_other_strike before (entry d' p' ∷ after) d p h = refl

-- At the entry found.
pub delete_at_strike : (before after : List Entry) (d : ℕ) (p : Option ℕ) → Closed (depth 0) 0 (entry d p ∷ after)
    → (let o : Left Entry = strike (trailing before) (next_depth 0 after) (entry d p) in
    delete_at before (entry d p ∷ after) ≡ settle o.1 before (o.0 ++ after))
delete_at_strike [] after d p h = delete_other_strike [] after d p h ∙ rw (le-ltb d 0 (omega arith)) (go (ltb (next_depth 0 after) d))
  where
    left : Bool → Left Entry
    left t = cond t ([], Clear (next_depth 0 after)) (entry d none ∷ [], Idle)

    go : (t : Bool) → cond t (settle (Clear (next_depth 0 after)) [] after) (entry d none ∷ after) ≡ settle (left t).1 [] ((left t).0 ++ after)
    go true = refl
    go false = refl
delete_at_strike (entry d' p' ∷ before) after d p h =
    rw (delete_other_strike (entry d' p' ∷ before) after d p h) (go (ltb d d') (ltb (next_depth 0 after) d))
  where
    left : Bool → Bool → Left Entry
    left t u = cond t ([], Give d) (cond u ([], Clear (next_depth 0 after)) (entry d none ∷ [], Idle))

    go : (t u : Bool)
        → cond t (reverse_aux (drop_dummies d before) (entry d p' ∷ after))
        (cond u (settle (Clear (next_depth 0 after)) (entry d' p' ∷ before) after) (reverse_aux (entry d' p' ∷ before) (entry d none ∷ after)))
        ≡ settle (left t u).1 (entry d' p' ∷ before) ((left t u).0 ++ after)
    go true u = refl
    go false true = refl
    go false false = refl

-- Deletion at the place found.
pub delete_from_flat : (es before : List Entry) (bs : List ℕ) → Closed (depth 0) 0 es → Beyond 0 bs
    → delete_from (search before bs es) ≡ settle (delete_flat 0 bs (trailing before) es).1 before (delete_flat 0 bs (trailing before) es).0
delete_from_flat [] before bs h e = absurd h
delete_from_flat (entry d p ∷ es) before [] h e = delete_at_strike before es d p h
delete_from_flat (entry d p ∷ []) before (b ∷ bs) h e = rw (lt-ltb d b (omega (arith, e.0))) (delete_at_strike before [] d p h)
delete_from_flat (entry d p ∷ y ∷ es) before (b ∷ bs) h e =
    go (ltb d b) (delete_from_flat (y ∷ es) (entry d p ∷ before) (rest d b bs) h.1 (rest_beyond 0 d b bs e))
  where
    right : Left Entry
    right = delete_flat 0 (rest d b bs) d (y ∷ es)

    here : Left Entry
    here = strike (trailing before) (next_depth 0 (y ∷ es)) (entry d p)

    left : Bool → Left Entry
    left t = cond t (here.0 ++ y ∷ es, here.1) (over step_entry (entry d p) right)

    place : Bool → Place
    place t = cond t (before, entry d p ∷ y ∷ es) (search (entry d p ∷ before) (rest d b bs) (y ∷ es))

    go : (t : Bool) → delete_from (search (entry d p ∷ before) (rest d b bs) (y ∷ es)) ≡ settle right.1 (entry d p ∷ before) right.0
        → delete_from (place t) ≡ settle (left t).1 before (left t).0
    go true i = delete_at_strike before (y ∷ es) d p h
    go false i = i ∙ settle_step right.1 (entry d p) before right.0

-- "before the first entry stands no entry": nothing is left to do there.
pub settle_first : (s : Unwind) (es : List Entry) → settle s [] es ≡ es
settle_first Idle es = refl
settle_first (Give d) es = refl
settle_first (Clear d) es = refl
