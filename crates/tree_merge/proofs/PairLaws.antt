-- Entries j and j + 1 of a page: what the code reads of them, and whether their pages may be one. Assumes nothing.
use mathlib.Core.Path.{◌≡◌, refl, sym, ◌∙◌}
use mathlib.Core.Bool.{Bool, true, false, cond, true≢false}
use mathlib.Core.List.{List}
use Prim.Native.Nat.{ℕ, suc, ◌+◌, ◌≤◌, ◌<◌}
use native.Mathlib.Omega.{arith}
use native.Mathlib.Numerals.{add-one}
use lib.Dec.{leb, ltb}
use lib.ListN.{length}
use borrow.Author.Tests.{lt-ltb, le-ltb, leb-true}
use Rattle.index_table.specs.Layout.{layout_of, Ref, Within}
use Rattle.tree_merge.specs.Merges.{PairPre, JoinPre}
use Rattle.tree_merge.proofs.EntryReads.{row_below, entry_below, read_below, joinable_below, page_within, entry_few, pointer_read, depth_read, child_within}

-- Where one test after another holds, the second holds.
second : (t u : Bool) → cond t u false ≡ true → u ≡ true
second true u h = h
second false u h = absurd (true≢false (sym h))

module _ {e P n : ℕ} {b : List ℕ} {x : Ref} {j : ℕ} (pair : PairPre e P n b x j) where
  first : j < length (row_below e b x)
  first = omega (arith, pair.inside)

  -- The page lies within the table,
  pub pair_within : Within (layout_of e) b x.1
  pair_within = page_within pair.back

  -- and both places are among its e.
  pub pair_few : suc j < e
  pair_few = entry_few pair.back (suc j) pair.inside

  -- What is read of the left entry is its pointer
  pub left_page : {p : ℕ} → p ≡ (read_below e b x j).1 → p ≡ (entry_below e b x j).1
  left_page = pointer_read pair.back j first

  -- and its depth,
  pub left_depth : {d : ℕ} → d ≡ (read_below e b x j).0 → d ≡ (entry_below e b x j).0
  left_depth = depth_read pair.back j first

  -- and so it is with the right one's pointer
  pub right_page : {p : ℕ} → p ≡ (read_below e b x (j + 1)).1 → p ≡ (entry_below e b x (suc j)).1
  right_page h = pointer_read pair.back (suc j) pair.inside (rw (add-one j) at h)

  -- and depth.
  pub right_depth : {d : ℕ} → d ≡ (read_below e b x (j + 1)).0 → d ≡ (entry_below e b x (suc j)).0
  right_depth h = depth_read pair.back (suc j) pair.inside (rw (add-one j) at h)

  -- The left page lies within the table,
  pub left_within : {p : ℕ} → p ≡ (entry_below e b x j).1 → Within (layout_of e) b p
  left_within = child_within pair.back j first

  -- and the right one.
  pub right_within : {p : ℕ} → p ≡ (entry_below e b x (suc j)).1 → Within (layout_of e) b p
  right_within = child_within pair.back (suc j) pair.inside

  abbrev u : Ref
  u = entry_below e b x j

  abbrev v : Ref
  v = entry_below e b x (suc j)

  -- Where the left page ends no deeper, they may not be one.
  pub joinable_no : {a d : ℕ} → a ≡ (entry_below e b x j).0 → d ≡ (entry_below e b x (suc j)).0 → a ≤ d → false ≡ joinable_below e b x j
  joinable_no y z h = rw (le-ltb v.0 u.0 (omega (arith, y, z))) refl

  -- Where it ends deeper, the sum of the counts decides.
  pub joinable_sum : {a d k l m : ℕ} → a ≡ (entry_below e b x j).0 → d ≡ (entry_below e b x (suc j)).0 → d < a
      → k ≡ length (row_below e b (entry_below e b x j)) → l ≡ length (row_below e b (entry_below e b x (suc j))) → m ≡ e
      → leb (k + l) m ≡ joinable_below e b x j
  joinable_sum y z h f g q = rw (lt-ltb v.0 u.0 (omega (arith, y, z)), f, g, q) refl

  -- Pages that may be one fit into one.
  pub pair_join : {r : Bool} → r ≡ joinable_below e b x j → r ≡ true → JoinPre e P n b x j
  pair_join r_is h =
      let both = length (row_below e b u) + length (row_below e b v) in
      record { pair = pair; fit = leb-true both e (second (ltb v.0 u.0) (leb both e) (sym r_is ∙ h)) }
