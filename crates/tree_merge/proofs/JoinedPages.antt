-- Two pages as one: the entries of the right page behind those of the left, and the right page freed. Assumes nothing.
use mathlib.Core.Path.{◌≡◌, refl, sym, ap, ◌∙◌, subst}
use mathlib.Core.Logic.{◌⊎◌, inl, inr}
use mathlib.Core.List.{List, [], ◌∷◌, ◌++◌, map-append}
use Prim.Native.Nat.{ℕ, suc, ◌+◌, ◌≤◌}
use native.Mathlib.Omega.{arith}
use lib.ListN.{length, take, length-append}
use Rattle.leaf_list.proofs.Lists.{all_append}
use Rattle.page_tree.specs.Rows.{All, last_depth}
use Rattle.page_tree.specs.Row.{depth_of}
use Rattle.page_tree.specs.Numbered.{Numbered, join_numbered}
use Rattle.page_tree.proofs.ListLaws.{sum_append}
use Rattle.page_tree.proofs.ClosedRows.{last_depth_append}
use Rattle.index_table.specs.Layout.{Layout, layout_of, Ref, Within, Fitting, page_bytes, level_of, refs_of}
use Rattle.index_table.specs.Pages.{Pages, pages_at, numbered_at, same, met, met_all, in_use}
use Rattle.index_table.specs.Soundness.{Cleared}
use Rattle.index_table.proofs.PageBytes.{within_table}
use Rattle.index_table.proofs.PageCounts.{same_self, same_cases}
use Rattle.index_table.proofs.Frames.{Keeps, UnchangedRow, unchanged_row}
use Rattle.index_write.specs.Standing.{Owned}
use Rattle.index_write.proofs.StoredRows.{row_page_head, page_of_level}
use Rattle.tree_delete.specs.Keeping.{numbers_at, Linked, Paged, Kept}
use Rattle.tree_delete.specs.Rows.{settled}
use Rattle.tree_delete.proofs.Frames.{linked_row}
use Rattle.tree_delete.proofs.RowChanges.{page_some}
use Rattle.tree_delete.proofs.Settling.{settled_bytes, settled_other, settled_refs, settled_cleared, settled_long, settled_front}
use Rattle.tree_delete.proofs.Sweeps.{linked_fits}

-- The last depth of a row that is not empty is its own, whatever stands before it.
last_some : (σ τ : ℕ) (row : List Ref) → 1 ≤ length row → last_depth depth_of σ row ≡ last_depth depth_of τ row
last_some σ τ [] h = absurd (omega arith)
last_some σ τ (x ∷ row) h = refl

-- Neighbours u and v of rank n + 1, whose pages fit into one.
module _ (e P n : ℕ) (b : List ℕ) (u v : Ref) (paged : Paged e P b) (left : Linked (layout_of e) P (suc n) b u) (right : Linked (layout_of e) P (suc n) b v)
    (own : Owned (layout_of e) b (met_all (suc n) (pages_at (layout_of e) b) (u ∷ v ∷ [])))
    (fit : length (pages_at (layout_of e) b u.1) + length (pages_at (layout_of e) b v.1) ≤ e) where
  abbrev L : Layout
  L = layout_of e

  abbrev pages : Pages
  pages = pages_at L b

  -- This is the row of the joined page,
  abbrev both : List Ref
  both = pages u.1 ++ pages v.1

  -- and this its entry in the parent.
  abbrev pub joined_ref : Ref
  joined_ref = (v.0, u.1)

  few : length both ≤ e
  few = omega (arith, length-append (pages u.1) (pages v.1))

  some : 1 ≤ length both
  some = omega (arith, length-append (pages u.1) (pages v.1), left.0.some)

  all_linked : All (Linked L P n b) both
  all_linked = all_append (Linked L P n b) (pages u.1) (pages v.1) left.2 right.2

  fitting : Fitting 2 both
  fitting = linked_fits e P n b both paged.high all_linked

  -- This is the table with the left page stored,
  unfoldable pub stored_table : List ℕ
  stored_table = settled e n b u.1 both

  -- and this the one where the right page is freed then.
  unfoldable pub joined_table : List ℕ
  joined_table = settled e n stored_table v.1 []

  abbrev pages' : Pages
  pages' = pages_at L joined_table

  within_left : Within L b u.1
  within_left = within_table L P u.1 b (omega (arith, paged.table)) left.0.number

  long_stored : length stored_table ≡ length b
  unfolding stored_table
  long_stored = settled_long e n b u.1 both within_left few fitting

  within_right : Within L stored_table v.1
  within_right = within_table L P v.1 stored_table (omega (arith, paged.table, long_stored)) right.0.number

  -- ---- which pages are met: the two, once each, and those below them

  opened : (q : ℕ) → met_all (suc n) pages (u ∷ v ∷ []) q ≡ same u.1 q + same v.1 q + met_all n pages both q
  unfolding met
  opened q = omega (arith, sum_append (λ y. met n pages y q) (pages u.1) (pages v.1))

  at_left : (same v.1 u.1 ≡ 0) × (met_all n pages both u.1 ≡ 0) × (in_use (pages u.1) ≡ 1)
  at_left = let o = own u.1 in let m = opened u.1 in let s = same_self u.1 in (omega arith, omega arith, omega arith)

  at_right : (same u.1 v.1 ≡ 0) × (met_all n pages both v.1 ≡ 0) × (in_use (pages v.1) ≡ 1)
  at_right = let o = own v.1 in let m = opened v.1 in let s = same_self v.1 in (omega arith, omega arith, omega arith)

  apart : v.1 ≡ u.1 → ⊥
  apart z = let s : same v.1 u.1 ≡ 1 = ap (same v.1) (sym z) ∙ same_self v.1 in omega (arith, s, at_left.0)

  -- ---- what is read: the left page has both rows, the right one none, and the others what they had

  other : (q : ℕ) → (u.1 ≡ q → ⊥) → (v.1 ≡ q → ⊥) → page_bytes L joined_table q ≡ page_bytes L b q
  unfolding joined_table stored_table
  other q ne ne' = settled_other e n stored_table v.1 [] within_right (omega arith) tt q ne' ∙ settled_other e n b u.1 both within_left few fitting q ne

  left_bytes : page_bytes L joined_table u.1 ≡ page_bytes L (settled e n b u.1 both) u.1
  unfolding joined_table stored_table
  left_bytes = settled_other e n stored_table v.1 [] within_right (omega arith) tt u.1 apart

  left_row : pages' u.1 ≡ both
  left_row = ap (refs_of L) left_bytes ∙ settled_refs e n b u.1 both within_left few fitting

  left_level : level_of (page_bytes L joined_table u.1) ≡ n
  left_level = ap level_of (left_bytes ∙ settled_bytes e n b u.1 both within_left few fitting ∙ page_some e n both some) ∙ page_of_level (row_page_head e n both)

  right_row : pages' v.1 ≡ []
  unfolding joined_table
  right_row = settled_refs e n stored_table v.1 [] within_right (omega arith) tt

  keeps : Keeps L b joined_table (met_all n pages both)
  keeps q l =
      other q (λ z. let k : 1 ≤ met_all n pages both u.1 = subst (λ (t : ℕ). 1 ≤ met_all n pages both t) (sym z) l in omega (arith, k, at_left.1))
      (λ z. let k : 1 ≤ met_all n pages both v.1 = subst (λ (t : ℕ). 1 ≤ met_all n pages both t) (sym z) l in omega (arith, k, at_right.1))

  stays : UnchangedRow L n b joined_table both
  stays = unchanged_row L b joined_table n both keeps

  met_now : (q : ℕ) → met_all (suc n) pages' (joined_ref ∷ []) q ≡ same u.1 q + met_all n pages both q
  unfolding met
  met_now q =
      let z : met_all n pages' (pages' u.1) q ≡ met_all n pages' both q = ap (λ (l : List Ref). met_all n pages' l q) left_row in
      omega (arith, z, stays.meets q)

  used_left : in_use (pages' u.1) ≡ 1
  used_left = let z : length (pages' u.1) ≡ length both = ap length left_row in omega (arith, z, some)

  used_right : in_use (pages' v.1) ≡ 0
  used_right = let z : length (pages' v.1) ≡ 0 = ap length right_row in omega (arith, z)

  -- Page q is met as often as it is in use, if it was so before.
  abbrev Balanced : ℕ → Type 0
  Balanced q = met_all (suc n) pages' (joined_ref ∷ []) q + in_use (pages q) ≡ met_all (suc n) pages (u ∷ v ∷ []) q + in_use (pages' q)

  -- Page q is the page p, or it is not.
  abbrev Either : ℕ → ℕ → Type 0
  Either p q = (p ≡ q) ⊎ ((p ≡ q → ⊥) × (same p q ≡ 0))

  counted : (q : ℕ) → Balanced q
  counted q = go (same_cases u.1 q) (same_cases v.1 q)
    where
      go : Either u.1 q → Either v.1 q → Balanced q
      go (inl s) t = subst Balanced s (omega (arith, met_now u.1, opened u.1, same_self u.1, at_left.0, at_left.1, at_left.2, used_left))
      go (inr s) (inl t) = subst Balanced t (omega (arith, met_now v.1, opened v.1, same_self v.1, at_right.0, at_right.1, at_right.2, used_right))
      go (inr s) (inr t) =
          let o : in_use (pages' q) ≡ in_use (pages q) = ap (λ (l : List ℕ). in_use (refs_of L l)) (other q s.0 t.0) in
          omega (arith, met_now q, opened q, s.1, t.1, o)

  untouched : (q : ℕ) → met_all (suc n) pages (u ∷ v ∷ []) q ≡ 0 → page_bytes L joined_table q ≡ page_bytes L b q
  untouched q z = go (same_cases u.1 q) (same_cases v.1 q)
    where
      go : Either u.1 q → Either v.1 q → page_bytes L joined_table q ≡ page_bytes L b q
      go (inl s) t = absurd (let k : same u.1 q ≡ 1 = ap (same u.1) (sym s) ∙ same_self u.1 in omega (arith, k, opened q, z))
      go (inr s) (inl t) = absurd (let k : same v.1 q ≡ 1 = ap (same v.1) (sym t) ∙ same_self v.1 in omega (arith, k, opened q, z))
      go (inr s) (inr t) = other q s.0 t.0

  last_is : v.0 ≡ last_depth depth_of 0 both
  last_is =
      right.1 ∙ last_some 0 (last_depth depth_of 0 (pages u.1)) (pages v.1) right.0.some
      ∙ sym (last_depth_append depth_of 0 (pages u.1) (pages v.1))

  long : length joined_table ≡ length b
  unfolding joined_table
  long = settled_long e n stored_table v.1 [] within_right (omega arith) tt ∙ long_stored

  front : take 16 joined_table ≡ take 16 b
  unfolding joined_table stored_table
  front = settled_front e n stored_table v.1 [] within_right (omega arith) tt ∙ settled_front e n b u.1 both within_left few fitting

  cleared : (q : ℕ) → Cleared L (page_bytes L b q) → Cleared L (page_bytes L joined_table q)
  unfolding joined_table stored_table
  cleared q c = settled_cleared e n stored_table v.1 [] within_right (omega arith) tt q (settled_cleared e n b u.1 both within_left few fitting q c)

  -- The joined page stands for the two.
  pub joined_kept : Kept (layout_of e) P (suc n) b (met_all (suc n) (pages_at (layout_of e) b) (u ∷ v ∷ [])) joined_table (joined_ref ∷ [])
  joined_kept = record {
    long = long;
    front = front;
    pages = counted;
    same = untouched;
    cleared = cleared;
    linked = (
      (
        record { number = left.0.number; level = left_level; some = rw left_row some; few = rw left_row few },
        rw left_row last_is,
        rw left_row (linked_row L P n b joined_table both keeps all_linked),
      ),
      tt,
    );
  }

  -- It reads as the two joined.
  pub joined_number_lem : numbered_at 65535 (suc n) (pages_at (layout_of e) joined_table) joined_ref
      ≡ join_numbered n (numbered_at 65535 (suc n) (pages_at (layout_of e) b) u) (numbered_at 65535 (suc n) (pages_at (layout_of e) b) v)
  unfolding numbered_at
  joined_number_lem =
      ap (λ (l : List (Numbered n)). (u.1, l))
      (ap (numbers_at n pages') left_row ∙ stays.numbereds 65535 ∙ map-append (numbered_at 65535 n pages) (pages u.1) (pages v.1))
