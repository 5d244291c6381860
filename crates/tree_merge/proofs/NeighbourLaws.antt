-- An entry's page and its neighbours: what the code tests of them is what the rule tests, and what it leaves is what the rule leaves. Assumes nothing.
use mathlib.Core.Path.{◌≡◌, refl, sym, ap, ap₂, ◌∙◌}
use mathlib.Core.Bool.{Bool, true, false, cond}
use mathlib.Core.List.{List, [], ◌∷◌, ◌++◌, map-append, append_assoc}
use Prim.Native.Nat.{ℕ, zero, suc, ◌+◌, ◌≤◌, ◌<◌}
use native.Mathlib.Omega.{arith}
use lib.Dec.{leb, ltb}
use lib.ListN.{length, take, drop, length-map, drop_of_length-le}
use lib.Seq.{split_at, drop-cons, take-suc}
use Rattle.page_tree.specs.Tree.{depth}
use Rattle.page_tree.specs.Merging.{sparse, joinable, with_right}
use Rattle.page_tree.specs.Numbered.{Numbered, numbered_depth, join_numbered}
use Rattle.page_tree.proofs.MergingPlaces.{placed, placed_calm, placed_first, placed_left, placed_right}
use Rattle.index_table.specs.Layout.{layout_of, Ref}
use Rattle.index_table.specs.Pages.{Pages, pages_at, numbered_at}
use Rattle.index_table.proofs.NumberedPages.{numbered_aside}
use Rattle.table_search.specs.Places.{sparse_at}
use Rattle.tree_delete.specs.Keeping.{numbers_at, Linked}
use Rattle.tree_delete.proofs.Frames.{kept_self}
use Rattle.tree_delete.proofs.LinkedDepths.{linked_depth}
use Rattle.tree_merge.specs.Merges.{JoinPost, PlacePre, beside_at, BesidePost, LeftShut}
use Rattle.tree_merge.proofs.EntryReads.{row_below, entry_below, sparse_below, joinable_below, entry_linked}

module _ (e P : ℕ) (b : List ℕ) where
  -- What a linked entry stands for has the entry's depth,
  pub number_depth : (n : ℕ) (x : Ref) → Linked (layout_of e) P n b x → numbered_depth n (numbered_at 65535 n (pages_at (layout_of e) b) x) ≡ x.0
  number_depth n x h = ap (depth n) (numbered_aside 65535 (pages_at (layout_of e) b) n x) ∙ linked_depth e P b n x h

  -- and as many entries as the page that it points at.
  pub number_size : (n : ℕ) (x : Ref) → length (numbered_at 65535 (suc n) (pages_at (layout_of e) b) x).1 ≡ length (pages_at (layout_of e) b x.1)
  unfolding numbered_at
  number_size n x = length-map (pages_at (layout_of e) b x.1) (numbered_at 65535 n (pages_at (layout_of e) b))

-- The entry is the one at place i of the page that x points at.
module _ {e P n : ℕ} {b : List ℕ} {x : Ref} {i : ℕ} (pre : PlacePre e P n b x i) where
  abbrev pages : Pages
  pages = pages_at (layout_of e) b

  abbrev row : List Ref
  row = row_below e b x

  abbrev Things : Type 0
  Things = List (Numbered (suc n))

  abbrev size : Numbered (suc n) → ℕ
  size y = length y.1

  -- What an entry stands for, and the entry thing k,
  abbrev num : Ref → Numbered (suc n)
  num z = numbered_at 65535 (suc n) pages z

  abbrev thing : ℕ → Numbered (suc n)
  thing k = num (entry_below e b x k)

  -- the entries before k, and those from k on.
  abbrev until : ℕ → Things
  until k = numbers_at (suc n) pages (take k row)

  abbrev from : ℕ → Things
  from k = numbers_at (suc n) pages (drop k row)

  -- The rule: a row around a thing that is looked at, and such a thing with those on its right.
  abbrev placed_in : Things → Numbered (suc n) → Things → Things
  placed_in fs y rs = placed e (numbered_depth (suc n)) size (join_numbered n) fs y rs

  abbrev tried : Numbered (suc n) → Things → Things
  tried y rs = with_right e (numbered_depth (suc n)) size (join_numbered n) y rs

  -- ---- what is tested

  sparse_is : (z : Ref) → sparse e (size (num z)) ≡ sparse_at e pages z.1
  sparse_is z = ap (sparse e) (number_size e P b n z)

  joinable_is : (k : ℕ) → suc k < length row → joinable e (numbered_depth (suc n)) size (thing k) (thing (suc k)) ≡ joinable_below e b x k
  joinable_is k l =
      let y = entry_below e b x k in
      let z = entry_below e b x (suc k) in
      let y_linked = entry_linked pre.back k (omega (arith, l)) in
      let z_linked = entry_linked pre.back (suc k) l in
      ap₂ (λ (c d : ℕ). cond (ltb d c) (leb (size (thing k) + size (thing (suc k))) e) false) (number_depth e P b (suc n) y y_linked) (number_depth e P b (suc n) z z_linked)
      ∙ ap₂ (λ (c d : ℕ). cond (ltb z.0 y.0) (leb (c + d) e) false) (number_size e P b n y) (number_size e P b n z)

  -- ---- where nothing is joined

  parted : numbers_at (suc n) pages row ≡ until i ++ thing i ∷ from (suc i)
  parted = ap (numbers_at (suc n) pages) (split_at row i (0, 0) pre.inside) ∙ map-append num (take i row) (entry_below e b x i ∷ drop (suc i) row)

  stays : numbers_at (suc n) pages row ≡ beside_at e n pages row i → BesidePost e P n b x i b
  unfolding numbered_at
  stays h = record { kept = kept_self (layout_of e) P (suc (suc n)) b x pre.back.linked; number = ap (λ (l : Things). (x.1, l)) h }

  -- A page that is not sparse stays as it is.
  pub beside_calm : sparse_below e b x i ≡ false → BesidePost e P n b x i b
  beside_calm h =
      stays (parted ∙ sym (placed_calm e (numbered_depth (suc n)) size (join_numbered n) (until i) (thing i) (from (suc i)) (sparse_is (entry_below e b x i) ∙ h)))

  -- The row before an entry that is not the first ends with its left neighbour.
  until_suc : (k : ℕ) → k < length row → until (suc k) ≡ until k ++ thing k ∷ []
  until_suc k l = ap (numbers_at (suc n) pages) (take-suc row k (0, 0) l) ∙ map-append num (take k row) (entry_below e b x k ∷ [])

  module _ (few : sparse_below e b x i ≡ true) where
    few_is : sparse e (size (thing i)) ≡ true
    few_is = sparse_is (entry_below e b x i) ∙ few

    -- ---- the left neighbour

    module _ (k : ℕ) (z : i ≡ suc k) where
      inside : suc k < length row
      inside = omega (arith, pre.inside)

      before : k < length row
      before = omega (arith, inside)

      left_is : beside_at e n pages row (suc k) ≡ placed_in (until k ++ thing k ∷ []) (thing (suc k)) (from (suc (suc k)))
      left_is = ap (λ (l : Things). placed_in l (thing (suc k)) (from (suc (suc k)))) (until_suc k before)

      -- A sparse page is joined with its left neighbour, where they may be one.
      pub beside_left : joinable_below e b x k ≡ true → (b' : List ℕ) → JoinPost e P n b x k b' → BesidePost e P n b x i b'
      beside_left may b' g = record { kept = g.kept; number = g.number ∙ ap (λ (l : Things). (x.1, l)) (sym (ap (beside_at e n pages row) z ∙ left_is ∙ joined)) }
        where
          joined : placed_in (until k ++ thing k ∷ []) (thing (suc k)) (from (suc (suc k))) ≡ until k ++ join_numbered n (thing k) (thing (suc k)) ∷ from (suc (suc k))
          joined = placed_left e (numbered_depth (suc n)) size (join_numbered n) (until k) (thing k) (thing (suc k)) (from (suc (suc k))) (rw z at few_is) (joinable_is k inside ∙ may)

      -- Where they may not, the right neighbour is tried.
      left_shut : joinable_below e b x k ≡ false → beside_at e n pages row (suc k) ≡ until (suc k) ++ tried (thing (suc k)) (from (suc (suc k)))
      left_shut may =
          left_is
          ∙ placed_right e (numbered_depth (suc n)) size (join_numbered n) (until k) (thing k) (thing (suc k)) (from (suc (suc k))) (rw z at few_is) (joinable_is k inside ∙ may)
          ∙ sym (append_assoc (until k) (thing k ∷ []) (tried (thing (suc k)) (from (suc (suc k)))))
          ∙ ap (λ (l : Things). l ++ tried (thing (suc k)) (from (suc (suc k)))) (sym (until_suc k before))

    shut_is : LeftShut e pages x.1 i → beside_at e n pages row i ≡ until i ++ tried (thing i) (from (suc i))
    shut_is = go i refl
      where
        go : (k : ℕ) → i ≡ k → LeftShut e pages x.1 k → beside_at e n pages row k ≡ until k ++ tried (thing k) (from (suc k))
        go zero z s = placed_first e (numbered_depth (suc n)) size (join_numbered n) (thing 0) (from 1) (rw z at few_is)
        go (suc k) z s = left_shut k z s

    -- ---- the right neighbour

    module _ (shut : LeftShut e (pages_at (layout_of e) b) x.1 i) where
      -- Where there is no right neighbour, the page stays,
      pub beside_last : length (row_below e b x) ≤ suc i → BesidePost e P n b x i b
      beside_last h = stays (parted ∙ sym (shut_is shut ∙ rw (drop_of_length-le row h)))

      module _ (next : suc i < length (row_below e b x)) where
        behind : from (suc i) ≡ thing (suc i) ∷ from (suc (suc i))
        behind = ap (numbers_at (suc n) pages) (drop-cons row (suc i) (0, 0) next)

        -- The row where the test of the right neighbour says t.
        abbrev after : Bool → Things
        after t = until i ++ cond t (join_numbered n (thing i) (thing (suc i)) ∷ from (suc (suc i))) (thing i ∷ thing (suc i) ∷ from (suc (suc i)))

        right_is : (t : Bool) → joinable_below e b x i ≡ t → beside_at e n pages row i ≡ after t
        right_is t may = shut_is shut ∙ ap (λ (l : Things). until i ++ tried (thing i) l) behind ∙ ap after (joinable_is i next ∙ may)

        -- where they may not be one, it stays too,
        pub beside_none : joinable_below e b x i ≡ false → BesidePost e P n b x i b
        beside_none may = stays (parted ∙ ap (λ (l : Things). until i ++ thing i ∷ l) behind ∙ sym (right_is false may))

        -- and else they are joined.
        pub beside_right : joinable_below e b x i ≡ true → (b' : List ℕ) → JoinPost e P n b x i b' → BesidePost e P n b x i b'
        beside_right may b' g = record { kept = g.kept; number = g.number ∙ ap (λ (l : Things). (x.1, l)) (sym (right_is true may)) }
