-- The parts of a row that is cut (01, "A page with more than E entries is cut"). Assumes nothing.
use mathlib.Core.Path.{◌≡◌, refl, ap₂, sym, ◌∙◌}
use mathlib.Core.Logic.{◌⊎◌, inl, inr}
use mathlib.Core.Bool.{Bool, true, false, cond}
use mathlib.Core.List.{List, [], ◌∷◌, ◌++◌, append-nil}
use Prim.Native.Nat.{ℕ, zero, suc, ◌+◌, ◌-◌, ◌≤◌, ◌<◌}
use native.Mathlib.Omega.{arith}
use lib.Dec.{leb}
use lib.ListN.{length, length-append}
use borrow.Author.Tests.{leb-true, leb-false, le-leb, lt-leb}
use Rattle.leaf_list.proofs.Lists.{all_append}
use Rattle.page_tree.specs.Rows.{All, concat, Closed, last_depth, Page}
use Rattle.page_tree.specs.Cutting.{split, cut, parts}
use Rattle.page_tree.proofs.ListLaws.{all_left, all_right, concat_append}
use Rattle.page_tree.proofs.ClosedRows.{closed_last, closed_append, closed_deeper, closed_page}
use Rattle.page_tree.proofs.Splitting.{split_shallowest, split_closed, split_join, split_sizes}

module _ {A : Type 0} (depth : A → ℕ) (E : ℕ) where
  -- A row that fits is one part.
  pub cut_fits : (fuel : ℕ) (row : List A) → length row ≤ E → cut depth E fuel row ≡ row ∷ []
  unfolding cut
  cut_fits zero row h = refl
  cut_fits (suc fuel) row h = rw (le-leb (length row) E h)

  -- A longer one: "the left part first, then the right, are cut again".
  pub cut_long : (fuel : ℕ) (row : List A) → E < length row
      → cut depth E (suc fuel) row ≡ cut depth E fuel (split depth row).1 ++ cut depth E fuel (split depth row).2
  unfolding cut
  cut_long fuel row h = rw (lt-leb (length row) E h)

  -- What holds of a row left whole, and of a cut row if it holds of both sides, holds of every row and its parts.
  pub cut_induction : (P : ℕ → List A → List (List A) → Type 0)
      → ((fuel : ℕ) (row : List A) → (fuel ≡ 0) ⊎ (length row ≤ E) → P fuel row (row ∷ []))
      → ((fuel : ℕ) (row : List A) (ls rs : List (List A)) → E < length row → P fuel (split depth row).1 ls → P fuel (split depth row).2 rs
      → P (suc fuel) row (ls ++ rs))
      → (fuel : ℕ) (row : List A) → P fuel row (cut depth E fuel row)
  unfolding cut
  cut_induction P whole both zero row = whole zero row (inl refl)
  cut_induction P whole both (suc fuel) row =
      step (leb (length row) E) refl (cut_induction P whole both fuel (split depth row).1) (cut_induction P whole both fuel (split depth row).2)
    where
      ls : List (List A)
      ls = cut depth E fuel (split depth row).1

      rs : List (List A)
      rs = cut depth E fuel (split depth row).2

      step : (t : Bool) → leb (length row) E ≡ t → P fuel (split depth row).1 ls → P fuel (split depth row).2 rs
          → P (suc fuel) row (cond t (row ∷ []) (ls ++ rs))
      step true e p q = whole (suc fuel) row (inr (leb-true (length row) E e))
      step false e p q = both fuel row ls rs (leb-false (length row) E e) p q

  -- The parts in order are the row.
  pub cut_join : (fuel : ℕ) (row : List A) → concat (cut depth E fuel row) ≡ row
  cut_join =
      cut_induction (λ fuel row ps. concat ps ≡ row) (λ fuel row h. append-nil row)
      (λ fuel row ls rs h p q. concat_append ls rs ∙ ap₂ (λ xs ys. xs ++ ys) p q ∙ split_join depth row)

  -- What holds of every thing of the row holds of every thing of the parts.
  pub cut_all : (P : A → Type 0) (fuel : ℕ) (row : List A) → All P row → All (All P) (cut depth E fuel row)
  cut_all P =
      cut_induction (λ fuel row ps. All P row → All (All P) ps) (λ fuel row h a. (a, tt))
      (λ fuel row ls rs h p q a. let b : All P ((split depth row).1 ++ (split depth row).2) = rw (split_join depth row) a in
      all_append (All P) ls rs (p (all_left P (split depth row).1 (split depth row).2 b))
      (q (all_right P (split depth row).1 (split depth row).2 b)))

  -- A row that is left whole fits, where the fuel is enough.
  pub whole_fits : (fuel : ℕ) (row : List A) → (fuel ≡ 0) ⊎ (length row ≤ E) → length row ≤ fuel + E → length row ≤ E
  whole_fits fuel row (inl e) g = omega arith
  whole_fits fuel row (inr e) g = e

  module _ (one : 1 ≤ E) where
    -- A row of more than E is cut at most as often as it has more.
    pub cut_few : (fuel : ℕ) (row : List A) → (1 ≤ length (cut depth E fuel row)) × (length (cut depth E fuel row) ≤ suc (length row - E))
    cut_few =
        cut_induction (λ fuel row ps. (1 ≤ length ps) × (length ps ≤ suc (length row - E))) (λ fuel row h. (omega arith, omega arith))
        (λ fuel row ls rs h p q.
        let n = split_sizes depth row (omega arith) in
        rw (length-append ls rs) (omega (arith, p.0), omega (arith, p.1, q.1, n.0, n.1, n.2)))

    -- One part is the row itself.
    pub cut_cases : (fuel : ℕ) (row : List A) → (cut depth E fuel row ≡ row ∷ []) ⊎ (2 ≤ length (cut depth E fuel row))
    cut_cases fuel row =
        (cut_induction (λ fuel row ps. (1 ≤ length ps) × ((ps ≡ row ∷ []) ⊎ (2 ≤ length ps))) (λ fuel row h. (omega arith, inl refl))
        (λ fuel row ls rs h p q. rw (length-append ls rs) (omega (arith, p.0), inr (omega (arith, p.0, q.0)))) fuel row).1

    -- Of a closed row each part is a page, and the parts' last depths are a closed row.
    pub cut_closed : (fuel : ℕ) (row : List A) (c : ℕ) → Closed depth c row → length row ≤ fuel + E
        → Closed (last_depth depth 0) c (cut depth E fuel row) × All (Page depth E) (cut depth E fuel row)
    cut_closed =
        cut_induction (λ fuel row ps. (c : ℕ) → Closed depth c row → length row ≤ fuel + E → Closed (last_depth depth 0) c ps × All (Page depth E) ps)
        (λ fuel row h c cl g. (closed_last depth c 0 row cl, (closed_page depth E c row cl (whole_fits fuel row h g), tt)))
        (λ fuel row ls rs h p q c cl g.
        let n = split_sizes depth row (omega arith) in
        let k = split_closed depth c row (omega arith) cl in
        let a = p (split depth row).0 (split_shallowest depth row (omega arith)).first (omega (arith, n.1, n.2)) in
        let b = q c k.1 (omega (arith, n.0, n.2)) in
        let d = closed_deeper (last_depth depth 0) c (split depth row).0 ls k.0 a.0 in
        (closed_append (last_depth depth 0) c ls rs d b.0, all_append (Page depth E) ls rs a.1 b.1))

    -- Fuel that is enough: more changes nothing.
    pub cut_fuel : (fuel : ℕ) (row : List A) → length row ≤ fuel + E → (more : ℕ) → length row ≤ more + E
        → cut depth E fuel row ≡ cut depth E more row
    cut_fuel =
        cut_induction (λ fuel row ps. length row ≤ fuel + E → (more : ℕ) → length row ≤ more + E → ps ≡ cut depth E more row)
        (λ fuel row h g more m. sym (cut_fits more row (whole_fits fuel row h g))) again
      where
        again : (fuel : ℕ) (row : List A) (ls rs : List (List A)) → E < length row
            → (length (split depth row).1 ≤ fuel + E → (more : ℕ) → length (split depth row).1 ≤ more + E
            → ls ≡ cut depth E more (split depth row).1)
            → (length (split depth row).2 ≤ fuel + E → (more : ℕ) → length (split depth row).2 ≤ more + E
            → rs ≡ cut depth E more (split depth row).2)
            → length row ≤ suc fuel + E → (more : ℕ) → length row ≤ more + E → ls ++ rs ≡ cut depth E more row
        again fuel row ls rs h p q g zero m = absurd (omega arith)
        again fuel row ls rs h p q g (suc more) m =
            let n = split_sizes depth row (omega arith) in
            ap₂ (λ xs ys. xs ++ ys) (p (omega (arith, n.1, n.2)) more (omega (arith, n.1, n.2)))
            (q (omega (arith, n.0, n.2)) more (omega (arith, n.0, n.2))) ∙ sym (cut_long more row h)

    -- "cut .. again while too long": no fuel is seen.
    pub parts_again : (row : List A) → E < length row → parts depth E row ≡ parts depth E (split depth row).1 ++ parts depth E (split depth row).2
    parts_again row h =
        let n = split_sizes depth row (omega arith) in
        cut_fuel (length row) row (omega arith) (suc (length row)) (omega arith)
        ∙ cut_long (length row) row h
        ∙ ap₂ (λ xs ys. xs ++ ys) (cut_fuel (length row) (split depth row).1 (omega (arith, n.2)) (length (split depth row).1) (omega arith))
        (cut_fuel (length row) (split depth row).2 (omega (arith, n.2)) (length (split depth row).2) (omega arith))

  -- What cutting makes of a closed row.
  pub record WellCut (c : ℕ) (row : List A) (ps : List (List A)) : Type 0 where
    -- the parts in order are the row;
    pub joined : concat ps ≡ row
    -- each part is a page;
    pub pages : All (Page depth E) ps
    -- the parts' last depths are a closed row, for the parent;
    pub closed : Closed (last_depth depth 0) c ps
    -- and a row of more than E is cut at most as often as it has more
    pub few : length ps ≤ suc (length row - E)

  -- So every closed row is cut.
  pub parts_cut : (c : ℕ) (row : List A) → 1 ≤ E → Closed depth c row → WellCut c row (parts depth E row)
  parts_cut c row one cl =
      let o = cut_closed one (length row) row c cl (omega arith) in
      record { joined = cut_join (length row) row; pages = o.1; closed = o.0; few = (cut_few one (length row) row).1 }
