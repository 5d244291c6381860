-- One cut of a row (01, "cut after its shallowest entry, the last left out of the choice"). Assumes nothing.
use mathlib.Core.Path.{◌≡◌, refl, ap, sym, ◌∙◌}
use mathlib.Core.Bool.{Bool, true, false, cond}
use mathlib.Core.List.{List, [], ◌∷◌, ◌++◌}
use Prim.Native.Nat.{ℕ, ◌+◌, ◌≤◌, ◌<◌}
use native.Mathlib.Omega.{arith}
use lib.Dec.{leb}
use lib.ListN.{length, length-append}
use borrow.Author.Tests.{leb-true, leb-false, le-leb, lt-leb}
use Rattle.leaf_list.proofs.Depths.{closed_cons}
use Rattle.page_tree.specs.Rows.{Closed}
use Rattle.page_tree.specs.Cutting.{split}
use Rattle.page_tree.proofs.ClosedRows.{closed_nonempty}

-- Every depth but the last is at least m.
abbrev pub NoneBelow : {A : Type 0} → (A → ℕ) → ℕ → List A → Type 0
NoneBelow depth m [] = Unit {0}
NoneBelow depth m (x ∷ []) = Unit {0}
NoneBelow depth m (x ∷ y ∷ ys) = (m ≤ depth x) × NoneBelow depth m (y ∷ ys)

-- What a row, the depth m and two parts are to be.
pub record AfterShallowest {A : Type 0} (depth : A → ℕ) (row : List A) (m : ℕ) (left right : List A) : Type 0 where
  -- the parts in order are the row;
  pub joined : left ++ right ≡ row
  -- the left part ends with the depth m, and all before are deeper: m is met here first;
  pub first : Closed depth m left
  -- no depth after it, the last left out, is below m;
  pub least : NoneBelow depth m right
  -- the row's last is in the right part: it was left out of the choice
  pub last : 1 ≤ length right

-- None is below less.
pub none_below_less : {A : Type 0} (depth : A → ℕ) (m n : ℕ) (xs : List A) → m ≤ n → NoneBelow depth n xs → NoneBelow depth m xs
none_below_less depth m n [] h g = tt
none_below_less depth m n (x ∷ []) h g = tt
none_below_less depth m n (x ∷ y ∷ ys) h g = (omega (arith, g.0), none_below_less depth m n (y ∷ ys) h g.1)

-- A row that ends at a depth, before things of which none is below it.
pub none_below_append : {A : Type 0} (depth : A → ℕ) (m : ℕ) (xs ys : List A) → Closed depth m xs → NoneBelow depth m ys → NoneBelow depth m (xs ++ ys)
none_below_append depth m [] ys h g = absurd h
none_below_append depth m (x ∷ []) [] h g = tt
none_below_append depth m (x ∷ []) (y ∷ ys) h g = (omega arith, g)
none_below_append depth m (x ∷ z ∷ zs) ys h g = (omega (arith, h.0), none_below_append depth m (z ∷ zs) ys h.1 g)

-- "cut after its shallowest entry, the last left out of the choice"
pub split_shallowest : {A : Type 0} (depth : A → ℕ) (row : List A) → 2 ≤ length row
    → AfterShallowest depth row (split depth row).0 (split depth row).1 (split depth row).2
unfolding split
split_shallowest depth [] n = absurd (omega arith)
split_shallowest depth (x ∷ []) n = absurd (omega arith)
split_shallowest depth (x ∷ y ∷ []) n = record { joined = refl; first = refl; least = tt; last = omega arith }
split_shallowest {A} depth (x ∷ y ∷ z ∷ zs) n = step (leb (depth x) s.0) refl (split_shallowest depth (y ∷ z ∷ zs) (omega arith))
  where
    s : ℕ × List A × List A
    s = split depth (y ∷ z ∷ zs)

    r : Bool → ℕ × List A × List A
    r t = cond t (depth x, x ∷ [], y ∷ z ∷ zs) (s.0, x ∷ s.1, s.2)

    step : (t : Bool) → leb (depth x) s.0 ≡ t → AfterShallowest depth (y ∷ z ∷ zs) s.0 s.1 s.2
        → AfterShallowest depth (x ∷ y ∷ z ∷ zs) (r t).0 (r t).1 (r t).2
    step true e ih =
        record {
          joined = refl;
          first = refl;
          least =
              none_below_less depth (depth x) s.0 (y ∷ z ∷ zs) (leb-true (depth x) s.0 e)
              (rw ih.joined at (none_below_append depth s.0 s.1 s.2 ih.first ih.least));
          last = omega arith;
        }
    step false e ih =
        record {
          joined = ap (λ (r : List A). x ∷ r) ih.joined;
          first = closed_cons depth s.0 x s.1 (leb-false (depth x) s.0 e) ih.first;
          least = ih.least;
          last = ih.last;
        }

module _ {A : Type 0} (depth : A → ℕ) where
  -- One thing more in front that is the shallowest: the split is behind it.
  pub split_here : (x : A) (row : List A) → 2 ≤ length row → depth x ≤ (split depth row).0 → split depth (x ∷ row) ≡ (depth x, x ∷ [], row)
  unfolding split
  split_here x [] l h = absurd (omega arith)
  split_here x (y ∷ []) l h = absurd (omega arith)
  split_here x (y ∷ z ∷ zs) l h = rw (le-leb (depth x) (split depth (y ∷ z ∷ zs)).0 h)

  -- One thing more in front that is not: the split stays where it is.
  pub split_on : (x : A) (row : List A) → 2 ≤ length row → (split depth row).0 < depth x
      → split depth (x ∷ row) ≡ ((split depth row).0, x ∷ (split depth row).1, (split depth row).2)
  unfolding split
  split_on x [] l h = absurd (omega arith)
  split_on x (y ∷ []) l h = absurd (omega arith)
  split_on x (y ∷ z ∷ zs) l h = rw (lt-leb (depth x) (split depth (y ∷ z ∷ zs)).0 h)

  -- The two parts in order are the row.
  pub split_join : (row : List A) → (split depth row).1 ++ (split depth row).2 ≡ row
  unfolding split
  split_join [] = refl
  split_join (x ∷ []) = refl
  split_join (x ∷ y ∷ ys) = (split_shallowest depth (x ∷ y ∷ ys) (omega arith)).joined

  -- Neither part is empty, and no entry is lost.
  pub split_sizes : (row : List A) → 2 ≤ length row
      → (1 ≤ length (split depth row).1) × (1 ≤ length (split depth row).2)
      × (length (split depth row).1 + length (split depth row).2 ≡ length row)
  split_sizes row n =
      let s = split_shallowest depth row n in (
        closed_nonempty depth (split depth row).0 (split depth row).1 s.first,
        s.last,
        sym (length-append (split depth row).1 (split depth row).2) ∙ ap length s.joined,
      )

  -- Of a closed row the left part is closed by the shallowest depth, the right part as the row was.
  pub split_closed : (c : ℕ) (row : List A) → 2 ≤ length row → Closed depth c row → (c < (split depth row).0) × Closed depth c (split depth row).2
  split_closed c row n h =
      let s = split_shallowest depth row n in
      closed_parts c (split depth row).0 (split depth row).1 (split depth row).2 s.first s.last (rw s.joined h)
    where
      closed_parts : (c m : ℕ) (left right : List A) → Closed depth m left → 1 ≤ length right → Closed depth c (left ++ right)
          → (c < m) × Closed depth c right
      closed_parts c m [] right f l h = absurd f
      closed_parts c m (x ∷ []) [] f l h = absurd (omega arith)
      closed_parts c m (x ∷ []) (y ∷ ys) f l h = (omega (arith, h.0), h.1)
      closed_parts c m (x ∷ z ∷ zs) right f l h = closed_parts c m (z ∷ zs) right f.1 l h.1
