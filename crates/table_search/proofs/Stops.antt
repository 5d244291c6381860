-- The search of one page's row, entry by entry. Assumes nothing.
use mathlib.Core.Path.{◌≡◌, refl, sym, ap, subst, ◌∙◌}
use mathlib.Core.Logic.{◌⊎◌}
use mathlib.Core.List.{List, [], ◌∷◌, ◌++◌}
use Prim.Native.Nat.{ℕ, suc, ◌+◌, ◌≤◌, ◌<◌}
use native.Mathlib.Omega.{arith}
use native.Mathlib.Numerals.{add-one}
use lib.ListN.{length, get_or, take}
use lib.Seq.{take-suc}
use borrow.Author.Tests.{le-leb, ne_eqb, eq-eqb}
use Rattle.leaf_list.proofs.Lists.{all_at}
use Rattle.page_tree.specs.Rows.{last_depth}
use Rattle.page_tree.specs.Walk.{rest}
use Rattle.page_tree.proofs.WalkPlaces.{Passes, positions_after}
use Rattle.index_table.specs.Layout.{Ref, Layout, layout_of, ref_at, page_bytes}
use Rattle.index_table.specs.Pages.{pages_at}
use Rattle.index_table.proofs.PageRows.{length_refs, get_d_refs}
use Rattle.table_search.specs.Places.{later, left_from, NextPosition, Passed, depth_of, SeekPre, Stopped}

-- One entry more is passed.
passes_snoc : (bs : List ℕ) (b : ℕ) (bs' : List ℕ) (xs : List Ref) (y : Ref) → Passes depth_of bs xs → positions_after depth_of bs xs ≡ b ∷ bs' → b ≤ y.0
    → Passes depth_of bs (xs ++ (y ∷ [])) × (positions_after depth_of bs (xs ++ (y ∷ [])) ≡ rest y.0 b bs')
passes_snoc bs b bs' [] y p e h = rw e ((h, tt), refl)
passes_snoc [] b bs' (x ∷ xs) y p e h = absurd p
passes_snoc (a ∷ more) b bs' (x ∷ xs) y p e h =
    let r = passes_snoc (rest x.0 a more) b bs' xs y p.1 e h in
    ((p.0, r.0), r.1)

last_snoc : (τ : ℕ) (xs : List Ref) (y : Ref) → last_depth depth_of τ (xs ++ (y ∷ [])) ≡ y.0
last_snoc τ [] y = refl
last_snoc τ (x ∷ xs) y = last_snoc x.0 xs y

-- The depth before entry i of a row, where τ is the one before the row.
abbrev pub depth_before : ℕ → List Ref → ℕ → ℕ
depth_before τ row i = last_depth depth_of τ (take i row)

pub depth_before_lem : (τ : ℕ) (row : List Ref) (j : ℕ) → j < length row → depth_before τ row (suc j) ≡ (get_or row j (0, 0)).0
depth_before_lem τ row j h = ap (last_depth depth_of τ) (take-suc row j (0, 0) h) ∙ last_snoc τ (take j row) (get_or row j (0, 0))

-- The search before entry i: what was passed, and the next position b.
pub record Seeking (w key b₀ : ℕ) (row : List Ref) (b i : ℕ) : Type 0 where
  pub inside : i < length row
  pub passes : Passes depth_of (left_from w key b₀) (take i row)
  pub left : positions_after depth_of (left_from w key b₀) (take i row) ≡ left_from w key b
  pub rise : b₀ ≤ b
  pub high : b ≤ w + 1

pub seeking_start : (w key b : ℕ) (row : List Ref) → 1 ≤ length row → b ≤ w + 1 → Seeking w key b row b 0
seeking_start w key b row h g = record { inside = omega arith; passes = tt; left = refl; rise = omega arith; high = g }

pub seeking_more : (w key b₀ : ℕ) (row : List Ref) (b i d b' : ℕ) → Seeking w key b₀ row b i → i + 1 < length row → d ≡ (get_or row i (0, 0)).0 → b ≤ d
    → Passed w key b d b' → Seeking w key b₀ row b' (i + 1)
seeking_more w key b₀ row b i d b' s h e l p =
    let y : Ref = get_or row i (0, 0) in
    let m : take (i + 1) row ≡ take i row ++ (y ∷ []) = ap (λ (n : ℕ). take n row) (add-one i) ∙ take-suc row i (0, 0) s.inside in
    let r = passes_snoc (left_from w key b₀) b (later w key b) (take i row) y s.passes s.left (subst (λ (n : ℕ). b ≤ n) e l) in
    record {
      inside = h;
      passes = rw m r.0;
      left = rw m (r.1 ∙ subst (λ (x : ℕ). rest x b (later w key b) ≡ left_from w key b') e p.left);
      rise = omega (arith, s.rise, p.rise);
      high = p.high;
    }

-- It stops there, where the entry is the last or shallower than the position.
pub seeking_stop : (w key b₀ τ : ℕ) (row : List Ref) (b i p t : ℕ) → Seeking w key b₀ row b i → p ≡ b → t ≡ depth_before τ row i
    → (suc i ≡ length row) ⊎ ((get_or row i (0, 0)).0 < b) → Stopped w key b₀ τ row (record { at = i; position = p; trail = t })
seeking_stop w key b₀ τ row b i p t s e f h =
    record {
      inside = s.inside;
      passes = s.passes;
      left = s.left ∙ ap (left_from w key) (sym e);
      trail = sym f;
      rise = omega (arith, s.rise, e);
      high = omega (arith, s.high, e);
      stops = rw e h;
    }

-- What a passed entry leaves of the positions.
pub passed_kept : (w key b d : ℕ) → (d ≡ b → ⊥) → b ≤ w + 1 → Passed w key b d b
passed_kept w key b d h g = record { left = rw (ne_eqb d b h); rise = omega arith; high = g }

pub passed_next : (w key b d r : ℕ) → d ≡ b → b ≤ w → NextPosition w key b r → Passed w key b d r
passed_next w key b d r e h p = record { left = rw (eq-eqb d b e, le-leb b w h) p.left; rise = omega (arith, p.above); high = p.within }

-- The depth and the pointer that are read of an entry are the row's.
pub read_entry : (L : Layout) (b : List ℕ) (p i : ℕ) → i < length (pages_at L b p) → ref_at L (page_bytes L b p) i ≡ get_or (pages_at L b p) i (0, 0)
read_entry L b p i h = sym (get_d_refs L (page_bytes L b p) i (0, 0) (omega (arith, length_refs L (page_bytes L b p))))

-- A depth that is read is the row's, and at most w; above 0 where it is not the last.
module _ {b : List ℕ} {e page w key position : ℕ} (i d : ℕ) (pre : SeekPre b e page w key position) where
  pub read_depth : i < length (pages_at (layout_of e) b page) → d ≡ (ref_at (layout_of e) (page_bytes (layout_of e) b page) i).0 → (d ≤ w) × (d ≡ (get_or (pages_at (layout_of e) b page) i (0, 0)).0)
  read_depth h q =
      let is : d ≡ (get_or (pages_at (layout_of e) b page) i (0, 0)).0 = q ∙ ap (λ (x : Ref). x.0) (read_entry (layout_of e) b page i h) in
      (subst (λ (n : ℕ). n ≤ w) (sym is) (all_at (λ x. x.0 ≤ w) (pages_at (layout_of e) b page) i (0, 0) h pre.depths), is)

  pub depth_inner : i + 1 < length (pages_at (layout_of e) b page) → d ≡ (ref_at (layout_of e) (page_bytes (layout_of e) b page) i).0 → 0 < d
  depth_inner h q = subst (λ (n : ℕ). 0 < n) (sym (read_depth (omega arith) q).1) (pre.inner i h)
