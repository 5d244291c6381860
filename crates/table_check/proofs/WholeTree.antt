-- The whole tree from the root: what the walk and the marks say of it. Assumes nothing.
use mathlib.Core.Path.{◌≡◌, refl, sym, ap, subst, ◌∙◌}
use mathlib.Core.Logic.{◌↔◌, ◌⊎◌, inl, inr}
use mathlib.Core.Bool.{Bool, true, false, ◌&&◌, and-eq-true_iff}
use mathlib.Core.List.{List, [], ◌∷◌}
use Prim.Native.Nat.{ℕ, zero, suc, ◌≤◌, ◌<◌}
use native.Mathlib.Omega.{arith}
use lib.Dec.{eqb, ltb, leb}
use lib.ListN.{length, get_or, replicate}
use borrow.Author.Tests.{eqb-true, eqb-false, eq-eqb, ltb-true, ltb-false, leb-true, le-leb}
use Rattle.leaf_list.specs.Register.{key_at, in_use}
use Rattle.leaf_list.specs.Conditions.{State, start, run}
use Rattle.page_tree.specs.Rows.{All}
use Rattle.index_table.specs.Layout.{Layout, Ref, layout_of, page_start, page_bytes, count_of}
use Rattle.index_table.specs.Pages.{pages_at, root_ref, same, met, met_all, in_use as page_in_use}
use Rattle.index_table.specs.Soundness.{SoundBelow}
use Rattle.index_table.specs.declared.header.Index.{Index}
use Rattle.index_table.proofs.PageBytes.{pages_apart}
use Rattle.index_table.proofs.PageCounts.{same_cases}
use Rattle.index_table.proofs.PageRows.{length_refs}
use Rattle.index_table.proofs.Frames.{refs_beyond}
use Rattle.bytes_check.specs.Scans.{PageCleared, rows_of}
use Rattle.leaf_check.specs.Leaves.{Passing, leaves_below, EntrySound}
use Rattle.table_check.specs.Walks.{Walked}
use Rattle.table_check.specs.Trees.{TreeSound, PagesSound, level_of_root}
use Rattle.leaf_check.specs.declared.entries.Scan.{Scan}
use Rattle.leaf_check.specs.declared.entries.Checked.{Checked}

-- ---- the pages met below a sound entry

module _ (L : Layout) (P : ℕ) (b : List ℕ) (q : ℕ) where
  -- The page is among the pages, and has no more entries than a page may hold.
  abbrev Few : Type 0
  Few = (q < P) × (length (pages_at L b q) ≤ L.entries)

  each_few : (n : ℕ) → ((x : Ref) → SoundBelow L P n b x → 1 ≤ met n (pages_at L b) x q → Few) → (row : List Ref) → All (SoundBelow L P n b) row → 1 ≤ met_all n (pages_at L b) row q → Few
  each_few n f [] s m = absurd (omega arith)
  each_few n f (x ∷ row) s m = go (met n (pages_at L b) x q) refl (λ k. each_few n f row s.1 k)
    where
      go : (k : ℕ) → met n (pages_at L b) x q ≡ k → (1 ≤ met_all n (pages_at L b) row q → Few) → Few
      go zero e g = g (omega arith)
      go (suc k) e g = f x s.0 (omega arith)

  -- So it is for every page met.
  pub met_few : (n : ℕ) (x : Ref) → SoundBelow L P n b x → 1 ≤ met n (pages_at L b) x q → Few
  unfolding met
  met_few zero x s m = absurd (omega arith)
  met_few (suc n) x s m = go (same_cases x.1 q) (λ z. each_few n (met_few n) (pages_at L b x.1) s.2 (omega (arith, z)))
    where
      go : (x.1 ≡ q) ⊎ ((x.1 ≡ q → ⊥) × (same x.1 q ≡ 0)) → (same x.1 q ≡ 0 → Few) → Few
      go (inl e) g = subst (λ (p : ℕ). (p < P) × (length (pages_at L b p) ≤ L.entries)) e (s.0.number, s.0.few)
      go (inr e) g = g e.1

-- A page that is not among the pages has no entries.
pub beyond_pages : (L : Layout) (P : ℕ) (b : List ℕ) (q : ℕ) → length b ≡ page_start L P → P ≤ q → length (pages_at L b q) ≡ 0
beyond_pages L P b q e h = refs_beyond L b q (go (eqb P q) refl)
  where
    go : (t : Bool) → eqb P q ≡ t → length b ≤ page_start L q
    go true z = omega (arith, ap (page_start L) (eqb-true P q z))
    go false z = omega (arith, pages_apart L P q (let n = eqb-false P q z in omega arith))

-- ---- the tree

-- Nothing is marked in a list of zeros.
pub no_marks : (n q : ℕ) → ◌≡◌ {A = ℕ} (get_or (replicate n 0) q 0) 0
no_marks zero q = refl
no_marks (suc n) zero = refl
no_marks (suc n) (suc q) = no_marks n q

-- The check's state at the start.
abbrev start_scan : Scan
start_scan = record { disc = 0; trail = 0; dummy = false; live = 0; closed = false }

module _ {h : Index} {index keys used : List ℕ} {level : ℕ} {map map' : List ℕ} {r : Checked} (unmarked : (q : ℕ) → get_or map q 0 ≡ 0)
    (w : Walked h index keys used (suc level) (root_ref h.root.0) map map' start_scan r) where
  abbrev end : State
  end = run h.width (key_at keys) (in_use used) start (leaves_below (suc level) (rows_of h index) (root_ref h.root.0))

  -- A tree that is sound is walked to its end.
  pub tree_walked : TreeSound h index keys used level → r.faults ≡ 0
  tree_walked t =
      w.scanned.verdict.1 (
        record { sound = t.below; once = λ q. omega (arith, unmarked q, t.once q) },
        record {
          fits = ((and-eq-true_iff end.fits end.closed).0 ((and-eq-true_iff (end.fits && end.closed) (eqb end.live h.held)).0 t.leaves).0).0;
          few = omega (arith, eqb-true end.live h.held ((and-eq-true_iff (end.fits && end.closed) (eqb end.live h.held)).0 t.leaves).1);
        },
      )

  module _ (o : r.faults ≡ 0) where
    -- Its list is closed.
    pub tree_closed : TreeSound h index keys used level → r.scan.closed ≡ true
    tree_closed t =
        ap (λ (s : State). s.closed) (w.scanned.state o) ∙ ((and-eq-true_iff end.fits end.closed).0 ((and-eq-true_iff (end.fits && end.closed) (eqb end.live h.held)).0 t.leaves).0).1

    -- It has as many live entries as records are held.
    pub tree_live : TreeSound h index keys used level → r.scan.live ≡ h.held
    tree_live t =
        ap (λ (s : State). s.live) (w.scanned.state o) ∙ eqb-true end.live h.held ((and-eq-true_iff (end.fits && end.closed) (eqb end.live h.held)).0 t.leaves).1

    marks : (q : ℕ) → get_or map' q 0 ≡ met (suc level) (rows_of h index) (root_ref h.root.0) q
    marks q = omega (arith, (w.scanned.verdict.0 o).0.once q, w.marks o q, unmarked q)

    -- Every mark is 0 or 1.
    pub marks_small : (q : ℕ) → get_or map' q 0 ≤ 1
    marks_small q = omega (arith, marks q, (w.scanned.verdict.0 o).0.once q)

    -- A page that is marked has no more entries than a page may hold.
    pub marks_few : (q : ℕ) → get_or map' q 0 ≡ 1 → length (rows_of h index q) ≤ h.entries
    marks_few q e = (met_few (layout_of h.entries) h.pages index q (suc level) (root_ref h.root.0) (w.scanned.verdict.0 o).0.sound (omega (arith, marks q))).1

    -- Walked to its end, the tree is sound exactly if every page is as its mark says.
    pub tree_cleared : length index ≡ page_start (layout_of h.entries) h.pages → r.scan.closed ≡ true → r.scan.live ≡ h.held
        → ((q : ℕ) → q < h.pages → PageCleared h index q (get_or map' q 0)) ↔ TreeSound h index keys used level
    tree_cleared long c l = (
      (λ f.
          record {
            below = a.0.sound;
            once = λ q. once f q (ltb q h.pages) refl;
            cleared = λ q g. (f q g).zero;
            leaves = (and-eq-true_iff (end.fits && end.closed) (eqb end.live h.held)).1 (
              (and-eq-true_iff end.fits end.closed).1 (a.1.fits, sym (ap (λ (s : State). s.closed) (w.scanned.state o)) ∙ c),
              eq-eqb end.live h.held (sym (ap (λ (s : State). s.live) (w.scanned.state o)) ∙ l),
            );
          }),
      (λ t q g. record { met = marks q ∙ t.once q; zero = t.cleared q g }),
    )
      where
        a : EntrySound h index (suc level) (root_ref h.root.0) map × Passing h.width keys used h.held start (leaves_below (suc level) (rows_of h index) (root_ref h.root.0))
        a = w.scanned.verdict.0 o

        once : ((q : ℕ) → q < h.pages → PageCleared h index q (get_or map' q 0)) → (q : ℕ) (t : Bool) → ltb q h.pages ≡ t
            → met (suc level) (rows_of h index) (root_ref h.root.0) q ≡ page_in_use (rows_of h index q)
        once f q true e = sym (marks q) ∙ (f q (ltb-true q h.pages e)).met
        once f q false e = far (met (suc level) (rows_of h index) (root_ref h.root.0) q) refl
          where
            g : h.pages ≤ q
            g = ltb-false q h.pages e

            far : (k : ℕ) → met (suc level) (rows_of h index) (root_ref h.root.0) q ≡ k → met (suc level) (rows_of h index) (root_ref h.root.0) q ≡ page_in_use (rows_of h index q)
            far zero z = omega (arith, beyond_pages (layout_of h.entries) h.pages index q long g)
            far (suc k) z = absurd (omega (arith, g, (met_few (layout_of h.entries) h.pages index q (suc level) (root_ref h.root.0) a.0.sound (omega arith)).0))

-- ---- the root

-- A root above level 0, by its count.
pub root_entries : (h : Index) (index : List ℕ) (level n : ℕ) → level ≤ 15 → (level ≡ 0 → ⊥) → n ≡ count_of (page_bytes (layout_of h.entries) index h.root.0)
    → (leb 2 n ≡ true) ↔ ((level ≤ 15) × (1 ≤ level → 2 ≤ length (rows_of h index h.root.0)))
root_entries h index level n a b e =
    let l = length_refs (layout_of h.entries) (page_bytes (layout_of h.entries) index h.root.0) in
    ((λ t. (a, λ k. let g = leb-true 2 n t in omega arith)), (λ f. le-leb 2 n (omega (arith, f.1 (omega arith)))))

module _ (h : Index) (index keys used : List ℕ) where
  module _ (level : ℕ) (e : level ≡ level_of_root h index) where
    abbrev RootFits : Type 0
    RootFits = (level ≤ 15) × (1 ≤ level → 2 ≤ length (rows_of h index h.root.0))

    -- Any other root: the tree below it decides.
    pub root_sound : RootFits → TreeSound h index keys used level ↔ PagesSound h index keys used
    root_sound f =
        subst (λ (k : ℕ). (k ≤ 15) × (1 ≤ k → 2 ≤ length (rows_of h index h.root.0)) → TreeSound h index keys used k ↔ PagesSound h index keys used) (sym e) go f
      where
        go : (level_of_root h index ≤ 15) × (1 ≤ level_of_root h index → 2 ≤ length (rows_of h index h.root.0)) → TreeSound h index keys used (level_of_root h index) ↔ PagesSound h index keys used
        go g = (
          (λ t. record { pages = record { below = t.below; once = t.once; cleared = t.cleared; level_high = g.0; root_rule = g.1 }; leaves = t.leaves }),
          (λ p. record { below = p.pages.below; once = p.pages.once; cleared = p.pages.cleared; leaves = p.leaves }),
        )
