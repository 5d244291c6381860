-- A page as it is met: its size, its mark, and its row of entries with all below them. Assumes nothing.
use mathlib.Core.Path.{◌≡◌, refl, sym, ap, ap₂, subst, ◌∙◌}
use mathlib.Core.Logic.{◌↔◌, ◌⊎◌, inl, inr, ◌≢◌}
use mathlib.Core.Bool.{Bool, true, false}
use mathlib.Core.List.{List, [], ◌∷◌}
use Prim.Native.Nat.{ℕ, suc, ◌+◌, ◌-◌, ◌≤◌, ◌<◌}
use native.Mathlib.Omega.{arith}
use lib.ListN.{length, get_or, set, length-set}
use lib.Seq.{get_or-set_same, get_or-set_other}
use Rattle.page_tree.specs.Rows.{Closed}
use Rattle.index_table.specs.Layout.{Ref, layout_of, page_bytes, level_of, count_of}
use Rattle.index_table.specs.Pages.{Pages, node_at, same, met, met_all}
use Rattle.index_table.specs.Soundness.{SizedPage}
use Rattle.index_table.specs.declared.header.Index.{Index}
use Rattle.index_table.proofs.PageBytes.{within_table}
use Rattle.index_table.proofs.PageRows.{length_refs}
use Rattle.index_table.proofs.PageCounts.{same_self, same_cases}
use Rattle.bytes_check.specs.Scans.{rows_of}
use Rattle.leaf_check.specs.Leaves.{Carried, Scanned, leaves_of_row, Ends, RowSound, EntrySound, LeavesPre}
use Rattle.table_check.specs.Walks.{WalkPre, Entered, Walked}
use Rattle.leaf_check.specs.declared.entries.Scan.{Scan}
use Rattle.leaf_check.specs.declared.entries.Checked.{Checked}
use Rattle.bytes_check.proofs.Iff.{said_no}
use Rattle.leaf_check.proofs.EntryTests.{scanned_no}

-- ---- its size

module _ (h : Index) (index : List ℕ) (level page : ℕ) where
  abbrev Sized : Type 0
  Sized = SizedPage (layout_of h.entries) h.pages level index page

  abbrev bytes : List ℕ
  bytes = page_bytes (layout_of h.entries) index page

  -- A page of its number and level, by its count.
  pub sized_few : (n : ℕ) → page < h.pages → level_of bytes ≡ level → n ≡ count_of bytes → ((1 ≤ n) × (n ≤ h.entries)) ↔ Sized
  sized_few n p l e = (
    (λ t. let k = length_refs (layout_of h.entries) bytes in record { number = p; level = l; some = omega arith; few = omega arith }),
    (λ s. let k = length_refs (layout_of h.entries) bytes in (omega (arith, s.some), omega (arith, s.few))),
  )
  -- ---- its mark

-- The mark that is set counts the page once more.
pub set_mark : (map : List ℕ) (p q : ℕ) → p < length map → get_or map p 0 ≡ 0 → get_or (set map p 1) q 0 ≡ get_or map q 0 + same p q
set_mark map p q l z = go (same_cases p q)
  where
    go : (p ≡ q) ⊎ ((p ≡ q → ⊥) × (same p q ≡ 0)) → get_or (set map p 1) q 0 ≡ get_or map q 0 + same p q
    go (inl e) = rw (← e) (omega (arith, get_or-set_same map p 1 0 l, z, same_self p))
    go (inr n) = omega (arith, n.1, get_or-set_other map p q 1 0 (λ y. n.0 (sym y)))

-- ---- its row

-- A row that is not empty ends in c exactly if c closes it.
pub ends_closed : (c : ℕ) (row : List Ref) → 1 ≤ length row → Ends c row ↔ Closed (λ (y : Ref). y.0) c row
ends_closed c [] l = absurd (omega arith)
ends_closed c (x ∷ []) l = ((λ e. e), (λ e. e))
ends_closed c (x ∷ y ∷ ys) l =
    let r = ends_closed c (y ∷ ys) (omega arith) in
    ((λ e. (e.0, r.0 e.1)), (λ e. (e.0, r.1 e.1)))

-- Below entries of rank 0 there are no pages, so nothing but their depths is asked.
pub no_pages : (pages : Pages) (row : List Ref) (q : ℕ) → met_all 0 pages row q ≡ 0
unfolding met
no_pages pages [] q = refl
no_pages pages (x ∷ row) q = omega (arith, no_pages pages row q)

-- The answer on a row of leaves is the same with any marks.
pub leaf_row_lem : {h : Index} {index keys used : List ℕ} {c : ℕ} {row : List Ref} {s : Scan} {r : Checked} (map : List ℕ) → ((q : ℕ) → get_or map q 0 ≤ 1)
    → Scanned (RowSound h index c 0 row []) h.width keys used h.held s (leaves_of_row 0 (rows_of h index) row) r
    → Scanned (RowSound h index c 0 row map) h.width keys used h.held s (leaves_of_row 0 (rows_of h index) row) r
leaf_row_lem {h} {index} {keys} {used} {c} {row} map m a =
    record {
      verdict = (
        (λ o. let v = a.verdict.0 o in (record { ends = v.0.ends; sound = v.0.sound; once = λ q. omega (arith, m q, no_pages (rows_of h index) row q) }, v.1)),
        (λ v. a.verdict.1 (record { ends = v.0.ends; sound = v.0.sound; once = λ q. omega (arith, no_pages (rows_of h index) row q) }, v.1)),
      );
      state = a.state;
      carried = a.carried;
    }

module _ (h : Index) (index : List ℕ) (n page c : ℕ) (map : List ℕ) where
  -- A page is sound, and met once below, exactly if it is sized, not marked before, and its row is in order with the page marked.
  pub page_row : h.pages ≤ length map
      → EntrySound h index (suc n) (c, page) map ↔ (SizedPage (layout_of h.entries) h.pages n index page × (get_or map page 0 ≡ 0) × RowSound h index c n (rows_of h index page) (set map page 1))
  unfolding met
  page_row long = (to, fro)
    where
      to : EntrySound h index (suc n) (c, page) map → SizedPage (layout_of h.entries) h.pages n index page × (get_or map page 0 ≡ 0) × RowSound h index c n (rows_of h index page) (set map page 1)
      to e =
          let z : get_or map page 0 ≡ 0 = omega (arith, e.once page, same_self page) in (
            e.sound.0,
            z,
            record {
              ends = (ends_closed c (rows_of h index page) e.sound.0.some).1 e.sound.1;
              sound = e.sound.2;
              once = λ q. omega (arith, e.once q, set_mark map page q (omega (arith, e.sound.0.number)) z);
            },
          )

      fro : SizedPage (layout_of h.entries) h.pages n index page × (get_or map page 0 ≡ 0) × RowSound h index c n (rows_of h index page) (set map page 1) → EntrySound h index (suc n) (c, page) map
      fro a =
          record {
            sound = (a.0, (ends_closed c (rows_of h index page) a.0.some).0 a.2.ends, a.2.sound);
            once = λ q. omega (arith, a.2.once q, set_mark map page q (omega (arith, a.0.number)) a.1);
          }

module _ {h : Index} {index keys used : List ℕ} {n page c : ℕ} {map : List ℕ} where
  -- A page that is refused as it is met.
  pub walked_refused : {masks map₁ map' : List ℕ} {s : Scan} {b : Bool} → WalkPre h index keys used masks map s → Entered h index n page map map₁ b → b ≡ false → (r : Checked) → r.faults ≢ 0
      → Walked h index keys used (suc n) (c, page) map map' s r
  walked_refused w e z r o =
      record {
        scanned = scanned_no r o (λ a p. let v = (page_row h index n page c map w.long).0 a in said_no e.verdict z (v.0, v.1));
        marks = λ t. absurd (o t);
      }

-- A page that was met: what the check of it took, its size, and the map with its mark.
pub record MetPage (h : Index) (index keys used masks : List ℕ) (n page : ℕ) (map map₁ : List ℕ) (s : Scan) : Type 0 where
  pub pre : WalkPre h index keys used masks map s
  pub size : SizedPage (layout_of h.entries) h.pages n index page
  pub unmarked : get_or map page 0 ≡ 0
  pub marks : map₁ ≡ set map page 1

-- It was met, as the test of it says.
pub met_page : {h : Index} {index keys used masks : List ℕ} {n page : ℕ} {map map₁ : List ℕ} {s : Scan} {b : Bool} → WalkPre h index keys used masks map s → Entered h index n page map map₁ b → b ≡ true
    → MetPage h index keys used masks n page map map₁ s
met_page w e z = record { pre = w; size = (e.verdict.0 z).0; unmarked = (e.verdict.0 z).1; marks = e.marks z }

module _ {h : Index} {index keys used masks : List ℕ} {n page : ℕ} {map map₁ : List ℕ} {s : Scan} (m : MetPage h index keys used masks n page map map₁ s) where
  inside : page < length map
  inside = omega (arith, m.size.number, m.pre.long)

  -- Every mark is 0 or 1 still.
  pub met_marked : (q : ℕ) → get_or map₁ q 0 ≤ 1
  met_marked q = rw m.marks (go (same_cases page q))
    where
      go : (page ≡ q) ⊎ ((page ≡ q → ⊥) × (same page q ≡ 0)) → get_or (set map page 1) q 0 ≤ 1
      go (inl y) = rw (← y) (omega (arith, get_or-set_same map page 1 0 inside))
      go (inr y) = omega (arith, m.pre.marked q, get_or-set_other map page q 1 0 (λ x. y.0 (sym x)))

  -- The map is as long as before.
  pub met_long : length map₁ ≡ length map
  met_long = ap length m.marks ∙ length-set map page 1

  -- What the check of a row of leaves takes.
  pub leaves_pre : LeavesPre h index keys used masks page s
  leaves_pre =
      record {
        within = within_table (layout_of h.entries) h.pages page index m.pre.table m.size.number;
        few = m.size.few;
        width = m.pre.width;
        register = m.pre.register;
        depths = m.pre.depths;
        carried = m.pre.carried;
      }

  -- What the check of a child takes.
  pub walk_on : (map' : List ℕ) (s' : Scan) → length map' ≡ length map₁ → ((q : ℕ) → get_or map' q 0 ≤ 1) → Carried h.width h.held s' → WalkPre h index keys used masks map' s'
  walk_on map' s' l k b =
      record { table = m.pre.table; width = m.pre.width; register = m.pre.register; depths = m.pre.depths; carried = b; long = omega (arith, m.pre.long, met_long); marked = k }

  -- By the answer on its row.
  module _ {c : ℕ} where
    -- The answer on its row is the answer on the page.
    pub walked_row : {map' : List ℕ} {r : Checked}
        → Scanned (RowSound h index c n (rows_of h index page) map₁) h.width keys used h.held s (leaves_of_row n (rows_of h index) (rows_of h index page)) r
        → (r.faults ≡ 0 → (q : ℕ) → get_or map' q 0 ≡ get_or map₁ q 0 + met_all n (rows_of h index) (rows_of h index page) q)
        → Walked h index keys used (suc n) (c, page) map map' s r
    unfolding met node_at
    walked_row {map'} {r} a k =
        record {
          scanned = record {
            verdict = (
              (λ o. let d = a.verdict.0 o in (row.1 (m.size, m.unmarked, subst (RowSound h index c n (rows_of h index page)) m.marks d.0), d.1)),
              (λ d. a.verdict.1 (subst (RowSound h index c n (rows_of h index page)) (sym m.marks) (row.0 d.0).2, d.1)),
            );
            state = a.state;
            carried = a.carried;
          };
          marks = λ o q. omega (arith, k o q, ap (λ (l : List ℕ). get_or l q 0) m.marks, set_mark map page q inside m.unmarked);
        }
      where
        row : EntrySound h index (suc n) (c, page) map ↔ (SizedPage (layout_of h.entries) h.pages n index page × (get_or map page 0 ≡ 0) × RowSound h index c n (rows_of h index page) (set map page 1))
        row = page_row h index n page c map m.pre.long

    -- So is an answer of no, whatever the marks.
    pub walked_row_no : {map' : List ℕ} {r : Checked} → r.faults ≢ 0
        → Scanned (RowSound h index c n (rows_of h index page) map₁) h.width keys used h.held s (leaves_of_row n (rows_of h index) (rows_of h index page)) r
        → Walked h index keys used (suc n) (c, page) map map' s r
    walked_row_no o a = walked_row a (λ t. absurd (o t))

    -- On level 0.
    pub walked_leaves : {r : Checked} → n ≡ 0
        → Scanned (RowSound h index c 0 (rows_of h index page) []) h.width keys used h.held s (leaves_of_row 0 (rows_of h index) (rows_of h index page)) r
        → Walked h index keys used (suc n) (c, page) map map₁ s r
    walked_leaves {r} y a =
        walked_row
        (subst (λ (k : ℕ). Scanned (RowSound h index c k (rows_of h index page) map₁) h.width keys used h.held s (leaves_of_row k (rows_of h index) (rows_of h index page)) r) (sym y) (leaf_row_lem map₁ met_marked a))
        (λ o q. omega (arith, no_pages (rows_of h index) (rows_of h index page) q, ap (λ (k : ℕ). met_all k (rows_of h index) (rows_of h index page) q) y))

-- An entry by its parts.
pub walked_at : {h : Index} {index keys used : List ℕ} {n : ℕ} {map map' : List ℕ} {s : Scan} {r : Checked} (x : Ref) {d p : ℕ} → d ≡ x.0 → p ≡ x.1
    → Walked h index keys used n (d, p) map map' s r → Walked h index keys used n x map map' s r
walked_at {h} {index} {keys} {used} {n} {map} {map'} {s} {r} x e f w = subst (λ (y : Ref). Walked h index keys used n y map map' s r) (ap₂ (λ (a b : ℕ). (a, b)) e f) w

-- An entry by its rank.
pub walked_lower : {h : Index} {index keys used : List ℕ} {map map' : List ℕ} {s : Scan} {r : Checked} {x : Ref} (n : ℕ) → 0 < n
    → Walked h index keys used (suc (n - 1)) x map map' s r → Walked h index keys used n x map map' s r
walked_lower n l w = let e : suc (n - 1) ≡ n = omega arith in rw e at w
