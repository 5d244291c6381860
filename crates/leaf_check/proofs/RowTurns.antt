-- A row of entries, one after the other: what the check knows after each turn. Assumes nothing.
use Rattle.std.proofs.Common.{◌≡◌, ℕ, zero, suc, ◌+◌, ◌-◌, ◌<◌, ◌≤◌, Bool, true, false, cond, eqb, ltb, ◌≢◌, ◌↔◌, List, [], ◌∷◌, ◌++◌, map, length, get_or, sym, refl, ap, ◌∙◌, subst, true≢false, arith, ltb-true, lt-ltb, eq-eqb, ne_eqb, eqb-true}
use borrow.Author.Tests.{eqb-false}
use Rattle.leaf_list.specs.Entries.{Entry, entry}
use Rattle.leaf_list.specs.Register.{key_at, in_use}
use Rattle.leaf_list.specs.Conditions.{State, run}
use Rattle.leaf_list.proofs.Check.{run_append, run_lost, run_live}
use Rattle.index_table.specs.Bytes.{table}
use Rattle.index_table.specs.Layout.{Ref, layout_of, page_bytes, count_of, ref_at, refs_of}
use Rattle.index_table.specs.Pages.{Pages, record_of, node_at, met, met_all}
use Rattle.index_table.specs.declared.header.Index.{Index}
use Rattle.index_table.proofs.ListLaws.{table_cons}
use Rattle.index_table.proofs.PageRows.{length_refs}
use Rattle.bytes_check.specs.Scans.{rows_of}
use Rattle.leaf_check.specs.Leaves.{state_of, Carried, Passing, Scanned, leaves_below, leaves_of_row, Ends, RowSound, EntrySound}
use Rattle.leaf_check.specs.declared.entries.Scan.{Scan}
use Rattle.leaf_check.specs.declared.entries.Checked.{Checked}
use Rattle.leaf_check.proofs.EntryTests.{scanned_no, scanned_yes, entry_closed, one_fault}

-- ---- some entries before others

module _ (w : ℕ) (keys used : List ℕ) (held : ℕ) (s : State) (xs ys : List Entry) where
  -- The entries before pass where all do.
  pub passing_front : Passing w keys used held s (xs ++ ys) → Passing w keys used held s xs
  passing_front h =
      record {
        fits = go (run w (key_at keys) (in_use used) s xs).fits refl;
        few = omega (arith, h.few, ap (λ (t : State). t.live) (run_append w (key_at keys) (in_use used) xs ys s), run_live w (key_at keys) (in_use used) ys (run w (key_at keys) (in_use used) s xs));
      }
    where
      go : (b : Bool) → (run w (key_at keys) (in_use used) s xs).fits ≡ b → (run w (key_at keys) (in_use used) s xs).fits ≡ true
      go true e = e
      go false e =
          absurd (true≢false (sym h.fits ∙ ap (λ (t : State). t.fits) (run_append w (key_at keys) (in_use used) xs ys s) ∙ run_lost w (key_at keys) (in_use used) ys (run w (key_at keys) (in_use used) s xs) e))

  -- All pass exactly if those behind pass behind the state that the others leave.
  pub passing_append : (s' : State) → s' ≡ run w (key_at keys) (in_use used) s xs → Passing w keys used held s (xs ++ ys) ↔ Passing w keys used held s' ys
  passing_append s' e = (
    (λ h. record { fits = ap (λ (t : State). t.fits) (sym z) ∙ h.fits; few = omega (arith, h.few, ap (λ (t : State). t.live) z) }),
    (λ h. record { fits = ap (λ (t : State). t.fits) z ∙ h.fits; few = omega (arith, h.few, ap (λ (t : State). t.live) z) }),
  )
    where
      z : run w (key_at keys) (in_use used) s (xs ++ ys) ≡ run w (key_at keys) (in_use used) s' ys
      z = run_append w (key_at keys) (in_use used) xs ys s ∙ ap (λ (t : State). run w (key_at keys) (in_use used) t ys) (sym e)

-- ---- the depths of a row

-- The test of a depth, by what stands behind it.
abbrev pub last : List Ref → Bool
last [] = true
last (y ∷ ys) = false

-- A row ends in c exactly if its first depth passes the test and the rest ends in c.
pub ends_cons : (c : ℕ) (x : Ref) (rest : List Ref) → Ends c (x ∷ rest) ↔ ((cond (last rest) (eqb x.0 c) (ltb c x.0) ≡ true) × Ends c rest)
ends_cons c x [] = ((λ h. (eq-eqb x.0 c h, tt)), (λ h. eqb-true x.0 c h.0))
ends_cons c x (y ∷ ys) = ((λ h. (lt-ltb c x.0 h.0, h.1)), (λ h. (ltb-true c x.0 h.0, h.1)))

-- ---- the turns of a loop

module _ (h : Index) (index keys used : List ℕ) (c n : ℕ) where
  -- The whole row is in order exactly if what is left is, behind the state and the marks of what was passed.
  pub record Turned (row : List Ref) (map₀ : List ℕ) (s₀ : Scan) (rest : List Ref) (map : List ℕ) (s : Scan) : Type 0 where
    pub same : (RowSound h index c n row map₀ × Passing h.width keys used h.held (state_of s₀) (leaves_of_row n (rows_of h index) row))
        ↔ (RowSound h index c n rest map × Passing h.width keys used h.held (state_of s) (leaves_of_row n (rows_of h index) rest))
    pub state : run h.width (key_at keys) (in_use used) (state_of s₀) (leaves_of_row n (rows_of h index) row) ≡ run h.width (key_at keys) (in_use used) (state_of s) (leaves_of_row n (rows_of h index) rest)
    pub marks : (q : ℕ) → get_or map₀ q 0 + met_all n (rows_of h index) row q ≡ get_or map q 0 + met_all n (rows_of h index) rest q
    pub marked : (q : ℕ) → get_or map q 0 ≤ 1
    pub carried : Carried h.width h.held s

module _ {h : Index} {index keys used : List ℕ} {c n : ℕ} where
  -- Before the first turn all is left.
  pub turned_none : (row : List Ref) (map : List ℕ) (s : Scan) → ((q : ℕ) → get_or map q 0 ≤ 1) → Carried h.width h.held s → Turned h index keys used c n row map s row map s
  turned_none row map s m k = record { same = ((λ z. z), (λ z. z)); state = refl; marks = λ q. refl; marked = m; carried = k }

  module _ {row : List Ref} {map₀ : List ℕ} {s₀ : Scan} {x : Ref} {rest : List Ref} {map : List ℕ} {s : Scan} (t : Turned h index keys used c n row map₀ s₀ (x ∷ rest) map s) where
    -- One entry more, that is in order.
    pub turned_more : cond (last rest) (eqb x.0 c) (ltb c x.0) ≡ true → EntrySound h index n x map
        → (map' : List ℕ) → ((q : ℕ) → get_or map' q 0 ≡ get_or map q 0 + met n (rows_of h index) x q)
        → (s' : Scan) → state_of s' ≡ run h.width (key_at keys) (in_use used) (state_of s) (leaves_below n (rows_of h index) x) → Carried h.width h.held s'
        → Turned h index keys used c n row map₀ s₀ rest map' s'
    turned_more d e map' m s' z k =
        record {
          same = ((λ a. to (t.same.0 a)), (λ a. t.same.1 (fro a)));
          state = t.state ∙ run_append h.width (key_at keys) (in_use used) (leaves_below n (rows_of h index) x) (leaves_of_row n (rows_of h index) rest) (state_of s)
              ∙ ap (λ (u : State). run h.width (key_at keys) (in_use used) u (leaves_of_row n (rows_of h index) rest)) (sym z);
          marks = λ q. omega (arith, t.marks q, m q);
          marked = λ q. omega (arith, m q, e.once q);
          carried = k;
        }
      where
        pass : Passing h.width keys used h.held (state_of s) (leaves_of_row n (rows_of h index) (x ∷ rest)) ↔ Passing h.width keys used h.held (state_of s') (leaves_of_row n (rows_of h index) rest)
        pass = passing_append h.width keys used h.held (state_of s) (leaves_below n (rows_of h index) x) (leaves_of_row n (rows_of h index) rest) (state_of s') z

        to : RowSound h index c n (x ∷ rest) map × Passing h.width keys used h.held (state_of s) (leaves_of_row n (rows_of h index) (x ∷ rest))
            → RowSound h index c n rest map' × Passing h.width keys used h.held (state_of s') (leaves_of_row n (rows_of h index) rest)
        to a = (record { ends = ((ends_cons c x rest).0 a.0.ends).1; sound = a.0.sound.1; once = λ q. omega (arith, a.0.once q, m q) }, pass.0 a.1)

        fro : RowSound h index c n rest map' × Passing h.width keys used h.held (state_of s') (leaves_of_row n (rows_of h index) rest)
            → RowSound h index c n (x ∷ rest) map × Passing h.width keys used h.held (state_of s) (leaves_of_row n (rows_of h index) (x ∷ rest))
        fro a = (record { ends = (ends_cons c x rest).1 (d, a.0.ends); sound = (e.sound, a.0.sound); once = λ q. omega (arith, a.0.once q, m q) }, pass.1 a.1)

    -- A depth out of place: the row is not in order.
    pub turned_depth : cond (last rest) (eqb x.0 c) (ltb c x.0) ≡ false
        → RowSound h index c n row map₀ → Passing h.width keys used h.held (state_of s₀) (leaves_of_row n (rows_of h index) row) → ⊥
    turned_depth d a p = true≢false (sym ((ends_cons c x rest).0 (t.same.0 (a, p)).0.ends).0 ∙ d)

    -- An entry that is not in order: nor is the row.
    pub turned_entry : (EntrySound h index n x map → Passing h.width keys used h.held (state_of s) (leaves_below n (rows_of h index) x) → ⊥)
        → RowSound h index c n row map₀ → Passing h.width keys used h.held (state_of s₀) (leaves_of_row n (rows_of h index) row) → ⊥
    turned_entry f a p =
        let r = t.same.0 (a, p) in
        f (record { sound = r.0.sound.0; once = λ q. omega (arith, r.0.once q) })
        (passing_front h.width keys used h.held (state_of s) (leaves_below n (rows_of h index) x) (leaves_of_row n (rows_of h index) rest) r.1)

  -- Nothing is left.
  module _ {row : List Ref} {map₀ : List ℕ} {s₀ : Scan} {map : List ℕ} {s : Scan} (t : Turned h index keys used c n row map₀ s₀ [] map s) where
    -- The row is in order.
    pub turned_all : RowSound h index c n row map₀ × Passing h.width keys used h.held (state_of s₀) (leaves_of_row n (rows_of h index) row)
    turned_all = t.same.1 (record { ends = tt; sound = tt; once = λ q. omega (arith, t.marked q) }, record { fits = refl; few = t.carried.live })

    -- The marks count the pages met below the row.
    pub turned_marks : (q : ℕ) → get_or map q 0 ≡ get_or map₀ q 0 + met_all n (rows_of h index) row q
    turned_marks q = omega (arith, t.marks q)

-- ---- the entries of a page

-- Entry i of a page, and those from i on, of as many as its count says.
abbrev pub entry_at : Index → List ℕ → ℕ → ℕ → Ref
entry_at h index page i = ref_at (layout_of h.entries) (page_bytes (layout_of h.entries) index page) i

abbrev pub entries_from : Index → List ℕ → ℕ → ℕ → ℕ → List Ref
entries_from h index page count i = table (entry_at h index page) i (count - i)

-- An entry of a page is among those that a page may hold.
pub entry_few : (h : Index) (index : List ℕ) (page count i : ℕ) → count ≡ count_of (page_bytes (layout_of h.entries) index page) → length (rows_of h index page) ≤ h.entries → i < count → i < h.entries
entry_few h index page count i e f l = omega (arith, length_refs (layout_of h.entries) (page_bytes (layout_of h.entries) index page))

-- The last entry of n is the one before place n.
pub last_entry : (f : ℕ → Ref) (i n : ℕ) → i < n → last (table f (i + 1) (n - (i + 1))) ≡ eqb (i + 1) n
unfolding table
last_entry f i n l = go (n - (i + 1)) refl
  where
    go : (k : ℕ) → n - (i + 1) ≡ k → last (table f (i + 1) k) ≡ eqb (i + 1) n
    go zero e = sym (eq-eqb (i + 1) n (omega arith))
    go (suc k) e = sym (ne_eqb (i + 1) n (λ z. omega arith))

module _ (h : Index) (index keys used : List ℕ) (page c n : ℕ) where
  -- The first i entries of a page were in order.
  pub record RowTurn (count : ℕ) (map₀ : List ℕ) (s₀ : Scan) (map : List ℕ) (s : Scan) (i : ℕ) : Type 0 where
    pub some : i ≤ count
    pub turned : Turned h index keys used c n (rows_of h index page) map₀ s₀ (entries_from h index page count i) map s

module _ {h : Index} {index keys used : List ℕ} {page c n : ℕ} where
  -- Before the first entry.
  pub row_start : (count : ℕ) (map : List ℕ) (s : Scan) → count ≡ count_of (page_bytes (layout_of h.entries) index page) → ((q : ℕ) → get_or map q 0 ≤ 1) → Carried h.width h.held s → RowTurn h index keys used page c n count map s map s 0
  unfolding refs_of
  row_start count map s e m k =
      record {
        some = omega arith;
        turned = subst (λ (r : List Ref). Turned h index keys used c n (rows_of h index page) map s r map s)
            (ap (table (entry_at h index page) 0) (sym e ∙ (let z : count ≡ count - 0 = omega arith in z))) (turned_none (rows_of h index page) map s m k);
      }

  module _ {count : ℕ} {map₀ : List ℕ} {s₀ : Scan} {map : List ℕ} {s : Scan} {i : ℕ} (t : RowTurn h index keys used page c n count map₀ s₀ map s i) (l : i < count) where
    here : Turned h index keys used c n (rows_of h index page) map₀ s₀ (entry_at h index page i ∷ entries_from h index page count (i + 1)) map s
    here = subst (λ (r : List Ref). Turned h index keys used c n (rows_of h index page) map₀ s₀ r map s) (table_cons (entry_at h index page) i count l) t.turned

    -- The test of the depth of entry i.
    test : (d : ℕ) → d ≡ (entry_at h index page i).0 → cond (eqb (i + 1) count) (eqb d c) (ltb c d)
        ≡ cond (last (entries_from h index page count (i + 1))) (eqb (entry_at h index page i).0 c) (ltb c (entry_at h index page i).0)
    test d e = rw (last_entry (entry_at h index page) i count l, e)

    abbrev Refused : Checked → Type 0
    Refused r = Scanned (RowSound h index c n (rows_of h index page) map₀) h.width keys used h.held s₀ (leaves_of_row n (rows_of h index) (rows_of h index page)) r

    -- Entry i has a depth out of place: no.
    pub row_depth : (d : ℕ) → d ≡ (entry_at h index page i).0 → cond (eqb (i + 1) count) (eqb d c) (ltb c d) ≡ false → (r : Checked) → r.faults ≢ 0 → Refused r
    row_depth d e z r o = scanned_no r o (turned_depth here (sym (test d e) ∙ z))

    module _ {r : Checked} (a : Scanned (EntrySound h index n (entry_at h index page i) map) h.width keys used h.held s (leaves_below n (rows_of h index) (entry_at h index page i)) r) where
      -- Entry i is not in order: no.
      pub row_entry : r.faults ≢ 0 → Refused r
      row_entry o = scanned_no r o (turned_entry here (λ e p. o (a.verdict.1 (e, p))))

      -- Entry i is in order.
      pub row_more : r.faults ≡ 0 → (d : ℕ) → d ≡ (entry_at h index page i).0 → cond (eqb (i + 1) count) (eqb d c) (ltb c d) ≡ true
          → (map' : List ℕ) → ((q : ℕ) → get_or map' q 0 ≡ get_or map q 0 + met n (rows_of h index) (entry_at h index page i) q) → RowTurn h index keys used page c n count map₀ s₀ map' r.scan (i + 1)
      row_more o d e z map' m =
          record { some = omega arith; turned = turned_more here (sym (test d e) ∙ z) (a.verdict.0 o).0 map' m r.scan (a.state o) (a.carried o) }

  -- All entries were in order.
  module _ {count : ℕ} {map₀ : List ℕ} {s₀ : Scan} {map : List ℕ} {s : Scan} {i : ℕ} (t : RowTurn h index keys used page c n count map₀ s₀ map s i) (l : count ≤ i) where
    done : Turned h index keys used c n (rows_of h index page) map₀ s₀ [] map s
    unfolding table
    done =
        subst (λ (r : List Ref). Turned h index keys used c n (rows_of h index page) map₀ s₀ r map s) (ap (table (entry_at h index page) i) (let z : count - i ≡ 0 = omega arith in z)) t.turned

    -- Yes, with the state behind the row.
    pub row_all : Scanned (RowSound h index c n (rows_of h index page) map₀) h.width keys used h.held s₀ (leaves_of_row n (rows_of h index) (rows_of h index page)) (record { faults = 0; scan = s })
    row_all = let a = turned_all done in scanned_yes _ refl a.0 a.1 (sym done.state) done.carried

    -- And the marks of all pages below it.
    pub row_marks : (q : ℕ) → get_or map q 0 ≡ get_or map₀ q 0 + met_all n (rows_of h index) (rows_of h index page) q
    row_marks = turned_marks done

-- ---- an entry on level 0

-- What one entry on level 0 was found to be, as an entry of rank 0; there are no pages below it.
pub leaf_sound : {h : Index} {index keys used : List ℕ} {s : Scan} {r : Checked} (x : Ref) (w held d p : ℕ) → w ≡ h.width → held ≡ h.held → d ≡ x.0 → p ≡ x.1
    → Scanned (Unit {0}) w keys used held s (entry d (record_of 65535 p) ∷ []) r
    → Scanned (EntrySound h index 0 x []) h.width keys used h.held s (leaves_below 0 (rows_of h index) x) r
unfolding met node_at
leaf_sound {h} {index} {keys} {used} {s} {r} x w held d p a b e f z =
    let y : Scanned (Unit {0}) h.width keys used h.held s (entry x.0 (record_of 65535 x.1) ∷ []) r = rw (← a, ← b, ← e, ← f) z in
    record {
      verdict = ((λ o. (record { sound = tt; once = λ q. omega arith }, (y.verdict.0 o).1)), (λ m. y.verdict.1 (tt, m.1)));
      state = y.state;
      carried = y.carried;
    }

-- So an entry on level 0 leaves no mark.
pub leaf_marks : (pages : Pages) (x : Ref) (q : ℕ) → get_or [] q 0 ≡ get_or [] q 0 + met 0 pages x q
unfolding met
leaf_marks pages x q = omega arith

-- No entry follows the closing one.
pub leaf_closed : {h : Index} {index keys used : List ℕ} {page c count : ℕ} {s₀ s : Scan} {i : ℕ} → RowTurn h index keys used page c 0 count [] s₀ [] s i → i < count → s.closed ≡ true
    → Scanned (RowSound h index c 0 (rows_of h index page) []) h.width keys used h.held s₀ (leaves_of_row 0 (rows_of h index) (rows_of h index page)) (record { faults = 1; scan = s })
leaf_closed {h} {index} {keys} {used} {page} {s} {i} t l z =
    let x = entry_at h index page i in row_entry t l (leaf_sound x _ _ _ _ refl refl refl refl (entry_closed h.width keys used h.held s x.0 x.1 z)) one_fault

-- The last entry of a page of level 0 has its depth in place: the page is in order exactly if the entry is.
pub leaf_last : {h : Index} {index keys used : List ℕ} {page c count : ℕ} {s₀ s : Scan} {i : ℕ} → RowTurn h index keys used page c 0 count [] s₀ [] s i → i + 1 ≡ count
    → (d : ℕ) → d ≡ (entry_at h index page i).0 → d ≡ c → {r : Checked}
    → Scanned (EntrySound h index 0 (entry_at h index page i) []) h.width keys used h.held s (leaves_below 0 (rows_of h index) (entry_at h index page i)) r
    → Scanned (RowSound h index c 0 (rows_of h index page) []) h.width keys used h.held s₀ (leaves_of_row 0 (rows_of h index) (rows_of h index page)) r
leaf_last {h} {index} {keys} {used} {page} {c} {count} {s₀} {s} {i} t l d e z {r} a = go (eqb r.faults 0) refl
  where
    go : (b : Bool) → eqb r.faults 0 ≡ b → Scanned (RowSound h index c 0 (rows_of h index page) []) h.width keys used h.held s₀ (leaves_of_row 0 (rows_of h index) (rows_of h index page)) r
    go false o = row_entry t (omega arith) a (eqb-false r.faults 0 o)
    go true o =
        subst (λ (n : ℕ). Scanned (RowSound h index c 0 (rows_of h index page) []) h.width keys used h.held s₀ (leaves_of_row 0 (rows_of h index) (rows_of h index page)) (record { faults = n; scan = r.scan })) (sym (eqb-true r.faults 0 o))
        (row_all (row_more t (omega arith) a (eqb-true r.faults 0 o) d e (rw (eq-eqb (i + 1) count l, eq-eqb d c z)) [] (leaf_marks _ _)) (omega arith))
