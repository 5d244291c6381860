-- The way back over the row of a page, and into the page below an entry. Assumes nothing.
use mathlib.Core.Path.{◌≡◌, refl, sym, ap, ap₂, ◌∙◌}
use mathlib.Core.List.{List, [], ◌∷◌, ◌++◌, append-nil, map}
use Prim.Native.Nat.{ℕ, zero, suc, ◌-◌, ◌≤◌, ◌<◌}
use native.Mathlib.Omega.{arith}
use lib.ListN.{length, take, drop, length-take}
use lib.Seq.{drop-length, take_all}
use Rattle.leaf_list.specs.Entries.{Entry}
use Rattle.page_tree.specs.Rows.{All}
use Rattle.page_tree.specs.Row.{row_of, Holds}
use Rattle.page_tree.specs.declared.Row.{Row}
use Rattle.page_tree.specs.declared.Unwind.{Unwind}
use Rattle.page_tree.specs.OffPages.{Left, step_entry, sweep}
use Rattle.page_tree.specs.Numbered.{Numbered, kept_under, step_numbered}
use Rattle.index_table.specs.Layout.{layout_of, Ref, Within, Fitting}
use Rattle.index_table.specs.Pages.{Pages, pages_at, leaf_of, numbered_at, met, met_all}
use Rattle.index_table.proofs.PageBytes.{within_table}
use Rattle.index_write.specs.Standing.{Owned}
use Rattle.entry_delete.specs.declared.Remnant.{Remnant}
use Rattle.std.specs.Prelude.{Option}
use Rattle.page_tree.specs.declared.Entry.{Entry as Stored}
use Rattle.tree_delete.specs.Keeping.{numbers_at, Linked, Paged, Kept}
use Rattle.entry_delete.specs.Entries.{parts, Turned}
use Rattle.tree_delete.specs.Rows.{around, SettlePre, SettlePost}
use Rattle.tree_delete.specs.Unwinding.{BackPre, Done, BackPost, SweepPre, sweep_at, SweepPost}
use Rattle.tree_delete.proofs.Settling.{settled_kept, settled_numbers}

-- ---- level 0

-- An entry of a leaf page meets no page.
pub none_met : (pages : Pages) (row : List Ref) (q : ℕ) → met_all 0 pages row q ≡ 0
unfolding met
none_met pages [] q = refl
none_met pages (x ∷ row) q = omega (arith, none_met pages row q)

leaf_numbers : (pages : Pages) (row : List Ref) → numbers_at 0 pages row ≡ map (leaf_of 65535) row
unfolding numbered_at
leaf_numbers pages row = refl

-- What is left of an entry of level 0.
pub leaf_done : (e P : ℕ) (b : List ℕ) (x : Ref) (o : Left Entry) (r : Remnant) → Turned r o → Done e P 0 b x o b r
unfolding met
leaf_done e P b x o r t = record {
  kept = record { long = refl; front = refl; pages = λ q. omega (arith, none_met (pages_at (layout_of e) b) (parts r) q); same = λ q z. refl; cleared = λ q c. c; linked = t.fits };
  numbers = leaf_numbers (pages_at (layout_of e) b) (parts r) ∙ t.entries;
  state = t.state;
}

-- An entry of level 0 is passed.
pub back_leaf : (n : ℕ) {e P : ℕ} {b : List ℕ} {x : Ref} (s : Unwind) (r : Remnant) → n ≡ 0 → Turned r (step_entry s (leaf_of 65535 x)) → BackPost e P n b x s b r
unfolding numbered_at
back_leaf zero {e} {P} {b} {x} s r z t = leaf_done e P b x (step_entry s (leaf_of 65535 x)) r t
back_leaf (suc n) s r z t = absurd (omega arith)

-- ---- below an entry of a rank above 0

paged_within : {e P : ℕ} {b : List ℕ} (p : ℕ) → Paged e P b → p < P → Within (layout_of e) b p
paged_within {e} {P} {b} p h l = within_table (layout_of e) P p b (omega (arith, h.table)) l

-- The page below can be loaded.
pub down_load : (n : ℕ) {e P : ℕ} {b : List ℕ} {x : Ref} (p : ℕ) → p ≡ x.1 → (n ≡ 0 → ⊥) → BackPre e P n b x
    → Within (layout_of e) b p × (length (pages_at (layout_of e) b p) ≤ e)
down_load zero p s ne h = absurd (ne refl)
down_load (suc n) {e} {P} {b} {x} p s ne h = rw s (paged_within x.1 h.paged h.linked.0.number, h.linked.0.few)

-- The pages below its row may be changed.
pub row_owned : (e P n : ℕ) (b : List ℕ) (x : Ref) → BackPre e P (suc n) b x → Owned (layout_of e) b (met_all n (pages_at (layout_of e) b) (pages_at (layout_of e) b x.1))
unfolding met
row_owned e P n b x h q = omega (arith, h.own q)

-- A row of all entries, none of them done.
whole_row : (row : Row) (es : List Ref) → Holds row (length es) es → (take row.count (row_of row) ≡ es) × (drop row.count (row_of row) ≡ [])
whole_row row es h =
    let full : length (row_of row) ≡ row.count = ap length h.entries ∙ sym h.count in (
      take_all row.count (row_of row) (omega (arith, full)) ∙ h.entries,
      ap (λ (k : ℕ). drop k (row_of row)) (sym full) ∙ drop-length (row_of row),
    )

around_all : (row : Row) (es : List Ref) → Holds row (length es) es → around row row.count row.count ≡ es
around_all row es h = let w = whole_row row es h in ap₂ (λ (l m : List Ref). l ++ m) w.0 w.1 ∙ append-nil es

-- Its whole row is to be swept.
pub down_sweep : (n : ℕ) {e P : ℕ} {b : List ℕ} {x : Ref} (p : ℕ) (row : Row) → p ≡ x.1 → (n ≡ 0 → ⊥) → BackPre e P n b x
    → Holds row (length (pages_at (layout_of e) b p)) (pages_at (layout_of e) b p) → e < 256 → SweepPre e P (n - 1) b row row.count row.count
down_sweep zero p row s ne h i l = absurd (ne refl)
down_sweep (suc n) {e} {P} {b} {x} p row s ne h i' l =
    let i : Holds row (length (pages_at (layout_of e) b x.1)) (pages_at (layout_of e) b x.1) = rw s at i' in
    let m : suc n - 1 ≡ n = omega arith in
    let a = around_all row (pages_at (layout_of e) b x.1) i in
    rw m (record {
      paged = h.paged;
      left = omega arith;
      right = omega arith;
      small = omega (arith, i.count, h.linked.0.few);
      full = ap length i.entries ∙ sym i.count;
      linked = rw a h.linked.2;
      own = rw a (row_owned e P n b x h);
    })

-- The pointers of linked entries fit their two bytes.
pub linked_fits : (e P n : ℕ) (b : List ℕ) (row : List Ref) → P ≤ 65534 → All (Linked (layout_of e) P n b) row → Fitting 2 row
linked_fits e P n b [] h g = tt
linked_fits e P zero b (x ∷ row) h g = (g.0, linked_fits e P zero b row h g.1)
linked_fits e P (suc n) b (x ∷ row) h g = (omega (arith, g.0.0.number), linked_fits e P (suc n) b row h g.1)

-- The page is settled after a change of its row.
pub down_settle : (n : ℕ) {e P : ℕ} {b : List ℕ} {x : Ref} {m i w : ℕ} {s : Unwind} {row : Row} {b₀ : List ℕ} (p : ℕ) (b₁ : List ℕ) (row' : Row) {s' : Unwind} → p ≡ x.1 → (n ≡ 0 → ⊥) → BackPre e P n b x
    → row.count ≡ length (pages_at (layout_of e) b p)
    → length b₀ ≡ length b → SweepPost e P m b₀ row i w s b₁ row' s' → SettlePre e b₁ p row'
down_settle zero p b₁ row' y ne h i l f = absurd (ne refl)
down_settle (suc n) {e} {P} {b} {x} {m} p b₁ row' y ne h i l f =
    let r = paged_within x.1 h.paged h.linked.0.number in
    rw y (record {
      within = omega (arith, l, f.kept.long, r);
      few = omega (arith, f.few, i, (rw (← y) at h.linked.0.few));
      fitting = linked_fits e P m b₁ (row_of row') h.paged.high f.kept.linked;
    })

-- What is left of the entry, once its page is settled.
pub up_done : {e P n : ℕ} {b : List ℕ} {x : Ref} (h : BackPre e P (suc n) b x) (o : Left (Numbered n)) (b₁ : List ℕ) (row' : Row) (s' : Unwind)
    → Kept (layout_of e) P n b (met_all n (pages_at (layout_of e) b) (pages_at (layout_of e) b x.1)) b₁ (row_of row')
    → numbers_at n (pages_at (layout_of e) b₁) (row_of row') ≡ o.0 → s' ≡ o.1 → row'.count ≤ e → (b₂ : List ℕ) (left : Option Stored) → SettlePost e n b₁ x.1 row' b₂ left
    → Done e P (suc n) b x (kept_under x.1 o.0, o.1) b₂ (record { left = left; state = s' })
up_done {e} {P} {n} {b} {x} h o b₁ row' s' k t s f b₂ left g =
    let within : Within (layout_of e) b₁ x.1 = (let w = paged_within x.1 h.paged h.linked.0.number in omega (arith, k.long, w)) in
    let few : length (row_of row') ≤ e = omega (arith, f, length-take row'.count (mathlib.Core.List.zip row'.depths row'.pointers)) in
    let fit = linked_fits e P n b₁ (row_of row') h.paged.high k.linked in
    record {
      kept = rw (g.bytes, g.entries) (settled_kept e P n b x h.linked.0.number h.own b₁ (row_of row') k within few fit);
      numbers = rw (g.bytes, g.entries) (settled_numbers e P n b x h.linked.0.number h.own b₁ (row_of row') k within few fit ∙ ap (kept_under x.1) t);
      state = s;
    }

-- An entry is passed with all below it.
pub back_up : (n : ℕ) {e P : ℕ} {b : List ℕ} {x : Ref} (s : Unwind) (p : ℕ) (row : Row) → p ≡ x.1 → (n ≡ 0 → ⊥) → BackPre e P n b x
    → Holds row (length (pages_at (layout_of e) b p)) (pages_at (layout_of e) b p) → (b₁ : List ℕ) (row' : Row) (s' : Unwind)
    → SweepPost e P (n - 1) b row row.count row.count s b₁ row' s' → (b₂ : List ℕ) (left : Option Stored) → SettlePost e (n - 1) b₁ p row' b₂ left → BackPost e P n b x s b₂ (record { left = left; state = s' })
unfolding numbered_at
back_up zero s p row y ne h i b₁ row' s' k b₂ left g = absurd (ne refl)
back_up (suc n) {e} {P} {b} {x} s p row y ne h i' b₁ row' s' k b₂ left g =
    let m : suc n - 1 ≡ n = omega arith in
    let i : Holds row (length (pages_at (layout_of e) b x.1)) (pages_at (layout_of e) b x.1) = rw y at i' in
    let k' : SweepPost e P n b row row.count row.count s b₁ row' s' = rw m at k in
    let g' : SettlePost e n b₁ x.1 row' b₂ left = rw (m, y) at g in
    let a = around_all row (pages_at (layout_of e) b x.1) i in
    let w = whole_row row (pages_at (layout_of e) b x.1) i in
    let v : sweep_at e n b row row.count row.count s ≡ sweep (step_numbered n) s (numbers_at n (pages_at (layout_of e) b) (pages_at (layout_of e) b x.1)) [] =
    ap₂ (λ (l m : List Ref). sweep (step_numbered n) s (numbers_at n (pages_at (layout_of e) b) l) (numbers_at n (pages_at (layout_of e) b) m)) w.0 w.1 in
    up_done h (sweep (step_numbered n) s (numbers_at n (pages_at (layout_of e) b) (pages_at (layout_of e) b x.1)) []) b₁ row' s' (rw a at k'.kept) (k'.numbers ∙ ap (λ (o : Left (Numbered n)). o.0) v)
    (k'.state ∙ ap (λ (o : Left (Numbered n)). o.1) v)
    (omega (arith, k'.few, i.count, h.linked.0.few)) b₂ left g'
