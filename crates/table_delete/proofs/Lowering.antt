-- The root rule: a root above level 0 with one entry is freed, and its child is the root. Assumes nothing.
use mathlib.Core.Path.{◌≡◌, refl, sym, ap, ◌∙◌, subst}
use mathlib.Core.Logic.{◌⊎◌, inl, inr}
use mathlib.Core.List.{List, [], ◌∷◌}
use Prim.Native.Nat.{ℕ, zero, suc, ◌+◌, ◌-◌, ◌≤◌}
use native.Mathlib.Omega.{arith}
use lib.ListN.{length, drop, replicate, length-map}
use lib.Seq.{drop-length}
use Rattle.page_tree.specs.Rows.{All, sum}
use Rattle.page_tree.specs.Numbered.{Numbered, lower_numbered}
use Rattle.index_table.specs.Layout.{Layout, layout_of, Ref, Within, page_size, page_bytes, count_of, ref_at, refs_of, store}
use Rattle.index_table.specs.Pages.{pages_at, numbered_at, same, met, in_use, root_ref}
use Rattle.index_table.specs.declared.layout.PageNo.{PageNo}
use Rattle.index_table.specs.declared.layout.Root.{Root}
use Rattle.index_table.proofs.PageBytes.{within_table}
use Rattle.index_table.proofs.PageRows.{length_refs, drop_refs}
use Rattle.index_table.proofs.PageCounts.{same_self, same_cases}
use Rattle.index_table.proofs.Frames.{Keeps, Unchanged, unchanged}
use Rattle.index_write.specs.Standing.{Owned}
use Rattle.tree_delete.specs.Keeping.{numbers_at, Linked}
use Rattle.tree_delete.specs.Rows.{settled}
use Rattle.tree_delete.proofs.Frames.{linked_stays}
use Rattle.tree_delete.proofs.Settling.{settled_other, settled_refs, settled_cleared, settled_long, settled_front}
use Rattle.tree_delete.proofs.SweepTurns.{paged_then}
use Rattle.table_delete.specs.Taking.{LowerPre, LowerPost}

-- The root page stands in the table.
pub lower_within : {e P n : ℕ} {b : List ℕ} {p : ℕ} → LowerPre e P n b p → Within (layout_of e) b p
lower_within {e} {P} {n} {b} {p} h = within_table (layout_of e) P p b (omega (arith, h.paged.table)) h.sized.number

-- Nothing is to be done.
stop : {e P n : ℕ} {b : List ℕ} (p : PageNo) → LowerPre e P n b p.0
    → lower_numbered n p.0 (numbers_at n (pages_at (layout_of e) b) (pages_at (layout_of e) b p.0)) ≡ (n, (p.0, numbers_at n (pages_at (layout_of e) b) (pages_at (layout_of e) b p.0)))
    → LowerPost e P n b p.0 b (record { page = p; level = n })
unfolding numbered_at
stop p h z = record {
  long = refl;
  front = refl;
  tree = sym z;
  pages = λ q. refl;
  same = λ q u. refl;
  cleared = λ q c. c;
  sized = h.sized;
  linked = h.linked;
  low = omega arith;
}

-- A root of level 0 stays,
pub lower_leaf : (n : ℕ) {e P : ℕ} {b : List ℕ} (p : PageNo) → n ≡ 0 → LowerPre e P n b p.0 → LowerPost e P n b p.0 b (record { page = p; level = n })
lower_leaf zero p z h = stop p h refl
lower_leaf (suc n) p z h = absurd (omega arith)

many : (n p : ℕ) (row : List (Numbered (suc n))) → (length row ≡ 1 → ⊥) → lower_numbered (suc n) p row ≡ (suc n, (p, row))
many n p [] h = refl
many n p (x ∷ []) h = absurd (h refl)
many n p (x ∷ y ∷ ys) h = refl

-- and one with more entries than one.
pub lower_stop : (n : ℕ) {e P : ℕ} {b : List ℕ} (p : PageNo) {c : ℕ} → (n ≡ 0 → ⊥) → LowerPre e P n b p.0 → c ≡ count_of (page_bytes (layout_of e) b p.0) → (c ≡ 1 → ⊥)
    → LowerPost e P n b p.0 b (record { page = p; level = n })
lower_stop zero p ne h s z = absurd (ne refl)
lower_stop (suc n) {e} {P} {b} p ne h s z =
    let row = pages_at (layout_of e) b p.0 in
    stop p h (many n p.0 (numbers_at (suc n) (pages_at (layout_of e) b) row)
    (λ w. z (s ∙ sym (length_refs (layout_of e) (page_bytes (layout_of e) b p.0)) ∙ sym (length-map row (numbered_at 65535 (suc n) (pages_at (layout_of e) b))) ∙ w)))

-- ---- the root has one entry y

module _ {e P n : ℕ} {b : List ℕ} {p : ℕ} (h : LowerPre e P (suc n) b p) (y : Ref) (only : pages_at (layout_of e) b p ≡ y ∷ []) where
  abbrev L : Layout
  L = layout_of e

  unfoldable b₁ : List ℕ
  b₁ = settled e (suc n) b p []

  below_met : (q : ℕ) → met (suc (suc n)) (pages_at L b) (root_ref p) q ≡ same p q + met (suc n) (pages_at L b) (root_ref y.1) q
  unfolding met
  below_met q =
      let o : sum (λ z. met (suc n) (pages_at L b) z q) (pages_at L b p) ≡ sum (λ z. met (suc n) (pages_at L b) z q) (y ∷ []) = ap (λ (l : List Ref). sum (λ z. met (suc n) (pages_at L b) z q) l) only in
      omega (arith, o)

  apart : (met (suc n) (pages_at L b) (root_ref y.1) p ≡ 0) × (in_use (pages_at L b p) ≡ 1)
  apart = let o = h.own p in let m = below_met p in let s = same_self p in (omega arith, omega arith)

  other : (q : ℕ) → (p ≡ q → ⊥) → page_bytes L b₁ q ≡ page_bytes L b q
  unfolding b₁
  other q ne = settled_other e (suc n) b p [] (lower_within h) (omega arith) tt q ne

  other_used : (q : ℕ) → (p ≡ q → ⊥) → in_use (pages_at L b₁ q) ≡ in_use (pages_at L b q)
  other_used q ne = ap (λ (l : List ℕ). in_use (refs_of L l)) (other q ne)

  here_used : in_use (pages_at L b₁ p) ≡ 0
  unfolding b₁
  here_used = ap in_use (settled_refs e (suc n) b p [] (lower_within h) (omega arith) tt) ∙ omega arith

  keeps : Keeps L b b₁ (met (suc n) (pages_at L b) (root_ref y.1))
  keeps q l = other q (λ z. let l' : 1 ≤ met (suc n) (pages_at L b) (root_ref y.1) p = subst (λ (t : ℕ). 1 ≤ met (suc n) (pages_at L b) (root_ref y.1) t) (sym z) l in omega (arith, l', apart.0))

  keeps_y : Keeps L b b₁ (met (suc n) (pages_at L b) y)
  unfolding met
  keeps_y = keeps

  stays : Unchanged L (suc n) b b₁ (root_ref y.1)
  stays = unchanged L b b₁ (suc n) (root_ref y.1) keeps

  linked_y : Linked L P (suc n) b₁ y
  linked_y = let g : All (Linked L P (suc n) b) (y ∷ []) = rw only at h.linked in linked_stays L P (suc n) b b₁ y keeps_y g.0

  own_y : Owned L b₁ (met (suc n) (pages_at L b₁) (root_ref y.1))
  own_y q = go (same_cases p q)
    where
      go : (p ≡ q) ⊎ ((p ≡ q → ⊥) × (same p q ≡ 0)) → met (suc n) (pages_at L b₁) (root_ref y.1) q ≤ in_use (pages_at L b₁ q)
      go (inl s) = subst (λ (r : ℕ). met (suc n) (pages_at L b₁) (root_ref y.1) r ≤ in_use (pages_at L b₁ r)) s (omega (arith, stays.meets p, apart.0))
      go (inr s) = omega (arith, stays.meets q, h.own q, below_met q, s.1, other_used q s.0)

  next : LowerPre e P n (settled e (suc n) b p []) y.1
  unfolding b₁
  next = record {
    paged = paged_then (settled_long e (suc n) b p [] (lower_within h) (omega arith) tt) h.paged;
    sized = linked_y.0;
    linked = linked_y.2;
    own = own_y;
  }

  tree_is : lower_numbered n y.1 (numbers_at n (pages_at L b₁) (pages_at L b₁ y.1)) ≡ lower_numbered (suc n) p (numbers_at (suc n) (pages_at L b) (pages_at L b p))
  unfolding numbered_at
  tree_is = ap (λ (t : Numbered (suc n)). lower_numbered n t.0 t.1) (stays.numbered 65535) ∙ ap (λ (l : List Ref). lower_numbered (suc n) p (numbers_at (suc n) (pages_at L b) l)) (sym only)

  post : {b₂ : List ℕ} {r : Root} → LowerPost e P n (settled e (suc n) b p []) y.1 b₂ r → LowerPost e P (suc n) b p b₂ r
  unfolding b₁
  post {b₂} {r} g = record {
    long = g.long ∙ settled_long e (suc n) b p [] (lower_within h) (omega arith) tt;
    front = g.front ∙ settled_front e (suc n) b p [] (lower_within h) (omega arith) tt;
    tree = g.tree ∙ tree_is;
    pages = λ q. pages_at_lem q (same_cases p q);
    same = λ q z.
        g.same q (omega (arith, z, stays.meets q, below_met q))
        ∙ other q (λ s. let z' : met (suc (suc n)) (pages_at L b) (root_ref p) p ≡ 0 = subst (λ (t : ℕ). met (suc (suc n)) (pages_at L b) (root_ref p) t ≡ 0) (sym s) z in omega (arith, z', below_met p, same_self p));
    cleared = λ q c. g.cleared q (settled_cleared e (suc n) b p [] (lower_within h) (omega arith) tt q c);
    sized = g.sized;
    linked = g.linked;
    low = omega (arith, g.low);
  }
    where
      pages_at_lem : (q : ℕ) → (p ≡ q) ⊎ ((p ≡ q → ⊥) × (same p q ≡ 0))
          → met (suc r.level) (pages_at L b₂) (root_ref r.page.0) q + in_use (pages_at L b q) ≡ met (suc (suc n)) (pages_at L b) (root_ref p) q + in_use (pages_at L b₂ q)
      pages_at_lem q (inl s) =
          subst (λ (t : ℕ). met (suc r.level) (pages_at L b₂) (root_ref r.page.0) t + in_use (pages_at L b t) ≡ met (suc (suc n)) (pages_at L b) (root_ref p) t + in_use (pages_at L b₂ t)) s
          (omega (arith, g.pages p, stays.meets p, below_met p, same_self p, apart.0, apart.1, here_used))
      pages_at_lem q (inr s) = omega (arith, g.pages q, stays.meets q, below_met q, s.1, other_used q s.0)

-- ---- as the code takes the step

only_is : (e : ℕ) (b : List ℕ) (p c : ℕ) → c ≡ count_of (page_bytes (layout_of e) b p) → c ≡ 1 → pages_at (layout_of e) b p ≡ ref_at (layout_of e) (page_bytes (layout_of e) b p) 0 ∷ []
only_is e b p c s z =
    let page = page_bytes (layout_of e) b p in
    let one : length (refs_of (layout_of e) page) ≡ 1 = length_refs (layout_of e) page ∙ sym s ∙ z in
    drop_refs (layout_of e) page 0 (omega (arith, s, z))
    ∙ ap (λ (l : List Ref). ref_at (layout_of e) page 0 ∷ l) (ap (λ (k : ℕ). drop k (refs_of (layout_of e) page)) (sym one) ∙ drop-length (refs_of (layout_of e) page))

module _ (n : ℕ) {e P : ℕ} {b : List ℕ} {p c : ℕ} (d : ℕ) (b₁ : List ℕ) (ne : n ≡ 0 → ⊥) (h : LowerPre e P n b p) (s : c ≡ count_of (page_bytes (layout_of e) b p)) (z : c ≡ 1)
    (k : d ≡ (ref_at (layout_of e) (page_bytes (layout_of e) b p) 0).1) (f : b₁ ≡ store (layout_of e) b p (replicate (page_size (layout_of e)) 0)) where
  pub lower_next : LowerPre e P (n - 1) b₁ d
  lower_next = go n ne h
    where
      go : (n : ℕ) → (n ≡ 0 → ⊥) → LowerPre e P n b p → LowerPre e P (n - 1) b₁ d
      go zero ne h = absurd (ne refl)
      go (suc n) ne h =
          let m : suc n - 1 ≡ n = omega arith in
          rw (m, k, f) (next h (ref_at (layout_of e) (page_bytes (layout_of e) b p) 0) (only_is e b p c s z))

  -- What is left below the child is left below the root.
  pub lower_post : (b₂ : List ℕ) (r : Root) → LowerPost e P (n - 1) b₁ d b₂ r → LowerPost e P n b p b₂ r
  lower_post b₂ r g = go n ne h g
    where
      go : (n : ℕ) → (n ≡ 0 → ⊥) → LowerPre e P n b p → LowerPost e P (n - 1) b₁ d b₂ r → LowerPost e P n b p b₂ r
      go zero ne h g = absurd (ne refl)
      go (suc n) ne h g =
          let m : suc n - 1 ≡ n = omega arith in
          post h (ref_at (layout_of e) (page_bytes (layout_of e) b p) 0) (only_is e b p c s z) (rw (m, k, f) at g)
