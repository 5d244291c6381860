-- The loop over the row of a page from the right: what is left to do equals the whole. Assumes nothing.
use mathlib.Core.Path.{◌≡◌, refl, sym, ap, ap₂, ◌∙◌}
use mathlib.Core.List.{List, [], ◌∷◌, ◌++◌, append_assoc, map-append}
use Prim.Native.Nat.{ℕ, suc, ◌+◌, ◌-◌, ◌≤◌, ◌<◌}
use native.Mathlib.Omega.{arith}
use lib.ListN.{length, get_or, take, drop}
use lib.Seq.{take-suc}
use Rattle.page_tree.specs.Rows.{All, sum}
use Rattle.page_tree.specs.declared.Row.{Row}
use Rattle.page_tree.specs.Row.{row_of, Holds}
use Rattle.page_tree.specs.declared.Unwind.{Unwind}
use Rattle.page_tree.specs.declared.Unwind.TheVariants.{Idle}
use Rattle.page_tree.specs.OffPages.{Left, sweep}
use Rattle.page_tree.specs.Numbered.{Numbered, step_numbered}
use Rattle.page_tree.proofs.ListLaws.{all_left, all_right}
use Rattle.page_tree.proofs.WalkPlaces.{sweep_append}
use Rattle.index_table.specs.Layout.{Layout, layout_of, Ref}
use Rattle.index_table.specs.Pages.{pages_at, numbered_at, met, met_all}
use Rattle.index_table.proofs.Frames.{UnchangedRow}
use Rattle.index_write.specs.Standing.{Owned}
use Rattle.entry_delete.specs.declared.Remnant.{Remnant}
use Rattle.tree_delete.specs.Keeping.{numbers_at, Linked, Paged, Kept}
use Rattle.entry_delete.specs.Entries.{parts}
use Rattle.tree_delete.specs.Rows.{around, PutPost}
use Rattle.tree_delete.specs.Unwinding.{BackPre, BackPost, SweepPre, sweep_at, SweepPost}
use Rattle.tree_delete.proofs.CalmRows.{idle_row}
use Rattle.tree_delete.proofs.Frames.{kept_owned, kept_then, kept_one, kept_at, before_stays, after_stays}

-- ---- lists

-- One of the entries in a list.
all_mid : (Q : Ref → Type 0) (xs : List Ref) (y : Ref) (ys : List Ref) → All Q (xs ++ y ∷ ys) → Q y
all_mid Q xs y ys h = (all_right Q xs (y ∷ ys) h).0

-- One of a row counts at most what all do.
pub met_mid : (f : Ref → ℕ) (xs : List Ref) (y : Ref) (ys : List Ref) → f y ≤ sum f (xs ++ y ∷ ys)
met_mid f [] y ys = omega arith
met_mid f (x ∷ xs) y ys = omega (arith, met_mid f xs y ys)

-- What holds below each entry of a row of which pages may be changed holds below one of them.
pub mid_back : {e P n : ℕ} {b : List ℕ} (xs : List Ref) (y : Ref) (ys : List Ref) → Paged e P b → All (Linked (layout_of e) P n b) (xs ++ y ∷ ys)
    → Owned (layout_of e) b (met_all n (pages_at (layout_of e) b) (xs ++ y ∷ ys)) → BackPre e P n b y
mid_back {e} {P} {n} {b} xs y ys t g o = record {
  paged = t;
  linked = all_mid (Linked (layout_of e) P n b) xs y ys g;
  own = λ q. omega (arith, o q, met_mid (λ z. met n (pages_at (layout_of e) b) z q) xs y ys);
}

-- A table of the same length has the same pages.
pub paged_then : {e P : ℕ} {b b' : List ℕ} → length b' ≡ length b → Paged e P b → Paged e P b'
paged_then l t = record { table = l ∙ t.table; high = t.high }

-- An entry that is read by its parts.
pub entry_read : {d p : ℕ} {y : Ref} → d ≡ y.0 → p ≡ y.1 → ◌≡◌ {A = Ref} (d, p) y
entry_read f g = ap₂ (λ (s t : ℕ). (s, t)) f g

-- ---- the loop

-- The row in the loop: the entries before i are to be passed, those from w on are done.
pub record Sweeping (e P n : ℕ) (b₀ : List ℕ) (row₀ : Row) (i₀ w₀ : ℕ) (s₀ : Unwind) (b : List ℕ) (row : Row) (i w : ℕ) (s : Unwind) : Type 0 where
  pub pre : SweepPre e P n b₀ row₀ i₀ w₀
  pub count : row.count ≡ row₀.count
  pub full : length (row_of row) ≡ row.count
  pub left : i ≤ w
  pub right : w ≤ row.count
  pub kept : Kept (layout_of e) P n b₀ (met_all n (pages_at (layout_of e) b₀) (around row₀ i₀ w₀)) b (around row i w)
  pub whole : sweep_at e n b row i w s ≡ sweep_at e n b₀ row₀ i₀ w₀ s₀

module _ {e P n : ℕ} {b₀ : List ℕ} {row₀ : Row} {i₀ w₀ : ℕ} {s₀ : Unwind} {b : List ℕ} {row : Row} {i w : ℕ} {s : Unwind} (h : Sweeping e P n b₀ row₀ i₀ w₀ s₀ b row i w s) where
  abbrev L : Layout
  L = layout_of e

  abbrev before : List Ref
  before = take i (row_of row)

  abbrev after : List Ref
  after = drop w (row_of row)

  owned : Owned L b (met_all n (pages_at L b) (around row i w))
  owned = kept_owned h.kept h.pre.own

  -- Nothing more is to be done.
  sweep_end : (all : Row) → Holds all (i + (row.count - w)) (around row i w) → (numbers_at n (pages_at L b) (around row i w), s) ≡ sweep_at e n b row i w s
      → SweepPost e P n b₀ row₀ i₀ w₀ s₀ b all s
  sweep_end all a z =
      let t : (numbers_at n (pages_at L b) (around row i w), s) ≡ sweep_at e n b₀ row₀ i₀ w₀ s₀ = z ∙ h.whole in
      record {
        kept = rw a.entries h.kept;
        numbers = rw a.entries (ap (λ (o : Left (Numbered n)). o.0) t);
        state = ap (λ (o : Left (Numbered n)). o.1) t;
        few = omega (arith, a.count, h.left, h.right, h.count);
      }

  -- Nothing is asked,
  pub sweep_idle : (all : Row) {j : ℕ} → j ≡ i → Holds all (j + (row.count - w)) (around row j w) → s ≡ Idle → SweepPost e P n b₀ row₀ i₀ w₀ s₀ b all s
  sweep_idle all y a z =
      sweep_end all (rw y at a)
      (rw z (ap (λ (l : List (Numbered n)). (l, Idle)) (map-append (numbered_at 65535 n (pages_at L b)) before after)
      ∙ sym (idle_row L P b n before (all_left (Linked L P n b) before after h.kept.linked) (numbers_at n (pages_at L b) after))))

  -- or no entry is left.
  pub sweep_out : (all : Row) → i ≡ 0 → Holds all (0 + (row.count - w)) (around row 0 w) → SweepPost e P n b₀ row₀ i₀ w₀ s₀ b all s
  sweep_out all z a =
      let p : before ≡ [] = ap (λ (k : ℕ). take k (row_of row)) z in
      sweep_end all (rw z a) (rw p refl)

  module _ (pos : 0 < i) where
    abbrev front : List Ref
    front = take (i - 1) (row_of row)

    abbrev y : Ref
    y = get_or (row_of row) (i - 1) (0, 0)

    before_is : before ≡ front ++ y ∷ []
    before_is = ap (λ (k : ℕ). take k (row_of row)) (let z : i ≡ suc (i - 1) = omega arith in z) ∙ take-suc (row_of row) (i - 1) (0, 0) (omega (arith, h.full, h.left, h.right))

    around_is : around row i w ≡ front ++ y ∷ after
    around_is = ap (λ (l : List Ref). l ++ after) before_is ∙ append_assoc front (y ∷ []) after

    linked' : All (Linked L P n b) (front ++ y ∷ after)
    linked' = rw around_is at h.kept.linked

    owned' : Owned L b (met_all n (pages_at L b) (front ++ y ∷ after))
    owned' = rw around_is at owned

    -- The next entry can be passed with all below it.
    pub sweep_back : {z : Ref} → z ≡ y → BackPre e P n b z
    sweep_back f = rw f (mid_back front y after (paged_then h.kept.long h.pre.paged) linked' owned')

    module _ {z : Ref} (f : z ≡ y) (b' : List ℕ) (r : Remnant) (g' : BackPost e P n b z s b' r) (row' : Row) (w' : ℕ) (put : PutPost row w r.left row' w') where
      g : BackPost e P n b y s b' r
      g = rw f at g'

      front_kept : take (i - 1) (row_of row') ≡ front
      front_kept = put.left (i - 1) (omega (arith, h.left))

      now_is : around row' (i - 1) w' ≡ front ++ (parts r ++ after)
      now_is = ap₂ (λ (l m : List Ref). l ++ m) front_kept put.right

      one_kept : Kept L P n b (met_all n (pages_at L b) (around row i w)) b' (around row' (i - 1) w')
      one_kept = rw (around_is, now_is) (kept_at L P n b front (y ∷ []) after owned' linked' b' (parts r) (kept_one y g.kept))

      fronts : UnchangedRow L n b b' front
      fronts = before_stays L P n b front (y ∷ []) after owned' linked' b' (parts r) (kept_one y g.kept)

      afters : UnchangedRow L n b b' after
      afters = after_stays L P n b front (y ∷ []) after owned' linked' b' (parts r) (kept_one y g.kept)

      turned : sweep_at e n b' row' (i - 1) w' r.state ≡ sweep_at e n b row i w s
      turned =
          ap₂ (λ (l m : List Ref). sweep (step_numbered n) r.state (numbers_at n (pages_at L b') l) (numbers_at n (pages_at L b') m)) front_kept put.right
          ∙ ap₂ (λ (l m : List (Numbered n)). sweep (step_numbered n) r.state l m) (fronts.numbereds 65535)
          (map-append (numbered_at 65535 n (pages_at L b')) (parts r) after ∙ ap₂ (λ (l m : List (Numbered n)). l ++ m) g.numbers (afters.numbereds 65535))
          ∙ ap (λ (t : Unwind). sweep (step_numbered n) t (numbers_at n (pages_at L b) front) ((step_numbered n s (numbered_at 65535 n (pages_at L b) y)).0 ++ numbers_at n (pages_at L b) after)) g.state
          ∙ sym (sweep_append (step_numbered n) s (numbers_at n (pages_at L b) front) (numbered_at 65535 n (pages_at L b) y ∷ []) (numbers_at n (pages_at L b) after))
          ∙ ap (λ (l : List (Numbered n)). sweep (step_numbered n) s l (numbers_at n (pages_at L b) after))
          (sym (map-append (numbered_at 65535 n (pages_at L b)) front (y ∷ [])) ∙ ap (numbers_at n (pages_at L b)) (sym before_is))

      -- So the loop goes on.
      pub sweep_step : Sweeping e P n b₀ row₀ i₀ w₀ s₀ b' row' (i - 1) w' r.state
      sweep_step = record {
        pre = h.pre;
        count = put.count ∙ h.count;
        full = put.full ∙ h.full ∙ sym put.count;
        left = omega (arith, h.left, put.least);
        right = omega (arith, put.most, h.right, put.count);
        kept = kept_then h.kept one_kept;
        whole = turned ∙ h.whole;
      }
