-- Removal below an entry, rank by rank. Assumes nothing.
use mathlib.Core.Path.{◌≡◌, sym, ap, ap₂, ◌∙◌}
use mathlib.Core.Option.{none}
use mathlib.Core.List.{List, [], ◌∷◌, ◌++◌, map-append}
use Prim.Native.Nat.{ℕ, zero, suc, ◌+◌, ◌≤◌, ◌<◌}
use native.Mathlib.Omega.{arith}
use native.Mathlib.Numerals.{add-one}
use lib.ListN.{length, get_or, take, drop}
use Rattle.leaf_list.specs.Entries.{entry}
use Rattle.page_tree.specs.Rows.{All}
use Rattle.page_tree.specs.declared.Row.{Row}
use Rattle.page_tree.specs.Row.{row_of, Holds}
use Rattle.page_tree.specs.declared.Unwind.{Unwind}
use Rattle.page_tree.specs.OffPages.{Left, sweep, strike, strike_in}
use Rattle.page_tree.specs.Numbered.{Numbered, numbered_depth, numbered_leaves, step_numbered, delete_numbered}
use Rattle.index_table.specs.Layout.{Layout, layout_of, Ref, Within}
use Rattle.index_table.specs.Pages.{Pages, pages_at, numbered_at, met_all}
use Rattle.index_table.proofs.Frames.{UnchangedRow}
use Rattle.index_write.specs.Standing.{Owned}
use Rattle.table_search.specs.Places.{left_from, SeekPre, Stopped, DescendPre}
use Rattle.table_search.proofs.Descents.{descend_within, descend_seek}
use Rattle.entry_delete.specs.declared.Remnant.{Remnant}
use Rattle.std.specs.Prelude.{Option}
use Rattle.page_tree.specs.declared.Entry.{Entry as Stored}
use Rattle.table_search.specs.declared.Spot.{Spot}
use Rattle.tree_delete.specs.Keeping.{numbers_at, Linked, Kept}
use Rattle.entry_delete.specs.Entries.{parts, Turned}
use Rattle.tree_delete.specs.Rows.{around, PutPost, SettlePost}
use Rattle.tree_delete.specs.Unwinding.{SweepPre, sweep_at, SweepPost}
use Rattle.tree_delete.specs.Removing.{following_at, AfterPre, RemovePre, RemovePost}
use Rattle.tree_delete.proofs.Frames.{kept_owned, kept_then, kept_one, kept_at, before_stays, after_stays}
use Rattle.tree_delete.proofs.Sweeps.{leaf_done, up_done}
use Rattle.tree_delete.proofs.SweepTurns.{paged_then}
use Rattle.tree_delete.proofs.FoundPlaces.{found_parted, found_linked, found_owned, found_strike}

-- At rank 0.
pub remove_leaf : (n : ℕ) {e P : ℕ} {b : List ℕ} {x : Ref} (w key position τ ν : ℕ) (r : Remnant) → n ≡ 0 → Turned r (strike τ ν (entry x.0 none)) → RemovePost e P n b x w key position τ ν b r
unfolding numbered_at
remove_leaf zero {e} {P} {b} {x} w key position τ ν r z t = leaf_done e P b x (strike τ ν (entry x.0 none)) r t
remove_leaf (suc n) w key position τ ν r z t = absurd (omega arith)

-- ---- the page below an entry

module _ {e P n : ℕ} {b : List ℕ} {x : Ref} {w key position : ℕ} (h : RemovePre e P (suc n) b x w key position) where
  -- The page below can be walked down,
  pub remove_descend : DescendPre b e P n x.1 w key position
  remove_descend = record {
    closing = x.0;
    sound = h.sound;
    before = h.before;
    table = omega (arith, h.back.paged.table);
    depths = h.depths;
    width = h.width;
    narrow = h.narrow;
    high = h.high;
  }

  -- loaded,
  pub locate_load : Within (layout_of e) b x.1 × (length (pages_at (layout_of e) b x.1) ≤ e)
  locate_load = (descend_within remove_descend, h.sound.0.few)

  -- searched,
  pub locate_seek : SeekPre b e x.1 w key position
  locate_seek = descend_seek remove_descend

  -- and read behind the place found.
  pub locate_after : AfterPre e P n b x.1
  locate_after = record { paged = h.back.paged; sized = h.back.linked.0; linked = h.back.linked.2 }

-- The row of a page, the place where figure 6 stops in it, and the depth that follows that place on level 0.
pub record Located (e n : ℕ) (b : List ℕ) (page w key position τ ν : ℕ) (loaded : Row) (spot : Spot) (next : ℕ) : Type 0 where
  pub row : Holds loaded (length (pages_at (layout_of e) b page)) (pages_at (layout_of e) b page)
  pub stopped : Stopped w key position τ (pages_at (layout_of e) b page) spot
  pub following : next ≡ following_at n (pages_at (layout_of e) b) ν (drop (spot.at + 1) (pages_at (layout_of e) b page))

pub located : {e n : ℕ} {b : List ℕ} {page w key position τ ν : ℕ} {row : Row} {spot : Spot} {next : ℕ}
    → Holds row (length (pages_at (layout_of e) b page)) (pages_at (layout_of e) b page) → Stopped w key position τ (pages_at (layout_of e) b page) spot
    → next ≡ following_at n (pages_at (layout_of e) b) ν (drop (spot.at + 1) (pages_at (layout_of e) b page)) → Located e n b page w key position τ ν row spot next
located r s f = record { row = r; stopped = s; following = f }

-- ---- the entry found

module _ {e P n : ℕ} {b : List ℕ} {x : Ref} {w key position τ ν : ℕ} {place : Row} {spot : Spot} {next : ℕ} (h : RemovePre e P (suc n) b x w key position)
    (a : Located e n b x.1 w key position τ ν place spot next) where
  abbrev L : Layout
  L = layout_of e

  abbrev pages : Pages
  pages = pages_at L b

  abbrev row : List Ref
  row = pages x.1

  abbrev i : ℕ
  i = spot.at

  abbrev front : List Ref
  front = take i row

  abbrev y : Ref
  y = get_or row i (0, 0)

  abbrev rest : List Ref
  rest = drop (suc i) row

  linked : All (Linked L P n b) (front ++ y ∷ rest)
  linked = found_linked h spot a.stopped

  owned : Owned L b (met_all n pages (front ++ y ∷ rest))
  owned = found_owned h spot a.stopped

  abbrev struck : Left (Numbered n)
  struck = delete_numbered n next (left_from w key spot.position) spot.trail (numbered_at 65535 n pages y)

  abbrev whole : Left (Numbered n)
  whole = strike_in (numbered_depth n) (numbered_leaves n) (step_numbered n) (delete_numbered n) ν (left_from w key position) τ (numbers_at n pages row)

  -- ---- the row with what is left of the entry found

  module _ (small : e < 256) (b₁ : List ℕ) (r : Remnant) (g : RemovePost e P n b y w key spot.position spot.trail next b₁ r) (row' : Row) (w' : ℕ) (put : PutPost place (i + 1) r.left row' w') where
    front_kept : take i (row_of row') ≡ front
    front_kept = put.left i (omega arith) ∙ ap (take i) a.row.entries

    right_is : drop w' (row_of row') ≡ parts r ++ rest
    right_is = put.right ∙ ap₂ (λ (k : ℕ) (zs : List Ref). parts r ++ drop k zs) (add-one i) a.row.entries

    now_is : around row' i w' ≡ front ++ (parts r ++ rest)
    now_is = ap₂ (λ (s t : List Ref). s ++ t) front_kept right_is

    one_kept : Kept L P n b (met_all n pages (front ++ y ∷ rest)) b₁ (around row' i w')
    one_kept = rw now_is (kept_at L P n b front (y ∷ []) rest owned linked b₁ (parts r) (kept_one y g.kept))

    -- The entries before it are to be swept.
    pub found_sweep : SweepPre e P n b₁ row' i w'
    found_sweep = record {
      paged = paged_then g.kept.long h.back.paged;
      left = omega (arith, put.least);
      right = omega (arith, put.most, put.count, a.row.count, a.stopped.inside);
      small = omega (arith, put.count, a.row.count, h.sound.0.few);
      full = put.full ∙ ap length a.row.entries ∙ sym a.row.count ∙ sym put.count;
      linked = one_kept.linked;
      own = kept_owned one_kept owned;
    }

    fronts : UnchangedRow L n b b₁ front
    fronts = before_stays L P n b front (y ∷ []) rest owned linked b₁ (parts r) (kept_one y g.kept)

    rests : UnchangedRow L n b b₁ rest
    rests = after_stays L P n b front (y ∷ []) rest owned linked b₁ (parts r) (kept_one y g.kept)

    swept_is : sweep_at e n b₁ row' i w' r.state ≡ whole
    swept_is =
        ap₂ (λ (s t : List Ref). sweep (step_numbered n) r.state (numbers_at n (pages_at L b₁) s) (numbers_at n (pages_at L b₁) t)) front_kept right_is
        ∙ ap₂ (λ (s t : List (Numbered n)). sweep (step_numbered n) r.state s t) (fronts.numbereds 65535)
        (map-append (numbered_at 65535 n (pages_at L b₁)) (parts r) rest ∙ ap₂ (λ (s t : List (Numbered n)). s ++ t) g.numbers (rests.numbereds 65535))
        ∙ ap (λ (t : Unwind). sweep (step_numbered n) t (numbers_at n pages front) (struck.0 ++ numbers_at n pages rest)) g.state
        ∙ sym (found_strike h spot a.stopped ν next (a.following ∙ ap (λ (k : ℕ). following_at n pages ν (drop k row)) (add-one i)))

    -- What is left, once the page is settled, is what figure 11 leaves.
    pub found_post : (b₂ : List ℕ) (done : Row) (s' : Unwind) → SweepPost e P n b₁ row' i w' r.state b₂ done s' → (b₃ : List ℕ) (left : Option Stored) → SettlePost e n b₂ x.1 done b₃ left
        → RemovePost e P (suc n) b x w key position τ ν b₃ (record { left = left; state = s' })
    unfolding numbered_at
    found_post b₂ done s' s b₃ left t =
        up_done h.back whole b₂ done s' (rw (found_parted h spot a.stopped) (kept_then one_kept s.kept)) (s.numbers ∙ ap (λ (v : Left (Numbered n)). v.0) swept_is) (s.state ∙ ap (λ (v : Left (Numbered n)). v.1) swept_is)
        (omega (arith, s.few, put.count, a.row.count, h.sound.0.few)) b₃ left t
