-- The way back to the left, with all pages below an entry. Assumes nothing.
use Rattle.std.specs.Prelude.{◌≡◌, List, ℕ, ◌≤◌, length, take, drop}
use Rattle.page_tree.specs.Rows.{All}
use Rattle.page_tree.specs.Row.{row_of}
use Rattle.page_tree.specs.declared.Row.{Row}
use Rattle.page_tree.specs.declared.Unwind.{Unwind}
use Rattle.page_tree.specs.OffPages.{Left, sweep}
use Rattle.page_tree.specs.Numbered.{Numbered, step_numbered}
use Rattle.index_table.specs.Layout.{layout_of, Ref}
use Rattle.index_table.specs.Pages.{pages_at, numbered_at, met, met_all}
use Rattle.index_write.specs.Standing.{Owned}
use Rattle.entry_delete.specs.declared.Remnant.{Remnant}
use Rattle.tree_delete.specs.Keeping.{numbers_at, Linked, Paged, Kept}
use Rattle.entry_delete.specs.Entries.{parts}
use Rattle.tree_delete.specs.Rows.{around}

-- An entry of rank n below which pages may be changed.
pub record BackPre (e P n : ℕ) (b : List ℕ) (x : Ref) : Type 0 where
  pub paged : Paged e P b
  pub linked : Linked (layout_of e) P n b x
  pub own : Owned (layout_of e) b (met n (pages_at (layout_of e) b) x)

-- What a call that acts on the entry x leaves, where o is what is left of what x stands for.
pub record Done (e P n : ℕ) (b : List ℕ) (x : Ref) (o : Left (Numbered n)) (b' : List ℕ) (r : Remnant) : Type 0 where
  pub kept : Kept (layout_of e) P n b (met n (pages_at (layout_of e) b) x) b' (parts r)
  pub numbers : numbers_at n (pages_at (layout_of e) b') (parts r) ≡ o.0
  pub state : r.state ≡ o.1

-- The entry is passed, with what is asked.
abbrev pub BackPost : (e P n : ℕ) (b : List ℕ) (x : Ref) (s : Unwind) (b' : List ℕ) (r : Remnant) → Type 0
BackPost e P n b x s b' r = Done e P n b x (step_numbered n s (numbered_at 65535 n (pages_at (layout_of e) b) x)) b' r

-- The entries of a row before i are to be passed, from the right; those from w on are done.
pub record SweepPre (e P n : ℕ) (b : List ℕ) (row : Row) (i w : ℕ) : Type 0 where
  pub paged : Paged e P b
  pub left : i ≤ w
  pub right : w ≤ row.count
  pub small : row.count ≤ 319
  pub full : length (row_of row) ≡ row.count
  pub linked : All (Linked (layout_of e) P n b) (around row i w)
  pub own : Owned (layout_of e) b (met_all n (pages_at (layout_of e) b) (around row i w))

-- What the entries before i leave, before those from w on.
abbrev pub sweep_at : (e n : ℕ) (b : List ℕ) (row : Row) (i w : ℕ) (s : Unwind) → Left (Numbered n)
sweep_at e n b row i w s = sweep (step_numbered n) s (numbers_at n (pages_at (layout_of e) b) (take i (row_of row))) (numbers_at n (pages_at (layout_of e) b) (drop w (row_of row)))

-- The row that is left, and what is asked of the entry before it.
pub record SweepPost (e P n : ℕ) (b : List ℕ) (row : Row) (i w : ℕ) (s : Unwind) (b' : List ℕ) (row' : Row) (s' : Unwind) : Type 0 where
  pub kept : Kept (layout_of e) P n b (met_all n (pages_at (layout_of e) b) (around row i w)) b' (row_of row')
  pub numbers : numbers_at n (pages_at (layout_of e) b') (row_of row') ≡ (sweep_at e n b row i w s).0
  pub state : s' ≡ (sweep_at e n b row i w s).1
  pub few : row'.count ≤ row.count
