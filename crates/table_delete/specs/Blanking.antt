-- Figure 11 below an entry where every page above level 0 stays, and the entry found may become a dummy in its place. Assumes nothing.
use Rattle.std.specs.Prelude.{◌≡◌, Bool, true, false, List, [], ◌∷◌, ℕ, ◌<◌}
use Rattle.page_tree.specs.declared.Unwind.{Unwind}
use Rattle.page_tree.specs.Numbered.{delete_numbered}
use Rattle.index_table.specs.Layout.{layout_of, Ref, page_bytes}
use Rattle.index_table.specs.Pages.{pages_at, numbered_at, met}
use Rattle.index_table.specs.Soundness.{Cleared}
use Rattle.table_search.specs.Places.{left_from}
use Rattle.tree_delete.specs.Keeping.{Kept}
use Rattle.tree_delete.specs.Removing.{RemovePre}
use Rattle.entry_delete.specs.Entries.{Calm}

-- The entry x of rank n stays where ν follows it, and what is asked changes no entry of the depth τ before it.
pub record Quiet (e P n : ℕ) (b : List ℕ) (x : Ref) (bs : List ℕ) (τ ν : ℕ) (b' : List ℕ) : Type 0 where
  pub kept : Kept (layout_of e) P n b (met n (pages_at (layout_of e) b) x) b' (x ∷ [])
  pub asked : Unwind
  pub calm : Calm τ asked
  pub left : delete_numbered n ν bs τ (numbered_at 65535 n (pages_at (layout_of e) b) x) ≡ (numbered_at 65535 n (pages_at (layout_of e) b') x ∷ [], asked)

-- An entry to remove from, in a table whose unused entries are zero.
pub record BlankPre (e P n : ℕ) (b : List ℕ) (x : Ref) (w key position : ℕ) : Type 0 where
  pub remove : RemovePre e P n b x w key position
  pub cleared : (q : ℕ) → q < P → Cleared (layout_of e) (page_bytes (layout_of e) b q)

-- Figure 11 below an entry leaves it so, or no byte changes.
pub record BlankPost (e P n : ℕ) (b : List ℕ) (x : Ref) (w key position τ ν : ℕ) (b' : List ℕ) (r : Bool) : Type 0 where
  pub done : r ≡ true → Quiet e P n b x (left_from w key position) τ ν b'
  pub none : r ≡ false → b' ≡ b
