-- Removal below an entry: down to the entry that figure 6 finds, and back to the left. Assumes nothing.
use Rattle.std.specs.Prelude.{◌≡◌, List, ◌++◌, map, ℕ, ◌+◌, ◌^◌, ◌≤◌, ◌<◌}
use Rattle.leaf_list.specs.Entries.{Entry}
use Rattle.leaf_list.specs.Depths.{LeafDepths}
use Rattle.page_tree.specs.Rows.{All, flats}
use Rattle.page_tree.specs.Tree.{leaves}
use Rattle.page_tree.specs.OffPages.{next_depth}
use Rattle.page_tree.specs.Numbered.{delete_numbered}
use Rattle.index_table.specs.Layout.{layout_of, Ref}
use Rattle.index_table.specs.Pages.{Pages, pages_at, node_at, numbered_at}
use Rattle.index_table.specs.Soundness.{SizedPage, SoundBelow}
use Rattle.table_search.specs.Places.{left_from}
use Rattle.entry_delete.specs.declared.Remnant.{Remnant}
use Rattle.tree_delete.specs.Keeping.{Linked, Paged}
use Rattle.tree_delete.specs.Unwinding.{BackPre, Done}

-- An entry that can be read.
pub record FirstPre (e P n : ℕ) (b : List ℕ) (x : Ref) : Type 0 where
  pub paged : Paged e P b
  pub linked : Linked (layout_of e) P n b x

-- The depth of the first entry on level 0 below an entry, whatever stands behind.
pub record FirstPost (n : ℕ) (pages : Pages) (x : Ref) (r : ℕ) : Type 0 where
  pub is : (ν : ℕ) (rest : List Entry) → r ≡ next_depth ν (leaves n (node_at 65535 n pages x) ++ rest)

-- The depth on level 0 that follows, where the row stands next and then ν.
abbrev pub following_at : (n : ℕ) → Pages → ℕ → List Ref → ℕ
following_at n pages ν row = next_depth ν (flats (leaves n) (map (node_at 65535 n pages) row))

-- A page of level n whose entries can be read.
pub record AfterPre (e P n : ℕ) (b : List ℕ) (page : ℕ) : Type 0 where
  pub paged : Paged e P b
  pub sized : SizedPage (layout_of e) P n b page
  pub linked : All (Linked (layout_of e) P n b) (pages_at (layout_of e) b page)

-- An entry of rank n before the next position of a key, below which pages may be changed; the depths below it are those of a leaf list.
pub record RemovePre (e P n : ℕ) (b : List ℕ) (x : Ref) (w key position : ℕ) : Type 0 where
  pub back : BackPre e P n b x
  pub sound : SoundBelow (layout_of e) P n b x
  pub before : x.0 < position
  pub depths : LeafDepths w (leaves n (node_at 65535 n (pages_at (layout_of e) b) x))
  pub width : w ≤ 64
  pub narrow : key < 2 ^ w
  pub high : position ≤ w + 1

-- Figure 11 below an entry, between the depths τ and ν.
abbrev pub RemovePost : (e P n : ℕ) (b : List ℕ) (x : Ref) (w key position τ ν : ℕ) (b' : List ℕ) (r : Remnant) → Type 0
RemovePost e P n b x w key position τ ν b' r = Done e P n b x (delete_numbered n ν (left_from w key position) τ (numbered_at 65535 n (pages_at (layout_of e) b) x)) b' r
