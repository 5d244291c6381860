-- Removal from a whole tree, and the root rule. Assumes nothing.
use Rattle.std.specs.Prelude.{◌≡◌, false, cond, List, [], ◌∷◌, ℕ, suc, ◌+◌, ◌^◌, ◌≤◌, ◌<◌, length, take}
use Rattle.leaf_list.specs.Keys.{bits}
use Rattle.leaf_list.specs.Search.{positions}
use Rattle.leaf_list.specs.Depths.{LeafDepths}
use Rattle.leaf_list.proofs.Depths.{Neighbours}
use Rattle.page_tree.specs.Rows.{All}
use Rattle.page_tree.specs.Tree.{leaves_of}
use Rattle.page_tree.specs.OffPages.{off_tree}
use Rattle.page_tree.specs.Numbered.{lower_numbered, rooted_numbered, merge_numbered, off_numbered}
use Rattle.index_table.specs.Layout.{layout_of, page_bytes}
use Rattle.index_table.specs.Pages.{Pages, pages_at, met, in_use, numbered_at, root_ref, tree_at, numbered_tree_at}
use Rattle.index_table.specs.Soundness.{SizedPage, SoundBelow, SoundPages, Cleared}
use Rattle.index_table.specs.declared.layout.Root.{Root}
use Rattle.index_write.specs.Standing.{TreeTable, Owned}
use Rattle.table_search.specs.declared.Leaf.{Leaf}
use Rattle.table_search.specs.Places.{NextPosition, sparse_at, Way}
use Rattle.tree_delete.specs.Keeping.{numbers_at, Linked, Paged}
use Rattle.tree_merge.specs.Merges.{Covered}

-- The lowest level whose pages may have a page below them to join, once the page of the leaf has changed alone.
abbrev pub lowest_level : ℕ → Pages → Leaf → ℕ
lowest_level e pages leaf = cond (sparse_at e pages leaf.page.0) 1 (cond leaf.thin 2 3)

-- A root page of level n, below which pages may be changed.
pub record LowerPre (e P n : ℕ) (b : List ℕ) (p : ℕ) : Type 0 where
  pub paged : Paged e P b
  pub sized : SizedPage (layout_of e) P n b p
  pub linked : All (Linked (layout_of e) P n b) (pages_at (layout_of e) b p)
  pub own : Owned (layout_of e) b (met (suc n) (pages_at (layout_of e) b) (root_ref p))

-- "while the root is above level 0 with one entry, its child becomes root and the old root is freed"
pub record LowerPost (e P n : ℕ) (b : List ℕ) (p : ℕ) (b' : List ℕ) (r : Root) : Type 0 where
  pub long : length b' ≡ length b
  pub front : take 16 b' ≡ take 16 b
  pub tree : numbered_tree_at 65535 (pages_at (layout_of e) b') r.level r.page.0 ≡ lower_numbered n p (numbers_at n (pages_at (layout_of e) b) (pages_at (layout_of e) b p))
  pub pages : (q : ℕ) → met (suc r.level) (pages_at (layout_of e) b') (root_ref r.page.0) q + in_use (pages_at (layout_of e) b q)
      ≡ met (suc n) (pages_at (layout_of e) b) (root_ref p) q + in_use (pages_at (layout_of e) b' q)
  pub same : (q : ℕ) → met (suc n) (pages_at (layout_of e) b) (root_ref p) q ≡ 0 → page_bytes (layout_of e) b' q ≡ page_bytes (layout_of e) b q
  pub cleared : (q : ℕ) → Cleared (layout_of e) (page_bytes (layout_of e) b q) → Cleared (layout_of e) (page_bytes (layout_of e) b' q)
  pub sized : SizedPage (layout_of e) P r.level b' r.page.0
  pub linked : All (Linked (layout_of e) P r.level b') (pages_at (layout_of e) b' r.page.0)
  pub low : r.level ≤ n

-- Pages below a root of level n that are sound but for the root rule, and a key of w bits.
pub record FinishPre (e P n : ℕ) (b : List ℕ) (p w key lowest : ℕ) : Type 0 where
  pub paged : Paged e P b
  pub linked : Linked (layout_of e) P (suc n) b (root_ref p)
  pub below : SoundBelow (layout_of e) P (suc n) b (root_ref p)
  pub once : (q : ℕ) → met (suc n) (pages_at (layout_of e) b) (root_ref p) q ≡ in_use (pages_at (layout_of e) b q)
  pub cleared : (q : ℕ) → q < P → Cleared (layout_of e) (page_bytes (layout_of e) b q)
  pub level_high : n ≤ 15
  pub depths : LeafDepths w (leaves_of (tree_at 65535 (pages_at (layout_of e) b) n p))
  pub width : w ≤ 64
  pub narrow : key < 2 ^ w
  pub covered : Covered e n b (root_ref p) (positions 0 (bits w key)) lowest

-- They are merged along the way of the key; "the root rule of 01 comes last".
pub record FinishPost (e P n : ℕ) (b : List ℕ) (p w key : ℕ) (b' : List ℕ) (r : Root) : Type 0 where
  pub long : length b' ≡ length b
  pub front : take 16 b' ≡ take 16 b
  pub pages : SoundPages (layout_of e) P b' r.level r.page.0
  pub tree :
      numbered_tree_at 65535 (pages_at (layout_of e) b') r.level r.page.0
      ≡ rooted_numbered n (merge_numbered e n (positions 0 (bits w key)) (numbered_at 65535 (suc n) (pages_at (layout_of e) b) (root_ref p)) ∷ [])

-- A sound tree, a key of w bits, on level 0 neighbours as in a leaf list, and depths as in one also without the key.
pub record TakePre (b : List ℕ) (e P level root w key : ℕ) : Type 0 where
  pub tree : TreeTable b e P level root w
  pub narrow : key < 2 ^ w
  pub beside : Neighbours (leaves_of (tree_at 65535 (pages_at (layout_of e) b) level root))
  pub later : LeafDepths w (leaves_of (off_tree w e key (tree_at 65535 (pages_at (layout_of e) b) level root)))

-- The same with the way to the entry that figure 6 finds, begun at the key's first position.
pub record TakeAtPre (b : List ℕ) (e P level root w key : ℕ) (leaf : Leaf) : Type 0 where
  pub take : TakePre b e P level root w key
  pub first : ℕ
  pub begins : NextPosition w key 0 first
  pub way : Way w key e (pages_at (layout_of e) b) level root first 0 false leaf

-- The tree without the entry that figure 6 finds, its pages merged, under the root that is left.
pub record TakePost (b : List ℕ) (e P level root w key : ℕ) (b' : List ℕ) (r : Root) : Type 0 where
  pub long : length b' ≡ length b
  pub front : take 16 b' ≡ take 16 b
  pub pages : SoundPages (layout_of e) P b' r.level r.page.0
  pub tree :
      numbered_tree_at 65535 (pages_at (layout_of e) b') r.level r.page.0
      ≡ off_numbered w e key (numbered_tree_at 65535 (pages_at (layout_of e) b) level root)
