-- What the check of the whole tree says. Assumes nothing.
use Rattle.std.specs.Prelude.{◌≡◌, true, List, ℕ, suc, ◌≤◌, ◌<◌, length}
use Rattle.leaf_list.specs.Register.{key_at, in_use}
use Rattle.leaf_list.specs.Conditions.{start, run, passes}
use Rattle.index_table.specs.Layout.{layout_of, page_start, page_bytes, level_of}
use Rattle.index_table.specs.Pages.{root_ref, met, in_use as page_in_use}
use Rattle.index_table.specs.Soundness.{SoundBelow, SoundPages, Cleared}
use Rattle.index_table.specs.declared.header.Index.{Index}
use Rattle.bytes_check.specs.Scans.{rows_of}
use Rattle.leaf_check.specs.Leaves.{NarrowRegister, leaves_below}

-- What the check of the tree takes: the table and the register are as the header says.
pub record TreePre (h : Index) (index keys used : List ℕ) : Type 0 where
  pub table : length index ≡ page_start (layout_of h.entries) h.pages
  pub width : h.width ≤ 64
  pub register : NarrowRegister h.width keys used

-- The entries on level 0 below the root pass, with as many live as records held.
abbrev pub LeavesPass : Index → List ℕ → List ℕ → List ℕ → ℕ → Type 0
LeavesPass h index keys used level =
    passes (run h.width (key_at keys) (in_use used) start (leaves_below (suc level) (rows_of h index) (root_ref h.root.0))) h.held ≡ true

-- The tree below a root of a level.
pub record TreeSound (h : Index) (index keys used : List ℕ) (level : ℕ) : Type 0 where
  pub below : SoundBelow (layout_of h.entries) h.pages (suc level) index (root_ref h.root.0)
  pub once : (q : ℕ) → met (suc level) (rows_of h index) (root_ref h.root.0) q ≡ page_in_use (rows_of h index q)
  pub cleared : (q : ℕ) → q < h.pages → Cleared (layout_of h.entries) (page_bytes (layout_of h.entries) index q)
  pub leaves : LeavesPass h index keys used level

-- The level of the root, as its page says.
abbrev pub level_of_root : Index → List ℕ → ℕ
level_of_root h index = level_of (page_bytes (layout_of h.entries) index h.root.0)

-- All pages, and the entries on level 0.
pub record PagesSound (h : Index) (index keys used : List ℕ) : Type 0 where
  pub pages : SoundPages (layout_of h.entries) h.pages index (level_of_root h index) h.root.0
  pub leaves : LeavesPass h index keys used (level_of_root h index)
