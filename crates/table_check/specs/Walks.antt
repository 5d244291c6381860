-- What the check of the pages says. Assumes nothing.
use Rattle.std.specs.Prelude.{◌≡◌, Bool, true, ◌↔◌, List, ℕ, ◌+◌, ◌≤◌, length, get_or, set}
use Rattle.index_table.specs.Layout.{Ref, layout_of, page_start}
use Rattle.index_table.specs.Pages.{met}
use Rattle.index_table.specs.Soundness.{SizedPage}
use Rattle.index_table.specs.declared.header.Index.{Index}
use Rattle.bytes_check.specs.Scans.{rows_of}
use Rattle.leaf_check.specs.DepthTable.{DepthMasks}
use Rattle.leaf_check.specs.Leaves.{NarrowRegister, Carried, Scanned, leaves_below, EntrySound}
use Rattle.leaf_check.specs.declared.entries.Scan.{Scan}
use Rattle.leaf_check.specs.declared.entries.Checked.{Checked}

-- What the check of a page takes: the table and the register are as long as the header says, and map has a mark of 0 or 1 for each page.
pub record WalkPre (h : Index) (index keys used masks map : List ℕ) (s : Scan) : Type 0 where
  pub table : page_start (layout_of h.entries) h.pages ≤ length index
  pub width : h.width ≤ 64
  pub register : NarrowRegister h.width keys used
  pub depths : DepthMasks h.width masks
  pub carried : Carried h.width h.held s
  pub long : h.pages ≤ length map
  pub marked : (q : ℕ) → get_or map q 0 ≤ 1

-- A page is met: it is of its level, of 1 to E entries, and not marked yet; then it is marked.
pub record Entered (h : Index) (index : List ℕ) (level page : ℕ) (map map' : List ℕ) (r : Bool) : Type 0 where
  pub verdict : (r ≡ true) ↔ (SizedPage (layout_of h.entries) h.pages level index page × (get_or map page 0 ≡ 0))
  pub marks : r ≡ true → map' ≡ set map page 1

-- The answer on an entry of rank n and all below it: yes exactly if all is sound, and then the state behind it and the marks.
pub record Walked (h : Index) (index keys used : List ℕ) (n : ℕ) (x : Ref) (map map' : List ℕ) (s : Scan) (r : Checked) : Type 0 where
  pub scanned : Scanned (EntrySound h index n x map) h.width keys used h.held s (leaves_below n (rows_of h index) x) r
  pub marks : r.faults ≡ 0 → (q : ℕ) → get_or map' q 0 ≡ get_or map q 0 + met n (rows_of h index) x q
