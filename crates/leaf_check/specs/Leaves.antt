-- What the check of the entries on level 0 carries and says. Assumes nothing.
use Rattle.std.specs.Prelude.{◌≡◌, ℕ, ◌+◌, ◌^◌, ◌<◌, ◌≤◌, true, false, ◌↔◌, List, [], ◌∷◌, map, length, slice_index}
use Rattle.leaf_list.specs.Entries.{Entry}
use Rattle.leaf_list.specs.Register.{key_at, in_use}
use Rattle.leaf_list.specs.Conditions.{State, run}
use Rattle.page_tree.specs.Rows.{All, flats}
use Rattle.page_tree.specs.Tree.{leaves}
use Rattle.index_table.specs.Layout.{Ref, layout_of, Within}
use Rattle.index_table.specs.Pages.{Pages, node_at, met, met_all}
use Rattle.index_table.specs.Soundness.{SoundBelow}
use Rattle.index_table.specs.declared.header.Index.{Index}
use Rattle.bytes_check.specs.Scans.{rows_of}
use Rattle.leaf_check.specs.DepthTable.{DepthMasks}
use Rattle.leaf_check.specs.declared.entries.Scan.{Scan}
use Rattle.leaf_check.specs.declared.entries.Checked.{Checked}

-- The register's slices are equally long, and shorter than NIL; no record in use has a key of more than w bits, and a free one has key 0.
pub record NarrowRegister (w : ℕ) (keys used : List ℕ) : Type 0 where
  pub long : length keys ≡ length used
  pub few : length used ≤ 65534
  pub narrow : (r : ℕ) → in_use used r ≡ true → key_at keys r < 2 ^ w
  pub free : (r : ℕ) → in_use used r ≡ false → key_at keys r ≡ 0

-- What the code carries, as the state of the conditions: every entry so far fitted.
abbrev pub state_of : Scan → State
state_of s = record { disc = s.disc; trail = s.trail; dummy = s.dummy; live = s.live; closed = s.closed; fits = true }

-- The numbers carried stay within w bits, and no more entries were live than records are held.
pub record Carried (w held : ℕ) (s : Scan) : Type 0 where
  pub disc : s.disc < 2 ^ w
  pub trail : s.trail ≤ w
  pub live : s.live ≤ held

-- More than are ever live: at most 65,535 records are held, and a page adds at most 255 entries before they are counted.
abbrev pub countless : ℕ
countless = 65791

-- Entries pass behind a state: each fits, and no more are live than records are held.
pub record Passing (w : ℕ) (keys used : List ℕ) (held : ℕ) (s : State) (es : List Entry) : Type 0 where
  pub fits : (run w (key_at keys) (in_use used) s es).fits ≡ true
  pub few : (run w (key_at keys) (in_use used) s es).live ≤ held

-- The answer on some entries, and on what more is asked: yes exactly if all that holds, and then the state behind them.
pub record Scanned (More : Type 0) (w : ℕ) (keys used : List ℕ) (held : ℕ) (s : Scan) (es : List Entry) (r : Checked) : Type 0 where
  pub verdict : (r.faults ≡ 0) ↔ (More × Passing w keys used held (state_of s) es)
  pub state : r.faults ≡ 0 → state_of r.scan ≡ run w (key_at keys) (in_use used) (state_of s) es
  pub carried : r.faults ≡ 0 → Carried w held r.scan

-- The entries on level 0 below an entry of rank n, and below a row of them.
abbrev pub leaves_below : (n : ℕ) → Pages → Ref → List Entry
leaves_below n pages x = leaves n (node_at 65535 n pages x)

abbrev pub leaves_of_row : (n : ℕ) → Pages → List Ref → List Entry
leaves_of_row n pages row = flats (leaves n) (map (node_at 65535 n pages) row)

-- The last depth of a row is c, and all others are above it; nothing is asked of no entries.
abbrev pub Ends : ℕ → List Ref → Type 0
Ends c [] = Unit {0}
Ends c (x ∷ []) = x.0 ≡ c
Ends c (x ∷ y ∷ ys) = (c < x.0) × Ends c (y ∷ ys)

-- A row of entries of rank n that c closes, with all below it; map has a mark for each page met before, and no page is met twice.
pub record RowSound (h : Index) (index : List ℕ) (c n : ℕ) (row : List Ref) (map : List ℕ) : Type 0 where
  pub ends : Ends c row
  pub sound : All (SoundBelow (layout_of h.entries) h.pages n index) row
  pub once : (q : ℕ) → slice_index map q + met_all n (rows_of h index) row q ≤ 1

-- The same of one entry.
pub record EntrySound (h : Index) (index : List ℕ) (n : ℕ) (x : Ref) (map : List ℕ) : Type 0 where
  pub sound : SoundBelow (layout_of h.entries) h.pages n index x
  pub once : (q : ℕ) → slice_index map q + met n (rows_of h index) x q ≤ 1

-- What the check of a row of leaves takes.
pub record LeavesPre (h : Index) (index keys used masks : List ℕ) (page : ℕ) (s : Scan) : Type 0 where
  pub within : Within (layout_of h.entries) index page
  pub few : length (rows_of h index page) ≤ h.entries
  pub width : h.width ≤ 64
  pub register : NarrowRegister h.width keys used
  pub depths : DepthMasks h.width masks
  pub carried : Carried h.width h.held s
