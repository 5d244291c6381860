-- Sound tables (01, "Pages": "Check says yes exactly if lengths, header, pages and register all agree so"). Assumes nothing.
use Rattle.std.specs.Prelude.{◌≡◌, ◌⊎◌, List, ℕ, zero, suc, ◌+◌, ◌*◌, ◌^◌, ◌≤◌, ◌<◌, length, get_or, drop}
use Rattle.leaf_list.specs.Entries.{Entry}
use Rattle.leaf_list.specs.LeafList.{leaf_list}
use Rattle.leaf_list.specs.Register.{herd_of, count_in_use}
use Rattle.page_tree.specs.Rows.{All, Closed}
use Rattle.page_tree.specs.Tree.{Tree, leaves_of}
use Rattle.page_tree.specs.Numbered.{NumberedTree}
use Rattle.index_table.specs.Bytes.{AllZero}
use Rattle.index_table.specs.Layout.{Layout, layout_of, page_size, entry_size, page_bytes, level_of, count_of, Ref, nil_pointer}
use Rattle.index_table.specs.Header.{width_of, entries_of, pages_of, root_of, held_of, spare_of}
use Rattle.index_table.specs.Pages.{pages_at, met, in_use, root_ref, tree_at, numbered_tree_at}

-- "Named limits: 255 entries a page, 65,534 records, 15 as the highest root level. E is at least 2, P from 1 to 65,534,
-- the register at least one record"; "W from 1 to 64". A byte is at most 255.
pub record Limits (w e p records : ℕ) : Type 0 where
  pub width_low : 1 ≤ w
  pub width_high : w ≤ 64
  pub entries_low : 2 ≤ e
  pub entries_high : e ≤ 255
  pub pages_low : 1 ≤ p
  pub pages_high : p ≤ 65534
  pub records_low : 1 ≤ records
  pub records_high : records ≤ 65534

-- The lengths of the tables, for the header's numbers.
pub record Lengths (e p : ℕ) (index keys used : List ℕ) : Type 0 where
  pub table : length index ≡ 16 + p * page_size (layout_of e)
  pub register : length keys ≡ length used

-- "1 in use, 0 free (key 0)"; "none a key of more than W bits".
pub record SoundRecord (w key used : ℕ) : Type 0 where
  pub byte : (used ≡ 0) ⊎ (used ≡ 1)
  pub free : used ≡ 0 → key ≡ 0
  pub narrow : used ≡ 1 → key < 2 ^ w

-- "No two records in use have one key".
pub record SoundRegister (w : ℕ) (keys used : List ℕ) : Type 0 where
  pub records : (r : ℕ) → r < length used → SoundRecord w (get_or keys r 0) (get_or used r 0)
  pub distinct : (r s : ℕ) → get_or used r 0 ≡ 1 → get_or used s 0 ≡ 1 → get_or keys r 0 ≡ get_or keys s 0 → r ≡ s

-- A page of level n among P pages: "A page in use has 1 to E entries".
pub record SizedPage (L : Layout) (P n : ℕ) (b : List ℕ) (p : ℕ) : Type 0 where
  pub number : p < P
  pub level : level_of (page_bytes L b p) ≡ n
  pub some : 1 ≤ length (pages_at L b p)
  pub few : length (pages_at L b p) ≤ L.entries

-- "a page is sound if its children are, and a child if it is a sound page one level lower": an entry of rank n + 1 points at a sound page of level n
-- whose "last depth is below all others" and equals the entry's.
abbrev pub SoundBelow : Layout → ℕ → (n : ℕ) → List ℕ → Ref → Type 0
SoundBelow L P zero b x = Unit {0}
SoundBelow L P (suc n) b x =
    SizedPage L P n b x.1 × Closed (λ (y : Ref). y.0) x.0 (pages_at L b x.1) × All (SoundBelow L P n b) (pages_at L b x.1)

-- "Unused entries and free pages are all zero".
pub record Cleared (L : Layout) (page : List ℕ) : Type 0 where
  pub free : count_of page ≡ 0 → AllZero page
  pub unused : AllZero (drop (L.head + entry_size L * count_of page) page)

pub record SoundPages (L : Layout) (P : ℕ) (b : List ℕ) (level root : ℕ) : Type 0 where
  pub below : SoundBelow L P (suc level) b (root_ref root)
  -- "pointed at by exactly one entry", "Unreached pages are free"
  pub once : (q : ℕ) → met (suc level) (pages_at L b) (root_ref root) q ≡ in_use (pages_at L b q)
  pub cleared : (q : ℕ) → q < P → Cleared L (page_bytes L b q)
  -- "the root's level is at most 15, and a root above level 0 has at least two entries"
  pub level_high : level ≤ 15
  pub root_rule : 1 ≤ level → 2 ≤ length (pages_at L b root)

-- The level of the root page.
abbrev pub root_level : List ℕ → ℕ
root_level b = level_of (page_bytes (layout_of (entries_of b)) b (root_of b))

-- What is read from the root down, page numbers aside,
abbrev pub tree_of : List ℕ → Tree
tree_of b = tree_at (nil_pointer (layout_of (entries_of b))) (pages_at (layout_of (entries_of b)) b) (root_level b) (root_of b)

-- and with them.
abbrev pub numbered_tree_of : List ℕ → NumberedTree
numbered_tree_of b = numbered_tree_at (nil_pointer (layout_of (entries_of b))) (pages_at (layout_of (entries_of b)) b) (root_level b) (root_of b)

-- The entries on level 0, read from left to right from the root.
abbrev pub leaf_entries : List ℕ → List Entry
leaf_entries b = leaves_of (tree_of b)

pub record Sound (index keys used : List ℕ) : Type 0 where
  pub limits : Limits (width_of index) (entries_of index) (pages_of index) (length used)
  pub lengths : Lengths (entries_of index) (pages_of index) index keys used
  pub spare : AllZero (spare_of index)
  pub register : SoundRegister (width_of index) keys used
  pub pages : SoundPages (layout_of (entries_of index)) (pages_of index) index (root_level index) (root_of index)
  -- "On level 0, read left to right, stands the leaf list of the register."
  pub leaves : leaf_entries index ≡ leaf_list (width_of index) (herd_of keys used)
  pub held : held_of index ≡ count_in_use used
