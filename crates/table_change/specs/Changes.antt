-- On and off in sound tables: the rows that decline them, and what they leave (01, "When a call is declined" and "What the contracts carry"). Assumes nothing.
use Rattle.std.specs.Prelude.{◌≡◌, ◌≢◌, Bool, true, false, cond, List, [], ℕ, suc, ◌-◌, ◌^◌, leb, ltb, length, set}
use Rattle.std.proofs.Math.Option.{Option, none, some}
use Rattle.leaf_list.specs.Herd.{Herd, lookup}
use Rattle.leaf_list.specs.Register.{key_at, in_use, herd_of}
use Rattle.page_tree.specs.Rows.{All}
use Rattle.page_tree.specs.Tree.{Tree, pages_of as tree_pages}
use Rattle.page_tree.specs.OnPages.{on_tree}
use Rattle.page_tree.specs.Numbered.{on_numbered, off_numbered}
use Rattle.index_table.specs.Layout.{layout_of}
use Rattle.index_table.specs.Header.{width_of, entries_of, pages_of, root_of, held_of, HeaderFrom}
use Rattle.index_table.specs.Pages.{pages_at}
use Rattle.index_table.specs.Soundness.{Sound, tree_of, numbered_tree_of}
use Rattle.table_find.specs.declared.answer.Answer.{Answer}
use Rattle.table_find.specs.Answers.{plain}

-- Row 2: "key of more than W bits".
abbrev pub too_wide : ℕ → ℕ → Bool
too_wide w key = leb (2 ^ w) key

-- Rows 5 and 6: the key is held.
abbrev pub is_some : Option ℕ → Bool
is_some none = false
is_some (some r) = true

abbrev pub is_held : ℕ → Herd → Bool
is_held key herd = is_some (lookup key herd)

-- ---- on

-- The tree that on makes of the tables' tree.
abbrev pub tree_after_on : List ℕ → List ℕ → ℕ → ℕ → Tree
tree_after_on index keys key r = on_tree (width_of index) (entries_of index) (key_at keys) key r (tree_of index)

-- Row 8: "the root would stand above level 15".
abbrev pub row_eight : List ℕ → List ℕ → ℕ → ℕ → Bool
row_eight index keys key r = ltb 15 (tree_after_on index keys key r).0

-- Row 7: "more than P pages would be in use after it".
abbrev pub row_seven : List ℕ → List ℕ → ℕ → ℕ → Bool
row_seven index keys key r = ltb (pages_of index) (tree_pages (tree_after_on index keys key r))

-- Rows 2, 3, 4, 5, 8 and 7, the first that applies; 0 if none does.
abbrev pub on_row : Bool → Bool → Bool → Bool → Bool → Bool → ℕ
on_row wide past taken held eight seven = cond wide 2 (cond past 3 (cond taken 4 (cond held 5 (cond eight 8 (cond seven 7 0)))))

-- Row 3: "record at or past register length"; row 4: "record in use"; row 5: "key held".
abbrev pub on_row_of : List ℕ → List ℕ → List ℕ → ℕ → ℕ → ℕ
on_row_of index keys used key r =
    on_row (too_wide (width_of index) key) (leb (length used) r) (in_use used r) (is_held key (herd_of keys used)) (row_eight index keys key r) (row_seven index keys key r)

-- What a done on leaves. The numbers of new pages are free; "every other part and every new root stands in a page that was free before the call".
pub record OnDone (index keys used : List ℕ) (key r : ℕ) (index₁ keys₁ used₁ : List ℕ) : Type 0 where
  pub header : HeaderFrom index index₁ (root_of index₁) (suc (held_of index))
  pub fresh : ℕ → List ℕ
  pub free : (n : ℕ) → All (λ q. pages_at (layout_of (entries_of index)) index q ≡ []) (fresh n)
  pub pages : numbered_tree_of index₁ ≡ on_numbered (entries_of index) fresh (width_of index) (key_at keys) key r (numbered_tree_of index)
  pub key_set : keys₁ ≡ set keys r key
  pub byte_set : used₁ ≡ set used r 1
  pub sound : Sound index₁ keys₁ used₁

-- On, where the tables are sound.
pub record OnChanges (index keys used : List ℕ) (key r : ℕ) (index₁ keys₁ used₁ : List ℕ) (a : Answer) : Type 0 where
  pub answer : a ≡ plain (on_row_of index keys used key r)
  pub refused : on_row_of index keys used key r ≢ 0 → (index₁ ≡ index) × (keys₁ ≡ keys) × (used₁ ≡ used)
  pub done : on_row_of index keys used key r ≡ 0 → OnDone index keys used key r index₁ keys₁ used₁

-- ---- off

-- Rows 2 and 6, the first that applies; 0 if neither does.
abbrev pub off_row : Bool → Bool → ℕ
off_row wide held = cond wide 2 (cond held 0 6)

abbrev pub off_row_of : List ℕ → List ℕ → List ℕ → ℕ → ℕ
off_row_of index keys used key = off_row (too_wide (width_of index) key) (is_held key (herd_of keys used))

-- What a done off leaves of the key's record and the pages; every page that stays keeps its number, and of two joined pages the left one stays.
pub record OffDone (index keys used : List ℕ) (key : ℕ) (index₁ keys₁ used₁ : List ℕ) : Type 0 where
  pub header : HeaderFrom index index₁ (root_of index₁) (held_of index - 1)
  pub pages : numbered_tree_of index₁ ≡ off_numbered (width_of index) (entries_of index) key (numbered_tree_of index)
  pub «record» : ℕ
  pub found : lookup key (herd_of keys used) ≡ some «record»
  pub key_set : keys₁ ≡ set keys «record» 0
  pub byte_set : used₁ ≡ set used «record» 0
  pub sound : Sound index₁ keys₁ used₁

-- Off, where the tables are sound.
pub record OffChanges (index keys used : List ℕ) (key : ℕ) (index₁ keys₁ used₁ : List ℕ) (a : Answer) : Type 0 where
  pub answer : a ≡ plain (off_row_of index keys used key)
  pub refused : off_row_of index keys used key ≢ 0 → (index₁ ≡ index) × (keys₁ ≡ keys) × (used₁ ≡ used)
  pub done : off_row_of index keys used key ≡ 0 → OffDone index keys used key index₁ keys₁ used₁
