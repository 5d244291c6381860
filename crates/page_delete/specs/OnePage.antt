-- Figure 11 where it changes one page of level 0 alone. Assumes nothing.
use Rattle.std.specs.Prelude.{◌≡◌, Bool, true, false, List, ◌++◌, map, ℕ, zero, suc, ◌≤◌, ◌<◌, length, get_or, take, drop}
use Rattle.leaf_list.specs.Entries.{Entry}
use Rattle.page_tree.specs.Rows.{last_depth}
use Rattle.page_tree.specs.Row.{depth_of}
use Rattle.page_tree.specs.OffPages.{Left, step_entry, sweep, next_depth, strike}
use Rattle.page_tree.specs.declared.Unwind.{Unwind}
use Rattle.page_tree.specs.declared.Unwind.TheVariants.{Idle, Clear}
use Rattle.index_table.specs.Layout.{layout_of, Ref, page_bytes, level_of, Fitting, row_page, store}
use Rattle.index_table.specs.Pages.{pages_at, leaf_of}
use Rattle.entry_delete.specs.Entries.{Calm}
use Rattle.page_change.specs.Changing.{WholePage}

-- A row of a page of level 0 as entries of the leaf list.
abbrev pub leaf_row : List Ref → List Entry
leaf_row row = map (leaf_of 65535) row

-- What is asked of the page before, where dummies deeper than g go from the right and r entries stay.
abbrev pub asked_before : ℕ → ℕ → Unwind
asked_before g zero = Clear g
asked_before g (suc r) = Idle

-- Where dummies deeper than g go from the right, the first r of the first n entries stay.
pub record Staying (row : List Ref) (n g r : ℕ) : Type 0 where
  pub few : r ≤ n
  pub swept : (ys : List Entry) → sweep step_entry (Clear g) (leaf_row (take n row)) ys ≡ (leaf_row (take r row) ++ ys, asked_before g r)

-- A whole page of level 0 with an entry at a place.
pub record NearPre (e : ℕ) (b : List ℕ) (page at : ℕ) : Type 0 where
  pub whole : WholePage e b page
  pub level : level_of (page_bytes (layout_of e) b page) ≡ 0
  pub fitting : Fitting 2 (pages_at (layout_of e) b page)
  pub inside : at < length (pages_at (layout_of e) b page)

-- Another entry stands behind it.
pub record FollowedPre (e : ℕ) (b : List ℕ) (page at : ℕ) : Type 0 where
  pub near : NearPre e b page at
  pub followed : suc at < length (pages_at (layout_of e) b page)

-- The entry has the depth d.
pub record GivePre (e : ℕ) (b : List ℕ) (page at d : ℕ) : Type 0 where
  pub near : NearPre e b page at
  pub depth_is : (get_or (pages_at (layout_of e) b page) at (0, 0)).0 ≡ d

-- The page is stored with the row that is left, where o is what is left of the entry at the place: what is asked of the page before, whose
-- last depth is τ₀, changes nothing there.
pub record NearDone (e : ℕ) (b : List ℕ) (page at τ₀ : ℕ) (o : Left Entry) (b' : List ℕ) : Type 0 where
  pub row : List Ref
  pub asked : Unwind
  pub calm : Calm τ₀ asked
  pub bytes : b' ≡ store (layout_of e) b page (row_page e 0 row)
  pub some : 1 ≤ length row
  pub few : length row ≤ e
  pub fitting : Fitting 2 row
  pub last : last_depth depth_of 0 row ≡ last_depth depth_of 0 (pages_at (layout_of e) b page)
  pub left : sweep step_entry o.1 (leaf_row (take at (pages_at (layout_of e) b page))) (o.0 ++ leaf_row (drop (suc at) (pages_at (layout_of e) b page))) ≡ (leaf_row row, asked)

-- It is so, or no byte changes.
pub record NearPost (e : ℕ) (b : List ℕ) (page at τ₀ : ℕ) (o : Left Entry) (b' : List ℕ) (r : Bool) : Type 0 where
  pub done : r ≡ true → NearDone e b page at τ₀ o b'
  pub none : r ≡ false → b' ≡ b

-- What figure 11 leaves of the entry at a place, between the depth before it and that of the entry behind it, ν where the page ends with it.
abbrev pub struck_at : List Ref → ℕ → ℕ → ℕ → Left Entry
struck_at row at τ ν = strike τ (next_depth ν (leaf_row (drop (suc at) row))) (leaf_of 65535 (get_or row at (0, 0)))

-- Figure 11 at the entry leaves the page so, where ν follows the page.
pub record StruckNear (e : ℕ) (b : List ℕ) (page at τ τ₀ ν : ℕ) (b' : List ℕ) : Type 0 where
  pub of_entry : Left Entry
  pub struck : struck_at (pages_at (layout_of e) b page) at τ ν ≡ of_entry
  pub done : NearDone e b page at τ₀ of_entry b'

-- It is so whatever follows, or no byte changes.
pub record StrikePost (e : ℕ) (b : List ℕ) (page at τ τ₀ : ℕ) (b' : List ℕ) (r : Bool) : Type 0 where
  pub done : r ≡ true → (ν : ℕ) → StruckNear e b page at τ τ₀ ν b'
  pub none : r ≡ false → b' ≡ b

-- It is so where the entry is followed by the depth next, or no byte changes.
pub record DummyPost (e : ℕ) (b : List ℕ) (page at τ next : ℕ) (b' : List ℕ) (r : Bool) : Type 0 where
  pub done : r ≡ true → (τ₀ ν : ℕ) → next_depth ν (leaf_row (drop (suc at) (pages_at (layout_of e) b page))) ≡ next → StruckNear e b page at τ τ₀ ν b'
  pub none : r ≡ false → b' ≡ b
