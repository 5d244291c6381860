-- Where a search stands: what the code carries of the position list, and what a page's search answers. Assumes nothing.
use Rattle.std.specs.Prelude.{◌≡◌, Bool, cond, ◌⊎◌, List, [], ◌∷◌, ℕ, zero, suc, ◌+◌, ◌-◌, ◌*◌, ◌/◌, ◌%◌, ◌^◌, ◌≤◌, ◌<◌, eqb, leb, length, get_or, take, drop}
use Rattle.std.specs.Int.Count.{count_leading_zeros, count_trailing_zeros}
use Rattle.leaf_list.specs.Keys.{bits, first_difference}
use Rattle.leaf_list.specs.Search.{positions}
use Rattle.leaf_list.specs.Entries.{entry}
use Rattle.leaf_list.specs.Depths.{Unrepeated, LeafDepths}
use Rattle.page_tree.specs.Rows.{All, last_depth}
use Rattle.page_tree.specs.Tree.{leaves}
use Rattle.page_tree.specs.Walk.{rest}
use Rattle.page_tree.specs.Finding.{find_below}
use Rattle.page_tree.specs.Merging.{sparse}
use Rattle.page_tree.proofs.WalkPlaces.{Passes, positions_after}
use Rattle.index_table.specs.Header.{width_of, entries_of, pages_of}
use Rattle.index_table.specs.Layout.{Ref, Within, layout_of, page_start}
use Rattle.index_table.specs.Pages.{Pages, pages_at, node_at, record_of}
use Rattle.index_table.specs.Soundness.{SoundBelow}
use Rattle.table_search.specs.declared.Spot.{Spot}
use Rattle.table_search.specs.declared.Leaf.{Leaf}

-- The positions after b: the key's one-bits behind it, then W + 1; none after W + 1.
abbrev pub later : ℕ → ℕ → ℕ → List ℕ
later w key b = cond (leb b w) (positions b (drop b (bits w key))) []

-- The positions left where b is the next one.
abbrev pub left_from : ℕ → ℕ → ℕ → List ℕ
left_from w key b = b ∷ later w key b

-- The next position after p bits of the key: the first one-bit behind them, or W + 1.
pub record NextPosition (w key p r : ℕ) : Type 0 where
  pub left : positions p (drop p (bits w key)) ≡ left_from w key r
  pub above : p < r
  pub within : r ≤ w + 1

-- The key's bits from its one-bit at the position b on, as a number; none at W + 1.
abbrev pub ahead : ℕ → ℕ → ℕ → ℕ
ahead w key b = cond (leb b w) (2 ^ (w - b) + key % 2 ^ (w - b)) 0

-- The position of the first of these bits; W + 1 where there is none.
abbrev pub first_position : ℕ → ℕ → ℕ
first_position w a = count_leading_zeros 64 a + w - 63

-- The last number before the discriminator of an entry of depth d that follows the discriminator D.
abbrev pub last_before : ℕ → ℕ → ℕ → ℕ
last_before w d D = D / 2 ^ (w - d) * 2 ^ (w - d) + (2 ^ (w - d) - 1)

-- The position of the last one-bit of a number of w bits; τ where there is none.
abbrev pub last_position : ℕ → ℕ → ℕ → ℕ
last_position w τ n = cond (eqb n 0) τ (w - count_trailing_zeros 64 n)

-- The next position once an entry of depth d was passed at the position b.
pub record Passed (w key b d r : ℕ) : Type 0 where
  pub left : rest d b (later w key b) ≡ left_from w key r
  pub rise : b ≤ r
  pub high : r ≤ w + 1

-- The depth of a stored entry.
abbrev pub depth_of : Ref → ℕ
depth_of x = x.0

-- A page in use within the bytes, whose depths are at most w and, but for the last, above 0, none coming again before a shallower one has come;
-- and a position of a key.
pub record SeekPre (b : List ℕ) (e page w key position : ℕ) : Type 0 where
  pub within : Within (layout_of e) b page
  pub some : 1 ≤ length (pages_at (layout_of e) b page)
  pub few : length (pages_at (layout_of e) b page) ≤ e
  pub depths : All (λ x. x.0 ≤ w) (pages_at (layout_of e) b page)
  pub inner : (i : ℕ) → i + 1 < length (pages_at (layout_of e) b page) → 0 < (get_or (pages_at (layout_of e) b page) i (0, 0)).0
  pub unrepeated : Unrepeated depth_of (pages_at (layout_of e) b page)
  pub width : w ≤ 64
  pub narrow : key < 2 ^ w
  pub low : 0 < position
  pub high : position ≤ w + 1

-- The place where figure 6 stops in a page's row, begun with the position b and the depth τ before: the entries before it are passed, and it is
-- shallower than the next position or the last.
pub record Stopped (w key b τ : ℕ) (row : List Ref) (r : Spot) : Type 0 where
  pub inside : r.at < length row
  pub passes : Passes depth_of (left_from w key b) (take r.at row)
  pub left : positions_after depth_of (left_from w key b) (take r.at row) ≡ left_from w key r.position
  pub trail : last_depth depth_of τ (take r.at row) ≡ r.trail
  pub rise : b ≤ r.position
  pub high : r.position ≤ w + 1
  pub stops : (suc r.at ≡ length row) ⊎ (depth_of (get_or row r.at (0, 0)) < r.position)

-- The place at entry i, which follows the discriminator D, for the key's bits a and the depth τ before the page.
abbrev pub spot_at : ℕ → ℕ → ℕ → ℕ → ℕ → Spot
spot_at w a τ D i = record { at = i; position = first_difference 0 (bits w a) (bits w D); trail = last_position w τ D }

-- A sound page of level n whose last depth, closing, is before the position: figure 6 stops in it.
pub record DescendPre (b : List ℕ) (e P n page w key position : ℕ) : Type 0 where
  pub closing : ℕ
  pub sound : SoundBelow (layout_of e) P (suc n) b (closing, page)
  pub before : closing < position
  pub table : page_start (layout_of e) P ≤ length b
  pub depths : LeafDepths w (leaves (suc n) (node_at 65535 (suc n) (pages_at (layout_of e) b) (closing, page)))
  pub width : w ≤ 64
  pub narrow : key < 2 ^ w
  pub high : position ≤ w + 1

-- Whether a page is sparse that may hold e entries.
abbrev pub sparse_at : ℕ → Pages → ℕ → Bool
sparse_at e pages page = sparse e (length (pages page))

-- The place found in a page of level 0, with the depth τ before the page, below a page that is sparse or not; next is the next position there.
pub record Ends (w key position τ page : ℕ) (thin : Bool) (row : List Ref) (r : Leaf) : Type 0 where
  pub page_is : r.page.0 ≡ page
  pub next : ℕ
  pub place : Stopped w key position τ row (record { at = r.at; position = next; trail = r.trail })
  pub entry_is : get_or row r.at (0, 0) ≡ (r.depth, r.pointer)
  pub before_is : r.before ≡ τ
  pub thin_is : r.thin ≡ thin

-- The way from a page of level n down to the entry found: the place in each page, and the page below it. e is what a page may hold.
abbrev pub Way : ℕ → ℕ → ℕ → Pages → ℕ → ℕ → ℕ → ℕ → Bool → Leaf → Type 0
Way w key e pages zero page position τ thin r = Ends w key position τ page thin (pages page) r
Way w key e pages (suc n) page position τ thin r =
    (s : Spot) × Stopped w key position τ (pages page) s
    × Way w key e pages n (get_or (pages page) s.at (0, 0)).1 s.position s.trail (sparse_at e pages page) r

-- The entry that figure 6 finds below a page of level n, with the positions left and the depth before it.
pub record Descended (w key position τ n : ℕ) (thin : Bool) (e : ℕ) (pages : Pages) (page : ℕ) (r : Leaf) : Type 0 where
  pub next : ℕ
  pub found :
      find_below (suc n) (left_from w key position) τ (node_at 65535 (suc n) pages (0, page))
      ≡ (left_from w key next, r.trail, entry r.depth (record_of 65535 r.pointer))
  pub way : Way w key e pages n page position τ thin r

-- An entry on level 0 whose numbers are small enough to stand in one.
pub record LeafLow (l : Leaf) : Type 0 where
  pub at : l.at < 256
  pub pointer : l.pointer ≤ 65535
  pub trail : l.trail ≤ 64
  pub before : l.before ≤ 64

-- What such a number means: the place in the page, the page, and what the entry points at,
abbrev pub place_in : ℕ → ℕ
place_in r = r / 4294967296 % 256

abbrev pub page_in : ℕ → ℕ
page_in r = r / 65536 % 65536

abbrev pub pointer_in : ℕ → ℕ
pointer_in r = r % 65536

-- the depth before the entry, the one before its page, and whether the page above is sparse.
abbrev pub trail_in : ℕ → ℕ
trail_in r = r / 1099511627776 % 256

abbrev pub before_in : ℕ → ℕ
before_in r = r / 281474976710656 % 256

abbrev pub thin_in : ℕ → Bool
thin_in r = eqb (r / 72057594037927936) 1

-- The number of an entry: all but its depth can be read off it.
pub record LeafNumber (l : Leaf) (r : ℕ) : Type 0 where
  pub at_is : place_in r ≡ l.at
  pub pointer_is : pointer_in r ≡ l.pointer
  pub page_is : page_in r ≡ l.page.0
  pub trail_is : trail_in r ≡ l.trail
  pub before_is : before_in r ≡ l.before
  pub thin_is : thin_in r ≡ l.thin

-- The entry that such a number means; its depth stands in its page.
abbrev pub number_leaf : Pages → ℕ → Leaf
number_leaf pages r =
    record {
      at = place_in r;
      pointer = pointer_in r;
      page = record { 0 = page_in r };
      depth = (get_or (pages (page_in r)) (place_in r) (0, 0)).0;
      trail = trail_in r;
      before = before_in r;
      thin = thin_in r;
    }

-- A number that means an entry of a page.
pub record NumberPre (b : List ℕ) (e r : ℕ) : Type 0 where
  pub within : Within (layout_of e) b (page_in r)
  pub few : length (pages_at (layout_of e) b (page_in r)) ≤ e
  pub inside : place_in r < length (pages_at (layout_of e) b (page_in r))

-- A page of level n from which the descent can begin, with the depth τ before it.
pub record ReachPre (b : List ℕ) (n page key position τ : ℕ) : Type 0 where
  pub page_is : DescendPre b (entries_of b) (pages_of b) n page (width_of b) key position
  pub trail_low : τ ≤ 64
  pub entries_high : entries_of b ≤ 255

-- The entry that it comes to, as a number.
abbrev pub Reached : List ℕ → ℕ → ℕ → ℕ → ℕ → ℕ → Bool → ℕ → Type 0
Reached b n page key position τ thin r =
    let pages : Pages = pages_at (layout_of (entries_of b)) b in
    Descended (width_of b) key position τ n thin (entries_of b) pages page (number_leaf pages r)
