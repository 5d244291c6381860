-- How long the leaf list may get after any history, and what follows a dummy (02, xi). Assumes nothing.
use mathlib.Core.Path.{◌≡◌, refl, ap, sym, ◌∙◌}
use mathlib.Core.List.{List, [], ◌∷◌}
use Prim.Native.Nat.{ℕ, ◌^◌, ◌-◌, ◌≤◌}
use native.Mathlib.Omega.{arith}
use lib.ListN.{length}
use borrow.Author.Tests.{le-ltb}
use Rattle.leaf_list.specs.Bounds.{most_entries, largest_two}
use Rattle.leaf_list.proofs.BoundLaws.{bounds_law, reached_law}
use Rattle.index_table.specs.Header.{width_of, held_of}
use Rattle.index_table.specs.Soundness.{leaf_entries}
use Rattle.table_find.specs.Answers.{plain}
use Rattle.tag_index.specs.Tables.{Tables}
use Rattle.tag_index.specs.Histories.{Call, on, Reply, answered, sliced, said, OrderedMap, Sizes, sizes_of, Feed, empty_map, map_on_row, map_on, map_replies, map_behind}
use Rattle.tag_index.specs.Claims.{ListBounded}
use Rattle.tag_index.proofs.Runs.{History, map_of}
use Rattle.tag_index.proofs.Histories.{history_runs, every_history}
use Rattle.tag_index.proofs.Corollaries.{map_sorted, map_narrow}

module _ {calls : List Call} {feeds : List Feed} {replies : List Reply} {left : Tables} (h : History calls feeds replies left) where
  -- The header's W is the map's.
  header_width : width_of left.index ≡ (map_of h).width
  header_width = (history_runs h).holds.width

  -- "These hold after any history": of the tables that it left, the bound and what follows a dummy,
  pub list_bounded : ListBounded left
  list_bounded =
      let after = (every_history h).tables in
      rw (after.leaves, after.held, header_width) (bounds_law (map_of h).width (map_of h).herd (map_narrow h) (map_sorted h))

  -- and that two keys reach it: where the two largest are held, and no other.
  pub largest_reach : {r r' : ℕ} → (map_of h).herd ≡ largest_two (map_of h).width r r'
      → length (leaf_entries left.index) ≡ most_entries (width_of left.index) (held_of left.index)
  largest_reach {r} {r'} e =
      let after = (every_history h).tables in
      let wide : 1 ≤ (map_of h).width = rw (← header_width) (history_runs h).holds.sound.limits.width_low in
      rw (after.leaves, after.held, header_width, e) (reached_law (map_of h).width r r' wide).reached

-- ---- the history that puts these two on

-- The number that the first of some replies says, and the replies behind it.
abbrev first_number : List Reply → ℕ
first_number [] = 0
first_number (answered a ∷ rs) = a.number
first_number (sliced a out ∷ rs) = a.number
first_number (said b ∷ rs) = 0

abbrev behind_first : List Reply → List Reply
behind_first [] = []
behind_first (x ∷ rs) = rs

-- The map behind these two ons, where both are done, holds the two and no other.
largest_map : (z : Sizes) (w r r' : ℕ) (feeds : List Feed)
    → answered (plain 0) ∷ answered (plain 0) ∷ [] ≡ map_replies z (empty_map w) (on (2 ^ w - 2) r ∷ on (2 ^ w - 1) r' ∷ []) feeds
    → map_behind z (empty_map w) (on (2 ^ w - 2) r ∷ on (2 ^ w - 1) r' ∷ []) feeds ≡ record { width = w; herd = largest_two w r r' }
largest_map z w r r' [] e = absurd (omega (arith, ap length e))
largest_map z w r r' (f ∷ []) e = absurd (omega (arith, ap length e))
largest_map z w r r' (f ∷ g ∷ fs) e =
    let first : map_on_row z f.late (empty_map w) (2 ^ w - 2) r ≡ 0 = sym (ap first_number e) in
    let one : OrderedMap = record { width = w; herd = (2 ^ w - 2, r) ∷ [] } in
    let behind_first_lem : map_on z f.late (empty_map w) (2 ^ w - 2) r ≡ one = rw first in
    let second : map_on_row z g.late one (2 ^ w - 1) r' ≡ 0 =
    sym (ap (λ (rs : List Reply). first_number (behind_first rs)) e ∙ ap (λ (m : OrderedMap). map_on_row z g.late m (2 ^ w - 1) r') behind_first_lem) in
    rw (behind_first_lem, second, le-ltb (2 ^ w - 1) (2 ^ w - 2) (omega arith))

-- The two largest keys of w bits, put on behind a format and both done, make as many entries as the bound allows.
pub two_ons_reach : {w r r' : ℕ} {feeds : List Feed} {left : Tables}
    → (h : History (on (2 ^ w - 2) r ∷ on (2 ^ w - 1) r' ∷ []) feeds (answered (plain 0) ∷ answered (plain 0) ∷ []) left) → h.width ≡ w
    → length (leaf_entries left.index) ≡ most_entries w 2
two_ons_reach {w} {r} {r'} {feeds} h e =
    let z = sizes_of h.given in
    let map : map_of h ≡ record { width = w; herd = largest_two w r r' } = rw e (largest_map z w r r' feeds (rw e at (every_history h).answers)) in
    let held : (map_of h).herd ≡ largest_two (map_of h).width r r' = rw map refl in
    largest_reach h held ∙ rw ((every_history h).tables.held, header_width h, map) refl
