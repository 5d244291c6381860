-- Merging on small rows: what no law of it tells, since merging less, or elsewhere, would be as sound. Assumes nothing.
use mathlib.Core.Path.{◌≡◌, refl}
use mathlib.Core.Option.{none, some}
use mathlib.Core.List.{[], ◌∷◌, ◌++◌}
use Prim.Native.Nat.{ℕ}
use Rattle.leaf_list.specs.Entries.{entry}
use Rattle.page_tree.specs.Tree.{Node}
use Rattle.page_tree.specs.Merging.{merge_page}
use Rattle.page_tree.specs.OffPages.{off_tree}

-- Pages of level 0 with one entry, by its depth.
abbrev page : ℕ → Node 1
page d = entry d none ∷ []

-- One with two entries, that ends at depth 1.
abbrev two : Node 1
two = entry 3 none ∷ entry 1 none ∷ []

-- Two of eight entries are a quarter, and not fewer.
pub quarter_stays : merge_page 8 1 (2 ∷ []) (two ∷ page 0 ∷ []) ≡ two ∷ page 0 ∷ []
quarter_stays = refl

-- Two of nine are fewer.
pub fewer_joined : merge_page 9 1 (2 ∷ []) (two ∷ page 0 ∷ []) ≡ (two ++ page 0) ∷ []
fewer_joined = refl

-- Where both neighbours could be joined, the left one is.
pub left_first : merge_page 5 1 (2 ∷ []) (page 2 ∷ page 1 ∷ page 0 ∷ []) ≡ (page 2 ++ page 1) ∷ page 0 ∷ []
left_first = refl

-- It is one join a level: what a join on the left leaves is not joined again, though it is still sparse;
pub left_once : merge_page 9 1 (2 ∷ []) (page 2 ∷ page 1 ∷ page 0 ∷ []) ≡ (page 2 ++ page 1) ∷ page 0 ∷ []
left_once = refl

-- nor what one on the right leaves.
pub right_once : merge_page 9 1 (3 ∷ []) (page 2 ∷ page 1 ∷ page 0 ∷ []) ≡ (page 2 ++ page 1) ∷ page 0 ∷ []
right_once = refl

-- A left neighbour that is shallower is not.
pub left_shallower : merge_page 5 1 (1 ∷ []) (page 1 ∷ page 2 ∷ page 0 ∷ []) ≡ page 1 ∷ (page 2 ++ page 0) ∷ []
left_shallower = refl

-- One entry and five are not five.
pub too_many_stay : merge_page 5 1 (2 ∷ []) (page 1 ∷ (page 5 ++ page 4 ++ page 3 ++ page 2 ++ page 0) ∷ []) ≡ page 1 ∷ (page 5 ++ page 4 ++ page 3 ++ page 2 ++ page 0) ∷ []
too_many_stay = refl

-- An only child has no neighbour, nor one under another parent; its parent has.
pub level_by_level : merge_page 5 2 (2 ∷ []) ((page 1 ∷ []) ∷ (page 0 ∷ []) ∷ []) ≡ (page 1 ∷ page 0 ∷ []) ∷ []
level_by_level = refl

-- So it goes on up to the pages below the root.
pub level_after_level : merge_page 5 3 (2 ∷ []) (((page 1 ∷ []) ∷ []) ∷ ((page 0 ∷ []) ∷ []) ∷ []) ≡ ((page 1 ∷ []) ∷ (page 0 ∷ []) ∷ []) ∷ []
level_after_level = refl

-- The position list goes on in a child: figure 6 finds the page with depth 2 there, whose right neighbour is deeper, and not the last page, which could be
-- joined.
pub positions_go_on :
    merge_page 5 2 (1 ∷ 9 ∷ []) ((page 1 ∷ []) ∷ (page 2 ∷ page 3 ∷ page 0 ∷ []) ∷ []) ≡ (page 1 ∷ []) ∷ (page 2 ∷ page 3 ∷ page 0 ∷ []) ∷ []
positions_go_on = refl

-- Where figure 11 only makes a dummy, pages are merged too.
pub after_a_dummy :
    off_tree 8 5 128 (1, (entry 1 (some 1) ∷ []) ∷ (entry 2 (some 2) ∷ []) ∷ (entry 3 (some 3) ∷ entry 0 (some 4) ∷ []) ∷ [])
    ≡ (1, (entry 1 (some 1) ∷ []) ∷ (entry 2 none ∷ entry 3 (some 3) ∷ entry 0 (some 4) ∷ []) ∷ [])
after_a_dummy = refl

-- The page that covers the key now need not be the one that held it.
pub covers_now :
    off_tree 8 5 2 (
      1,
      (entry 7 (some 1) ∷ [])
          ∷ (entry 6 (some 2) ∷ entry 5 (some 3) ∷ entry 4 (some 4) ∷ entry 3 (some 5) ∷ entry 2 (some 6) ∷ [])
          ∷ (entry 1 (some 7) ∷ entry 0 (some 8) ∷ [])
          ∷ [],
    )
    ≡ (1, (entry 6 (some 1) ∷ entry 5 (some 3) ∷ entry 4 (some 4) ∷ entry 3 (some 5) ∷ entry 2 (some 6) ∷ []) ∷ (entry 1 (some 7) ∷ entry 0 (some 8) ∷ []) ∷ [])
covers_now = refl

-- Where the last two pages below the root are joined, the root rule makes one of them the root.
pub root_rule_last : off_tree 8 5 64 (1, (entry 2 (some 3) ∷ entry 1 (some 4) ∷ []) ∷ (entry 3 none ∷ entry 0 (some 2) ∷ []) ∷ []) ≡ (0, entry 1 (some 3) ∷ entry 3 none ∷ entry 0 (some 2) ∷ [])
root_rule_last = refl
