-- P1 to P10 (01, "Small herds, W 8"), both sides of rows 7 and 8, and small histories, of the definitions. Assumes nothing.
use mathlib.Core.Path.{◌≡◌, refl}
use mathlib.Core.Option.{none, some}
use mathlib.Core.List.{List, [], ◌∷◌, map, foldl}
use Prim.Native.Nat.{ℕ}
use lib.ListN.{get_or}
use Rattle.leaf_list.specs.Entries.{entry}
use Rattle.leaf_list.specs.Herd.{add}
use Rattle.leaf_list.specs.LeafList.{leaf_list}
use Rattle.small_herds.proofs.SmallHerds.{SmallHerds, small_herds, herd4}
use Rattle.page_tree.specs.Tree.{depth, Tree, leaves_of, pages_of}
use Rattle.page_tree.specs.Cutting.{split, cut}
use Rattle.page_tree.specs.OnPages.{on_tree}
use Rattle.page_tree.specs.OffPages.{off_tree}

-- A record's key comes in, or goes.
pub data Change : Type 0 where
  on off : ℕ → Change

-- One change, in pages of E entries of keys of w bits; keys has the key of each record.
abbrev pub change : ℕ → ℕ → List ℕ → Tree → Change → Tree
change w E keys t (on r) = on_tree w E (λ x. get_or keys x 0) (get_or keys r 0) r t
change w E keys t (off r) = off_tree w E (get_or keys r 0) t

-- All changes, from the empty herd.
abbrev pub changes : ℕ → ℕ → List ℕ → List Change → Tree
changes w E keys cs = foldl (change w E keys) (0, entry 0 none ∷ []) cs

-- The depths of the root's entries.
abbrev pub root_depths : Tree → List ℕ
root_depths t = map (depth t.0) t.1

-- The keys of P10; there is no record 0.
abbrev pub keys10 : List ℕ
keys10 = 0 ∷ 0b10101010 ∷ 0b10101100 ∷ 0b00000000 ∷ 0b01000000 ∷ []

-- The tree of P10.
abbrev pub tree10 : Tree
tree10 = changes 8 5 keys10 (on 1 ∷ on 2 ∷ on 3 ∷ on 4 ∷ [])

-- The two largest keys of w bits, in pages of two entries.
abbrev pub largest_two : ℕ → ℕ → ℕ → Tree
largest_two w a b = changes w 2 (a ∷ b ∷ []) (on 0 ∷ on 1 ∷ [])

pub record SmallPages : Type 0 where
  pub p1_to_p9 : SmallHerds
  -- "P10 E 5, P4 with 01000000→4: pages (2,3)(1,4) and (3,-)(5,-)(6,1)(0,2), root depths 1, 0."
  pub p10 : tree10 ≡ (1, (entry 2 (some 3) ∷ entry 1 (some 4) ∷ []) ∷ (entry 3 none ∷ entry 5 none ∷ entry 6 (some 1) ∷ entry 0 (some 2) ∷ []) ∷ [])
  pub p10_root : root_depths tree10 ≡ 1 ∷ 0 ∷ []
  pub p10_level0 : leaves_of tree10 ≡ leaf_list 8 (add 0b01000000 4 herd4)
  -- P5 and P6 in pages: P4 less a key.
  pub p5_pages : changes 8 5 keys10 (on 1 ∷ on 2 ∷ on 3 ∷ off 2 ∷ []) ≡ (0, entry 1 (some 3) ∷ entry 0 (some 1) ∷ [])
  pub p6_pages : changes 8 5 keys10 (on 1 ∷ on 2 ∷ on 3 ∷ off 3 ∷ []) ≡ changes 8 5 keys10 (on 1 ∷ on 2 ∷ [])
  -- Row 7: "E 2, W 16, P 136 accepts both keys, root level 15", and 135 pages are too few.
  pub row7_pages : pages_of (largest_two 16 65534 65535) ≡ 136
  pub row7_level : (largest_two 16 65534 65535).0 ≡ 15
  -- Row 8: "E 2, W 17, the two largest keys".
  pub row8_level : (largest_two 17 131070 131071).0 ≡ 16
  -- Histories, with what another implementation gives.
  pub history1 :
      changes 8 2 (96 ∷ 105 ∷ 160 ∷ 0 ∷ []) (on 0 ∷ off 0 ∷ on 1 ∷ on 2 ∷ on 3 ∷ off 1 ∷ [])
      ≡ (1, (entry 1 (some 3) ∷ []) ∷ (entry 0 (some 2) ∷ []) ∷ [])
  pub history2 :
      changes 8 3 (90 ∷ 93 ∷ 189 ∷ 64 ∷ 27 ∷ 1 ∷ []) (on 0 ∷ off 0 ∷ on 1 ∷ off 1 ∷ on 2 ∷ on 3 ∷ on 4 ∷ on 5 ∷ off 5 ∷ [])
      ≡ (1, (entry 2 (some 4) ∷ entry 1 (some 3) ∷ []) ∷ (entry 0 (some 2) ∷ []) ∷ [])
  pub history3 :
      changes 8 2 (52 ∷ 2 ∷ 11 ∷ 46 ∷ 187 ∷ 114 ∷ 0 ∷ 99 ∷ 127 ∷ [])
      (on 0 ∷ on 1 ∷ on 2 ∷ off 2 ∷ off 0 ∷ on 3 ∷ on 4 ∷ on 5 ∷ on 6 ∷ on 7 ∷ on 8 ∷ off 5 ∷ [])
      ≡ (
        4,
        ((((entry 7 (some 6) ∷ entry 3 (some 1) ∷ []) ∷ (entry 2 (some 3) ∷ []) ∷ []) ∷ [])
            ∷ (((entry 3 none ∷ []) ∷ []) ∷ ((entry 4 (some 7) ∷ []) ∷ (entry 1 (some 8) ∷ []) ∷ []) ∷ [])
            ∷ [])
            ∷ ((((entry 0 (some 4) ∷ []) ∷ []) ∷ []) ∷ [])
            ∷ [],
      )
  -- Request (i). P10 less 01000000: its page has one entry left, the page on the right is shallower, and five entries fit; then the root rule: P4 in one page.
  pub merged_right :
      changes 8 5 keys10 (on 1 ∷ on 2 ∷ on 3 ∷ on 4 ∷ off 4 ∷ [])
      ≡ (0, entry 1 (some 3) ∷ entry 3 none ∷ entry 5 none ∷ entry 6 (some 1) ∷ entry 0 (some 2) ∷ [])
  -- With the left neighbour.
  pub merged_left :
      changes 8 5 (234 ∷ 103 ∷ 141 ∷ 115 ∷ []) (on 0 ∷ on 1 ∷ on 2 ∷ on 3 ∷ off 2 ∷ [])
      ≡ (0, entry 2 none ∷ entry 3 none ∷ entry 4 (some 1) ∷ entry 1 (some 3) ∷ entry 0 (some 0) ∷ [])
  -- The left neighbour is shallower, so with the right one.
  pub left_shallower :
      changes 8 5 (191 ∷ 40 ∷ 210 ∷ 189 ∷ []) (on 0 ∷ on 1 ∷ on 2 ∷ on 3 ∷ off 0 ∷ [])
      ≡ (1, (entry 1 (some 1) ∷ []) ∷ (entry 2 (some 3) ∷ entry 0 (some 2) ∷ []) ∷ [])
  -- The left neighbour is full, so with the right one.
  pub left_full :
      changes 8 5 (56 ∷ 97 ∷ 127 ∷ 184 ∷ 60 ∷ []) (on 0 ∷ on 1 ∷ on 2 ∷ on 3 ∷ on 4 ∷ off 2 ∷ [])
      ≡ (
        1,
        (entry 3 none ∷ entry 4 none ∷ entry 5 none ∷ entry 6 (some 0) ∷ entry 2 (some 4) ∷ [])
            ∷ (entry 1 (some 1) ∷ entry 0 (some 3) ∷ [])
            ∷ [],
      )
  -- Between a shallower and a full page it stays alone.
  pub not_merged :
      changes 8 5 (188 ∷ 237 ∷ 82 ∷ 238 ∷ []) (on 0 ∷ on 1 ∷ on 2 ∷ on 3 ∷ off 0 ∷ [])
      ≡ (
        1,
        (entry 1 (some 2) ∷ [])
            ∷ (entry 2 none ∷ [])
            ∷ (entry 3 none ∷ entry 5 none ∷ entry 6 none ∷ entry 7 (some 1) ∷ entry 0 (some 3) ∷ [])
            ∷ [],
      )
  -- A first page stays whose right neighbour is deeper.
  pub right_deeper :
      changes 8 5 (207 ∷ 103 ∷ 15 ∷ 206 ∷ []) (on 0 ∷ on 1 ∷ on 2 ∷ on 3 ∷ off 1 ∷ [])
      ≡ (
        1,
        (entry 1 (some 2) ∷ [])
            ∷ (entry 2 none ∷ [])
            ∷ (entry 5 none ∷ entry 6 none ∷ entry 7 none ∷ entry 8 (some 3) ∷ entry 0 (some 0) ∷ [])
            ∷ [],
      )
  -- Two of eight entries are a quarter, and not fewer.
  pub a_quarter :
      changes 8 8 (152 ∷ 149 ∷ 60 ∷ 173 ∷ 59 ∷ []) (on 0 ∷ on 1 ∷ on 2 ∷ on 3 ∷ on 4 ∷ off 0 ∷ [])
      ≡ (
        1,
        (entry 3 none ∷ entry 4 none ∷ entry 5 none ∷ entry 6 (some 4) ∷ entry 1 (some 2) ∷ []) ∷ (entry 3 (some 1) ∷ entry 0 (some 3) ∷ []) ∷ [],
      )
  -- On two levels, and the root rule last.
  pub merged_twice :
      changes 8 5 (208 ∷ 78 ∷ 58 ∷ 59 ∷ 162 ∷ 163 ∷ 190 ∷ 178 ∷ []) (on 0 ∷ on 1 ∷ on 2 ∷ on 3 ∷ on 4 ∷ on 5 ∷ on 6 ∷ on 7 ∷ off 3 ∷ [])
      ≡ (
        1,
        (entry 2 (some 2) ∷ entry 1 (some 1) ∷ [])
            ∷ (entry 3 none ∷ [])
            ∷ (entry 7 none ∷ entry 8 (some 4) ∷ entry 4 (some 5) ∷ entry 5 (some 7) ∷ entry 2 (some 6) ∷ [])
            ∷ (entry 0 (some 0) ∷ [])
            ∷ [],
      )
  -- An only child has no neighbour; its parent has.
  pub merged_above :
      changes 8 5 (255 ∷ 124 ∷ 28 ∷ 23 ∷ 35 ∷ 254 ∷ 109 ∷ []) (on 0 ∷ on 1 ∷ on 2 ∷ on 3 ∷ on 4 ∷ on 5 ∷ on 6 ∷ off 3 ∷ off 5 ∷ [])
      ≡ (
        1,
        (entry 3 (some 2) ∷ entry 2 (some 4) ∷ [])
            ∷ (entry 3 none ∷ entry 4 (some 6) ∷ entry 1 (some 1) ∷ [])
            ∷ (entry 0 (some 0) ∷ [])
            ∷ [],
      )

pub small_pages : SmallPages
unfolding cut split leaf_list
small_pages =
    record {
      p1_to_p9 = small_herds;
      p10 = refl;
      p10_root = refl;
      p10_level0 = refl;
      p5_pages = refl;
      p6_pages = refl;
      row7_pages = refl;
      row7_level = refl;
      row8_level = refl;
      history1 = refl;
      history2 = refl;
      history3 = refl;
      merged_right = refl;
      merged_left = refl;
      left_shallower = refl;
      left_full = refl;
      not_merged = refl;
      right_deeper = refl;
      a_quarter = refl;
      merged_twice = refl;
      merged_above = refl;
    }
