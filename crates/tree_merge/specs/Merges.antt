-- Pages joined below an entry, along the way of a key (02, request (i)). Assumes nothing.
use Rattle.std.specs.Prelude.{◌≡◌, Bool, true, false, cond, ◌&&◌, List, [], ◌∷◌, ◌++◌, ℕ, zero, suc, ◌+◌, ◌≤◌, ◌<◌, ltb, length, get_or, take, drop}
use Rattle.page_tree.specs.Walk.{walk}
use Rattle.page_tree.specs.Merging.{sparse, joinable}
use Rattle.page_tree.specs.Numbered.{Numbered, numbered_depth, join_numbered, merge_numbered}
use Rattle.page_tree.proofs.MergingPlaces.{placed}
use Rattle.index_table.specs.Layout.{layout_of, Ref, Within}
use Rattle.index_table.specs.Pages.{Pages, pages_at, numbered_at, met}
use Rattle.table_search.specs.Places.{sparse_at, left_from}
use Rattle.tree_delete.specs.Keeping.{numbers_at, Kept}
use Rattle.tree_delete.specs.Rows.{settled}
use Rattle.tree_delete.specs.Unwinding.{BackPre}
use Rattle.tree_delete.specs.Removing.{RemovePre}

-- Whether the pages of neighbours x and y in a row above level 0 may be one.
abbrev pub joinable_at : ℕ → Pages → Ref → Ref → Bool
joinable_at e pages x y = joinable e (λ (z : Ref). z.0) (λ (z : Ref). length (pages z.1)) x y

-- An entry of the page that p is.
abbrev pub entry_at : Pages → ℕ → ℕ → Ref
entry_at pages p j = get_or (pages p) j (0, 0)

-- Two pages that fit into one; the left one has entries.
pub record GatherPre (e : ℕ) (b : List ℕ) (left right : ℕ) : Type 0 where
  pub within_left : Within (layout_of e) b left
  pub within_right : Within (layout_of e) b right
  pub fit : length (pages_at (layout_of e) b left) + length (pages_at (layout_of e) b right) ≤ e
  pub some : 1 ≤ length (pages_at (layout_of e) b left)

-- The table with the entries of both in the left one, and the right one free.
abbrev pub gathered : ℕ → ℕ → List ℕ → ℕ → ℕ → List ℕ
gathered e level b left right = settled e level (settled e level b left (pages_at (layout_of e) b left ++ pages_at (layout_of e) b right)) right []

-- Entries j and j + 1 of the page of level n + 1 that x points at; the pages below may be changed.
pub record PairPre (e P n : ℕ) (b : List ℕ) (x : Ref) (j : ℕ) : Type 0 where
  pub back : BackPre e P (suc (suc n)) b x
  pub inside : suc j < length (pages_at (layout_of e) b x.1)

-- They fit into one page.
pub record JoinPre (e P n : ℕ) (b : List ℕ) (x : Ref) (j : ℕ) : Type 0 where
  pub pair : PairPre e P n b x j
  pub fit : length (pages_at (layout_of e) b (entry_at (pages_at (layout_of e) b) x.1 j).1) + length (pages_at (layout_of e) b (entry_at (pages_at (layout_of e) b) x.1 (suc j)).1) ≤ e

-- The entry x stays, and its page's row has one page in the place of the two.
pub record JoinPost (e P n : ℕ) (b : List ℕ) (x : Ref) (j : ℕ) (b' : List ℕ) : Type 0 where
  pub kept : Kept (layout_of e) P (suc (suc n)) b (met (suc (suc n)) (pages_at (layout_of e) b) x) b' (x ∷ [])
  pub number :
      numbered_at 65535 (suc (suc n)) (pages_at (layout_of e) b') x
      ≡ (
        x.1,
        numbers_at (suc n) (pages_at (layout_of e) b) (take j (pages_at (layout_of e) b x.1))
            ++ join_numbered n (numbered_at 65535 (suc n) (pages_at (layout_of e) b) (entry_at (pages_at (layout_of e) b) x.1 j)) (numbered_at 65535 (suc n) (pages_at (layout_of e) b) (entry_at (pages_at (layout_of e) b) x.1 (suc j)))
            ∷ numbers_at (suc n) (pages_at (layout_of e) b) (drop (suc (suc j)) (pages_at (layout_of e) b x.1)),
      )

-- Entry i of the page of level n + 1 that x points at; the pages below may be changed.
pub record PlacePre (e P n : ℕ) (b : List ℕ) (x : Ref) (i : ℕ) : Type 0 where
  pub back : BackPre e P (suc (suc n)) b x
  pub inside : i < length (pages_at (layout_of e) b x.1)

-- What a row of entries of rank n + 1 stands for, where entry i is joined with a neighbour by the rule.
abbrev pub beside_at : ℕ → (n : ℕ) → Pages → List Ref → ℕ → List (Numbered (suc n))
beside_at e n pages row i =
    placed e (numbered_depth (suc n)) (λ (y : Numbered (suc n)). length y.1) (join_numbered n) (numbers_at (suc n) pages (take i row))
    (numbered_at 65535 (suc n) pages (get_or row i (0, 0)))
    (numbers_at (suc n) pages (drop (suc i) row))

-- The entry x stays, and its page's row is so.
pub record BesidePost (e P n : ℕ) (b : List ℕ) (x : Ref) (i : ℕ) (b' : List ℕ) : Type 0 where
  pub kept : Kept (layout_of e) P (suc (suc n)) b (met (suc (suc n)) (pages_at (layout_of e) b) x) b' (x ∷ [])
  pub number : numbered_at 65535 (suc (suc n)) (pages_at (layout_of e) b') x ≡ (x.1, beside_at e n (pages_at (layout_of e) b) (pages_at (layout_of e) b x.1) i)

-- The page of entry i is sparse.
pub record SparsePre (e P n : ℕ) (b : List ℕ) (x : Ref) (i : ℕ) : Type 0 where
  pub place : PlacePre e P n b x i
  pub few : sparse_at e (pages_at (layout_of e) b) (entry_at (pages_at (layout_of e) b) x.1 i).1 ≡ true

-- Its left neighbour is none, or cannot be joined with it.
abbrev pub LeftShut : ℕ → Pages → ℕ → ℕ → Type 0
LeftShut e pages p zero = Unit {0}
LeftShut e pages p (suc i) = joinable_at e pages (entry_at pages p i) (entry_at pages p (suc i)) ≡ false

-- The left neighbour was joined, or no byte was changed since it cannot be.
pub record LeftPost (e P n : ℕ) (b : List ℕ) (x : Ref) (i : ℕ) (b' : List ℕ) (r : Bool) : Type 0 where
  pub done : r ≡ true → BesidePost e P n b x i b'
  pub none : r ≡ false → (b' ≡ b) × LeftShut e (pages_at (layout_of e) b) x.1 i

-- So the right one is tried.
pub record RightPre (e P n : ℕ) (b : List ℕ) (x : Ref) (i : ℕ) : Type 0 where
  pub sparse : SparsePre e P n b x i
  pub shut : LeftShut e (pages_at (layout_of e) b) x.1 i

-- Whether a page of level n is sparse and stands below a page of a level under `lowest`.
abbrev pub missed : ℕ → ℕ → (n : ℕ) → Numbered (suc n) → Bool
missed e lowest n page = ltb (suc n) lowest && sparse e (length page.1)

-- Whether no page below a page of level n, on the way of the key, is so: then nothing is to be joined below pages of a level under `lowest`.
abbrev pub none_missed : ℕ → ℕ → (n : ℕ) → List ℕ → Numbered (suc n) → Bool
none_missed e lowest zero bs page = true
none_missed e lowest (suc n) bs page =
    walk (numbered_depth (suc n)) (λ bs τ x xs. cond (missed e lowest n x) false (none_missed e lowest n bs x)) (λ x r. r) true bs 0 page.1

-- Merging may begin with the pages of the level `lowest`.
pub record Covered (e n : ℕ) (b : List ℕ) (x : Ref) (bs : List ℕ) (lowest : ℕ) : Type 0 where
  pub some : 1 ≤ lowest
  pub none : none_missed e lowest n bs (numbered_at 65535 (suc n) (pages_at (layout_of e) b) x) ≡ true

-- A page of level n from which pages may be merged.
pub record MergePre (e P n : ℕ) (b : List ℕ) (x : Ref) (w key position lowest : ℕ) : Type 0 where
  pub remove : RemovePre e P (suc n) b x w key position
  pub covered : Covered e n b x (left_from w key position) lowest

-- The entry x stays, and reads as merging leaves it.
pub record Merged (e P n : ℕ) (b : List ℕ) (x : Ref) (bs : List ℕ) (b' : List ℕ) : Type 0 where
  pub kept : Kept (layout_of e) P (suc n) b (met (suc n) (pages_at (layout_of e) b) x) b' (x ∷ [])
  pub number : numbered_at 65535 (suc n) (pages_at (layout_of e) b') x ≡ merge_numbered e n bs (numbered_at 65535 (suc n) (pages_at (layout_of e) b) x)
