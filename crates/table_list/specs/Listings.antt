-- A list under way: what is done at each entry on level 0, and which entries are walked. Assumes nothing.
use Rattle.std.specs.Prelude.{◌≡◌, ◌≢◌, Bool, true, false, cond, ℕ, zero, suc, ◌≤◌, ◌<◌, ltb, length, set, drop}
use Rattle.std.proofs.Math.Option.{Option, none, some}
use mathlib.Core.List.{List, [], ◌∷◌, ◌++◌, map, foldl}
use Rattle.leaf_list.specs.Entries.{Entry, pointer_of}
use Rattle.leaf_list.specs.Herd.{Herd}
use Rattle.leaf_list.specs.Register.{key_at}
use Rattle.page_tree.specs.Rows.{All, flats}
use Rattle.page_tree.specs.Tree.{Node, depth, leaves}
use Rattle.page_tree.specs.Walk.{walk}
use Rattle.index_table.specs.Layout.{layout_of, page_start}
use Rattle.index_table.specs.Pages.{pages_at, node_at}
use Rattle.index_table.specs.Soundness.{SoundBelow}
use Rattle.table_search.specs.Places.{left_from, DescendPre}
use Rattle.table_find.specs.declared.answer.Answer.{Answer}
use Rattle.std.specs.declared.ops.ControlFlow.{ControlFlow}
use Rattle.std.specs.declared.ops.ControlFlow.TheVariants.{Continue, Break}
use Rattle.table_find.specs.declared.answer.Counted.{Counted}
use Rattle.table_list.specs.Ranges.{records_between, listed, list_slice}

-- ---- one entry after the other

-- How far a list has come: how many records are written, where it goes on, or its end.
abbrev pub Listing : Type 0
Listing = ControlFlow Counted ℕ

-- The lent slice, and how far the list has come.
abbrev pub State : Type 0
State = List ℕ × Listing

-- n records are written, and the list goes on;
abbrev pub going : ℕ → Listing
going n = Continue n

-- it met a key above the upper end;
abbrev pub ended : ℕ → Listing
ended n = Break (record { count = n; more = false })

-- it met one record more, and the slice was full.
abbrev pub full : ℕ → Listing
full n = Break (record { count = n; more = true })

-- Nothing is written yet.
abbrev pub begun : Listing
begun = going 0

-- How many records are written, and whether one more was met.
abbrev pub count_in : Listing → ℕ
count_in (Continue n) = n
count_in (Break end) = end.count

abbrev pub more_in : Listing → Bool
more_in (Continue n) = false
more_in (Break end) = end.more

-- What f makes of the records written, or s where the list has ended.
abbrev pub while_going : Listing → State → (ℕ → State) → State
while_going (Continue n) s f = f n
while_going (Break end) s f = s

-- "as many as the lent slice holds": a record with a key from a to b is written where there is room.
abbrev pub written : List ℕ → ℕ → ℕ → State
written out n r = cond (ltb n (length out)) (set out n r, going (suc n)) (out, full n)

-- "for keys from a to b inclusive, in key order", a record that is met with its key once n are written: a key below a is passed, and one above b ends
-- the list.
abbrev pub met : ℕ → ℕ → ℕ → List ℕ → ℕ → ℕ → State
met a b key out r n = cond (ltb key a) (out, going n) (cond (ltb b key) (out, ended n) (written out n r))

-- An entry that points at a record or at none; nothing is done once the list is over.
unfoldable pub visited : List ℕ → ℕ → ℕ → State → Option ℕ → State
visited keys a b s none = s
visited keys a b s (some r) = while_going s.1 s (met a b (key_at keys r) s.0 r)

-- Entries from left to right.
abbrev pub visit_all : List ℕ → ℕ → ℕ → State → List Entry → State
visit_all keys a b s es = foldl (λ (z : State) e. visited keys a b z (pointer_of e)) s es

-- ---- the entries that are walked

-- The entries on level 0 from a search's place on, below an entry of a page.
abbrev pub leaves_from : (n : ℕ) → List ℕ → ℕ → Node n → List Entry
leaves_from zero bs τ e = e ∷ []
leaves_from (suc n) bs τ page = walk (depth n) (λ bs τ x xs. leaves_from n bs τ x ++ flats (leaves n) xs) (λ x r. r) [] bs τ page

-- The entries on level 0 below a page of level n, from one of its entries on.
abbrev pub leaves_right : List ℕ → ℕ → ℕ → ℕ → ℕ → List Entry
leaves_right index e n page from = flats (leaves n) (map (node_at 65535 n (pages_at (layout_of e) index)) (drop from (pages_at (layout_of e) index page)))

-- The entry's record, if any, is one of the register.
abbrev pub Inside : List ℕ → Option ℕ → Type 0
Inside keys none = Unit {0}
Inside keys (some r) = r < length keys

-- ---- contracts

-- A stored pointer that is not NIL is a record of the register.
pub record VisitPre (keys : List ℕ) (stored : ℕ) : Type 0 where
  pub inside : stored ≢ 65535 → stored < length keys

-- A sound page of level n, whose live entries on level 0 are records of the register.
pub record RowPre (index keys : List ℕ) (e n page : ℕ) : Type 0 where
  pub P : ℕ
  pub closing : ℕ
  pub sound : SoundBelow (layout_of e) P (suc n) index (closing, page)
  pub table : page_start (layout_of e) P ≤ length index
  pub inside : All (λ x. Inside keys (pointer_of x)) (leaves (suc n) (node_at 65535 (suc n) (pages_at (layout_of e) index) (closing, page)))

-- What is below the entries of a page from one of them on was visited.
pub record RowListed (index keys : List ℕ) (e n page from a b : ℕ) (s r : State) : Type 0 where
  pub walked : r ≡ visit_all keys a b s (leaves_right index e n page from)

-- A sound page that covers the place of the lower end.
pub record FromPre (index keys : List ℕ) (e n page w a position : ℕ) : Type 0 where
  pub P : ℕ
  pub place : DescendPre index e P n page w a position
  pub inside : All (λ x. Inside keys (pointer_of x)) (leaves (suc n) (node_at 65535 (suc n) (pages_at (layout_of e) index) (0, page)))

-- What is below a page from the place of the lower end on was visited.
pub record FromListed (index keys : List ℕ) (e n page w a b position trail : ℕ) (out : List ℕ) (r : State) : Type 0 where
  pub walked : r ≡ visit_all keys a b (out, begun) (leaves_from (suc n) (left_from w a position) trail (node_at 65535 (suc n) (pages_at (layout_of e) index) (0, page)))

-- The answer and the lent slice of a list.
pub record Listed (a b : ℕ) (herd : Herd) (before : List ℕ) (answer : Answer) (after : List ℕ) : Type 0 where
  pub answered : answer ≡ listed (records_between a b herd) (length before)
  pub slice : after ≡ list_slice (records_between a b herd) before
