-- What is claimed after every history (01, "After every history"). Assumes nothing.
use Rattle.std.specs.Prelude.{◌≡◌, cond, ◌⊎◌, ◌≢◌, List, [], ◌∷◌, map, ℕ, ◌≤◌, ◌<◌, eqb, length, get_or}
use Rattle.std.proofs.Math.Option.{Option, none, some}
use Rattle.leaf_list.specs.LeafList.{leaf_list}
use Rattle.leaf_list.specs.Bounds.{Bounded}
use Rattle.index_table.specs.Bytes.{AllZero}
use Rattle.index_table.specs.Layout.{Ref, layout_of, page_bytes, level_of, count_of, refs_of}
use Rattle.index_table.specs.Header.{width_of, entries_of, pages_of, root_of, held_of, spare_of}
use Rattle.index_table.specs.Soundness.{tree_of, leaf_entries}
use Rattle.table_find.specs.Answers.{plain}
use Rattle.tag_index.specs.declared.load.Movement.{Movement}
use Rattle.tag_index.specs.Tables.{Tables, SoundAt}
use Rattle.tag_index.specs.Histories.{Call, on, off, Reply, answered, OrderedMap, Sizes, Feed, nothing_fed, on_fed, key_with, map_replies, map_behind}

-- The bytes of a page, and its entries.
abbrev pub bytes_of_page : List ℕ → ℕ → List ℕ
bytes_of_page index q = page_bytes (layout_of (entries_of index)) index q

abbrev pub entries_of_page : List ℕ → ℕ → List Ref
entries_of_page index q = refs_of (layout_of (entries_of index)) (bytes_of_page index q)

-- An entry of the row points at page q.
abbrev pub PointsAt : ℕ → List Ref → Type 0
PointsAt q [] = ⊥
PointsAt q (x ∷ row) = (x.1 ≡ q) ⊎ PointsAt q row

-- "A page is reached if it is the root or if an entry of a reached page above level 0 points at it"
pub data Reached (index : List ℕ) : ℕ → Type 0 where
  root : Reached index (root_of index)
  child : {p : ℕ} (q : ℕ) → Reached index p → 1 ≤ level_of (bytes_of_page index p) → PointsAt q (entries_of_page index p) → Reached index q

-- "and in use if its count is not 0"
abbrev pub InUse : List ℕ → ℕ → Type 0
InUse index q = count_of (bytes_of_page index q) ≢ 0

-- "byte 1 and the key at each of these records, and byte 0 and key 0 elsewhere": of a record, by the held key that has it.
abbrev pub byte_and_key : Option ℕ → ℕ × ℕ
byte_and_key none = (0, 0)
byte_and_key (some key) = (1, key)

-- The tables after a history that leaves the map m.
pub record Agrees (m : OrderedMap) (t : Tables) : Type 0 where
  -- "The entries of level 0, read left to right from the root, are the leaf list of the held keys and their records."
  pub leaves : leaf_entries t.index ≡ leaf_list m.width m.herd
  -- "The register has byte 1 and the key at each of these records, and byte 0 and key 0 elsewhere" (past its end, 0 is read);
  pub register : (r : ℕ) → (get_or t.used r 0, get_or t.keys r 0) ≡ byte_and_key (key_with r m.herd)
  -- "the header's records held is the number of held keys."
  pub held : held_of t.index ≡ length m.herd
  -- "Every reached page is in use,
  pub reached : (q : ℕ) → Reached t.index q → InUse t.index q
  -- and every other is all zero."
  pub others : (q : ℕ) → q < pages_of t.index → (Reached t.index q → ⊥) → AllZero (bytes_of_page t.index q)

-- "All of this is a single claim about the whole history": calls that began on tables of the map m, with what the map was fed, the replies that they gave, and
-- the tables that they left.
pub record Follows (z : Sizes) (m : OrderedMap) (calls : List Call) (feeds : List Feed) (replies : List Reply) (left : Tables) : Type 0 where
  -- "each answer and each list slice is the map's", and so are the answers of each load
  pub answers : replies ≡ map_replies z m calls feeds
  pub tables : Agrees (map_behind z m calls feeds) left

-- ---- how long the list may get (02, xi)

-- "These hold after any history": of the entries of level 0, read left to right from the root, with W and the records held as the header has them.
abbrev pub ListBounded : Tables → Type 0
ListBounded t = Bounded (width_of t.index) (held_of t.index) (leaf_entries t.index)

-- ---- a load beside single calls (02, vii)

-- The single call of a movement.
abbrev pub call_of : Movement → Call
call_of x = cond (eqb x.on 0) (off x.key) (on x.key x.«record»)

-- The replies of single calls that answer these numbers.
abbrev pub singly : List ℕ → List Reply
singly ns = map (λ (n : ℕ). answered (plain n)) ns

-- What the map is fed of the single calls, each on the tables that its movement gets; between has the tables that each movement left.
abbrev pub fed_singly : Tables → List Movement → List Tables → List Feed
fed_singly t [] between = []
fed_singly t (x ∷ xs) [] = []
fed_singly t (x ∷ xs) (u ∷ between) = cond (eqb x.on 0) nothing_fed (on_fed t x.key x.«record») ∷ fed_singly u xs between

-- "answers and end state equal those of the single calls made one by one", where "what is read from the root down, page numbers aside, is the same either
-- way" (01): the register, the header but for the root's number, and the pages from the root down but for theirs.
pub record SameAside (t u : Tables) : Type 0 where
  pub keys : t.keys ≡ u.keys
  pub used : t.used ≡ u.used
  pub width : width_of t.index ≡ width_of u.index
  pub entries : entries_of t.index ≡ entries_of u.index
  pub pages : pages_of t.index ≡ pages_of u.index
  pub held : held_of t.index ≡ held_of u.index
  pub spare : spare_of t.index ≡ spare_of u.index
  pub tree : tree_of t.index ≡ tree_of u.index

-- The movements of a load answered these numbers and left the tables u; their single calls gave these replies and left v.
pub record AsCalls (numbers : List ℕ) (replies : List Reply) (u v : Tables) : Type 0 where
  pub answers : replies ≡ singly numbers
  pub left : SameAside u v
  -- (In sound tables unused entries, and pages that are not reached, are all zero.)
  pub sound : SoundAt u × SoundAt v
