-- What follows of every history: histories alike answer alike, an empty herd uses one page, 1 is never answered, a held tag is found and no other. Assumes nothing.
use mathlib.Core.Path.{◌≡◌, refl, ap, sym, subst, ◌∙◌}
use mathlib.Core.Logic.{◌⊎◌, inl, inr, ◌≢◌}
use mathlib.Core.Bool.{Bool, true, false, cond, ◌||◌}
use mathlib.Core.Option.{Option, none, some}
use mathlib.Core.List.{List, [], ◌∷◌}
use Prim.Native.Nat.{ℕ, zero, suc, ◌^◌, ◌<◌}
use native.Mathlib.Omega.{arith}
use lib.Dec.{leb, ltb, eqb}
use lib.ListN.{length, take}
use borrow.Author.Tests.{eqb-true, eqb-false, eq-eqb, ne_eqb, lt-leb}
use Rattle.leaf_list.specs.Entries.{Entry, entry}
use Rattle.leaf_list.specs.Herd.{Herd, Narrow, Above, Sorted, lookup}
use Rattle.leaf_list.specs.LeafList.{leaf_list}
use Rattle.leaf_list.proofs.HerdLaws.{above_absent, absent_lookup}
use Rattle.leaf_list.proofs.RegisterHerd.{Holds as HoldsKey, lookup_holds}
use Rattle.page_tree.specs.Rows.{All}
use Rattle.page_tree.specs.Tree.{Node, page_count, Tree, leaves_of, SoundTree, RootRule, pages_of as tree_pages}
use Rattle.page_tree.proofs.TreeLaws.{entries_pages}
use Rattle.page_tree.proofs.LastAlone.{Alone, leaves_alone}
use Rattle.page_tree.proofs.HerdPages.{empty_pages}
use Rattle.index_table.specs.Header.{entries_of, pages_of}
use Rattle.index_table.specs.Pages.{used_pages}
use Rattle.index_table.specs.Soundness.{tree_of, leaf_entries}
use Rattle.index_table.proofs.SoundTables.{herd_narrow, herd_sorted, tree_sound, root_rule, pages_used}
use Rattle.table_find.specs.declared.answer.Answer.{Answer}
use Rattle.table_find.specs.Answers.{plain, with_record, found}
use Rattle.table_list.specs.Ranges.{records_between, listed}
use Rattle.table_change.specs.Changes.{too_wide, is_some, is_held, on_row, off_row}
use Rattle.tag_index.specs.Reading.{first_row, behind}
use Rattle.tag_index.specs.declared.load.Movement.{Movement}
use Rattle.tag_index.specs.Tables.{Tables}
use Rattle.tag_index.specs.Histories.{Call, format, on, off, find, list, check, load, Reply, answered, sliced, said, OrderedMap, Sizes, sizes_of, Late, lates_of, Feed, formats, key_with, map_on_row, map_off_row, map_move, move_rows, map_reply, map_after, map_replies, nothing_fed}
use Rattle.tag_index.specs.Claims.{entries_of_page}
use Rattle.tag_index.proofs.MapSteps.{Holds, finds_step, lists_step}
use Rattle.tag_index.proofs.LoadSteps.{moves_step}
use Rattle.tag_index.proofs.Runs.{Finds, Lists, Loads, loads_does, History, map_of}
use Rattle.tag_index.proofs.Histories.{history_runs, every_history}

-- ---- the herd of the map

-- Herds that hold the same keys with the same records are one.
pub herds_same : (s s' : Herd) → Sorted s → Sorted s' → ((key : ℕ) → lookup key s ≡ lookup key s') → s ≡ s'
herds_same [] [] o o' e = refl
herds_same [] (y ∷ s') o o' e =
    let h : none ≡ some y.1 = e y.0 ∙ rw (eq-eqb y.0 y.0 refl) refl in
    absurd (let z : ◌≡◌ {A = ℕ} 0 1 = cc in omega arith)
herds_same (x ∷ s) [] o o' e =
    let h : some x.1 ≡ none = sym (rw (eq-eqb x.0 x.0 refl) refl) ∙ e x.0 in
    absurd (let z : ◌≡◌ {A = ℕ} 0 1 = cc in omega arith)
herds_same (x ∷ s) (y ∷ s') o o' e = go first (herds_same s s' o.1 o'.1)
  where
    -- A key of the rest is above the first.
    later : (k r c : ℕ) (l : Herd) → Above c l → HoldsKey k r l → c < k
    later k r c [] a i = absurd i
    later k r c (z ∷ l) a (inl i) = omega (arith, a.0, i.0)
    later k r c (z ∷ l) a (inr i) = later k r c l a.1 i

    found_first : (z : ℕ × ℕ) (l : Herd) → lookup z.0 (z ∷ l) ≡ some z.1
    found_first z l = rw (eq-eqb z.0 z.0 refl)

    in_other : HoldsKey x.0 x.1 (y ∷ s')
    in_other = lookup_holds x.0 x.1 (y ∷ s') (sym (e x.0) ∙ found_first x s)

    in_this : HoldsKey y.0 y.1 (x ∷ s)
    in_this = lookup_holds y.0 y.1 (x ∷ s) (e y.0 ∙ found_first y s')

    meet : HoldsKey x.0 x.1 (y ∷ s') → HoldsKey y.0 y.1 (x ∷ s) → x ≡ y
    meet (inl p) q = λ i. (p.0 i, p.1 i)
    meet (inr p) (inl q) = λ i. (sym q.0 i, sym q.1 i)
    meet (inr p) (inr q) = absurd (omega (arith, later x.0 x.1 y.0 s' o'.0 p, later y.0 y.1 x.0 s o.0 q))

    first : x ≡ y
    first = meet in_other in_this

    none_later : (k c : ℕ) (l : Herd) → k ≡ c → Above c l → lookup k l ≡ none
    none_later k c l p a = absent_lookup k l (above_absent k c l (omega (arith, p)) a)

    rest : (key : ℕ) (t : Bool) → eqb key x.0 ≡ t → lookup key s ≡ lookup key s'
    rest key true p =
        let k : key ≡ x.0 = eqb-true key x.0 p in
        none_later key x.0 s k o.0 ∙ sym (none_later key y.0 s' (k ∙ ap (λ (z : ℕ × ℕ). z.0) first) o'.0)
    rest key false p =
        let n : key ≢ x.0 = eqb-false key x.0 p in
        sym (rw (ne_eqb key x.0 n) refl) ∙ e key ∙ rw (ne_eqb key y.0 (λ q. n (q ∙ sym (ap (λ (z : ℕ × ℕ). z.0) first)))) refl

    go : x ≡ y → (((key : ℕ) → lookup key s ≡ lookup key s') → s ≡ s') → x ∷ s ≡ y ∷ s'
    go p ih = λ i. p i ∷ ih (λ key. rest key (eqb key x.0) refl) i

-- A held key has at most w bits.
lookup_narrow : (w key r : ℕ) (s : Herd) → Narrow w s → HoldsKey key r s → key < 2 ^ w
lookup_narrow w key r [] n h = absurd h
lookup_narrow w key r (x ∷ s) n (inl h) = rw h.0 n.0
lookup_narrow w key r (x ∷ s) n (inr h) = lookup_narrow w key r s n.1 h

module _ {calls : List Call} {feeds : List Feed} {replies : List Reply} {left : Tables} (h : History calls feeds replies left) where
  -- The tables hold the map.
  holding : Holds (sizes_of h.given) (map_of h) left
  holding = (history_runs h).holds

  pub map_sorted : Sorted (map_of h).herd
  map_sorted = subst Sorted holding.herd (herd_sorted holding.sound)

  pub map_narrow : Narrow (map_of h).width (map_of h).herd
  map_narrow = rw (← holding.width, ← holding.herd) (herd_narrow holding.sound)

-- ---- histories alike

-- "alike in width, held tags and records"
pub record Alike (m m' : OrderedMap) : Type 0 where
  pub width : m.width ≡ m'.width
  pub herd : (key : ℕ) → lookup key m.herd ≡ lookup key m'.herd

module _ {calls calls' : List Call} {feeds feeds' : List Feed} {replies replies' : List Reply} {left left' : Tables}
    (h : History calls feeds replies left) (h' : History calls' feeds' replies' left') (alike : Alike (map_of h) (map_of h')) where
  same_map : map_of h ≡ map_of h'
  same_map = λ i. record { width = alike.width i; herd = herds_same (map_of h).herd (map_of h').herd (map_sorted h) (map_sorted h') alike.herd i }

  -- They have the same leaf list,
  pub same_leaves : leaf_entries left.index ≡ leaf_entries left'.index
  same_leaves =
      (every_history h).tables.leaves ∙ ap (λ (m : OrderedMap). leaf_list m.width m.herd) same_map ∙ sym (every_history h').tables.leaves

  -- get the same answer to any find,
  pub same_finds : {key : ℕ} {a a' : Answer} → Finds key left a → Finds key left' a' → answered a ≡ answered a'
  same_finds {key} s s' =
      (finds_step {f = nothing_fed} (holding h) s).reply
      ∙ ap (λ (m : OrderedMap). map_reply (sizes_of h.given) nothing_fed m (find key)) same_map
      ∙ sym (finds_step {f = nothing_fed} (holding h') s').reply

  -- and the same answer and slice to any list.
  pub same_lists : {a b : ℕ} {out out₁ out₂ : List ℕ} {r r' : Answer} → Lists a b out out₁ left r → Lists a b out out₂ left' r' → sliced r out₁ ≡ sliced r' out₂
  same_lists {a} {b} {out} s s' =
      (lists_step {f = nothing_fed} (holding h) s).reply
      ∙ ap (λ (m : OrderedMap). map_reply (sizes_of h.given) nothing_fed m (list a b out)) same_map
      ∙ sym (lists_step {f = nothing_fed} (holding h') s').reply

-- ---- an empty herd

-- A tree whose level 0 is one entry is one page.
one_page : (E : ℕ) (t : Tree) (e : Entry) → SoundTree E t → RootRule t → leaves_of t ≡ e ∷ [] → tree_pages t ≡ 1
one_page E t e s r l = go t.0 t.1 r (leaves_alone E (suc t.0) t.1 e s l)
  where
    go : (n : ℕ) (page : Node (suc n)) → RootRule (n, page) → Alone (suc n) page e → page_count (suc n) page ≡ 1
    go zero page r a = omega (arith, entries_pages page)
    go (suc n) [] r a = absurd a
    go (suc n) (x ∷ []) r a = absurd (omega (arith, r (omega arith)))
    go (suc n) (x ∷ y ∷ ys) r a = absurd a

-- "an empty herd uses one page"
pub empty_one_page : {calls : List Call} {feeds : List Feed} {replies : List Reply} {left : Tables} (h : History calls feeds replies left) → (map_of h).herd ≡ []
    → used_pages (pages_of left.index) (entries_of_page left.index) ≡ 1
empty_one_page {left = left} h e =
    let o = holding h in
    pages_used o.sound
    ∙ one_page (entries_of left.index) (tree_of left.index) (entry 0 none) (tree_sound o.sound) (root_rule o.sound)
    ((every_history h).tables.leaves ∙ ap (leaf_list (map_of h).width) e ∙ sym (empty_pages (map_of h).width 1 (omega arith)).level0)

-- ---- 1 is never answered

-- A reply that is not 1; of a check, yes.
abbrev pub NotOne : Reply → Type 0
NotOne (answered a) = a.number ≢ 1
NotOne (sliced a out) = a.number ≢ 1
NotOne (said answer) = answer ≡ true

format_not_one : (fits : Bool) → ◌≢◌ {A = ℕ} (cond fits 0 9) 1
format_not_one true q = omega (arith, q)
format_not_one false q = omega (arith, q)

on_not_one : (wide past taken held eight seven : Bool) → on_row wide past taken held eight seven ≢ 1
on_not_one true past taken held eight seven q = omega (arith, q)
on_not_one false true taken held eight seven q = omega (arith, q)
on_not_one false false true held eight seven q = omega (arith, q)
on_not_one false false false true eight seven q = omega (arith, q)
on_not_one false false false false true seven q = omega (arith, q)
on_not_one false false false false false true q = omega (arith, q)
on_not_one false false false false false false q = omega (arith, q)

off_not_one : (wide held : Bool) → off_row wide held ≢ 1
off_not_one true held q = omega (arith, q)
off_not_one false true q = omega (arith, q)
off_not_one false false q = omega (arith, q)

load_not_one : (short : Bool) → ◌≢◌ {A = ℕ} (cond short 12 0) 1
load_not_one true q = omega (arith, q)
load_not_one false q = omega (arith, q)

behind_not_one : (wide : Bool) (done : Answer) → done.number ≢ 1 → (behind (cond wide 2 0) done).number ≢ 1
behind_not_one true done n q = omega (arith, q)
behind_not_one false done n q = n q

found_not_one : (o : Option ℕ) → (found o).number ≢ 1
found_not_one none q = omega (arith, q)
found_not_one (some r) q = omega (arith, q)

-- The map never answers 1,
map_not_one : (z : Sizes) (f : Feed) (m : OrderedMap) (c : Call) → NotOne (map_reply z f m c)
map_not_one z f m (format w e p) = format_not_one (formats z w e p)
map_not_one z f m (on key r) =
    on_not_one (too_wide m.width key) (leb z.used r) (is_some (key_with r m.herd)) (is_held key m.herd) f.late.eight f.late.seven
map_not_one z f m (off key) = off_not_one (too_wide m.width key) (is_held key m.herd)
map_not_one z f m (find key) =
    behind_not_one (too_wide m.width key || too_wide m.width key) (found (lookup key m.herd)) (found_not_one (lookup key m.herd))
map_not_one z f m (list a b out) =
    behind_not_one (too_wide m.width a || too_wide m.width b) (listed (records_between a b m.herd) (length out)) (λ q. omega (arith, q))
map_not_one z f m check = refl
map_not_one z f m (load xs answers) = load_not_one (ltb (length answers) (length xs))

-- to any call of a history.
replies_not_one : (z : Sizes) (m : OrderedMap) (cs : List Call) (fs : List Feed) → All NotOne (map_replies z m cs fs)
replies_not_one z m [] fs = tt
replies_not_one z m (c ∷ cs) [] = tt
replies_not_one z m (c ∷ cs) (f ∷ fs) = (map_not_one z f m c, replies_not_one z (map_after z f m c) cs fs)

-- "1 is never answered"
pub never_one : {calls : List Call} {feeds : List Feed} {replies : List Reply} {left : Tables} → History calls feeds replies left → All NotOne replies
never_one {calls} {feeds} h = subst (All NotOne) (sym (every_history h).answers) (replies_not_one (sizes_of h.given) _ calls feeds)

-- nor beside a movement of a load.
move_not_one : (z : Sizes) (l : Late) (m : OrderedMap) (key r : ℕ) (is_off : Bool) → cond is_off (map_off_row m key) (map_on_row z l m key r) ≢ 1
move_not_one z l m key r true = off_not_one (too_wide m.width key) (is_held key m.herd)
move_not_one z l m key r false =
    on_not_one (too_wide m.width key) (leb z.used r) (is_some (key_with r m.herd)) (is_held key m.herd) l.eight l.seven

rows_not_one : (z : Sizes) (m : OrderedMap) (xs : List Movement) (ls : List Late) → All (λ n. n ≢ 1) (move_rows z m xs ls)
rows_not_one z m [] ls = tt
rows_not_one z m (x ∷ xs) [] = tt
rows_not_one z m (x ∷ xs) (l ∷ ls) = (move_not_one z l m x.key x.«record» (eqb x.on 0), rows_not_one z (map_move z l m x) xs ls)

pub never_one_beside : {calls : List Call} {feeds : List Feed} {replies : List Reply} {left u : Tables} (h : History calls feeds replies left)
    {xs : List Movement} {answers answers₁ : List ℕ} {a : Answer} → Loads xs answers answers₁ left u a → a.number ≡ 0
    → All (λ n. n ≢ 1) (take (length xs) answers₁)
never_one_beside {left = left} h {xs} s e =
    let does = loads_does s in
    let done = does.done (sym (ap (λ (x : Answer). x.number) does.answer) ∙ e) in
    subst (All (λ n. n ≢ 1)) (sym (moves_step (holding h) done.moved).numbers) (rows_not_one (sizes_of h.given) (map_of h) xs (lates_of left xs does.between))

-- ---- find

module _ {calls : List Call} {feeds : List Feed} {replies : List Reply} {left : Tables} (h : History calls feeds replies left) {key : ℕ} {a : Answer} (finds : Finds key left a) where
  -- What a find answers after a history.
  find_answer : a ≡ behind (first_row true (map_of h).width key key) (found (lookup key (map_of h).herd))
  find_answer =
      let reply : answered a ≡ answered (behind (first_row true (map_of h).width key key) (found (lookup key (map_of h).herd))) =
      (finds_step {f = nothing_fed} (holding h) finds).reply in
      cc

  -- "a tag that is held is found with its own record"
  pub held_found : {r : ℕ} → lookup key (map_of h).herd ≡ some r → a ≡ with_record r
  held_found {r} e =
      let narrow : key < 2 ^ (map_of h).width = lookup_narrow (map_of h).width key r (map_of h).herd (map_narrow h) (lookup_holds key r (map_of h).herd e) in
      find_answer ∙ rw (lt-leb (2 ^ (map_of h).width) key narrow, e) refl

  -- "and one that isn't is never found"
  pub absent_not_found : lookup key (map_of h).herd ≡ none → (a ≡ plain 2) ⊎ (a ≡ plain 6)
  absent_not_found e = go (too_wide (map_of h).width key) (find_answer ∙ rw e refl)
    where
      go : (wide : Bool) → a ≡ behind (cond (wide || wide) 2 0) (plain 6) → (a ≡ plain 2) ⊎ (a ≡ plain 6)
      go true q = inl q
      go false q = inr q
