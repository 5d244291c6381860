-- A load beside the single calls of its movements, made one by one (02, vii). Assumes nothing.
use mathlib.Core.Path.{◌≡◌, refl, ap, ap₂, sym, ◌∙◌, subst}
use mathlib.Core.Logic.{◌≢◌}
use mathlib.Core.Bool.{Bool, true, false, cond}
use mathlib.Core.Option.{some}
use mathlib.Core.List.{List, [], ◌∷◌, map}
use Prim.Native.Nat.{ℕ, zero, suc, ◌-◌}
use lib.Dec.{leb, ltb, eqb, eqb-suc-zero}
use lib.ListN.{length, take, set}
use denote.MutBor.{MutBor}
use Rattle.leaf_list.specs.Register.{key_at, in_use, herd_of}
use Rattle.page_tree.specs.Tree.{pages_of as tree_pages}
use Rattle.page_tree.specs.OnPages.{on_tree}
use Rattle.page_tree.specs.OffPages.{off_tree}
use Rattle.index_table.specs.Header.{width_of, entries_of, root_of, held_of, HeaderFrom}
use Rattle.index_table.specs.Soundness.{tree_of}
use Rattle.table_find.specs.declared.answer.Answer.{Answer}
use Rattle.table_find.specs.Answers.{plain}
use Rattle.table_change.specs.Changes.{too_wide, is_held, tree_after_on, on_row, off_row, on_row_of, OnDone, OnChanges, off_row_of, OffDone, OffChanges}
use Rattle.table_change.proofs.SoundAfter.{on_tree_lem, off_tree_lem}
use Rattle.tag_index.specs.declared.load.Movement.{Movement}
use Rattle.tag_index.specs.Tables.{Tables, SoundAt}
use Rattle.tag_index.specs.Changing.{OnDoes, OffDoes}
use Rattle.tag_index.specs.Loads.{MoveDoes, Moved, end, move}
use Rattle.tag_index.specs.Histories.{Call, on, off, Reply, answered, OrderedMap, Sizes, Late, late_of, lates_of, Feed, nothing_fed, on_fed, map_on_row, map_off_row, map_on, map_off, move_row, map_move, move_rows, map_moves, map_reply, map_after, map_replies, map_behind}
use Rattle.tag_index.specs.Claims.{call_of, singly, fed_singly, SameAside, AsCalls}
use Rattle.tag_index.proofs.LoadLaws.{plain_number, by_row, move_sound, none_sound}
use Rattle.tag_index.proofs.LoadSteps.{on_behind_check, off_behind_check}
use Rattle.tag_index.proofs.MapSteps.{judged_sound}
use Rattle.tag_index.proofs.Runs.{Lent, Loads, Run, end as end_run, ons, offs, ons_does, offs_does, loads_does}

-- ---- movements from tables that are the same, page numbers aside

module _ {t u : Tables} (same : SameAside t u) where
  -- They have one tree behind an on, one behind an off,
  on_trees : (key r : ℕ) → tree_after_on t.index t.keys key r ≡ tree_after_on u.index u.keys key r
  on_trees key r = λ i. on_tree (same.width i) (same.entries i) (key_at (same.keys i)) key r (same.tree i)

  off_trees : (key : ℕ) → off_tree (width_of t.index) (entries_of t.index) key (tree_of t.index) ≡ off_tree (width_of u.index) (entries_of u.index) key (tree_of u.index)
  off_trees key = λ i. off_tree (same.width i) (same.entries i) key (same.tree i)

  -- and the same rows apply.
  on_rows : (key r : ℕ) → on_row_of t.index t.keys t.used key r ≡ on_row_of u.index u.keys u.used key r
  on_rows key r = λ i. on_row (too_wide (same.width i) key) (leb (length (same.used i)) r) (in_use (same.used i) r) (is_held key (herd_of (same.keys i) (same.used i)))
      (ltb 15 (on_trees key r i).0) (ltb (same.pages i) (tree_pages (on_trees key r i)))

  off_rows : (key : ℕ) → off_row_of t.index t.keys t.used key ≡ off_row_of u.index u.keys u.used key
  off_rows key = λ i. off_row (too_wide (same.width i) key) (is_held key (herd_of (same.keys i) (same.used i)))

  -- What a change leaves of the header, the register and the tree.
  changed_same : {t₁ u₁ : Tables} (held : ℕ → ℕ) (r key byte : ℕ) → HeaderFrom t.index t₁.index (root_of t₁.index) (held (held_of t.index))
      → HeaderFrom u.index u₁.index (root_of u₁.index) (held (held_of u.index))
      → (t₁.keys ≡ set t.keys r key) × (t₁.used ≡ set t.used r byte) → (u₁.keys ≡ set u.keys r key) × (u₁.used ≡ set u.used r byte)
      → tree_of t₁.index ≡ tree_of u₁.index
      → SameAside t₁ u₁
  changed_same held r key byte h k p q e = record {
    keys = p.0 ∙ ap (λ (l : List ℕ). set l r key) same.keys ∙ sym q.0;
    used = p.1 ∙ ap (λ (l : List ℕ). set l r byte) same.used ∙ sym q.1;
    width = h.width ∙ same.width ∙ sym k.width;
    entries = h.entries ∙ same.entries ∙ sym k.entries;
    pages = h.pages ∙ same.pages ∙ sym k.pages;
    held = h.held ∙ ap held same.held ∙ sym k.held;
    spare = h.spare ∙ same.spare ∙ sym k.spare;
    tree = e;
  }

  module _ {t₁ u₁ : Tables} where
    on_done_same : {key r : ℕ} → OnDone t.index t.keys t.used key r t₁.index t₁.keys t₁.used
        → OnDone u.index u.keys u.used key r u₁.index u₁.keys u₁.used → SameAside t₁ u₁
    on_done_same {key} {r} d e =
        changed_same suc r key 1 d.header e.header (d.key_set, d.byte_set) (e.key_set, e.byte_set)
        (on_tree_lem t.index t₁.index d.fresh (width_of t.index) (entries_of t.index) (key_at t.keys) key r d.pages
        ∙ on_trees key r
        ∙ sym (on_tree_lem u.index u₁.index e.fresh (width_of u.index) (entries_of u.index) (key_at u.keys) key r e.pages))

    off_done_same : {key : ℕ} → OffDone t.index t.keys t.used key t₁.index t₁.keys t₁.used
        → OffDone u.index u.keys u.used key u₁.index u₁.keys u₁.used → SameAside t₁ u₁
    off_done_same {key} d e =
        let r = e.«record» in
        let found : some d.«record» ≡ some r = sym d.found ∙ rw (same.keys, same.used) e.found in
        let one : d.«record» ≡ r = cc in
        changed_same (λ n. n - 1) r 0 0 d.header e.header
        (d.key_set ∙ ap (λ (i : ℕ). set t.keys i 0) one, d.byte_set ∙ ap (λ (i : ℕ). set t.used i 0) one) (e.key_set, e.byte_set)
        (off_tree_lem t.index t₁.index (width_of t.index) (entries_of t.index) key d.pages
        ∙ off_trees key
        ∙ sym (off_tree_lem u.index u₁.index (width_of u.index) (entries_of u.index) key e.pages))

    -- Tables that neither changes stay the same.
    both_kept : (t₁.index ≡ t.index) × (t₁.keys ≡ t.keys) × (t₁.used ≡ t.used) → (u₁.index ≡ u.index) × (u₁.keys ≡ u.keys) × (u₁.used ≡ u.used) → SameAside t₁ u₁
    both_kept p q = rw (p.0, p.1, p.2, q.0, q.1, q.2) same

    -- A movement answers the same number, and leaves tables that are the same.
    move_same : (key r o : ℕ) {n n' : ℕ} → MoveDoes t key r o t₁ n → MoveDoes u key r o u₁ n' → (n ≡ n') × SameAside t₁ u₁
    move_same key r zero d e =
        let rows = off_rows key in (
          ap (λ (a : Answer). a.number) (d.answer ∙ ap plain rows ∙ sym e.answer),
          by_row (off_row_of t.index t.keys t.used key) (λ z. off_done_same (d.done z) (e.done (sym rows ∙ z))) (λ z. both_kept (d.refused z) (e.refused (λ y. z (rows ∙ y)))),
        )
    move_same key r (suc o) d e =
        let rows = on_rows key r in (
          ap (λ (a : Answer). a.number) (d.answer ∙ ap plain rows ∙ sym e.answer),
          by_row (on_row_of t.index t.keys t.used key r) (λ z. on_done_same (d.done z) (e.done (sym rows ∙ z))) (λ z. both_kept (d.refused z) (e.refused (λ y. z (rows ∙ y)))),
        )

-- Of an on, rows 8 and 7 depend on no page number,
late_same : {t u : Tables} → SameAside t u → (key r : ℕ) → late_of t key r ≡ late_of u key r
late_same same key r = λ i. record { eight = ltb 15 (on_trees same key r i).0; seven = ltb (same.pages i) (tree_pages (on_trees same key r i)) }

-- so whatever pages the movements take, the map is fed the same of them.
pub lates_same : {t u t₁ u₁ : Tables} {xs : List Movement} {us vs : List Tables} {ns ms : List ℕ} → SameAside t u → Moved t xs us ns t₁ → Moved u xs vs ms u₁
    → lates_of t xs us ≡ lates_of u xs vs
lates_same same end end = refl
lates_same same (move {m = x} d p) (move e q) =
    ap₂ (λ (l : Late) (ls : List Late). l ∷ ls) (late_same same x.key x.«record»)
    (lates_same (move_same same x.key x.«record» x.on d e).1 p q)

-- ---- single calls on sound tables

module _ {t u : Tables} (s : SoundAt t) where
  -- The check of a single call finds them sound, and so it is the change alone.
  off_change : {key : ℕ} {a : Answer} → OffDoes t.index t.keys t.used key u.index u.keys u.used a → OffChanges t.index t.keys t.used key u.index u.keys u.used a
  off_change d =
      let j = judged_sound s d.judged in
      record { answer = rw j at d.answer; refused = rw j at d.refused; done = rw j at d.done }

  on_change : {key r : ℕ} {a : Answer} → OnDoes t.index t.keys t.used key r u.index u.keys u.used a → OnChanges t.index t.keys t.used key r u.index u.keys u.used a
  on_change d =
      let j = judged_sound s d.judged in
      record { answer = rw j at d.answer; refused = rw j at d.refused; done = rw j at d.done }

-- The single call of a movement stands first in a run: what it does, and the rest of the run.
record First (t : Tables) (key r o : ℕ) (cs : List Call) (rs : List Reply) (v : Tables) : Type 0 where
  u : Tables
  number : ℕ
  does : MoveDoes t key r o u number
  feeds : List Feed
  replies : List Reply
  first : rs ≡ answered (plain number) ∷ replies
  rest : Run u cs feeds replies v

single_first : {t v : Tables} {cs : List Call} {fs : List Feed} {rs : List Reply} → SoundAt t → (key r o : ℕ) → Run t (cond (eqb o 0) (off key) (on key r) ∷ cs) fs rs v → First t key r o cs rs v
single_first {t} s key r zero (offs {u = u} {a = a} {fs = fs} {rs = rs} c run) =
    let d = off_change s (offs_does c) in
    let plainly = plain_number d.answer in
    record {
      u = u;
      number = a.number;
      does = subst (OffChanges t.index t.keys t.used key u.index u.keys u.used) plainly d;
      feeds = fs;
      replies = rs;
      first = ap (λ (x : Answer). answered x ∷ rs) plainly;
      rest = run;
    }
single_first {t} {v} {cs} {fs} {rs} s key r (suc o) run = go (subst (λ (b : Bool). Run t (cond b (off key) (on key r) ∷ cs) fs rs v) (eqb-suc-zero o) run)
  where
    go : {gs : List Feed} {ss : List Reply} → Run t (on key r ∷ cs) gs ss v → First t key r (suc o) cs ss v
    go (ons {u = u} {a = a} {fs = fs} {rs = rs} c run) =
        let d = on_change s (ons_does c) in
        let plainly = plain_number d.answer in
        record {
          u = u;
          number = a.number;
          does = subst (OnChanges t.index t.keys t.used key r u.index u.keys u.used) plainly d;
          feeds = fs;
          replies = rs;
          first = ap (λ (x : Answer). answered x ∷ rs) plainly;
          rest = run;
        }

moves_as_calls : {t t₁ u v : Tables} {xs : List Movement} {us : List Tables} {ns : List ℕ} {fs : List Feed} {rs : List Reply} → SameAside t u → SoundAt t → SoundAt u → Moved t xs us ns t₁
    → Run u (map call_of xs) fs rs v
    → AsCalls ns rs t₁ v
moves_as_calls same r s end end_run = record { answers = refl; left = same; sound = (r, s) }
moves_as_calls same r s (move {m = x} {n = n} d rest) run =
    let f = single_first s x.key x.«record» x.on run in
    let one = move_same same x.key x.«record» x.on d f.does in
    let r₁ = move_sound x.key x.«record» x.on n d r in
    let s₁ = move_sound x.key x.«record» x.on f.number f.does s in
    let all = moves_as_calls one.1 r₁ s₁ rest f.rest in
    record {
      answers = f.first ∙ ap₂ (λ (m : ℕ) (rs : List Reply). answered (plain m) ∷ rs) (sym one.0) all.answers;
      left = all.left;
      sound = all.sound;
    }

-- ---- a run of the single calls that does what a load did

-- Slices that hold the tables.
abbrev slice : List ℕ → MutBor (List ℕ)
slice l = record { ref_ptr = (0, 0); ghost_name = 0; now = l }

abbrev lent : (t : Tables) → Lent t
lent t = record { index = slice t.index; keys = slice t.keys; used = slice t.used; index_is = refl; keys_is = refl; used_is = refl }

single : {t u v : Tables} {n : ℕ} {cs : List Call} {fs : List Feed} {rs : List Reply} → SoundAt t → (key r o : ℕ) → MoveDoes t key r o u n → Run u cs fs rs v
    → Run t (cond (eqb o 0) (off key) (on key r) ∷ cs) (cond (eqb o 0) nothing_fed (on_fed t key r) ∷ fs) (answered (plain n) ∷ rs) v
single {t} {u} s key r zero d run = offs (record { κs = ([], ([], ([], tt))); before = lent t; after = lent u; post = off_behind_check r s d }) run
single {t} {u} s key r (suc o) d run =
    rw (eqb-suc-zero o) (ons (record { κs = ([], ([], ([], tt))); before = lent t; after = lent u; post = on_behind_check o s d }) run)

moves_are_calls : {t u : Tables} {xs : List Movement} {us : List Tables} {ns : List ℕ} → SoundAt t → Moved t xs us ns u → Run t (map call_of xs) (fed_singly t xs us) (singly ns) u
moves_are_calls s end = end_run
moves_are_calls s (move {m = x} {n = n} d rest) =
    single s x.key x.«record» x.on d (moves_are_calls (move_sound x.key x.«record» x.on n d s) rest)

-- ---- the load

module _ {xs : List Movement} {answers answers₁ : List ℕ} {t u : Tables} {a : Answer} (loaded : Loads xs answers answers₁ t u a) (done : a.number ≡ 0) where
  no_row : (loads_does loaded).row ≡ 0
  no_row = sym (ap (λ (x : Answer). x.number) (loads_does loaded).answer) ∙ done

  -- "Unless the load call itself is refused, answers and end state equal those of the single calls made one by one": whatever pages they take.
  pub load_as_calls : {fs : List Feed} {rs : List Reply} {v : Tables} → Run t (map call_of xs) fs rs v → AsCalls (take (length xs) answers₁) rs u v
  load_as_calls run =
      let does = loads_does loaded in
      let sound = (none_sound does.declines no_row).0 in
      moves_as_calls same_tables sound sound (does.done no_row).moved run
    where
      same_tables : SameAside t t
      same_tables = record { keys = refl; used = refl; width = refl; entries = refl; pages = refl; held = refl; spare = refl; tree = refl }

  -- And what a load did, to the byte, is a run of the single calls.
  pub load_is_calls : Run t (map call_of xs) (fed_singly t xs (loads_does loaded).between) (singly (take (length xs) answers₁)) u
  load_is_calls =
      let does = loads_does loaded in
      moves_are_calls (none_sound does.declines no_row).0 (does.done no_row).moved

-- A load that is refused, by 1 or by 12, changes nothing.
pub load_refused : {xs : List Movement} {answers answers₁ : List ℕ} {t u : Tables} {a : Answer} → Loads xs answers answers₁ t u a → a.number ≢ 0 → (u ≡ t) × (answers₁ ≡ answers)
load_refused loaded n =
    let does = loads_does loaded in
    does.refused (λ z. n (ap (λ (x : Answer). x.number) does.answer ∙ z))

-- ---- the map

-- What the map is fed of the single calls, if it is fed this of each movement.
abbrev fed_each : List Late → List Feed
fed_each ls = map (λ (l : Late). record { late = l; lates = [] }) ls

-- The map's step for a load is its steps for the single calls of the movements.
move_call : (z : Sizes) (l : Late) (m : OrderedMap) (x : Movement)
    → (map_reply z (record { late = l; lates = [] }) m (call_of x) ≡ answered (plain (move_row z l m x))) × (map_after z (record { late = l; lates = [] }) m (call_of x) ≡ map_move z l m x)
move_call z l m x = go (eqb x.on 0)
  where
    go : (b : Bool)
        → (map_reply z (record { late = l; lates = [] }) m (cond b (off x.key) (on x.key x.«record»)) ≡ answered (plain (cond b (map_off_row m x.key) (map_on_row z l m x.key x.«record»))))
        × (map_after z (record { late = l; lates = [] }) m (cond b (off x.key) (on x.key x.«record»)) ≡ cond b (map_off m x.key) (map_on z l m x.key x.«record»))
    go true = (refl, refl)
    go false = (refl, refl)

pub map_as_calls : (z : Sizes) (m : OrderedMap) (xs : List Movement) (ls : List Late) → (map_replies z m (map call_of xs) (fed_each ls) ≡ singly (move_rows z m xs ls)) × (map_behind z m (map call_of xs) (fed_each ls) ≡ map_moves z m xs ls)
map_as_calls z m [] ls = (refl, refl)
map_as_calls z m (x ∷ xs) [] = (refl, refl)
map_as_calls z m (x ∷ xs) (l ∷ ls) =
    let one = move_call z l m x in
    let rest = map_as_calls z (map_move z l m x) xs ls in (
      ap₂ (λ (r : Reply) (rs : List Reply). r ∷ rs) one.0 (ap (λ (n : OrderedMap). map_replies z n (map call_of xs) (fed_each ls)) one.1 ∙ rest.0),
      ap (λ (n : OrderedMap). map_behind z n (map call_of xs) (fed_each ls)) one.1 ∙ rest.1,
    )
