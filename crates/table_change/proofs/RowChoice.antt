-- Which row declines an on or an off, and what follows. Assumes nothing.
use mathlib.Core.Path.{◌≡◌, refl, sym, ap, ◌∙◌}
use mathlib.Core.Logic.{◌≢◌}
use mathlib.Core.Bool.{Bool, true, false, cond}
use mathlib.Core.Option.{Option, none, some}
use mathlib.Core.List.{List, [], ◌∷◌}
use Prim.Native.Nat.{ℕ, ◌^◌, ◌≤◌, ◌<◌}
use native.Mathlib.Omega.{arith}
use lib.Dec.{leb, ltb}
use lib.ListN.{length}
use borrow.Author.Tests.{lt-leb, leb-false, le-ltb, ltb-false}
use Rattle.leaf_list.specs.Herd.{Herd, lookup}
use Rattle.leaf_list.specs.Register.{in_use, herd_of}
use Rattle.leaf_list.proofs.Laws.{neighbours_law}
use Rattle.page_tree.specs.Tree.{Tree, pages_of as tree_pages}
use Rattle.page_tree.specs.declared.Row.{Row}
use Rattle.index_table.specs.Header.{width_of, pages_of}
use Rattle.index_table.specs.Soundness.{Sound}
use Rattle.index_table.proofs.SoundTables.{herd_narrow, herd_sorted, herd_held, in_use_inside}
use Rattle.table_search.specs.declared.Leaf.{Leaf}
use Rattle.table_find.specs.declared.answer.Answer.{Answer}
use Rattle.table_find.specs.Answers.{plain, found}
use Rattle.table_change.specs.Changes.{too_wide, is_some, is_held, on_row, on_row_of, row_eight, row_seven, OnDone, OnChanges, off_row_of, OffDone, OffChanges}
use Rattle.table_change.specs.News.{NewsFor, FreeRecord}
use Rattle.index_change.specs.Repaging.{Changeable, OffPagesPre, tree_with, late_row_with, OnPagesPre, Roomy}
use Rattle.table_change.specs.FoundKeys.{HeldKey}
use Rattle.table_change.proofs.Changed.{held_high, tree_table, tree_after}
use Rattle.table_change.proofs.SoundAfter.{found_record, off_depths}

-- The test of the width that was read.
pub wide_is : {w v : ℕ} (key : ℕ) {t u : Bool} → w ≡ v → t ≡ leb (2 ^ w) key → t ≡ u → too_wide v key ≡ u
wide_is key e q p = ap (λ (n : ℕ). leb (2 ^ n) key) (sym e) ∙ sym q ∙ p

-- ---- off

module _ {index keys used : List ℕ} {key : ℕ} where
  -- A row declines it, and nothing is changed.
  pub off_refused : (n : ℕ) → n ≢ 0 → off_row_of index keys used key ≡ n → OffChanges index keys used key index keys used (plain n)
  off_refused n z e = record { answer = ap plain (sym e); refused = λ g. (refl, refl, refl); done = λ g. absurd (z (sym e ∙ g)) }

  -- None does.
  pub off_accepted : {index₁ keys₁ used₁ : List ℕ} → off_row_of index keys used key ≡ 0 → OffDone index keys used key index₁ keys₁ used₁
      → OffChanges index keys used key index₁ keys₁ used₁ (plain 0)
  off_accepted e d = record { answer = ap plain (sym e); refused = λ g. absurd (g e); done = λ g. d }

module _ (index keys used : List ℕ) (key : ℕ) where
  pub off_wide : too_wide (width_of index) key ≡ true → off_row_of index keys used key ≡ 2
  off_wide e = rw e refl

  pub off_absent : too_wide (width_of index) key ≡ false → is_held key (herd_of keys used) ≡ false → off_row_of index keys used key ≡ 6
  off_absent e f = rw (e, f) refl

  pub off_held : too_wide (width_of index) key ≡ false → is_held key (herd_of keys used) ≡ true → off_row_of index keys used key ≡ 0
  off_held e f = rw (e, f) refl

-- What a find says of a key: its record, where the number is 0.
pub find_found : (o : Option ℕ) (a : Answer) → a ≡ found o → a.number ≡ 0 → (o ≡ some a.«record») × (is_some o ≡ true)
find_found none a e z = absurd (omega (arith, ap (λ (x : Answer). x.number) e, z))
find_found (some r) a e z = (ap some (sym (ap (λ (x : Answer). x.«record») e)), refl)

some_herd : (key r : ℕ) (s : Herd) → lookup key s ≡ some r → 1 ≤ length s
some_herd key r [] e = absurd (let z : ◌≡◌ {A = ℕ} 0 1 = cc in omega arith)
some_herd key r (x ∷ s) e = omega arith

-- The index table of sound tables may be changed.
pub changeable_sound : {index keys used : List ℕ} → Sound index keys used → (key : ℕ) → key < 2 ^ width_of index → Changeable index key
changeable_sound s key narrow = record { tree = tree_table s; narrow = narrow; held = held_high s }

module _ {index keys used : List ℕ} {key : ℕ} {leaf : Leaf} (h : HeldKey index keys used key leaf) where
  pub strike_pre : OffPagesPre index key leaf
  strike_pre = record {
    changeable = changeable_sound h.sound key h.narrow;
    beside = rw h.sound.leaves (neighbours_law (width_of index) (herd_of keys used) (herd_narrow h.sound) (herd_sorted h.sound));
    later = off_depths h.sound key leaf.pointer h.found h.narrow;
    some = omega (arith, some_herd key leaf.pointer (herd_of keys used) h.found, herd_held h.sound);
    first = h.place.first;
    begins = h.place.begins;
    way = h.place.way;
  }

  pub held_inside : leaf.pointer < length used
  held_inside = in_use_inside h.sound leaf.pointer (found_record h.sound key leaf.pointer h.found).0

-- ---- on

module _ {index keys used : List ℕ} {key r : ℕ} where
  pub on_refused : (n : ℕ) → n ≢ 0 → on_row_of index keys used key r ≡ n → OnChanges index keys used key r index keys used (plain n)
  on_refused n z e = record { answer = ap plain (sym e); refused = λ g. (refl, refl, refl); done = λ g. absurd (z (sym e ∙ g)) }

  pub on_accepted : {index₁ keys₁ used₁ : List ℕ} → on_row_of index keys used key r ≡ 0 → OnDone index keys used key r index₁ keys₁ used₁
      → OnChanges index keys used key r index₁ keys₁ used₁ (plain 0)
  on_accepted e d = record { answer = ap plain (sym e); refused = λ g. absurd (g e); done = λ g. d }

-- Row 2, 3 or 4 is the row, whatever the later ones say.
early_first : (a b c d e f : Bool) → on_row a b c false false false ≢ 0 → on_row a b c d e f ≡ on_row a b c false false false
early_first true b c d e f n = refl
early_first false true c d e f n = refl
early_first false false true d e f n = refl
early_first false false false d e f n = absurd (n refl)

early_none : (a b c : Bool) → on_row a b c false false false ≡ 0 → (a ≡ false) × (b ≡ false) × (c ≡ false)
early_none true b c e = absurd (omega (arith, e))
early_none false true c e = absurd (omega (arith, e))
early_none false false true e = absurd (omega (arith, e))
early_none false false false e = (refl, refl, refl)

module _ (index keys used : List ℕ) (key r : ℕ) {early : ℕ} (e : early ≡ on_row (too_wide (width_of index) key) (leb (length used) r) (in_use used r) false false false) where
  pub early_row_is : early ≢ 0 → on_row_of index keys used key r ≡ early
  early_row_is n =
      early_first (too_wide (width_of index) key) (leb (length used) r) (in_use used r) (is_held key (herd_of keys used)) (row_eight index keys key r) (row_seven index keys key r) (λ z. n (e ∙ z)) ∙ sym e

  pub free_passed : Sound index keys used → early ≡ 0 → FreeRecord index keys used key r
  free_passed s z =
      let none_applies = early_none (too_wide (width_of index) key) (leb (length used) r) (in_use used r) (sym e ∙ z) in
      record { sound = s; narrow = leb-false _ _ none_applies.0; inside = leb-false _ _ none_applies.1; free = none_applies.2 }

module _ {index keys used : List ℕ} {key r : ℕ} (h : FreeRecord index keys used key r) where
  wide_not : too_wide (width_of index) key ≡ false
  wide_not = lt-leb (2 ^ width_of index) key h.narrow

  past_not : leb (length used) r ≡ false
  past_not = lt-leb (length used) r h.inside

  -- Row 5.
  pub on_held : is_held key (herd_of keys used) ≡ true → on_row_of index keys used key r ≡ 5
  on_held e = rw (wide_not, past_not, h.free, e) refl

  -- Rows 8 and 7.
  pub on_late : is_held key (herd_of keys used) ≡ false → (news : Row) → NewsFor index keys key r news → on_row_of index keys used key r ≡ late_row_with index key news
  on_late e news n =
      rw (wide_not, past_not, h.free, e)
      (sym (ap (λ (t : Tree). cond (ltb 15 t.0) 8 (cond (ltb (pages_of index) (tree_pages t)) 7 0)) (tree_after n)))

  pub splice_pre : (news : Row) → NewsFor index keys key r news → OnPagesPre index key news
  splice_pre news n = record { changeable = changeable_sound h.sound key h.narrow; some = n.some; few = n.few; fitting = n.fitting; closed = n.closed }

-- Where neither row 8 nor row 7 applies there is room.
pub late_roomy : (index : List ℕ) (key : ℕ) (news : Row) → late_row_with index key news ≡ 0 → Roomy index key news
late_roomy index key news e = go (ltb 15 (tree_with index key news).0) (ltb (pages_of index) (tree_pages (tree_with index key news))) refl refl e
  where
    go : (t u : Bool) → ltb 15 (tree_with index key news).0 ≡ t → ltb (pages_of index) (tree_pages (tree_with index key news)) ≡ u → ◌≡◌ {A = ℕ} (cond t 8 (cond u 7 0)) 0 → Roomy index key news
    go true u a b c = absurd (omega (arith, c))
    go false true a b c = absurd (omega (arith, c))
    go false false a b c = record { low = ltb-false 15 (tree_with index key news).0 a; pages = ltb-false (pages_of index) (tree_pages (tree_with index key news)) b }

-- Where there is room neither applies.
pub roomy_late : (index : List ℕ) (key : ℕ) (news : Row) → Roomy index key news → late_row_with index key news ≡ 0
roomy_late index key news h = rw (le-ltb 15 (tree_with index key news).0 h.low, le-ltb (pages_of index) (tree_pages (tree_with index key news)) h.pages) refl
