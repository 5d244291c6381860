-- The entries that stand for the entry found, case by case (01, "Insertion (5.1)"). Assumes nothing.
use mathlib.Core.Path.{◌≡◌, refl, sym, ap, ap₂, ◌∙◌}
use mathlib.Core.Bool.{Bool, true, false, cond, ◌&&◌}
use mathlib.Core.Option.{none, some}
use mathlib.Core.List.{List, [], ◌∷◌, ◌++◌, map, map-append}
use Prim.Native.Nat.{ℕ, ◌+◌, ◌≤◌, ◌<◌}
use native.Mathlib.Omega.{arith}
use lib.Dec.{ltb}
use lib.ListN.{length, length-append, length-map}
use borrow.Author.Tests.{lt-ltb, le-ltb}
use Rattle.leaf_list.specs.Keys.{bits, below, first_difference}
use Rattle.leaf_list.specs.Entries.{Entry, entry}
use Rattle.leaf_list.specs.Search.{positions}
use Rattle.leaf_list.specs.Insertion.{leaf_depth, dummies, both_leaves}
use Rattle.leaf_list.proofs.Bits.{below_bits}
use Rattle.page_tree.specs.Rows.{All}
use Rattle.page_tree.proofs.FlatInsertion.{dummies_append}
use Rattle.index_table.specs.Layout.{Fitting}
use Rattle.index_table.specs.Pages.{record_of, leaf_of}
use Rattle.index_table.proofs.Pointers.{record_live}
use Rattle.table_search.specs.declared.Leaf.{Leaf}
use Rattle.new_entries.specs.Entries.{ref_of, count_in, entries_for, refs_for, DummiesPre, Newly, NewPre, NewPost}
use Rattle.new_entries.specs.declared.entries.News.{News}
use Rattle.new_entries.specs.declared.entries.News.TheVariants.{Alone, Beside}
use Rattle.new_entries.proofs.Dummies.{dummies_same}

-- ---- new entries as they are stored

-- The entry's record, if it has one, is not NIL.
abbrev Storable : Entry → Type 0
Storable (entry d none) = Unit {0}
Storable (entry d (some r)) = r < 65535

dummies_storable : (l b : ℕ) (ps : List ℕ) (rest : List Entry) → All Storable rest → All Storable (dummies l b ps rest)
dummies_storable l b [] rest h = h
dummies_storable l b (p ∷ ps) rest h = go (ltb l p && ltb p b) (dummies_storable l b ps rest h)
  where
    go : (t : Bool) → All Storable (dummies l b ps rest) → All Storable (cond t (entry p none ∷ dummies l b ps rest) (dummies l b ps rest))
    go true g = (tt, g)
    go false g = g

news_storable : {w key : ℕ} {n : News} → Newly w key n → All Storable (entries_for w key n)
news_storable {n = Alone last} h = (h.second_fits, tt)
news_storable {w} {key} {n = Beside low first last c} h =
    dummies_storable low first.depth (positions 0 (bits w key)) (entry first.depth (some first.pointer) ∷ entry last.depth (some last.pointer) ∷ []) (h.first_fits, (h.second_fits, tt))

stored_back : (es : List Entry) → All Storable es → map (leaf_of 65535) (map ref_of es) ≡ es
stored_back [] h = refl
stored_back (entry d none ∷ es) h = ap (λ (l : List Entry). entry d none ∷ l) (stored_back es h.1)
stored_back (entry d (some r) ∷ es) h = ap₂ (λ o (l : List Entry). entry d o ∷ l) (record_live {p = r} (λ e. omega (arith, h.0, e))) (stored_back es h.1)

stored_fit : (es : List Entry) → All Storable es → Fitting 2 (map ref_of es)
stored_fit [] h = tt
stored_fit (entry d none ∷ es) h = (omega arith, stored_fit es h.1)
stored_fit (entry d (some r) ∷ es) h = (omega (arith, h.0), stored_fit es h.1)

-- They are read back,
pub news_read : {w key : ℕ} {n : News} → Newly w key n → map (leaf_of 65535) (refs_for w key n) ≡ entries_for w key n
news_read {w} {key} {n} h = stored_back (entries_for w key n) (news_storable h)

-- their pointers fit,
pub news_fit : {w key : ℕ} {n : News} → Newly w key n → Fitting 2 (refs_for w key n)
news_fit {w} {key} {n} h = stored_fit (entries_for w key n) (news_storable h)

-- and there are as many as the count says.
pub news_long : {w key : ℕ} {n : News} → Newly w key n → length (refs_for w key n) ≡ count_in n
news_long {w} {key} {n} h = length-map (entries_for w key n) ref_of ∙ sym h.counted

-- News of two leaves, field by field.
abbrev pub beside : ℕ → ℕ → ℕ → ℕ → ℕ → ℕ → News
beside low high x d y c = Beside low (record { depth = high; pointer = x }) (record { depth = d; pointer = y }) c

-- A pair is its dummies, then two leaves.
pub pair_refs : (w key low high x d y c : ℕ)
    → refs_for w key (beside low high x d y c) ≡ map ref_of (dummies low high (positions 0 (bits w key)) []) ++ (high, x) ∷ (d, y) ∷ []
pair_refs w key low high x d y c =
    ap (map ref_of) (sym (dummies_append low high (positions 0 (bits w key)) [] (entry high (some x) ∷ entry d (some y) ∷ [])))
    ∙ map-append ref_of (dummies low high (positions 0 (bits w key)) []) (entry high (some x) ∷ entry d (some y) ∷ [])

pair_long : (w key low high x d y c : ℕ)
    → length (entries_for w key (beside low high x d y c)) ≡ length (dummies low high (positions 0 (bits w key)) []) + 2
pair_long w key low high x d y c =
    ap length (sym (dummies_append low high (positions 0 (bits w key)) [] (entry high (some x) ∷ entry d (some y) ∷ [])))
    ∙ length-append (dummies low high (positions 0 (bits w key)) []) (entry high (some x) ∷ entry d (some y) ∷ [])

-- ---- case by case

module _ {w key r old : ℕ} {leaf : Leaf} (pre : NewPre w key r old leaf) {b l : ℕ} (difference : b ≡ first_difference 0 (bits w key) (bits w old)) (depth : l ≡ leaf_depth leaf.trail leaf.depth) (inside : b ≤ w) where
  live : record_of 65535 leaf.pointer ≡ some leaf.pointer
  live = record_live (λ e. omega (arith, pre.live, e))

  between : (low : ℕ) → low ≤ w → DummiesPre w key low b
  between low h = record { width = pre.width; narrow = pre.narrow; low_inside = h; high_inside = omega (arith, inside) }

  -- The first difference is above the leaf's depth.
  pub new_above : b < l → {n : ℕ} → n ≡ length (dummies b b (positions 0 (bits w key)) [])
      → NewPost w key r old leaf (beside b b leaf.pointer leaf.depth r (n + 2))
  new_above h {n} m =
      let none_between : dummies b b (positions 0 (bits w key)) (entry b (some leaf.pointer) ∷ entry leaf.depth (some r) ∷ []) ≡ entry b (some leaf.pointer) ∷ entry leaf.depth (some r) ∷ [] =
      dummies_same b (positions 0 (bits w key)) (entry b (some leaf.pointer) ∷ entry leaf.depth (some r) ∷ []) in
      record {
        entries = λ key_of e. rw (live, e, ← difference, ← depth, lt-ltb b l h) none_between;
        newly = record {
          between = between b inside;
          closing = pre.depth_inside;
          first_fits = pre.live;
          second_fits = pre.free_record;
          counted = ap (λ (k : ℕ). k + 2) (m ∙ ap length (dummies_same b (positions 0 (bits w key)) [])) ∙ sym (ap length none_between);
        };
      }

  -- It is below: dummies, and the two leaves in key order.
  pub new_below : l ≤ b → l ≤ w → {n : ℕ} → n ≡ length (dummies l b (positions 0 (bits w key)) []) → (x y : ℕ) → x < 65535 → y < 65535
      → both_leaves (below (bits w key) (bits w old)) b leaf.depth r leaf.pointer [] ≡ entry b (some x) ∷ entry leaf.depth (some y) ∷ []
      → NewPost w key r old leaf (beside l b x leaf.depth y (n + 2))
  new_below h low {n} m x y x_Fits y_fits order =
      record {
        entries = λ key_of e. rw (live, e, ← difference, ← depth, le-ltb b l h) (ap (dummies l b (positions 0 (bits w key))) (sym order));
        newly = record {
          between = between l low;
          closing = pre.depth_inside;
          first_fits = x_Fits;
          second_fits = y_fits;
          counted = sym (pair_long w key l b x leaf.depth y (n + 2) ∙ ap (λ (k : ℕ). k + 2) (sym m));
        };
      }

  pub order_smaller : key < old → both_leaves (below (bits w key) (bits w old)) b leaf.depth r leaf.pointer [] ≡ entry b (some r) ∷ entry leaf.depth (some leaf.pointer) ∷ []
  order_smaller h = rw (below_bits w key old pre.narrow pre.other_narrow, lt-ltb key old h) refl

  pub order_larger : old ≤ key → both_leaves (below (bits w key) (bits w old)) b leaf.depth r leaf.pointer [] ≡ entry b (some leaf.pointer) ∷ entry leaf.depth (some r) ∷ []
  order_larger h = rw (below_bits w key old pre.narrow pre.other_narrow, le-ltb key old h) refl
