-- Visiting records in key order writes those from a to b, as many as the slice holds. Assumes nothing.
use mathlib.Core.Path.{◌≡◌, refl, sym, ap, subst, ◌∙◌}
use mathlib.Core.Bool.{Bool, true, false, cond, ◌&&◌}
use mathlib.Core.Option.{Option, none, some}
use mathlib.Core.List.{List, [], ◌∷◌, ◌++◌, append_assoc, foldl}
use Prim.Native.Nat.compare
use Prim.Native.Nat.{ℕ, suc, ◌+◌, ◌≤◌, ◌<◌, min}
use native.Mathlib.Omega.{arith}
use lib.Dec.{leb, ltb, is_le}
use lib.ListN.{length, length-append}
use lib.Seq.{take-nil, set-append_seam}
use borrow.Author.Tests.{ltb-true, ltb-false, lt-ltb, le-ltb, le-leb, lt-leb}
use Rattle.leaf_list.specs.Entries.{Entry, entry, pointer_of, live_records}
use Rattle.leaf_list.specs.Herd.{Herd, Above, Sorted, KeysOf, records_of}
use Rattle.leaf_list.specs.Register.{key_at}
use Rattle.leaf_list.proofs.Lists.{All}
use Rattle.std.specs.declared.ops.ControlFlow.TheVariants.{Break}
use Rattle.table_find.specs.declared.answer.Counted.{Counted}
use Rattle.table_list.specs.Ranges.{between, records_between, list_slice}
use Rattle.table_list.specs.Listings.{State, Listing, going, ended, full, count_in, more_in, written, met, visited, visit_all}

-- No key above b lies from a to b.
between_above : (a b k : ℕ) (s : Herd) → b ≤ k → Above k s → between a b s ≡ []
between_above a b k [] h g = refl
between_above a b k (x ∷ s) h g = rw (lt-leb x.0 b (omega (arith, g.0))) (step (leb a x.0) (between_above a b k s h g.1))
  where
    step : (t : Bool) → between a b s ≡ [] → cond (t && false) (x ∷ between a b s) (between a b s) ≡ []
    step true ih = ih
    step false ih = ih

-- What was made of the slice xs ++ ys, where xs is written, with the records R to come.
pub record Filled (xs ys R : List ℕ) (s : State) : Type 0 where
  pub slice : s.0 ≡ xs ++ list_slice R ys
  pub count : count_in s.1 ≡ length xs + min (length R) (length ys)
  pub more : more_in s.1 ≡ ltb (length ys) (length R)

-- Nothing more is written.
filled_none : (xs ys : List ℕ) (l : Listing) → count_in l ≡ length xs → more_in l ≡ false → Filled xs ys [] (xs ++ ys, l)
filled_none xs ys l e f = record { slice = rw (take-nil (length ys)); count = omega arith; more = f ∙ sym (le-ltb (length ys) 0 (omega arith)) }

-- Nothing more can be written.
filled_full : (xs R : List ℕ) (r : ℕ) → Filled xs [] (r ∷ R) (xs ++ [], full (length xs))
filled_full xs R r = record { slice = refl; count = omega arith; more = sym (lt-ltb 0 (suc (length R)) (omega arith)) }

-- One record more is written.
filled_more : (xs ys R : List ℕ) (r y : ℕ) (s : State) → Filled (xs ++ (r ∷ [])) ys R s → Filled xs (y ∷ ys) (r ∷ R) s
filled_more xs ys R r y s f =
    record {
      slice = f.slice ∙ append_assoc xs (r ∷ []) (list_slice R ys);
      count = f.count ∙ omega (arith, length-append xs (r ∷ []));
      more = f.more ∙ ap is_le (sym (compare.suc-suc (suc (length ys)) (length R)));
    }

module _ (keys : List ℕ) (a b : ℕ) where
  -- The records of live entries, visited one after the other.
  abbrev pub visit_records : State → List ℕ → State
  visit_records s rs = foldl (λ (z : State) r. visited keys a b z (some r)) s rs

  -- Dummies change nothing.
  pub visit_live : (s : State) (es : List Entry) → visit_all keys a b s es ≡ visit_records s (live_records es)
  unfolding visited
  visit_live s [] = refl
  visit_live s (entry d none ∷ es) = visit_live s es
  visit_live s (entry d (some r) ∷ es) = visit_live (visited keys a b s (some r)) es

  -- A list that is over stays as it is.
  visited_over : (s : State) (o : Option ℕ) {end : Counted} → s.1 ≡ Break end → visited keys a b s o ≡ s
  unfolding visited
  visited_over s none h = refl
  visited_over s (some r) h = rw h refl

  -- So over any entries,
  pub visit_over : (s : State) (es : List Entry) {end : Counted} → s.1 ≡ Break end → visit_all keys a b s es ≡ s
  visit_over s [] h = refl
  visit_over s (e ∷ es) h = rw (visited_over s (pointer_of e) h) (visit_over s es h)

  -- and over any records.
  records_over : (s : State) (rs : List ℕ) {end : Counted} → s.1 ≡ Break end → visit_records s rs ≡ s
  records_over s [] h = refl
  records_over s (r ∷ rs) h = rw (visited_over s (some r) h) (records_over s rs h)

  -- Keys below a are passed.
  pub records_below : (out : List ℕ) (n : ℕ) (rs : List ℕ) → All (λ r. key_at keys r < a) rs → visit_records (out, going n) rs ≡ (out, going n)
  unfolding visited
  records_below out n [] h = refl
  records_below out n (r ∷ rs) h = rw (lt-ltb (key_at keys r) a h.0) (records_below out n rs h.1)

  -- The records R of s that lie from a to b fill the slice, whatever part of it is written.
  abbrev Fills : Herd → List ℕ → Type 0
  Fills s R = (xs ys : List ℕ) → Filled xs ys R (visit_records (xs ++ ys, going (length xs)) (records_of s))

  -- One record more, and its place.
  filled_record : (s : Herd) (R xs ys : List ℕ) (r : ℕ) → Fills s R → Filled xs ys (r ∷ R) (visit_records (written (xs ++ ys) (length xs) r) (records_of s))
  filled_record s R xs [] r ih =
      rw (le-ltb (length xs) (length (xs ++ [])) (omega (arith, length-append xs []))) (rw (records_over (xs ++ [], full (length xs)) (records_of s) refl) (filled_full xs R r))
  filled_record s R xs (y ∷ ys) r ih =
      rw (lt-ltb (length xs) (length (xs ++ y ∷ ys)) (omega (arith, length-append xs (y ∷ ys))), set-append_seam xs y ys r)
      (filled_more xs ys R r y (visit_records (xs ++ r ∷ ys, going (suc (length xs))) (records_of s))
      (subst (λ (z : State). Filled (xs ++ (r ∷ [])) ys R (visit_records z (records_of s))) (λ i. (append_assoc xs (r ∷ []) ys i, going (one_more i))) (ih (xs ++ (r ∷ [])) ys)))
    where
      one_more : length (xs ++ (r ∷ [])) ≡ suc (length xs)
      one_more = length-append xs (r ∷ []) ∙ omega arith

  -- A sorted herd's records.
  pub records_herd : (s : Herd) → Sorted s → KeysOf (key_at keys) s → Fills s (records_between a b s)
  unfolding visited
  records_herd [] o g xs ys = filled_none xs ys (going (length xs)) refl refl
  records_herd (x ∷ s) o g xs ys =
      subst (λ (k : ℕ). Filled xs ys (records_between a b (x ∷ s)) (visit_records (met a b k (xs ++ ys) x.1 (length xs)) (records_of s))) (sym g.0)
      (low (ltb x.0 a) refl (records_herd s o.1 g.1))
    where
      high : (t : Bool) → ltb b x.0 ≡ t → a ≤ x.0 → Fills s (records_between a b s)
          → Filled xs ys (records_between a b (x ∷ s)) (visit_records (cond t (xs ++ ys, ended (length xs)) (written (xs ++ ys) (length xs) x.1)) (records_of s))
      high true e h ih =
          rw (le-leb a x.0 h, lt-leb x.0 b (ltb-true b x.0 e), between_above a b x.0 s (omega (arith, ltb-true b x.0 e)) o.0)
          (rw (records_over (xs ++ ys, ended (length xs)) (records_of s) refl) (filled_none xs ys (ended (length xs)) refl refl))
      high false e h ih = rw (le-leb a x.0 h, le-leb x.0 b (ltb-false b x.0 e)) (filled_record s (records_between a b s) xs ys x.1 ih)

      low : (t : Bool) → ltb x.0 a ≡ t → Fills s (records_between a b s)
          → Filled xs ys (records_between a b (x ∷ s))
          (visit_records (cond t (xs ++ ys, going (length xs)) (cond (ltb b x.0) (xs ++ ys, ended (length xs)) (written (xs ++ ys) (length xs) x.1))) (records_of s))
      low true e ih = rw (lt-leb a x.0 (ltb-true x.0 a e)) (ih xs ys)
      low false e ih = high (ltb b x.0) refl (ltb-false x.0 a e) ih
