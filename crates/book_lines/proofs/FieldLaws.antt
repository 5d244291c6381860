-- The fields of a line, as std's `split` gives them one after the other. Assumes nothing.
use mathlib.Core.Path.{◌≡◌, refl, sym, ap, subst}
use mathlib.Core.Bool.{Bool, false, cond}
use mathlib.Core.List.{List, [], ◌∷◌}
use Prim.Native.Nat.{ℕ}
use lib.Dec.{eqb}
use denote.Param.Members.{Mut}
use denote.Ref.{Bor}
use Rattle.std.specs.declared.slice.Split.{Split}
use Rattle.std.specs.Prelude.{Option, Some, None}
use Rattle.std.specs.List.{slice_split, onto_first}
use Rattle.std.specs.Iterator.{AlwaysYields}
use Rattle.std.specs.Slice.Iter.{split_rest, split_done, split_callee, split_steps}
use Rattle.std.specs.Fn.{CalledAt}
use Rattle.std.proofs.lemmas.Iterator.Splits.{YieldsList-from_slice_split}
use Rattle.book_lines.specs.Fields.{tab, in_front, cut_at_tabs}

-- The fields are std's parts, cut where a byte is a tab.
pub cut_is_split : (line : List ℕ) → slice_split (λ byte. eqb byte tab) line ≡ cut_at_tabs line
unfolding cut_at_tabs
cut_is_split [] = refl
cut_is_split (byte ∷ bytes) = rw (cut_is_split bytes) (go (cut_at_tabs bytes))
  where
    go : (fields : List (List ℕ)) → cond (eqb byte tab) ([] ∷ fields) (onto_first byte fields) ≡ cond (eqb byte tab) ([] ∷ fields) (in_front byte fields)
    go [] = refl
    go (field ∷ fields) = refl

-- Calls of `next` give these fields, and then none. It is a record, so that antt infers its arguments.
pub record Fields {S : Type 0} (steps : S → Option (Bor (List ℕ)) → S → Type 0) (s : S) (fields : List (List ℕ)) : Type 0 where
  pub all : AlwaysYields steps (λ field. field.now) s fields

-- Those of a line are what it is cut into.
pub line_fields : {F : Type 0} {s : Split ℕ F} (g : Mut F (Bor ℕ × Unit {0}) Bool) {f : F} (line : List ℕ) → split_rest s ≡ line → split_done s ≡ false → split_callee s ≡ f
    → ((x : ℕ) (b : Bool) (q : F) → CalledAt g f x b q → (q ≡ f) × (b ≡ eqb x tab))
    → Fields (split_steps g) s (cut_at_tabs line)
line_fields {s = s} g line rest done closure tests =
    record {
      all = subst (AlwaysYields (split_steps g) (λ field. field.now) s) (cut_is_split line)
          (YieldsList-from_slice_split g (λ byte. eqb byte tab) line rest done closure tests).runs;
    }

-- A call that gives none was the last; one that gives a field gives the first of those that were to come.
pub ended : {S : Type 0} {steps : S → Option (Bor (List ℕ)) → S → Type 0} {s t : S} {fields : List (List ℕ)} → Fields steps s fields → steps s None t → fields ≡ []
ended {fields = []} f k = refl
ended {t = t} {fields = field ∷ fields} f k = absurd (f.all.0 t k)

pub record Went {S : Type 0} (steps : S → Option (Bor (List ℕ)) → S → Type 0) (t : S) (x : Bor (List ℕ)) (fields : List (List ℕ)) : Type 0 where
  pub others : List (List ℕ)
  pub first : fields ≡ x.now ∷ others
  pub rest : Fields steps t others

pub went : {S : Type 0} {steps : S → Option (Bor (List ℕ)) → S → Type 0} {s t : S} {x : Bor (List ℕ)} {fields : List (List ℕ)} → Fields steps s fields → steps s (Some x) t
    → Went steps t x fields
went {t = t} {x = x} {fields = []} f k = absurd (f.all x t k)
went {t = t} {x = x} {fields = field ∷ fields} f k =
    record { others = fields; first = ap (λ one. one ∷ fields) (sym (f.all.1 x t k).0); rest = record { all = (f.all.1 x t k).1 } }
