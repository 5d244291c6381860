-- What a pointer on level 0 means: NIL or a record, as it is read and as the code answers it. Assumes nothing.
use mathlib.Core.Path.{◌≡◌, refl, ap}
use mathlib.Core.Logic.{◌≢◌}
use mathlib.Core.Bool.{Bool, true, false, cond}
use mathlib.Core.Option.{none, some}
use Prim.Native.Nat.{ℕ}
use native.Mathlib.Omega.{arith}
use lib.Dec.{eqb}
use borrow.Author.Tests.{eqb-true, eqb-false, eq-eqb, ne_eqb}
use Rattle.index_table.specs.Pages.{record_of}
use Rattle.index_table.specs.Answers.{answer_of}
use Rattle.index_table.specs.declared.layout.RecordNo.{RecordNo}
use Rattle.index_table.specs.declared.layout.Answer.{Answer}
use Rattle.index_table.specs.declared.layout.Answer.TheVariants.{Live, Dummy}

-- NIL is no record; any other pointer is one.
pub record_nil : {p : ℕ} → p ≡ 65535 → record_of 65535 p ≡ none
record_nil {p} h = rw (eq-eqb p 65535 h)

pub record_live : {p : ℕ} → p ≢ 65535 → record_of 65535 p ≡ some p
record_live {p} h = rw (ne_eqb p 65535 h)

-- What the answer says of the pointer.
pub dummy_pointer : (a : Answer) (p : ℕ) → a ≡ answer_of p → a ≡ Dummy → p ≡ 65535
dummy_pointer a p e q = go (eqb p 65535) refl e
  where
    go : (t : Bool) → eqb p 65535 ≡ t → a ≡ cond t Dummy (Live (record { 0 = p })) → p ≡ 65535
    go true h e = eqb-true p 65535 h
    go false h e = absurd (let z : ◌≡◌ {A = ℕ} 0 1 = cc in omega arith)

pub live_pointer : (a : Answer) (p : ℕ) (x : RecordNo) → a ≡ answer_of p → a ≡ Live x → (p ≢ 65535) × (p ≡ x.0)
live_pointer a p x e q = go (eqb p 65535) refl e
  where
    go : (t : Bool) → eqb p 65535 ≡ t → a ≡ cond t Dummy (Live (record { 0 = p })) → (p ≢ 65535) × (p ≡ x.0)
    go true h e = absurd (let z : ◌≡◌ {A = ℕ} 0 1 = cc in omega arith)
    go false h e =
        let same : record { 0 = p } ≡ x = cc in
        (eqb-false p 65535 h, ap (λ (y : RecordNo). y.0) same)
