-- Only a live leaf yields a record, and its key is compared whole. Assumes nothing.
use mathlib.Core.Path.{◌≡◌, sym, ap, subst, ◌∙◌}
use mathlib.Core.Logic.{◌≢◌}
use Prim.Native.Nat.{ℕ, ◌<◌}
use native.Mathlib.Omega.{arith}
use lib.ListN.{length, get_or}
use Rattle.index_table.proofs.Pointers.{dummy_pointer, live_pointer}
use Rattle.table_find.specs.Answers.{with_record}
use Rattle.table_find.proofs.FoundLeaves.{dummy_absent, other_absent, live_found, live_inside}
use Rattle.table_find.proofs.find.find_held.Goals as goal

-- What is known of a live pointer that was read off a number.
live-number : {p q x : ℕ} → p ≡ q → (p ≢ 65535) × (p ≡ x) → (q ≢ 65535) × (q ≡ x)
live-number z live = (λ y. live.0 (z ∙ y), sym z ∙ live.1)

pub returns-in_default : goal.returns-in_default
returns-in_default c =
    dummy_absent c.requires.0 _ c.requires.1 _ c.found_number.ensures
    (sym c.number_pointer-pointer.ensures ∙ dummy_pointer _ _ c.answer_of.ensures c.in_default.is)

pub bounds-keys-at : goal.bounds-keys-at
bounds-keys-at c =
    let live = live-number c.number_pointer-pointer.ensures (live_pointer _ _ _ c.answer_of.ensures c.in-Live.is) in
    subst (λ (n : ℕ). n < length c.args.keys.now) live.1 (live_inside c.requires.0 _ c.requires.1 _ c.found_number.ensures live.0)

pub returns-then-keys-at : goal.returns-then-keys-at
returns-then-keys-at c =
    let live = live-number c.number_pointer-pointer.ensures (live_pointer _ _ _ c.answer_of.ensures c.in-Live.is) in
    other_absent c.requires.0 _ c.requires.1 _ c.found_number.ensures live.0 (subst (λ (n : ℕ). get_or c.args.keys.now n 0 ≡ c.args.key → ⊥) (sym live.1) (λ q. omega arith))

pub returns : goal.returns
returns c =
    let live = live-number c.number_pointer-pointer.ensures (live_pointer _ _ _ c.answer_of.ensures c.in-Live.is) in
    ap with_record (sym live.1)
    ∙ live_found c.requires.0 _ c.requires.1 _ c.found_number.ensures live.0 (subst (λ (n : ℕ). get_or c.args.keys.now n 0 ≡ c.args.key) (sym live.1) (omega arith))
