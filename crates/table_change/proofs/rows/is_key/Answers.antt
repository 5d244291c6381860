-- A record with the key. Assumes nothing.
use mathlib.Core.Path.{◌≡◌, subst}
use mathlib.Core.Logic.{◌≢◌}
use mathlib.Core.Bool.{false}
use mathlib.Core.List.{List}
use Prim.Native.Nat.{ℕ, ◌<◌}
use borrow.Author.Tests.{eq-eqb, ne_eqb}
use lib.Dec.{eqb}
use lib.ListN.{length, get_or}
use Rattle.index_table.proofs.Pointers.{dummy_pointer, live_pointer}
use Rattle.table_change.specs.News.{key_is}
use Rattle.table_change.proofs.rows.is_key.Goals as goal

dummy-key : (keys : List ℕ) (pointer key : ℕ) → pointer ≡ 65535 → false ≡ key_is keys pointer key
dummy-key keys pointer key e = rw (eq-eqb pointer 65535 e)

live-key : (keys : List ℕ) (pointer r key : ℕ) → pointer ≢ 65535 → pointer ≡ r → eqb (get_or keys r 0) key ≡ key_is keys pointer key
live-key keys pointer r key n e = rw (ne_eqb pointer 65535 n, e)

-- src/rows.rt:38:9
pub returns-in_default : goal.returns-in_default
returns-in_default c =
    dummy-key c.args.keys.now c.args.pointer c.args.key (dummy_pointer _ _ c.answer_of.ensures c.in_default.is)

-- src/rows.rt:41:5
pub bounds-keys-at : goal.bounds-keys-at
bounds-keys-at c =
    let live = live_pointer _ _ _ c.answer_of.ensures c.in-Live.is in
    subst (λ (n : ℕ). n < length c.args.keys.now) live.1 (c.requires live.0)

-- src/rows.rt:33:1
pub returns : goal.returns
returns c =
    let live = live_pointer _ c.args.pointer _ c.answer_of.ensures c.in-Live.is in
    live-key c.args.keys.now c.args.pointer _ c.args.key live.0 live.1
