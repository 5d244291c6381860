-- Two keys agree in no bits. Assumes nothing.
use mathlib.Core.Path.{sym, ap, ◌∙◌}
use Prim.Native.Nat.{ℕ}
use Rattle.std.specs.Prelude.{eqb}
use Rattle.leaf_list.proofs.KeyLaws.{agree_none}
use Rattle.leaf_list.proofs.agree.Goals as goal

pub returns-then-l-eq0 : goal.returns-then-l-eq0
returns-then-l-eq0 c =
    ap (λ (k : ℕ). eqb k 0) c.if-l-eq0.true ∙ sym (agree_none _ _ _ _ c.if-l-eq0.true c.requires.2 c.requires.3)
