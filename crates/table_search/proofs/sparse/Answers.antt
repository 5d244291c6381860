-- Four times the page's count beside what it may hold. Assumes nothing.
use mathlib.Core.Path.{sym, ap₂, ◌∙◌}
use Prim.Native.Nat.{ℕ, ◌*◌}
use lib.Dec.{ltb}
use Rattle.index_table.proofs.PageRows.{length_refs}
use Rattle.table_search.proofs.sparse.Goals as goal

pub returns : goal.returns
returns c =
    ap₂ (λ (k l : ℕ). ltb (4 * k) l) (c.from.ensures ∙ c.count.ensures ∙ sym (length_refs _ _)) c.from-2.ensures
