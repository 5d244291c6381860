-- What is left of one entry, and what is asked of the entry before it. Assumes nothing.
use Rattle.std.specs.Prelude.{◌≡◌, List, [], ◌∷◌, map, ℕ, ◌≤◌, ◌<◌, Option, Some, None}
use Rattle.leaf_list.specs.Entries.{Entry}
use Rattle.page_tree.specs.declared.Entry.{Entry as Stored}
use Rattle.page_tree.specs.Rows.{All}
use Rattle.page_tree.specs.OffPages.{Left}
use Rattle.page_tree.specs.declared.Unwind.{Unwind}
use Rattle.page_tree.specs.declared.Unwind.TheVariants.{Idle, Give, Clear}
use Rattle.index_table.specs.Layout.{Ref}
use Rattle.index_table.specs.Pages.{leaf_of}
use Rattle.entry_delete.specs.declared.Remnant.{Remnant}

-- The entry that is left, if one is.
abbrev pub entries_of : Option Stored → List Ref
entries_of None = []
entries_of (Some x) = (x.depth, x.pointer) ∷ []

abbrev pub parts : Remnant → List Ref
parts r = entries_of r.left

-- On level 0: what is left of an entry of the leaf list, with a pointer that fits its two bytes.
pub record Turned (r : Remnant) (o : Left Entry) : Type 0 where
  pub entries : map (leaf_of 65535) (parts r) ≡ o.0
  pub state : r.state ≡ o.1
  pub fits : All (λ (x : Ref). x.1 < 65536) (parts r)

-- What is asked changes no entry of depth τ: nothing is, or that dummies go which are deeper than a depth that is not below τ.
abbrev pub Calm : ℕ → Unwind → Type 0
Calm τ Idle = Unit {0}
Calm τ (Give d) = ⊥
Calm τ (Clear g) = τ ≤ g
