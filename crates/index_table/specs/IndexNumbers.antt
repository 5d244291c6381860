-- The header's numbers, as the code holds them. Assumes nothing.
use Rattle.std.specs.Prelude.{◌≡◌, List, ℕ}
use Rattle.index_table.specs.Header.{width_of, entries_of, pages_of, root_of, held_of}
use Rattle.index_table.specs.declared.header.Index.{Index}

pub record IndexOf (b : List ℕ) (h : Index) : Type 0 where
  pub width : h.width ≡ width_of b
  pub entries : h.entries ≡ entries_of b
  pub pages : h.pages ≡ pages_of b
  pub root : h.root.0 ≡ root_of b
  pub held : h.held ≡ held_of b
