-- A key that is taken out: row 6, or the leaf that points at its record. Assumes nothing.
use mathlib.Core.Path.{◌≡◌, refl, sym, ap, ◌∙◌}
use mathlib.Core.Bool.{Bool, true, false, cond}
use mathlib.Core.Logic.{◌≢◌}
use mathlib.Core.Option.{some}
use mathlib.Core.List.{List}
use Prim.Native.Nat.{ℕ, ◌^◌, ◌<◌}
use native.Mathlib.Omega.{arith}
use lib.Dec.{eqb}
use lib.ListN.{length}
use borrow.Author.Tests.{eqb-true, eqb-false, leb-false}
use Rattle.leaf_list.specs.Herd.{lookup}
use Rattle.leaf_list.specs.Register.{key_at, herd_of}
use Rattle.index_table.specs.Header.{width_of}
use Rattle.index_table.specs.Soundness.{Sound}
use Rattle.table_search.specs.declared.Leaf.{Leaf}
use Rattle.table_find.specs.Answers.{with_record}
use Rattle.table_find.specs.Places.{FoundLeaf}
use Rattle.table_find.proofs.FoundLeaves.{live_found, live_inside}
use Rattle.table_change.specs.Changes.{too_wide, off_row_of}
use Rattle.table_change.specs.News.{key_is}
use Rattle.table_change.specs.FoundKeys.{HeldKey}
use Rattle.table_change.proofs.FoundEntries.{held_is}
use Rattle.table_change.proofs.RowChoice.{find_found, off_absent, off_held}

module _ {index keys used : List ℕ} {key : ℕ} (s : Sound index keys used) (wide : too_wide (width_of index) key ≡ false) where
  -- The key is not too wide.
  pub narrow : key < 2 ^ width_of index
  narrow = leb-false _ _ wide

  module _ (leaf : Leaf) (at : FoundLeaf index keys used key leaf) where
    -- A live entry's record is one of the register.
    pub inside : leaf.pointer ≢ 65535 → leaf.pointer < length keys
    inside = live_inside s key narrow leaf at

    module _ {t : Bool} (is : t ≡ key_is keys leaf.pointer key) where
      -- Row 6.
      pub row_six : t ≡ false → off_row_of index keys used key ≡ 6
      row_six e = off_absent index keys used key wide (held_is s key narrow leaf at ∙ sym is ∙ e)

      -- No row declines it.
      pub row_none : t ≡ true → off_row_of index keys used key ≡ 0
      row_none e = off_held index keys used key wide (held_is s key narrow leaf at ∙ sym is ∙ e)

      found_at : t ≡ true → lookup key (herd_of keys used) ≡ some leaf.pointer
      found_at e = go (eqb leaf.pointer 65535) (eqb (key_at keys leaf.pointer) key) refl refl (sym is ∙ e)
        where
          go : (u v : Bool) → eqb leaf.pointer 65535 ≡ u → eqb (key_at keys leaf.pointer) key ≡ v → cond u false v ≡ true → lookup key (herd_of keys used) ≡ some leaf.pointer
          go true v a c z = absurd (let y : ◌≡◌ {A = ℕ} 0 1 = ap (λ (b : Bool). cond b 1 0) z in omega arith)
          go false true a c z =
              (find_found (lookup key (herd_of keys used)) (with_record leaf.pointer) (live_found s key narrow leaf at (eqb-false leaf.pointer 65535 a) (eqb-true (key_at keys leaf.pointer) key c)) refl).0
          go false false a c z = absurd (let y : ◌≡◌ {A = ℕ} 0 1 = ap (λ (b : Bool). cond b 1 0) z in omega arith)

      -- The leaf points at the key's record.
      pub held_key : t ≡ true → HeldKey index keys used key leaf
      held_key e = record { sound = s; narrow = narrow; place = at; found = found_at e }
