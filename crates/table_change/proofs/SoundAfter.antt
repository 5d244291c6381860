-- On and off keep the tables sound, and add or remove a key of their herd (01, "On level 0, read left to right, stands the leaf list of the register"). Assumes nothing.
use mathlib.Core.Path.{◌≡◌, refl, ap, sym, subst, ◌∙◌}
use mathlib.Core.Logic.{◌≢◌, inl, inr}
use mathlib.Core.Bool.{Bool, true, false}
use mathlib.Core.Option.{none, some}
use mathlib.Core.List.{List}
use Prim.Native.Nat.{ℕ, suc, ◌-◌, ◌^◌, ◌<◌}
use native.Mathlib.Omega.{arith}
use lib.Dec.{eqb}
use lib.ListN.{length, get_or, set, length-set}
use lib.Seq.{get_or-set_same, get_or-set_other}
use borrow.Author.Tests.{eqb-true, eqb-false, eq-eqb}
use Rattle.leaf_list.specs.Herd.{Herd, lookup, add, remove}
use Rattle.leaf_list.specs.LeafList.{leaf_list}
use Rattle.leaf_list.specs.Depths.{LeafDepths}
use Rattle.leaf_list.specs.Register.{key_at, in_use, herd_of}
use Rattle.leaf_list.proofs.HerdLaws.{length_add, length_remove, lookup_absent, narrow_remove, sorted_remove}
use Rattle.leaf_list.proofs.Laws.{depths_law}
use Rattle.leaf_list.proofs.RegisterChange.{herd_of_set, herd_of_clear}
use Rattle.leaf_list.proofs.RegisterHerd.{herd_of_holds, herd_of_length, holds_lookup, lookup_holds}
use Rattle.page_tree.specs.Tree.{leaves_of}
use Rattle.page_tree.specs.Rows.{All}
use Rattle.page_tree.specs.OnPages.{on_tree}
use Rattle.page_tree.specs.CutRows.{RightPlace, on_rows_cut}
use Rattle.page_tree.specs.OffPages.{off_tree}
use Rattle.page_tree.specs.Numbered.{tree_aside, on_numbered, off_numbered}
use Rattle.page_tree.proofs.HerdPages.{HerdTree, on_pages, on_places, off_pages}
use Rattle.page_tree.proofs.NumberedLaws.{on_aside, off_aside}
use Rattle.index_table.specs.Layout.{layout_of}
use Rattle.index_table.specs.Header.{width_of, entries_of, pages_of, root_of, held_of, HeaderFrom}
use Rattle.index_table.specs.Pages.{pages_at}
use Rattle.index_table.specs.Soundness.{SoundRecord, SoundRegister, SoundPages, Sound, root_level, tree_of, numbered_tree_of, leaf_entries}
use Rattle.index_table.proofs.NumberedPages.{tree_aside_lem}
use Rattle.index_table.proofs.SoundTables.{herd_narrow, herd_sorted, herd_keys, herd_held, tree_sound, root_rule, in_use_inside}

-- ---- the register

-- One record of a sound register changed: the others are as they were.
module _ (w : ℕ) (keys used : List ℕ) (r key byte : ℕ) (sound : SoundRegister w keys used) (long : length keys ≡ length used) (inside : r < length used)
    (here : SoundRecord w key byte) (apart : byte ≡ 1 → (j : ℕ) → j ≢ r → get_or used j 0 ≡ 1 → get_or keys j 0 ≢ key) where
  key_here : get_or (set keys r key) r 0 ≡ key
  key_here = get_or-set_same keys r key 0 (omega arith)

  byte_here : get_or (set used r byte) r 0 ≡ byte
  byte_here = get_or-set_same used r byte 0 inside

  key_there : (j : ℕ) → j ≢ r → get_or (set keys r key) j 0 ≡ get_or keys j 0
  key_there j n = get_or-set_other keys r j key 0 n

  byte_there : (j : ℕ) → j ≢ r → get_or (set used r byte) j 0 ≡ get_or used j 0
  byte_there j n = get_or-set_other used r j byte 0 n

  each : (j : ℕ) → j < length used → (t : Bool) → eqb j r ≡ t → SoundRecord w (get_or (set keys r key) j 0) (get_or (set used r byte) j 0)
  each j h true e = rw (eqb-true j r e, key_here, byte_here) here
  each j h false e = rw (key_there j (eqb-false j r e), byte_there j (eqb-false j r e)) (sound.records j h)

  one : (i j : ℕ) → get_or (set used r byte) i 0 ≡ 1 → get_or (set used r byte) j 0 ≡ 1 → get_or (set keys r key) i 0 ≡ get_or (set keys r key) j 0
      → (t u : Bool) → eqb i r ≡ t → eqb j r ≡ u → i ≡ j
  one i j p q e true true x y = eqb-true i r x ∙ sym (eqb-true j r y)
  one i j p q e true false x y =
      let n : j ≢ r = eqb-false j r y in
      let z : i ≡ r = eqb-true i r x in
      absurd
      (apart (sym byte_here ∙ ap (λ (k : ℕ). get_or (set used r byte) k 0) (sym z) ∙ p) j n (sym (byte_there j n) ∙ q)
      (sym (key_there j n) ∙ sym e ∙ ap (λ (k : ℕ). get_or (set keys r key) k 0) z ∙ key_here))
  one i j p q e false true x y =
      let n : i ≢ r = eqb-false i r x in
      let z : j ≡ r = eqb-true j r y in
      absurd
      (apart (sym byte_here ∙ ap (λ (k : ℕ). get_or (set used r byte) k 0) (sym z) ∙ q) i n (sym (byte_there i n) ∙ p)
      (sym (key_there i n) ∙ e ∙ ap (λ (k : ℕ). get_or (set keys r key) k 0) z ∙ key_here))
  one i j p q e false false x y =
      let m : i ≢ r = eqb-false i r x in
      let n : j ≢ r = eqb-false j r y in
      sound.distinct i j (sym (byte_there i m) ∙ p) (sym (byte_there j n) ∙ q) (sym (key_there i m) ∙ e ∙ key_there j n)

  -- The register is sound with a sound record whose key no other record in use has.
  pub register_changed : SoundRegister w (set keys r key) (set used r byte)
  register_changed = record {
    records = λ j h. each j (rw (length-set used r byte) at h) (eqb j r) refl;
    distinct = λ i j p q e. one i j p q e (eqb i r) (eqb j r) refl refl;
  }

-- ---- the tables

-- What is read from the root down, page numbers aside.
pub numbered_tree : (index : List ℕ) → tree_aside (numbered_tree_of index) ≡ tree_of index
numbered_tree index = tree_aside_lem 65535 (pages_at (layout_of (entries_of index)) index) (root_level index) (root_of index)

-- The trees that on and off leave, page numbers aside.
pub on_tree_lem : (index index₁ : List ℕ) (fresh : ℕ → List ℕ) (w E : ℕ) (key_of : ℕ → ℕ) (key r : ℕ)
    → numbered_tree_of index₁ ≡ on_numbered E fresh w key_of key r (numbered_tree_of index) → tree_of index₁ ≡ on_tree w E key_of key r (tree_of index)
on_tree_lem index index₁ fresh w E key_of key r tree =
    sym (numbered_tree index₁) ∙ ap tree_aside tree ∙ on_aside E fresh w key_of key r (numbered_tree_of index) ∙ ap (on_tree w E key_of key r) (numbered_tree index)

pub off_tree_lem : (index index₁ : List ℕ) (w E key : ℕ) → numbered_tree_of index₁ ≡ off_numbered w E key (numbered_tree_of index)
    → tree_of index₁ ≡ off_tree w E key (tree_of index)
off_tree_lem index index₁ w E key tree =
    sym (numbered_tree index₁) ∙ ap tree_aside tree ∙ off_aside w E key (numbered_tree_of index) ∙ ap (off_tree w E key) (numbered_tree index)

module _ {index keys used : List ℕ} (s : Sound index keys used) where
  -- The tree of sound tables is one over the leaf list of their herd.
  pub herd_tree : HerdTree (width_of index) (entries_of index) (herd_of keys used) (tree_of index)
  herd_tree = record { sound = tree_sound s; root = root_rule s; level0 = s.leaves }

  -- Tables with another root and other records held are sound by what differs.
  sound_changed : (held : ℕ) (index₁ : List ℕ) (r key byte : ℕ) → HeaderFrom index index₁ (root_of index₁) held → length index₁ ≡ length index
      → SoundPages (layout_of (entries_of index)) (pages_of index) index₁ (root_level index₁) (root_of index₁)
      → SoundRegister (width_of index) (set keys r key) (set used r byte)
      → leaf_entries index₁ ≡ leaf_list (width_of index) (herd_of (set keys r key) (set used r byte))
      → held ≡ length (herd_of (set keys r key) (set used r byte))
      → Sound index₁ (set keys r key) (set used r byte)
  sound_changed held index₁ r key byte header long pages register leaves count = record {
    limits = rw (header.width, header.entries, header.pages, length-set used r byte) s.limits;
    lengths =
        rw (header.entries, header.pages)
        (record { table = long ∙ s.lengths.table; register = length-set keys r key ∙ s.lengths.register ∙ sym (length-set used r byte) });
    spare = rw header.spare s.spare;
    register = rw header.width register;
    pages =
        subst (λ (e : ℕ). SoundPages (layout_of e) (pages_of index₁) index₁ (root_level index₁) (root_of index₁)) (sym header.entries)
        (subst (λ (p : ℕ). SoundPages (layout_of (entries_of index)) p index₁ (root_level index₁) (root_of index₁)) (sym header.pages) pages);
    leaves = leaves ∙ ap (λ (w : ℕ). leaf_list w (herd_of (set keys r key) (set used r byte))) (sym header.width);
    held = header.held ∙ count ∙ herd_of_length (set keys r key) (set used r byte);
  }

  -- ---- on

  -- "In every row that insertion cuts, the place found is 01's": in all sound tables, and any history leaves such.
  pub places_sound : (key r : ℕ) → key < 2 ^ width_of index → lookup key (herd_of keys used) ≡ none
      → All RightPlace (on_rows_cut (width_of index) (entries_of index) (key_at keys) key r (tree_of index))
  places_sound key r narrow absent =
      on_places (width_of index) (entries_of index) (herd_of keys used) (tree_of index) (herd_narrow s) (herd_sorted s) herd_tree (key_at keys) key r narrow (herd_keys s)
      absent s.limits.entries_low

  module _ (key r : ℕ) (inside : r < length used) (free : in_use used r ≡ false) (absent : lookup key (herd_of keys used) ≡ none) where
    -- The herd has the key more.
    pub herd_on : herd_of (set keys r key) (set used r 1) ≡ add key r (herd_of keys used)
    herd_on = herd_of_set keys used r key s.lengths.register inside free (lookup_absent key (herd_of keys used) absent)

    -- No record in use has it before.
    no_other : (j : ℕ) → get_or used j 0 ≡ 1 → get_or keys j 0 ≢ key
    no_other j u e =
        let h : lookup key (herd_of keys used) ≡ some j =
        holds_lookup key j (herd_of keys used) (herd_sorted s) ((herd_of_holds keys used key j).1 (eq-eqb (get_or used j 0) 1 u, e)) in
        absurd (let z : ◌≡◌ {A = ℕ} 0 1 = cc in omega arith)

    -- A done on leaves sound tables.
    pub on_keeps_sound : (index₁ : List ℕ) (fresh : ℕ → List ℕ) → key < 2 ^ width_of index
        → HeaderFrom index index₁ (root_of index₁) (suc (held_of index)) → length index₁ ≡ length index
        → SoundPages (layout_of (entries_of index)) (pages_of index) index₁ (root_level index₁) (root_of index₁)
        → numbered_tree_of index₁ ≡ on_numbered (entries_of index) fresh (width_of index) (key_at keys) key r (numbered_tree_of index)
        → Sound index₁ (set keys r key) (set used r 1)
    on_keeps_sound index₁ fresh narrow header long pages tree =
        sound_changed (suc (held_of index)) index₁ r key 1 header long pages
        (register_changed (width_of index) keys used r key 1 s.register s.lengths.register inside
        (record { byte = inr refl; free = λ z. absurd (omega (arith, z)); narrow = λ z. narrow }) (λ z j n u. no_other j u))
        (ap leaves_of (on_tree_lem index index₁ fresh w E (key_at keys) key r tree)
        ∙ (on_pages w E herd (tree_of index) (herd_narrow s) (herd_sorted s) herd_tree (key_at keys) key r narrow (herd_keys s) absent s.limits.entries_low).level0
        ∙ ap (leaf_list w) (sym herd_on))
        (ap suc (sym (herd_held s)) ∙ sym (length_add key r herd) ∙ ap length (sym herd_on))
      where
        w : ℕ
        w = width_of index

        E : ℕ
        E = entries_of index

        herd : Herd
        herd = herd_of keys used

  -- ---- off

  module _ (key r : ℕ) (found : lookup key (herd_of keys used) ≡ some r) where
    -- The record is in use and has the key.
    pub found_record : (in_use used r ≡ true) × (key_at keys r ≡ key)
    found_record = (herd_of_holds keys used key r).0 (lookup_holds key r (herd_of keys used) found)

    -- The herd has the key no more.
    pub herd_off : herd_of (set keys r 0) (set used r 0) ≡ remove key (herd_of keys used)
    herd_off = herd_of_clear keys used r key found_record.0 found_record.1 (herd_sorted s)

    -- On level 0 the pages have the leaf list of the herd without the key,
    pub off_leaves : key < 2 ^ width_of index → leaves_of (off_tree (width_of index) (entries_of index) key (tree_of index)) ≡ leaf_list (width_of index) (remove key (herd_of keys used))
    off_leaves narrow = (off_pages (width_of index) (entries_of index) (herd_of keys used) (tree_of index) (herd_narrow s) (herd_sorted s) herd_tree key r narrow found).level0

    -- so that their depths are those of a leaf list.
    pub off_depths : key < 2 ^ width_of index → LeafDepths (width_of index) (leaves_of (off_tree (width_of index) (entries_of index) key (tree_of index)))
    off_depths narrow =
        subst (LeafDepths (width_of index)) (sym (off_leaves narrow))
        (depths_law (width_of index) (remove key (herd_of keys used)) (narrow_remove (width_of index) key (herd_of keys used) (herd_narrow s)) (sorted_remove key (herd_of keys used) (herd_sorted s)))

    -- A done off leaves sound tables.
    pub off_keeps_sound : (index₁ : List ℕ) → key < 2 ^ width_of index
        → HeaderFrom index index₁ (root_of index₁) (held_of index - 1) → length index₁ ≡ length index
        → SoundPages (layout_of (entries_of index)) (pages_of index) index₁ (root_level index₁) (root_of index₁)
        → numbered_tree_of index₁ ≡ off_numbered (width_of index) (entries_of index) key (numbered_tree_of index)
        → Sound index₁ (set keys r 0) (set used r 0)
    off_keeps_sound index₁ narrow header long pages tree =
        sound_changed (held_of index - 1) index₁ r 0 0 header long pages
        (register_changed (width_of index) keys used r 0 0 s.register s.lengths.register (in_use_inside s r found_record.0)
        (record { byte = inl refl; free = λ z. refl; narrow = λ z. absurd (omega (arith, z)) }) (λ z. absurd (omega (arith, z))))
        (ap leaves_of (off_tree_lem index index₁ w E key tree)
        ∙ off_leaves narrow
        ∙ ap (leaf_list w) (sym herd_off))
        (omega (arith, herd_held s, length_remove key r herd found) ∙ ap length (sym herd_off))
      where
        w : ℕ
        w = width_of index

        E : ℕ
        E = entries_of index

        herd : Herd
        herd = herd_of keys used
