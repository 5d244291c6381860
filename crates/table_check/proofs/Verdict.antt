-- The parts that the check asks one after the other make the tables sound, and sound tables have them. Assumes nothing.
use mathlib.Core.Path.{◌≡◌, refl, sym, subst, ◌∙◌}
use mathlib.Core.Logic.{◌↔◌, ◌⊎◌, inl, inr}
use mathlib.Core.Bool.{Bool, true, false, true≢false}
use mathlib.Core.List.{List}
use Prim.Native.Nat.{ℕ, ◌^◌, ◌<◌}
use native.Mathlib.Omega.{arith}
use lib.Dec.{ltb}
use lib.ListN.{length, get_or, get_or-eq_default}
use borrow.Author.Tests.{eqb-true, eq-eqb, ltb-true, ltb-false}
use Rattle.leaf_list.specs.Herd.{Sorted}
use Rattle.leaf_list.specs.LeafList.{leaf_list}
use Rattle.leaf_list.specs.Register.{key_at, in_use, herd_of, count_in_use}
use Rattle.leaf_list.specs.Conditions.{start, run, passes}
use Rattle.leaf_list.proofs.Check.{check_law}
use Rattle.leaf_list.proofs.RegisterChange.{herd_of_sorted}
use Rattle.index_table.specs.Header.{width_of, entries_of, pages_of, root_of, held_of}
use Rattle.index_table.specs.IndexNumbers.{IndexOf}
use Rattle.index_table.specs.Soundness.{Sound, leaf_entries}
use Rattle.index_table.specs.declared.header.Index.{Index}
use Rattle.bytes_check.specs.Scans.{SoundRecords, HeaderFits}
use Rattle.table_check.specs.Trees.{TreePre, PagesSound}
use Rattle.leaf_check.proofs.EntryTests.{beyond_free}

-- ---- the register

-- Sound records are narrow, those past the register's end too.
pub narrow_records : (w : ℕ) (keys used : List ℕ) → SoundRecords w keys used → (r : ℕ) → in_use used r ≡ true → key_at keys r < 2 ^ w
narrow_records w keys used s r u = go (ltb r (length used)) refl
  where
    go : (t : Bool) → ltb r (length used) ≡ t → key_at keys r < 2 ^ w
    go true e = (s r (ltb-true r (length used) e)).narrow (eqb-true (get_or used r 0) 1 u)
    go false e = absurd (true≢false (sym u ∙ beyond_free used r (ltb-false r (length used) e)))

-- The key of a free record is 0.
pub free_records : (w : ℕ) (keys used : List ℕ) → length keys ≡ length used → SoundRecords w keys used → (r : ℕ) → in_use used r ≡ false → key_at keys r ≡ 0
free_records w keys used long s r u = go (ltb r (length used)) refl
  where
    byte : (get_or used r 0 ≡ 0) ⊎ (get_or used r 0 ≡ 1) → get_or used r 0 ≡ 0
    byte (inl e) = e
    byte (inr e) = absurd (true≢false (sym (eq-eqb (get_or used r 0) 1 e) ∙ u))

    go : (t : Bool) → ltb r (length used) ≡ t → key_at keys r ≡ 0
    go true e = let a = s r (ltb-true r (length used) e) in a.free (byte a.byte)
    go false e = get_or-eq_default keys 0 (omega (arith, long, ltb-false r (length used) e))

-- "No two records in use have one key", as soundness and as the leaf list has it.
pub distinct_keys : (keys used : List ℕ) → ((r s : ℕ) → get_or used r 0 ≡ 1 → get_or used s 0 ≡ 1 → get_or keys r 0 ≡ get_or keys s 0 → r ≡ s) ↔ Sorted (herd_of keys used)
distinct_keys keys used = (
  (λ f. (herd_of_sorted keys used).1 (λ r s p q e. f r s (eqb-true (get_or used r 0) 1 p) (eqb-true (get_or used s 0) 1 q) e)),
  (λ o r s p q e. (herd_of_sorted keys used).0 o r s (eq-eqb (get_or used r 0) 1 p) (eq-eqb (get_or used s 0) 1 q) e),
)

-- ---- the header as it was read

-- The numbers of a table's header.
abbrev pub index_of : List ℕ → Index
index_of b = record { width = width_of b; entries = entries_of b; pages = pages_of b; root = record { 0 = root_of b }; held = held_of b }

same_index : {w w' e e' p p' o o' k k' : ℕ} → w ≡ w' → e ≡ e' → p ≡ p' → o ≡ o' → k ≡ k'
    → ◌≡◌ {A = Index} (record { width = w; entries = e; pages = p; root = record { 0 = o }; held = k }) (record { width = w'; entries = e'; pages = p'; root = record { 0 = o' }; held = k' })
same_index a b c d f = rw (a, b, c, d, f)

-- They are what was read from it.
pub index_read : (b : List ℕ) (h : Index) → IndexOf b h → index_of b ≡ h
index_read b h r = same_index (sym r.width) (sym r.entries) (sym r.pages) (sym r.root) (sym r.held)

-- ---- the parts together

module _ (index keys used : List ℕ) where
  -- Once the header and the records are in order and the records held are counted, the pages decide.
  module _ (long : length keys ≡ length used) (header : HeaderFits index (length used)) (records : SoundRecords (width_of index) keys used) where
    read_pre : TreePre (index_of index) index keys used
    read_pre = record { table = header.table; width = header.limits.width_high; register = record { long = long; few = header.limits.records_high; narrow = narrow_records (width_of index) keys used records; free = free_records (width_of index) keys used long records } }

    read_sound : held_of index ≡ count_in_use used → PagesSound (index_of index) index keys used ↔ Sound index keys used
    read_sound held = (
      (λ p.
          let l = law.0 p.leaves in
          record {
            limits = header.limits;
            lengths = record { table = header.table; register = long };
            spare = header.spare;
            register = record { records = records; distinct = (distinct_keys keys used).1 l.1 };
            pages = p.pages;
            leaves = l.0;
            held = held;
          }),
      (λ s. record { pages = s.pages; leaves = law.1 (s.leaves, (distinct_keys keys used).0 s.register.distinct) }),
    )
      where
        law : (passes (run (width_of index) (key_at keys) (in_use used) start (leaf_entries index)) (held_of index) ≡ true)
            ↔ ((leaf_entries index ≡ leaf_list (width_of index) (herd_of keys used)) × Sorted (herd_of keys used))
        law =
            subst
            (λ (n : ℕ). (passes (run (width_of index) (key_at keys) (in_use used) start (leaf_entries index)) n ≡ true) ↔ ((leaf_entries index ≡ leaf_list (width_of index) (herd_of keys used)) × Sorted (herd_of keys used)))
            (sym held) (check_law (width_of index) keys used (narrow_records (width_of index) keys used records) (leaf_entries index))

    module _ (h : Index) (r : IndexOf index h) where
      -- The pages decide.
      pub sound_pages : h.held ≡ count_in_use used → PagesSound h index keys used ↔ Sound index keys used
      sound_pages held = subst (λ (i : Index). PagesSound i index keys used ↔ Sound index keys used) (index_read index h r) (read_sound (sym r.held ∙ held))
