-- The tables that format makes are sound, with no key held. Assumes nothing.
use mathlib.Core.Path.{◌≡◌, refl, sym, ap, subst, ◌∙◌}
use mathlib.Core.Logic.{inl}
use mathlib.Core.Bool.{Bool, true, cond}
use mathlib.Core.Option.{none}
use mathlib.Core.List.{List, [], ◌∷◌, ◌++◌}
use Prim.Native.Nat.{ℕ, zero, suc, ◌+◌, ◌*◌, ◌-◌, ◌≤◌}
use native.Mathlib.Omega.{arith}
use native.Mathlib.Nat.{suc-mul}
use lib.Dec.{eqb-zero-suc}
use lib.ListN.{length, get_or, take, drop, replicate, length-append, length-replicate}
use Rattle.leaf_list.specs.Entries.{entry}
use Rattle.leaf_list.specs.LeafList.{leaf_list}
use Rattle.leaf_list.specs.Register.{key_at, herd_from, herd_of, count_in_use}
use Rattle.leaf_list.proofs.Laws.{empty_law}
use Rattle.page_tree.specs.Tree.{leaves_of, leaves as Leaves-of}
use Rattle.byte_moves.specs.Over.{over}
use Rattle.byte_moves.proofs.OverLaws.{over_append, length_over}
use Rattle.index_table.specs.Bytes.{AllZero}
use Rattle.index_table.specs.Layout.{Ref, layout_of, page_size, page_start, page_bytes, level_of, refs_of, Within, Fitting, row_page, store}
use Rattle.index_table.specs.Header.{width_of, root_of, held_of, header_bytes, HeaderFrom}
use Rattle.index_table.specs.Pages.{pages_at, node_at, met, met_all, same, in_use, tree_at}
use Rattle.index_table.specs.Soundness.{Limits, SoundRegister, Cleared, SoundPages, Sound}
use Rattle.index_table.proofs.PageBytes.{within_table, page_stored, other_page, length_store}
use Rattle.index_table.proofs.PageRows.{length_page_of}
use Rattle.index_table.proofs.Frames.{stored_refs}
use Rattle.index_write.proofs.HeaderLaws.{HeaderIs, length_header, header_written, store_header, page_behind}
use Rattle.index_write.proofs.StoredRows.{all_zeros, zeros_all, zeros_refs, zeros_cleared, HeadOf, row_page_head, page_of_cleared, stored_node, stored_meets, stored_sound}
use Rattle.table_find.specs.declared.answer.Answer.{Answer}
use Rattle.table_format.specs.Format.{format_fits, empty_table, FormatDoes}
use Rattle.table_format.proofs.EmptyTables.{over_zeros}
use Rattle.table_format.proofs.FormatLimits.{FormatFit, fits_says}

-- ---- the register

-- Past its end or not, a place of zeros reads 0.
zeros_read : (n i : ℕ) → get_or {A = ℕ} (replicate n 0) i 0 ≡ 0
zeros_read zero i = refl
zeros_read (suc n) zero = refl
zeros_read (suc n) (suc i) = zeros_read n i

free_herd : (key_of : ℕ → ℕ) (r n : ℕ) → herd_from key_of r (replicate n 0) ≡ []
free_herd key_of r zero = refl
free_herd key_of r (suc n) = free_herd key_of (suc r) n

free_count : (n : ℕ) → count_in_use (replicate n 0) ≡ 0
free_count zero = refl
free_count (suc n) = free_count n

free_register : (w n : ℕ) → SoundRegister w (replicate n 0) (replicate n 0)
free_register w n = record {
  records = λ r h. record { byte = inl (zeros_read n r); free = λ z. zeros_read n r; narrow = λ z. absurd (omega (arith, zeros_read n r, z)) };
  distinct = λ r s p q e. absurd (omega (arith, zeros_read n r, p));
}

-- ---- the table

-- Tables whose header is read are sound by what is read.
sound_by_header : {w e p root level held : ℕ} (index keys used : List ℕ) → HeaderIs w e p root held index → Limits w e p (length used) → length index ≡ page_start (layout_of e) p
    → length keys ≡ length used → SoundRegister w keys used → level_of (page_bytes (layout_of e) index root) ≡ level → SoundPages (layout_of e) p index level root
    → leaves_of (tree_at 65535 (pages_at (layout_of e) index) level root) ≡ leaf_list w (herd_of keys used) → held ≡ count_in_use used → Sound index keys used
sound_by_header index keys used is limits long register records level pages leaves held = record {
  limits = rw (is.width, is.entries, is.pages) limits;
  lengths = rw (is.entries, is.pages) (record { table = long; register = register });
  spare = rw is.spare (zeros_all 8);
  register = rw is.width records;
  pages = rw (is.entries, is.pages, is.root, level) pages;
  leaves = rw (is.width, is.entries, is.root, level) leaves;
  held = is.held ∙ held;
}

-- A part of zeros is zeros.
zeros_part : (n at k : ℕ) → AllZero (take k (drop at (replicate n 0)))
zeros_part n zero zero = tt
zeros_part n (suc at) zero = tt
zeros_part zero zero (suc k) = tt
zeros_part zero (suc at) (suc k) = tt
zeros_part (suc n) zero (suc k) = (refl, zeros_part n zero k)
zeros_part (suc n) (suc at) (suc k) = zeros_part n at (suc k)

module _ (w e p n : ℕ) (limits : Limits w e p n) where
  abbrev zeros : List ℕ
  zeros = replicate (page_start (layout_of e) p) 0

  abbrev header : List ℕ
  header = header_bytes w e p 0 0

  -- A table of zeros with the header, and then with the first page.
  abbrev headed : List ℕ
  headed = over (replicate (page_start (layout_of e) p) 0) 0 (header_bytes w e p 0 0)

  abbrev row : List Ref
  row = (0, 65535) ∷ []

  abbrev made : List ℕ
  made = store (layout_of e) headed 0 (row_page e 0 row)

  page_sized : length (row_page e 0 row) ≡ page_size (layout_of e)
  page_sized = length_page_of (layout_of e) (0 ∷ 1 ∷ []) row refl (omega (arith, limits.entries_low))

  one_more : p * page_size (layout_of e) ≡ (p - 1) * page_size (layout_of e) + page_size (layout_of e)
  one_more =
      let s : p ≡ suc (p - 1) = omega (arith, limits.pages_low) in
      ap (λ (k : ℕ). k * page_size (layout_of e)) s ∙ suc-mul (p - 1) (page_size (layout_of e))

  length_zeros : length zeros ≡ page_start (layout_of e) p
  length_zeros = length-replicate {A = ℕ} (page_start (layout_of e) p) 0

  empty_stored : empty_table w e p ≡ made
  unfolding empty_table
  empty_stored = sym
      (ap (λ (k : ℕ). over headed k (row_page e 0 row)) start
      ∙ over_append zeros 0 header (row_page e 0 row)
      ∙ over_zeros (page_start (layout_of e) p) (header ++ row_page e 0 row) (omega (arith, both, one_more))
      ∙ ap (λ (k : ℕ). header ++ row_page e 0 row ++ replicate k 0) rest)
    where
      both : length (header ++ row_page e 0 row) ≡ 16 + page_size (layout_of e)
      both = omega (arith, length-append header (row_page e 0 row), length_header w e p 0 0, page_sized)

      start : page_start (layout_of e) 0 ≡ 0 + length header
      start = omega (arith, length_header w e p 0 0)

      rest : page_start (layout_of e) p - length (header ++ row_page e 0 row) ≡ (p - 1) * page_size (layout_of e)
      rest = omega (arith, both, one_more)

  long : length headed ≡ page_start (layout_of e) p
  long = length_over zeros 0 header ∙ length_zeros

  first_within : Within (layout_of e) headed 0
  first_within = within_table (layout_of e) p 0 headed (omega (arith, long)) limits.pages_low

  -- ---- its header

  read : HeaderIs w e p 0 0 headed
  read = header_written w e p 0 0 zeros (omega (arith, length_zeros)) (omega (arith, limits.pages_high)) (omega arith) (omega arith)

  kept : HeaderFrom headed made (root_of headed) (held_of headed)
  kept = store_header e headed 0 (row_page e 0 row)

  -- ---- its pages

  heads : HeadOf (layout_of e) 0 row (0 ∷ 1 ∷ [])
  heads = row_page_head e 0 row

  few : length row ≤ e
  few = omega (arith, limits.entries_low)

  fit : Fitting 2 row
  fit = (omega arith, tt)

  first_row_lem : pages_at (layout_of e) made 0 ≡ row
  first_row_lem = stored_refs (layout_of e) headed 0 (0 ∷ 1 ∷ []) row refl (omega arith) refl few fit first_within

  -- Every other page is zero.
  other_zero : (q : ℕ) → AllZero (page_bytes (layout_of e) made (suc q))
  unfolding page_bytes
  other_zero q =
      subst AllZero (sym (other_page (layout_of e) headed 0 (row_page e 0 row) page_sized (suc q) (λ z. absurd (omega (arith, z))) ∙ page_behind (layout_of e) zeros 0 header (suc q) (omega (arith, length_header w e p 0 0))))
      (zeros_part (page_start (layout_of e) p) (page_start (layout_of e) (suc q)) (page_size (layout_of e)))

  other_bytes : (q : ℕ) → page_bytes (layout_of e) made (suc q) ≡ replicate (length (page_bytes (layout_of e) made (suc q))) 0
  other_bytes q = all_zeros (page_bytes (layout_of e) made (suc q)) (other_zero q)

  other_row : (q : ℕ) → pages_at (layout_of e) made (suc q) ≡ []
  other_row q = ap (refs_of (layout_of e)) (other_bytes q) ∙ zeros_refs (layout_of e) (length (page_bytes (layout_of e) made (suc q)))

  -- On level 0 no page is met below an entry.
  unmet : (q : ℕ) → met_all 0 (pages_at (layout_of e) headed) row q ≡ 0
  unfolding met
  unmet q = refl

  others : (q : ℕ) → same 0 (suc q) ≡ 0
  unfolding same
  others q = ap (λ (t : Bool). cond t 1 0) (eqb-zero-suc q)

  once : (q : ℕ) → met 1 (pages_at (layout_of e) made) (0, 0) q ≡ in_use (pages_at (layout_of e) made q)
  unfolding met same
  once zero = stored_meets (layout_of e) p 0 headed 0 row (0 ∷ 1 ∷ []) heads few fit first_within (unmet 0) 0 0 ∙ ap in_use (sym first_row_lem)
  once (suc q) =
      let z : same 0 (suc q) + met_all 0 (pages_at (layout_of e) headed) row (suc q) ≡ 0 = omega (arith, others q, unmet (suc q)) in
      stored_meets (layout_of e) p 0 headed 0 row (0 ∷ 1 ∷ []) heads few fit first_within (unmet 0) 0 (suc q) ∙ z ∙ ap in_use (sym (other_row q))

  cleared : (q : ℕ) → Cleared (layout_of e) (page_bytes (layout_of e) made q)
  cleared zero = subst (Cleared (layout_of e)) (sym (page_stored (layout_of e) headed 0 (row_page e 0 row) page_sized first_within)) (page_of_cleared heads (omega arith))
  cleared (suc q) = subst (Cleared (layout_of e)) (sym (other_bytes q)) (zeros_cleared (layout_of e) (length (page_bytes (layout_of e) made (suc q))))

  pages : SoundPages (layout_of e) p made 0 0
  pages = record {
    below = stored_sound (layout_of e) p 0 headed 0 row (0 ∷ 1 ∷ []) heads few fit first_within (unmet 0) 0 limits.pages_low (omega arith) refl (tt, tt);
    once = once;
    cleared = λ q h. cleared q;
    level_high = omega arith;
    root_rule = λ h. absurd (omega (arith, h));
  }

  root_level_lem : level_of (page_bytes (layout_of e) made 0) ≡ 0
  root_level_lem = pages.below.0.level

  leaves : leaves_of (tree_at 65535 (pages_at (layout_of e) made) 0 0) ≡ entry 0 none ∷ []
  unfolding node_at
  leaves = ap (Leaves-of 1) (stored_node (layout_of e) p 0 headed 0 row (0 ∷ 1 ∷ []) heads few fit first_within (unmet 0) 65535 0)

  -- ---- the whole

  pub length_empty : length (empty_table w e p) ≡ page_start (layout_of e) p
  length_empty = ap length empty_stored ∙ length_store (layout_of e) headed 0 (row_page e 0 row) ∙ long

  pub empty_width : width_of (empty_table w e p) ≡ w
  empty_width = ap width_of empty_stored ∙ kept.width ∙ read.width

  pub empty_sound : Sound (empty_table w e p) (replicate n 0) (replicate n 0)
  empty_sound =
      subst (λ (t : List ℕ). Sound t (replicate n 0) (replicate n 0)) (sym empty_stored)
      (sound_by_header made (replicate n 0) (replicate n 0)
      (record {
        width = kept.width ∙ read.width;
        entries = kept.entries ∙ read.entries;
        pages = kept.pages ∙ read.pages;
        root = kept.root ∙ read.root;
        held = kept.held ∙ read.held;
        spare = kept.spare ∙ read.spare;
      })
      (subst (Limits w e p) (sym (length-replicate {A = ℕ} n 0)) limits) (length_store (layout_of e) headed 0 (row_page e 0 row) ∙ long) refl (free_register w n) root_level_lem pages
      (leaves ∙ sym (ap (leaf_list w) (free_herd (key_at (replicate n 0)) 0 n) ∙ empty_law w))
      (sym (free_count n)))

-- ---- a done format

module _ {w e p : ℕ} {index₀ keys₀ used₀ index₁ keys₁ used₁ : List ℕ} {r : Answer} (does : FormatDoes w e p index₀ keys₀ used₀ index₁ keys₁ used₁ r)
    (fits : format_fits w e p (length index₀) (length keys₀) (length used₀) ≡ true) where
  fit_in : FormatFit w e p (length index₀) (length keys₀) (length used₀)
  fit_in = fits_says w e p (length index₀) (length keys₀) (length used₀) fits

  tables : (index₁ ≡ empty_table w e p) × (keys₁ ≡ replicate (length used₀) 0) × (used₁ ≡ replicate (length used₀) 0)
  tables = (
    rw fits at does.index,
    (rw fits at does.keys) ∙ ap (λ (n : ℕ). replicate n 0) fit_in.register,
    rw fits at does.used,
  )

  -- It leaves sound tables,
  pub format_sound : Sound index₁ keys₁ used₁
  format_sound = rw (tables.0, tables.1, tables.2) (empty_sound w e p (length used₀) fit_in.limits)

  -- of their lengths and of the width given,
  pub format_lengths : (length index₁ ≡ length index₀) × (length keys₁ ≡ length keys₀) × (length used₁ ≡ length used₀)
  format_lengths = (
    ap length tables.0 ∙ length_empty w e p (length used₀) fit_in.limits ∙ sym fit_in.long,
    ap length tables.1 ∙ length-replicate {A = ℕ} (length used₀) 0 ∙ sym fit_in.register,
    ap length tables.2 ∙ length-replicate {A = ℕ} (length used₀) 0,
  )

  pub format_width : width_of index₁ ≡ w
  format_width = ap width_of tables.0 ∙ empty_width w e p (length used₀) fit_in.limits

  -- and no key is held.
  pub format_empties : herd_of keys₁ used₁ ≡ []
  format_empties = ap (herd_of keys₁) tables.2 ∙ free_herd (key_at keys₁) 0 (length used₀)
