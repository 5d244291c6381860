-- The parts of a row stored one after the other. Assumes nothing.
use mathlib.Core.Path.{◌≡◌, refl, sym, ap, subst, ◌∙◌}
use mathlib.Core.List.{List, [], ◌∷◌, ◌++◌, append-nil, append_assoc, zip}
use Prim.Native.Nat.{ℕ, ◌+◌, ◌-◌, ◌≤◌, ◌<◌}
use native.Mathlib.Omega.{arith}
use native.Mathlib.Numerals.{add-one}
use lib.ListN.{length, get_or, set, take, drop}
use lib.Seq.{slice, slice_empty, length-slice, take_all, drop-cons}
use Rattle.leaf_list.proofs.Lists.{all_at}
use Rattle.page_tree.specs.Rows.{All, last_depth}
use Rattle.page_tree.specs.Cutting.{parts}
use Rattle.page_tree.specs.Row.{depth_of, places, row_of, part_of, CutsPost}
use Rattle.page_tree.specs.declared.Row.{Row}
use Rattle.page_tree.specs.declared.Cuts.{Cuts}
use Rattle.page_tree.proofs.CuttingLaws.{cut_all}
use Rattle.page_tree.proofs.PartEnds.{start_of}
use Rattle.page_tree.proofs.RowLaws.{Full, full_set, length_zip, length_row, stored_behind, slice_more}
use Rattle.page_tree.proofs.RowCuts.{Part, cuts_part, part_last}
use Rattle.index_table.specs.Layout.{layout_of, Ref, page_start, Fitting, row_page, store}
use Rattle.index_table.specs.Pages.{pages_at, in_use, used_pages}
use Rattle.index_table.proofs.PageBytes.{within_table}
use Rattle.index_write.specs.Storing.{Storable}
use Rattle.table_insert.specs.Placing.{Placed, PlacePre, PlacePost, PartPre, PartPost}
use Rattle.table_insert.proofs.PlacedRows.{PlacedFree, free_none, free_more, own_then_free, one_total, one_long}

-- The first k parts of a row are stored: the first in the table b₁ already, the others since then. Their entries stand in ds and ptrs.
pub record Storing (e P n : ℕ) (row : Row) (first : List Ref) (b₁ b : List ℕ) (from : ℕ) (ds ptrs : List ℕ) (k : ℕ) : Type 0 where
  pub some : 1 ≤ k
  pub few : k ≤ length (parts depth_of e (row_of row))
  pub begins : from ≡ start_of (parts depth_of e (row_of row)) k
  pub full : Full ds ptrs
  pub more : List Ref
  pub entries : take k (zip ds ptrs) ≡ first ++ more
  pub placed : PlacedFree (layout_of e) P n b₁ b more (slice 1 k (parts depth_of e (row_of row)))

-- The entry that is stored first.
pub first_entry : (ds ptrs : List ℕ) → Full ds ptrs → (d pointer p : ℕ) → pointer ≡ p → take 1 (zip (set ds 0 d) (set ptrs 0 pointer)) ≡ (d, p) ∷ []
first_entry ds ptrs f d pointer p h = stored_behind ds ptrs f 0 d pointer (omega arith) ∙ ap (λ (z : ℕ). (d, z) ∷ []) h

module _ {e P : ℕ} {b : List ℕ} {own : ℕ} {row : Row} {cuts : Cuts} (pre : PlacePre e P b own row) (full : Full row.depths row.pointers) (post : CutsPost e row cuts) (byte : e ≤ 255) where
  abbrev ps : List (List Ref)
  ps = parts depth_of e (row_of row)

  abbrev end : ℕ → ℕ
  end k = get_or cuts.ends k 0

  long : length (row_of row) ≡ row.count
  long = length_row row full (omega (arith, pre.small))

  part : (k : ℕ) → k < cuts.count → (from : ℕ) → from ≡ start_of ps k → Part e row ps k from (end k)
  part k h from f = cuts_part (omega (arith, pre.entries_low)) (omega (arith, long, pre.some)) post k h from f

  fits : (k : ℕ) → k < cuts.count → (from : ℕ) → Part e row ps k from (end k) → Fitting 2 (part_of row from (end k))
  fits k h from p =
      rw p.entries (all_at (All (λ (x : Ref). x.1 < 65536)) ps k [] (omega (arith, post.count)) (cut_all depth_of e (λ (x : Ref). x.1 < 65536) (length (row_of row)) (row_of row) pre.fitting))

  part_long : (k : ℕ) → k < cuts.count → (from : ℕ) → Part e row ps k from (end k) → length (part_of row from (end k)) ≡ end k - from
  part_long k h from p = length-slice from (end k) (places row) (omega (arith, p.within, pre.small, length_zip row.depths row.pointers full))

  first_part : Part e row ps 0 0 (end 0)
  first_part = part 0 (omega (arith, post.some)) 0 refl

  -- The first part can be stored in the own page.
  pub first_storable : Storable e b own row 0 (end 0)
  first_storable =
      record {
        within = within_table (layout_of e) P own b pre.table pre.number;
        order = omega arith;
        places = omega (arith, first_part.within, pre.small);
        few = omega (arith, first_part.few);
        fitting = fits 0 (omega (arith, post.some)) 0 first_part;
      }

  -- It ends inside the row.
  pub first_end : (0 < end 0) × (end 0 ≤ 319)
  first_end = (first_part.some, omega (arith, first_part.within, pre.small))

  module _ (n : ℕ) {b₁ : List ℕ} (stored : b₁ ≡ store (layout_of e) b own (row_page e n (part_of row 0 (end 0)))) where
    -- The first part is stored.
    pub storing_start : (ds ptrs : List ℕ) → Full ds ptrs → Storing e P n row (take 1 (zip ds ptrs)) b₁ b₁ (end 0) ds ptrs 1
    storing_start ds ptrs f =
        record {
          some = omega arith;
          few = omega (arith, post.some, post.count);
          begins = first_part.next;
          full = f;
          more = [];
          entries = sym (append-nil (take 1 (zip ds ptrs)));
          placed = rw (slice_empty 1 ps) (free_none (layout_of e) P n b₁);
        }

    table₁ : page_start (layout_of e) P ≤ length b₁
    table₁ =
        let p = first_part in
        let l = part_long 0 (omega (arith, post.some)) 0 p in
        subst (λ (l : List ℕ). page_start (layout_of e) P ≤ length l) (sym stored)
        (omega (arith, pre.table, one_long e P n b own (part_of row 0 (end 0)) (omega (arith, p.few)) (omega (arith, p.some)) (fits 0 (omega (arith, post.some)) 0 p) pre.table pre.number))

    used₁ : used_pages P (pages_at (layout_of e) b₁) + in_use (pages_at (layout_of e) b own) ≡ used_pages P (pages_at (layout_of e) b) + 1
    used₁ =
        let p = first_part in
        let l = part_long 0 (omega (arith, post.some)) 0 p in
        rw stored (one_total e P n b own (part_of row 0 (end 0)) (omega (arith, p.few)) (omega (arith, p.some)) (fits 0 (omega (arith, post.some)) 0 p) pre.table pre.number)

    module _ {first : List Ref} {bk : List ℕ} {from : ℕ} {ds ptrs : List ℕ} {k : ℕ} (h : Storing e P n row first b₁ bk from ds ptrs k) where
      module _ (l : k < cuts.count) where
        next_part : Part e row ps k from (end k)
        next_part = part k l from h.begins

        -- The next part can be stored in a free page.
        pub next_pre : PartPre e P bk row from (end k)
        next_pre =
            record {
              table = omega (arith, table₁, h.placed.long);
              enough = omega (arith, h.placed.total, used₁, pre.enough, length-slice 1 k ps h.few, h.some, post.count);
              order = next_part.some;
              places = omega (arith, next_part.within, pre.small);
              few = next_part.few;
              fitting = fits k l from next_part;
            }

        -- It ends inside the row.
        pub next_end : (0 < end k) × (end k ≤ 319)
        next_end = (omega (arith, next_part.some), omega (arith, next_part.within, pre.small))

        stored_more : {b' : List ℕ} {p : ℕ} → PartPost e P n bk row from (end k) b' p → (d : ℕ) → d ≡ get_or row.depths (end k - 1) 0
            → Storing e P n row first b₁ b' (end k) (set ds k d) (set ptrs k p) (k + 1)
        stored_more {b'} {p} g d hd =
            let m = part_long k l from next_part in
            let last : d ≡ last_depth depth_of 0 (part_of row from (end k)) = hd ∙ sym (part_last row full from (end k) 0 next_part.some (omega (arith, next_part.within, pre.small))) in
            let entries₁ : take (k + 1) (zip (set ds k d) (set ptrs k p)) ≡ first ++ (h.more ++ (d, p) ∷ []) =
            stored_behind ds ptrs h.full k d p (omega (arith, post.few)) ∙ ap (λ (z : List Ref). z ++ (d, p) ∷ []) h.entries ∙ append_assoc first h.more ((d, p) ∷ []) in
            let rows₁ : slice 1 (k + 1) ps ≡ slice 1 k ps ++ part_of row from (end k) ∷ [] =
            slice_more 1 k ps [] h.some (omega (arith, post.count)) ∙ ap (λ (z : List Ref). slice 1 k ps ++ z ∷ []) (sym next_part.entries) in
            record {
              some = omega arith;
              few = omega (arith, post.count);
              begins = next_part.next ∙ ap (start_of ps) (sym (add-one k));
              full = full_set ds ptrs k d p h.full;
              more = h.more ++ (d, p) ∷ [];
              entries = entries₁;
              placed =
                  rw (rows₁, g.stored)
                  (free_more h.placed p (part_of row from (end k)) (omega (arith, next_part.few)) (omega (arith, next_part.some)) (fits k l from next_part) table₁ g.number g.free d last);
            }

        -- Then one part more is stored.
        pub storing_more : {b' : List ℕ} {p : ℕ} → PartPost e P n bk row from (end k) b' p → (d : ℕ) → d ≡ get_or row.depths (end k - 1) 0 → (pointer : ℕ) → pointer ≡ p
            → Storing e P n row first b₁ b' (end k) (set ds k d) (set ptrs k pointer) (k + 1)
        storing_more {b'} {p} g d hd pointer hp = subst (λ (z : ℕ). Storing e P n row first b₁ b' (end k) (set ds k d) (set ptrs k z) (k + 1)) (sym hp) (stored_more g d hd)

      -- All parts are stored.
      pub storing_end : (d₀ : ℕ) → first ≡ (d₀, own) ∷ [] → d₀ ≡ get_or row.depths (end 0 - 1) 0 → k ≡ cuts.count → PlacePost e P n b own row bk (record { depths = ds; pointers = ptrs; count = cuts.count })
      storing_end d₀ hf hd g =
          let p = first_part in
          let m = part_long 0 (omega (arith, post.some)) 0 p in
          let last : d₀ ≡ last_depth depth_of 0 (part_of row 0 (end 0)) = hd ∙ sym (part_last row full 0 (end 0) 0 p.some (omega (arith, p.within, pre.small))) in
          let whole : ps ≡ part_of row 0 (end 0) ∷ slice 1 k ps =
          drop-cons ps 0 [] (omega (arith, post.some, post.count))
          ∙ ap (λ (z : List Ref). z ∷ drop 1 ps) (sym p.entries)
          ∙ ap (λ (z : List (List Ref)). part_of row 0 (end 0) ∷ drop 1 z) (sym (take_all k ps (omega (arith, post.count)))) in
          record {
            count = omega (arith, post.count);
            few = omega (arith, post.few);
            placed =
                rw (sym g, h.entries, hf)
                (subst (λ (z : List (List Ref)). Placed (layout_of e) P n b own bk ((d₀, own) ∷ h.more) z) (sym whole)
                (own_then_free own (part_of row 0 (end 0)) (omega (arith, p.few)) (omega (arith, p.some)) (fits 0 (omega (arith, post.some)) 0 p) pre.table pre.number d₀ last
                (subst (λ (z : List ℕ). PlacedFree (layout_of e) P n z bk h.more (slice 1 k ps)) stored h.placed)));
          }
