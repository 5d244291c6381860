-- The entry on level 0 where the search of a page stops, and an entry as one number. Assumes nothing.
use mathlib.Core.Path.{◌≡◌, refl, sym, ap, subst, ◌∙◌}
use mathlib.Core.Bool.{Bool}
use mathlib.Core.List.{List}
use Prim.Native.Nat.{ℕ, zero, suc, ◌≤◌, ◌<◌}
use native.Mathlib.Omega.{arith}
use lib.ListN.{length, get_or}
use Rattle.leaf_list.proofs.Lists.{all_at}
use Rattle.index_table.specs.Layout.{Ref, layout_of, page_bytes, ref_at}
use Rattle.index_table.specs.Pages.{Pages, pages_at}
use Rattle.table_search.specs.declared.Leaf.{Leaf}
use Rattle.table_search.specs.declared.Spot.{Spot}
use Rattle.table_search.specs.Places.{SeekPre, Stopped, Ends, LeafLow, place_in, page_in, pointer_in, trail_in, before_in, thin_in, LeafNumber, NumberPre, number_leaf}
use Rattle.table_search.proofs.Stops.{depth_before, depth_before_lem, read_entry}

-- With the depth that stands in its page, the entry is known by its number.
pub number_leaf_lem : {l : Leaf} {r : ℕ} (pages : Pages) → LeafNumber l r → l.depth ≡ (get_or (pages l.page.0) l.at (0, 0)).0 → number_leaf pages r ≡ l
number_leaf_lem {l} {r} pages n d =
    let depth_is : (get_or (pages (page_in r)) (place_in r) (0, 0)).0 ≡ l.depth = (λ i. (get_or (pages (n.page_is i)) (n.at_is i) (0, 0)).0) ∙ sym d in
    λ i. record {
      at = n.at_is i;
      pointer = n.pointer_is i;
      page = record { 0 = n.page_is i };
      depth = depth_is i;
      trail = n.trail_is i;
      before = n.before_is i;
      thin = n.thin_is i;
    }

-- The entry that a number means, with the depth that is read from its page.
pub depth_read : {b : List ℕ} {e r p d : ℕ} → NumberPre b e r → p ≡ pointer_in r → d ≡ (ref_at (layout_of e) (page_bytes (layout_of e) b (page_in r)) (place_in r)).0
    → ◌≡◌ {A = Leaf} (record { at = place_in r; pointer = p; page = record { 0 = page_in r }; depth = d; trail = trail_in r; before = before_in r; thin = thin_in r }) (number_leaf (pages_at (layout_of e) b) r)
depth_read {b} {e} {r} pre p_is d_is =
    let depth_is = d_is ∙ ap (λ (x : Ref). x.0) (read_entry (layout_of e) b (page_in r) (place_in r) pre.inside) in
    λ i. record { at = place_in r; pointer = p_is i; page = record { 0 = page_in r }; depth = depth_is i; trail = trail_in r; before = before_in r; thin = thin_in r }

-- The place where the search of a page stops.
module _ {b : List ℕ} {e page w key position τ : ℕ} (pre : SeekPre b e page w key position) (s : Spot) (stop : Stopped w key position τ (pages_at (layout_of e) b page) s) where
  abbrev row : List Ref
  row = pages_at (layout_of e) b page

  -- The depth before it is one of the row's, or the one before the row.
  pub stop_trail : τ ≤ 64 → s.trail ≤ 64
  stop_trail before_low = subst (λ (n : ℕ). n ≤ 64) stop.trail (go s.at stop.inside)
    where
      go : (i : ℕ) → i < length row → depth_before τ row i ≤ 64
      go zero h = before_low
      go (suc j) h = omega (arith, depth_before_lem τ row j (omega arith), all_at (λ x. x.0 ≤ w) row j (0, 0) (omega arith) pre.depths, pre.width)

  -- The entry there, as it is read.
  module _ (d p : ℕ) (few : Bool) (depth_is : d ≡ (ref_at (layout_of e) (page_bytes (layout_of e) b page) s.at).0) where
    abbrev leaf : Leaf
    leaf = record { at = s.at; pointer = p; page = record { 0 = page }; depth = d; trail = s.trail; before = τ; thin = few }

    pub stop_low : τ ≤ 64 → e ≤ 255 → p ≤ 65535 → LeafLow leaf
    stop_low before_low e_low pointer_low =
        record {
          at = omega (arith, stop.inside, pre.few);
          pointer = pointer_low;
          trail = stop_trail before_low;
          before = before_low;
        }

    pub stop_ends : p ≡ (ref_at (layout_of e) (page_bytes (layout_of e) b page) s.at).1 → Ends w key position τ page few row leaf
    stop_ends pointer_is =
        record {
          page_is = refl;
          next = s.position;
          place = stop;
          entry_is = sym (read_entry (layout_of e) b page s.at stop.inside) ∙ λ i. (sym depth_is i, sym pointer_is i);
          before_is = refl;
          thin_is = refl;
        }

    -- So it is read off its number.
    pub stop_number : p ≡ (ref_at (layout_of e) (page_bytes (layout_of e) b page) s.at).1 → {r : ℕ} → LeafNumber leaf r
        → Ends w key position τ page few row (number_leaf (pages_at (layout_of e) b) r)
    stop_number pointer_is n =
        let ends = stop_ends pointer_is in
        subst (Ends w key position τ page few row) (sym (number_leaf_lem (pages_at (layout_of e) b) n (sym (ap (λ (x : Ref). x.0) ends.entry_is)))) ends
