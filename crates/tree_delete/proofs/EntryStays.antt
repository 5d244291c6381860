-- What lies below the entry found changes, and the entry stays: so do its page and the entry of its page. Assumes nothing.
use mathlib.Core.Path.{◌≡◌, sym, ap, subst}
use mathlib.Core.List.{List, [], ◌∷◌, ◌++◌}
use Prim.Native.Nat.{ℕ, suc, ◌+◌}
use native.Mathlib.Omega.{arith}
use lib.ListN.{get_or, take, drop}
use Rattle.page_tree.specs.Rows.{All}
use Rattle.index_table.specs.Layout.{Layout, layout_of, Ref, page_bytes, refs_of}
use Rattle.index_table.specs.Pages.{Pages, pages_at, same, met, met_all}
use Rattle.index_table.proofs.PageCounts.{same_self}
use Rattle.index_table.proofs.Frames.{UnchangedRow}
use Rattle.index_write.specs.Standing.{Owned}
use Rattle.table_search.specs.declared.Spot.{Spot}
use Rattle.table_search.specs.Places.{Stopped}
use Rattle.tree_delete.specs.Keeping.{Linked, Kept}
use Rattle.tree_delete.specs.Removing.{RemovePre}
use Rattle.tree_delete.proofs.Frames.{kept_one, kept_at, before_stays, after_stays}
use Rattle.tree_delete.proofs.SweepTurns.{met_mid}
use Rattle.tree_delete.proofs.FoundPlaces.{found_parted, found_linked, found_owned}

module _ {e P n : ℕ} {b : List ℕ} {x : Ref} {w key position τ : ℕ} (h : RemovePre e P (suc n) b x w key position) (s : Spot) (a : Stopped w key position τ (pages_at (layout_of e) b x.1) s) where
  abbrev L : Layout
  L = layout_of e

  abbrev pages : Pages
  pages = pages_at L b

  abbrev row : List Ref
  row = pages x.1

  abbrev front : List Ref
  front = take s.at row

  abbrev y : Ref
  y = get_or row s.at (0, 0)

  abbrev rest : List Ref
  rest = drop (suc s.at) row

  parted : row ≡ front ++ y ∷ rest
  parted = found_parted h s a

  linked : All (Linked L P n b) (front ++ y ∷ rest)
  linked = found_linked h s a

  owned : Owned L b (met_all n pages (front ++ y ∷ rest))
  owned = found_owned h s a

  opened : (q : ℕ) → met (suc n) pages x q ≡ same x.1 q + met_all n pages (front ++ y ∷ rest) q
  unfolding met
  opened q = ap (λ (l : List Ref). same x.1 q + met_all n pages l q) parted

  -- The page is not met below its own entries.
  apart : met n pages y x.1 ≡ 0
  apart = omega (arith, h.back.own x.1, opened x.1, same_self x.1, met_mid (λ z. met n pages z x.1) front y rest)

  module _ (b' : List ℕ) (k : Kept (layout_of e) P n b (met n (pages_at (layout_of e) b) (get_or (pages_at (layout_of e) b x.1) s.at (0, 0))) b' (get_or (pages_at (layout_of e) b x.1) s.at (0, 0) ∷ [])) where
    abbrev pages' : Pages
    pages' = pages_at L b'

    page_same : page_bytes L b' x.1 ≡ page_bytes L b x.1
    page_same = k.same x.1 apart

    -- The page has the same entries,
    pub row_same : pages_at (layout_of e) b' x.1 ≡ pages_at (layout_of e) b x.1
    row_same = ap (refs_of L) page_same

    row_kept : Kept L P n b (met_all n pages (front ++ y ∷ rest)) b' row
    row_kept =
        subst (λ (l : List Ref). Kept L P n b (met_all n pages (front ++ y ∷ rest)) b' l) (sym parted)
        (kept_at L P n b front (y ∷ []) rest owned linked b' (y ∷ []) (kept_one y k))

    met_now : (p : ℕ) → met_all (suc n) pages' (x ∷ []) p ≡ same x.1 p + met_all n pages' row p
    unfolding met
    met_now p = let z : met_all n pages' (pages' x.1) p ≡ met_all n pages' row p = ap (λ (l : List Ref). met_all n pages' l p) row_same in omega (arith, z)

    -- and its own entry stays.
    pub entry_kept : Kept (layout_of e) P (suc n) b (met (suc n) (pages_at (layout_of e) b) x) b' (x ∷ [])
    entry_kept = record {
      long = row_kept.long;
      front = row_kept.front;
      pages = λ p. omega (arith, met_now p, row_kept.pages p, opened p);
      same = λ p z. row_kept.same p (omega (arith, opened p, z));
      cleared = row_kept.cleared;
      linked = (
        (
          record { number = h.back.linked.0.number; level = rw page_same h.back.linked.0.level; some = rw page_same h.back.linked.0.some; few = rw page_same h.back.linked.0.few },
          rw page_same h.back.linked.1,
          rw row_same row_kept.linked,
        ),
        tt,
      );
    }

    -- What is read before the entry found,
    pub front_stays : UnchangedRow (layout_of e) n b b' (take s.at (pages_at (layout_of e) b x.1))
    front_stays = before_stays L P n b front (y ∷ []) rest owned linked b' (y ∷ []) (kept_one y k)

    -- and after it.
    pub rest_stays : UnchangedRow (layout_of e) n b b' (drop (suc s.at) (pages_at (layout_of e) b x.1))
    rest_stays = after_stays L P n b front (y ∷ []) rest owned linked b' (y ∷ []) (kept_one y k)
