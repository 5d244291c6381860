-- From a page down to the entry that may become a dummy, with the depth that follows it. Assumes nothing.
use mathlib.Core.Path.{◌≡◌, sym, ap, ◌∙◌}
use mathlib.Core.Bool.{Bool}
use mathlib.Core.List.{List}
use Prim.Native.Nat.{ℕ, zero, suc, ◌+◌, ◌-◌, ◌<◌}
use native.Mathlib.Omega.{arith}
use native.Mathlib.Numerals.{add-one}
use lib.ListN.{get_or, drop}
use Rattle.index_table.specs.Layout.{layout_of, Ref, Within, page_bytes, ref_at}
use Rattle.index_table.specs.Pages.{pages_at}
use Rattle.index_table.proofs.NumberLaws.{Bytes}
use Rattle.index_table.proofs.PageRows.{refs_fit}
use Rattle.page_change.proofs.WholePages.{cleared_whole}
use Rattle.table_search.specs.declared.Spot.{Spot}
use Rattle.table_search.specs.Places.{SeekPre, Stopped}
use Rattle.table_search.proofs.Stops.{read_entry}
use Rattle.table_search.proofs.Descents.{descend_within, descend_inside}
use Rattle.page_delete.specs.OnePage.{GivePre, DummyPost}
use Rattle.tree_delete.specs.Removing.{following_at, AfterPre}
use Rattle.tree_delete.proofs.FoundPlaces.{found_down}
use Rattle.tree_delete.proofs.Removals.{remove_descend, locate_seek, locate_after}
use Rattle.table_delete.specs.Blanking.{BlankPre, BlankPost}
use Rattle.table_delete.proofs.QuietWays.{quiet_up, next_leaf, quiet_leaf}

module _ {e P n : ℕ} {b : List ℕ} {x : Ref} {w key position : ℕ} (h : BlankPre e P (suc n) b x w key position) where
  -- It can be searched,
  pub blank_seek : SeekPre b e x.1 w key position
  blank_seek = locate_seek h.remove

  pub blank_after : AfterPre e P n b x.1
  blank_after = locate_after h.remove

  module _ {τ : ℕ} (s : Spot) (a : Stopped w key position τ (pages_at (layout_of e) b x.1) s) where
    -- and read at the place found.
    pub blank_read : Within (layout_of e) b x.1 × (s.at < e)
    blank_read = (descend_within (remove_descend h.remove), descend_inside (remove_descend h.remove) s a)

    pub blank_few : s.at < e
    blank_few = descend_inside (remove_descend h.remove) s a

-- On level 0 the entry may become a dummy.
pub blank_give : (n : ℕ) {e P : ℕ} {b : List ℕ} {x : Ref} {w key position τ : ℕ} → BlankPre e P (suc n) b x w key position → (s : Spot) → Stopped w key position τ (pages_at (layout_of e) b x.1) s
    → n ≡ 0 → Bytes b → {c : ℕ} → c ≡ (ref_at (layout_of e) (page_bytes (layout_of e) b x.1) s.at).0 → GivePre e b x.1 s.at c
blank_give (suc n) h s a z bytes c_is = absurd (omega arith)
blank_give zero {e} {P} {b} {x} h s a z bytes c_is = record {
  near = record {
    whole =
        cleared_whole e b x.1 bytes (descend_within (remove_descend h.remove)) h.remove.sound.0.few (h.cleared x.1 h.remove.sound.0.number);
    level = h.remove.sound.0.level;
    fitting = refs_fit (layout_of e) b x.1 bytes;
    inside = a.inside;
  };
  depth_is = ap (λ (y : Ref). y.0) (sym (read_entry (layout_of e) b x.1 s.at a.inside)) ∙ sym c_is;
}

-- What is left of it tells of the page.
pub blank_struck : (n : ℕ) {e P : ℕ} {b : List ℕ} {x : Ref} {w key position τ : ℕ} → BlankPre e P (suc n) b x w key position → (s : Spot) → Stopped w key position τ (pages_at (layout_of e) b x.1) s
    → n ≡ 0 → (ν : ℕ) {next : ℕ} → next ≡ following_at n (pages_at (layout_of e) b) ν (drop (s.at + 1) (pages_at (layout_of e) b x.1)) → (b' : List ℕ) (r : Bool)
    → DummyPost e b x.1 s.at s.trail next b' r → BlankPost e P (suc n) b x w key position τ ν b' r
blank_struck (suc n) h s a z ν f b' r d = absurd (omega arith)
blank_struck zero {e} {P} {b} {x} {τ = τ} h s a z ν {next} f b' r d = record {
  done = λ y. quiet_leaf h.remove s a ν b' (d.done y τ ν (next_leaf (pages_at (layout_of e) b) ν (drop (suc s.at) (pages_at (layout_of e) b x.1)) ∙ sym (rw (add-one s.at) at f)));
  none = d.none;
}

-- Above it, the child is a page of the way down,
module _ (n : ℕ) {e P : ℕ} {b : List ℕ} {x : Ref} {w key position τ : ℕ} (h : BlankPre e P (suc n) b x w key position) (s : Spot) (a : Stopped w key position τ (pages_at (layout_of e) b x.1) s)
    (ne : n ≡ 0 → ⊥) {c p : ℕ} (c_is : c ≡ (ref_at (layout_of e) (page_bytes (layout_of e) b x.1) s.at).0) (p_is : p ≡ (ref_at (layout_of e) (page_bytes (layout_of e) b x.1) s.at).1) where
  above : suc (n - 1) ≡ n
  above = omega (arith, ne)

  entry_at : ref_at (layout_of e) (page_bytes (layout_of e) b x.1) s.at ≡ get_or (pages_at (layout_of e) b x.1) s.at (0, 0)
  entry_at = read_entry (layout_of e) b x.1 s.at a.inside

  pub blank_down : BlankPre e P (suc (n - 1)) b (c, p) w key s.position
  blank_down = rw (above, c_is, p_is, entry_at) (record { remove = found_down h.remove s a; cleared = h.cleared })

  -- and what is left below it tells of this one.
  pub blank_up : (ν : ℕ) {next : ℕ} → next ≡ following_at n (pages_at (layout_of e) b) ν (drop (s.at + 1) (pages_at (layout_of e) b x.1)) → (b' : List ℕ) (r : Bool)
      → BlankPost e P (suc (n - 1)) b (c, p) w key s.position s.trail next b' r → BlankPost e P (suc n) b x w key position τ ν b' r
  blank_up ν f b' r d =
      let f' : following_at n (pages_at (layout_of e) b) ν (drop (s.at + 1) (pages_at (layout_of e) b x.1)) ≡ following_at n (pages_at (layout_of e) b) ν (drop (suc s.at) (pages_at (layout_of e) b x.1))
      = ap (λ (k : ℕ). following_at n (pages_at (layout_of e) b) ν (drop k (pages_at (layout_of e) b x.1))) (add-one s.at) in
      let d' : BlankPost e P n b (get_or (pages_at (layout_of e) b x.1) s.at (0, 0)) w key s.position s.trail (following_at n (pages_at (layout_of e) b) ν (drop (suc s.at) (pages_at (layout_of e) b x.1))) b' r
      = rw (above, c_is, p_is, entry_at, f, f') at d in
      record { done = λ y. quiet_up h.remove s a ν b' (d'.done y); none = d'.none }
