-- Entries put into a page that has room for them: the room, and the bytes. Assumes nothing.
use mathlib.Core.Path.{◌≡◌, refl, sym, ap, ◌∙◌}
use mathlib.Core.List.{List}
use Prim.Native.Nat.{ℕ, suc, ◌+◌, ◌*◌, ◌≤◌}
use native.Mathlib.Omega.{arith}
use native.Mathlib.Numerals.{add-one}
use lib.ListN.{length}
use lib.Dec.{leb}
use Rattle.byte_moves.specs.Over.{over}
use Rattle.index_table.specs.Layout.{layout_of, page_bytes, count_of, row_bytes}
use Rattle.index_table.specs.Header.{width_of, entries_of, with_held}
use Rattle.index_table.specs.IndexNumbers.{IndexOf}
use Rattle.index_table.specs.declared.header.Index.{Index}
use Rattle.index_table.specs.Pages.{pages_at}
use Rattle.index_table.proofs.PageRows.{length_refs}
use Rattle.page_change.specs.Opening.{Opened}
use Rattle.new_entries.specs.declared.entries.News.{News}
use Rattle.new_entries.specs.Entries.{count_in, refs_for, Newly}
use Rattle.new_entries.proofs.NewLeaves.{news_long}
use Rattle.index_change.specs.Repaging.{room_for, OpenPre, opened_with}

-- The room, as it is tested.
pub room_tested : (index : List ℕ) (p n : ℕ) {e m a b : ℕ} → e ≡ entries_of index → m ≡ count_of (page_bytes (layout_of e) index p) → a ≡ m → b ≡ e → leb (a + n) (b + 1) ≡ room_for index p n
room_tested index p n {e} {m} {a} {b} i c f g =
    let count : a ≡ length (pages_at (layout_of (entries_of index)) index p) = f ∙ c ∙ ap (λ (k : ℕ). count_of (page_bytes (layout_of k) index p)) i ∙ sym (length_refs (layout_of (entries_of index)) (page_bytes (layout_of (entries_of index)) index p)) in
    let entries : b + 1 ≡ suc (entries_of index) = omega (arith, i, g) in
    rw (count, entries) refl

-- Room is made, the entries are written there, and one record more is held.
module _ {index : List ℕ} {p at key : ℕ} {n : News} (pre : OpenPre index p at key n) {h : Index} (i : IndexOf index h) {b : List ℕ} {place : ℕ} (o : Opened h.entries index p at (count_in n) b place) {w : ℕ} (width : w ≡ h.width) where
  pub write_pre : Newly w key n × (place + 3 * count_in n ≤ length b)
  write_pre = (rw (width, i.width) pre.newly, omega (arith, o.long, o.inside))

  pub opened_written : {b₁ index₁ : List ℕ} → b₁ ≡ over b place (row_bytes 2 (refs_for w key n)) → index₁ ≡ with_held b₁ (h.held + 1) → index₁ ≡ opened_with index p at (refs_for (width_of index) key n)
  opened_written {b₁} {index₁} f g =
      let is : w ≡ width_of index = width ∙ i.width in
      let filled = f ∙ o.filled (refs_for w key n) (rw is (news_long pre.newly)) in
      rw (← is, ← i.entries, ← i.held, ← add-one h.held, ← filled) g
