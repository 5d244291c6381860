-- The bytes of a sound page are its head, its entries and zeros (01, "Unused entries .. are all zero"). Assumes nothing.
use mathlib.Core.List.{List}
use Prim.Native.Nat.{ℕ, ◌≤◌}
use native.Mathlib.Omega.{arith}
use lib.ListN.{length, drop}
use Rattle.index_table.specs.Layout.{layout_of, page_size, page_start, Within, page_bytes}
use Rattle.index_table.specs.Pages.{pages_at}
use Rattle.index_table.specs.Soundness.{Cleared}
use Rattle.index_table.proofs.NumberLaws.{Bytes, drop_bytes, take_bytes}
use Rattle.index_table.proofs.PageBytes.{length_page_bytes}
use Rattle.index_table.proofs.PageRows.{length_refs}
use Rattle.page_change.specs.Changing.{WholePage}
use Rattle.page_change.proofs.OpenedPages.{page_is}

page_bytes_lem : (e : ℕ) (b : List ℕ) (p : ℕ) → Bytes b → Bytes (page_bytes (layout_of e) b p)
unfolding page_bytes
page_bytes_lem e b p h = take_bytes (page_size (layout_of e)) (drop (page_start (layout_of e) p) b) (drop_bytes (page_start (layout_of e) p) b h)

-- A page of the table whose unused entries are zero is whole.
pub cleared_whole : (e : ℕ) (b : List ℕ) (p : ℕ) → Bytes b → Within (layout_of e) b p → length (pages_at (layout_of e) b p) ≤ e → Cleared (layout_of e) (page_bytes (layout_of e) b p) → WholePage e b p
cleared_whole e b p h within few cleared = record {
  within = within;
  few = few;
  bytes =
      page_is e (page_bytes (layout_of e) b p) (page_bytes_lem e b p h) (length_page_bytes (layout_of e) b p within) (omega (arith, few, length_refs (layout_of e) (page_bytes (layout_of e) b p)))
      cleared;
}
