-- The tests of the header, by the numbers that were read from it. Assumes nothing.
use Rattle.std.proofs.Common.{◌≡◌, ℕ, ◌≤◌, ◌↔◌, List, length, ◌∙◌, ap₂}
use Rattle.index_table.specs.Layout.{layout_of, page_start}
use Rattle.index_table.specs.Header.{width_of, entries_of, pages_of}
use Rattle.index_table.specs.IndexNumbers.{IndexOf}
use Rattle.index_table.specs.Soundness.{Limits}
use Rattle.index_table.specs.declared.header.Index.{Index}
use Rattle.bytes_check.specs.Scans.{ZeroBetween, HeaderFits}
use Rattle.bytes_check.proofs.ZeroBytes.{zero_spare}

module _ (index : List ℕ) (records : ℕ) where
  module _ (h : Index) (r : IndexOf index h) where
    limits_read : Limits h.width h.entries h.pages records ↔ Limits (width_of index) (entries_of index) (pages_of index) records
    limits_read = ((λ l. rw (r.width, r.entries, r.pages) at l), (λ l. rw (r.width, r.entries, r.pages) l))

    size_read : page_start (layout_of h.entries) h.pages ≡ page_start (layout_of (entries_of index)) (pages_of index)
    size_read = ap₂ (λ (e p : ℕ). page_start (layout_of e) p) r.entries r.pages

    -- All else in order, the spare bytes decide.
    pub header_spare : (size : ℕ) → size ≡ page_start (layout_of h.entries) h.pages → 16 ≤ length index → Limits h.width h.entries h.pages records → length index ≡ size
        → ZeroBetween 8 16 index ↔ HeaderFits index records
    header_spare size e s l g = (
      (λ z. record { limits = limits_read.0 l; table = g ∙ e ∙ size_read; spare = (zero_spare index s).1 z }),
      (λ f. (zero_spare index s).0 f.spare),
    )
