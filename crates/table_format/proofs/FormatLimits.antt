-- When format is done (01, row 9). Assumes nothing.
use mathlib.Core.Path.{◌≡◌, refl}
use mathlib.Core.Bool.{Bool, true, false, ◌&&◌, and-eq-true_iff}
use mathlib.Core.List.{List}
use Prim.Native.Nat.{ℕ}
use native.Mathlib.Omega.{arith}
use lib.Dec.{leb, eqb}
use lib.ListN.{length, replicate}
use borrow.Author.Tests.{leb-true, le-leb, eqb-true, eq-eqb}
use Rattle.index_table.specs.Layout.{layout_of, page_start}
use Rattle.index_table.specs.Soundness.{Limits}
use Rattle.index_table.proofs.PageBytes.{pages_apart}
use Rattle.table_find.specs.declared.answer.Answer.{Answer}
use Rattle.table_find.specs.Answers.{plain}
use Rattle.table_format.specs.Format.{within, format_fits, empty_table, EmptyPre, FormatDoes}

-- The numbers are within the limits, and the tables have their lengths.
pub record FormatFit (w e p table keys used : ℕ) : Type 0 where
  pub limits : Limits w e p used
  pub register : keys ≡ used
  pub long : table ≡ page_start (layout_of e) p

module _ (w e p table keys used : ℕ) where
  abbrev t₅ : Bool
  t₅ = eqb keys used && eqb table (page_start (layout_of e) p)

  abbrev t₄ : Bool
  t₄ = within 1 65534 used && t₅

  abbrev t₃ : Bool
  t₃ = within 1 65534 p && t₄

  abbrev t₂ : Bool
  t₂ = within 2 255 e && t₃

  pub fits_says : format_fits w e p table keys used ≡ true → FormatFit w e p table keys used
  unfolding format_fits
  fits_says h =
      let s₁ = (and-eq-true_iff (within 1 64 w) t₂).0 h in
      let s₂ = (and-eq-true_iff (within 2 255 e) t₃).0 s₁.1 in
      let s₃ = (and-eq-true_iff (within 1 65534 p) t₄).0 s₂.1 in
      let s₄ = (and-eq-true_iff (within 1 65534 used) t₅).0 s₃.1 in
      let s₅ = (and-eq-true_iff (eqb keys used) (eqb table (page_start (layout_of e) p))).0 s₄.1 in
      let a = (and-eq-true_iff (leb 1 w) (leb w 64)).0 s₁.0 in
      let b = (and-eq-true_iff (leb 2 e) (leb e 255)).0 s₂.0 in
      let c = (and-eq-true_iff (leb 1 p) (leb p 65534)).0 s₃.0 in
      let d = (and-eq-true_iff (leb 1 used) (leb used 65534)).0 s₄.0 in
      record {
        limits =
            record {
              width_low = leb-true 1 w a.0;
              width_high = leb-true w 64 a.1;
              entries_low = leb-true 2 e b.0;
              entries_high = leb-true e 255 b.1;
              pages_low = leb-true 1 p c.0;
              pages_high = leb-true p 65534 c.1;
              records_low = leb-true 1 used d.0;
              records_high = leb-true used 65534 d.1;
            };
        register = eqb-true keys used s₅.0;
        long = eqb-true table (page_start (layout_of e) p) s₅.1;
      }

  pub fits_met : FormatFit w e p table keys used → format_fits w e p table keys used ≡ true
  unfolding format_fits
  fits_met h =
      let l = h.limits in
      rw (
        le-leb 1 w l.width_low,
        le-leb w 64 l.width_high,
        le-leb 2 e l.entries_low,
        le-leb e 255 l.entries_high,
        le-leb 1 p l.pages_low,
        le-leb p 65534 l.pages_high,
        le-leb 1 used l.records_low,
        le-leb used 65534 l.records_high,
        eq-eqb keys used h.register,
        eq-eqb table (page_start (layout_of e) p) h.long,
      )

  pub fits_not : (FormatFit w e p table keys used → ⊥) → format_fits w e p table keys used ≡ false
  fits_not n = go (format_fits w e p table keys used) refl
    where
      go : (t : Bool) → format_fits w e p table keys used ≡ t → t ≡ false
      go true h = absurd (n (fits_says h))
      go false h = refl

  -- Within the limits the lengths decide.
  pub fits_length : Limits w e p used → keys ≡ used → format_fits w e p table keys used ≡ eqb table (page_start (layout_of e) p)
  unfolding format_fits
  fits_length l r =
      rw (
        le-leb 1 w l.width_low,
        le-leb w 64 l.width_high,
        le-leb 2 e l.entries_low,
        le-leb e 255 l.entries_high,
        le-leb 1 p l.pages_low,
        le-leb p 65534 l.pages_high,
        le-leb 1 used l.records_low,
        le-leb used 65534 l.records_high,
        eq-eqb keys used r,
      )

module _ {w e p : ℕ} {index keys used : List ℕ} where
  pub format_refused : (r : Answer) → format_fits w e p (length index) (length keys) (length used) ≡ false → r ≡ plain 9
      → FormatDoes w e p index keys used index keys used r
  format_refused r h a = record { answer = rw h a; index = rw h; keys = rw h; used = rw h }

  pub format_done : (r : Answer) {index₁ keys₁ used₁ : List ℕ} → format_fits w e p (length index) (length keys) (length used) ≡ true → r ≡ plain 0
      → index₁ ≡ empty_table w e p → keys₁ ≡ replicate (length keys) 0 → used₁ ≡ replicate (length used) 0 → FormatDoes w e p index keys used index₁ keys₁ used₁ r
  format_done r h a i k u = record { answer = rw h a; index = rw h i; keys = rw h k; used = rw h u }

-- A table that format is to make has room for its first page.
pub format_empty : (w : ℕ) {e p : ℕ} {index : List ℕ} (keys used : ℕ) → format_fits w e p (length index) keys used ≡ true → EmptyPre e p index
format_empty w {e} {p} {index} keys used h =
    let f = fits_says w e p (length index) keys used h in
    record {
      entries = f.limits.entries_low;
      pages = f.limits.pages_low;
      table = f.long;
      long = omega (arith, f.long, pages_apart (layout_of e) 0 p f.limits.pages_low, f.limits.entries_low);
    }
