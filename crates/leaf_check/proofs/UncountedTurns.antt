-- The entries of a page of level 0, before the live ones are compared with the records held. Assumes nothing.
use Rattle.std.proofs.Common.{ℕ, ◌<◌, ◌≤◌, ◌≢◌, ◌↔◌, List, [], sym, ap, ◌∙◌, arith}
use Rattle.leaf_list.specs.Entries.{Entry}
use Rattle.leaf_list.specs.Register.{key_at, in_use}
use Rattle.leaf_list.specs.Conditions.{State}
use Rattle.leaf_list.proofs.Check.{run_live}
use Rattle.index_table.specs.Layout.{Ref}
use Rattle.index_table.specs.declared.header.Index.{Index}
use Rattle.bytes_check.specs.Scans.{rows_of}
use Rattle.leaf_check.specs.Leaves.{countless, state_of, Carried, Scanned, leaves_of_row, RowSound}
use Rattle.leaf_check.specs.declared.entries.Scan.{Scan}
use Rattle.leaf_check.specs.declared.entries.Checked.{Checked}
use Rattle.leaf_check.proofs.EntryTests.{scanned_no}
use Rattle.leaf_check.proofs.RowTurns.{entries_from, RowTurn}

-- A header that holds countless records.
abbrev pub uncounted : Index → Index
uncounted h = record { width = h.width; entries = h.entries; pages = h.pages; root = h.root; held = countless }

-- What is carried under the header is carried under that one.
pub carried_uncounted : {w held : ℕ} {s : Scan} → held ≤ countless → Carried w held s → Carried w countless s
carried_uncounted l k = record { disc = k.disc; trail = k.trail; live = omega (arith, k.live) }

-- And back, where no more are live than records are held.
pub carried_counted : {w held : ℕ} {s : Scan} → Carried w countless s → s.live ≤ held → Carried w held s
carried_counted k l = record { disc = k.disc; trail = k.trail; live = l }

module _ {h : Index} {index : List ℕ} {c n : ℕ} {row : List Ref} {map : List ℕ} where
  -- A row is as sound under the one header as under the other.
  row_uncounted : RowSound h index c n row map ↔ RowSound (uncounted h) index c n row map
  row_uncounted = (
    (λ a. record { ends = a.ends; sound = a.sound; once = a.once }),
    (λ a. record { ends = a.ends; sound = a.sound; once = a.once }),
  )

  -- What is refused before the live entries are compared is refused.
  pub refused_uncounted : {keys used : List ℕ} {s : Scan} {es : List Entry} {r' : Checked} → h.held ≤ countless → r'.faults ≢ 0
      → Scanned (RowSound (uncounted h) index c n row map) h.width keys used countless s es r' → (r : Checked) → r.faults ≢ 0 → Scanned (RowSound h index c n row map) h.width keys used h.held s es r
  refused_uncounted l o z r e =
      scanned_no r e (λ a p. o (z.verdict.1 (row_uncounted.0 a, record { fits = p.fits; few = omega (arith, p.few) })))

module _ {h : Index} {index keys used : List ℕ} {page c count : ℕ} {s₀ s : Scan} {i : ℕ} (t : RowTurn (uncounted h) index keys used page c 0 count [] s₀ [] s i) where
  -- More entries are live than records are held: no.
  pub too_many_live : h.held < s.live → (r : Checked) → r.faults ≢ 0
      → Scanned (RowSound h index c 0 (rows_of h index page) []) h.width keys used h.held s₀ (leaves_of_row 0 (rows_of h index) (rows_of h index page)) r
  too_many_live l r o = scanned_no r o (λ a p. omega (arith, p.few, ap (λ (u : State). u.live) t.turned.state, run_live h.width (key_at keys) (in_use used) (leaves_of_row 0 (rows_of h index) (entries_from h index page count i)) (state_of s)))

  -- No more are: the entries so far were in order.
  pub turn_counted : h.held ≤ countless → s.live ≤ h.held → RowTurn h index keys used page c 0 count [] s₀ [] s i
  turn_counted m l =
      record {
        some = t.some;
        turned = record {
          same = (
            (λ a. (
              row_uncounted.1 (t.turned.same.0 (row_uncounted.0 a.0, record { fits = a.1.fits; few = omega (arith, a.1.few) })).0,
              record { fits = ap (λ (u : State). u.fits) (sym t.turned.state) ∙ a.1.fits; few = omega (arith, a.1.few, ap (λ (u : State). u.live) t.turned.state) },
            )),
            (λ a. (
              row_uncounted.1 (t.turned.same.1 (row_uncounted.0 a.0, record { fits = a.1.fits; few = omega (arith, a.1.few) })).0,
              record { fits = ap (λ (u : State). u.fits) t.turned.state ∙ a.1.fits; few = omega (arith, a.1.few, ap (λ (u : State). u.live) t.turned.state) },
            )),
          );
          state = t.turned.state;
          marks = t.turned.marks;
          marked = t.turned.marked;
          carried = carried_counted t.turned.carried l;
        };
      }
