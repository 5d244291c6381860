-- The turns of a pass over the entries of a page of level 0. Assumes nothing.
use Rattle.std.proofs.Common.{◌≡◌, ℕ, suc, ◌+◌, ◌-◌, ◌^◌, ◌<◌, ◌≤◌, max, Bool, true, false, cond, not, ◌&&◌, ◌||◌, eqb, ltb, leb, ◌≢◌, List, [], ◌∷◌, length, sym, refl, ap, ◌∙◌, subst, true≢false, arith, pow_mono, ltb-true, le-ltb, lt-ltb, ne_eqb, eqb-true, Option, Some, is_some}
use mathlib.Core.Bool.{and-false}
use lib.Pow.{pow-lt}
use borrow.Author.Tests.{eqb-false, lt-leb}
use Rattle.leaf_list.specs.Keys.{bit_at, set_bit_at}
use Rattle.leaf_list.specs.Entries.{entry}
use Rattle.leaf_list.specs.Register.{key_at, in_use}
use Rattle.leaf_list.specs.Conditions.{pointer_fits, entry_fits}
use Rattle.index_table.specs.Layout.{Ref, layout_of, page_bytes, count_of}
use Rattle.index_table.specs.Pages.{record_of}
use Rattle.index_table.specs.declared.header.Index.{Index}
use Rattle.bytes_check.specs.Scans.{rows_of}
use Rattle.leaf_check.specs.Leaves.{countless, NarrowRegister, Scanned, leaves_of_row, RowSound}
use Rattle.leaf_check.specs.DepthTable.{BitsBehind}
use Rattle.leaf_check.specs.Passes.{Meets, Begun, PassPre, told, PassedOn, PassedEntry, Passed, scan_behind}
use Rattle.leaf_check.specs.declared.entries.Scan.{Scan}
use Rattle.leaf_check.specs.declared.entries.Checked.{Checked}
use Rattle.leaf_check.specs.declared.passes.Pass.{Pass}
use Rattle.leaf_check.proofs.EntryTests.{record_free, entry_refused, entry_next, one_fault}
use Rattle.leaf_check.proofs.PassTests.{both}
use Rattle.leaf_check.proofs.RowTurns.{RowTurn, entry_at, entry_few, row_depth, row_entry, row_more, leaf_sound, leaf_marks}
use Rattle.leaf_check.proofs.UncountedTurns.{uncounted, refused_uncounted}

-- The numbers of a page that c closes, by the names that the code has for them.
pub record Named (h : Index) (index : List ℕ) (page c w m k n l a : ℕ) : Type 0 where
  pub width : w ≡ h.width
  pub held : m ≡ h.held
  pub low : m < 65536
  pub close : k ≡ c
  pub count : n ≡ count_of (page_bytes (layout_of h.entries) index page)
  pub few : n ≤ 255
  pub last : l + 1 ≡ n
  pub most : suc a ≡ 2 ^ (h.width - c)

-- An entry up to the last is among those that a page may hold.
pub named_few : {h : Index} {index : List ℕ} {page c w m k n l o i : ℕ} → Named h index page c w m k n l o → length (rows_of h index page) ≤ h.entries → i ≤ l → i < h.entries
named_few {h} {index} {page} {n} {i} a f g = entry_few h index page n i a.count f (omega (arith, a.last))

-- The first i entries were in order, and the pass tells what is carried behind them.
module _ (h : Index) (index keys used : List ℕ) (page c count : ℕ) (s : Scan) where
  pub record PassTurn (pass : Pass) (i : ℕ) : Type 0 where
    pub scan : Scan
    pub turn : RowTurn (uncounted h) index keys used page c 0 count [] s [] scan i
    pub unclosed : scan.closed ≡ false
    pub disc : pass.disc ≡ scan.disc
    pub meets : Meets h.width c pass scan.trail scan.dummy
    pub counted : scan.live + pass.dummies ≡ s.live + i
    pub few : pass.dummies ≤ i
    pub told : told pass.disc pass.low used (entry_at h index page i).1 ≡ true
    pub first : i ≡ 0 → scan ≡ s
    pub trail : 0 < i → (scan.trail ≡ (entry_at h index page (i - 1)).0) × (c < scan.trail)

-- The last turn, by the number that the code has for its entry.
pub turn_at : {h : Index} {index keys used : List ℕ} {page c count : ℕ} {s : Scan} {pass : Pass} {i n : ℕ} → i ≡ n → PassTurn h index keys used page c count s pass i → PassTurn h index keys used page c count s pass n
turn_at {h} {index} {keys} {used} {page} {c} {count} {s} {pass} e t = subst (PassTurn h index keys used page c count s pass) e t

-- A dummy is counted as one, and any other entry as live.
counted_one : (b : Bool) (live dummies n : ℕ) → live + dummies ≡ n → cond b live (suc live) + cond b (suc dummies) dummies ≡ n + 1
counted_one true live dummies n e = omega arith
counted_one false live dummies n e = omega arith

few_one : (b : Bool) (dummies n : ℕ) → dummies ≤ n → cond b (suc dummies) dummies ≤ n + 1
few_one true dummies n e = omega arith
few_one false dummies n e = omega arith

scan_same : {disc disc' trail trail' live live' : ℕ} {dummy dummy' closed closed' : Bool} → disc ≡ disc' → trail ≡ trail' → dummy ≡ dummy' → live ≡ live' → closed ≡ closed'
    → ◌≡◌ {A = Scan} (record { disc = disc; trail = trail; dummy = dummy; live = live; closed = closed }) (record { disc = disc'; trail = trail'; dummy = dummy'; live = live'; closed = closed' })
scan_same a b d e f = rw (a, b, d, e, f)

module _ {h : Index} {index keys used : List ℕ} {page c count : ℕ} {s : Scan} where
  -- Before the first entry.
  pub pass_begun : RowTurn (uncounted h) index keys used page c 0 count [] s [] s 0 → s.closed ≡ false → {w close : ℕ} → w ≡ h.width → close ≡ c → {r : Pass} → Begun w close s r
      → told r.disc r.low used (entry_at h index page 0).1 ≡ true → PassTurn h index keys used page c count s r 0
  pass_begun t u {w} {close} a b {r} z q =
      record {
        scan = s;
        turn = t;
        unclosed = u;
        disc = z.disc;
        meets = rw (← a, ← b) z.meets;
        counted = omega (arith, z.dummies);
        few = omega (arith, z.dummies);
        told = q;
        first = λ e. refl;
        trail = λ e. absurd (omega arith);
      }

  -- A page is refused whose first entry has a free record that its key does not tell.
  pub first_stops : RowTurn (uncounted h) index keys used page c 0 count [] s [] s 0 → s.closed ≡ false → 0 < count → (disc low : ℕ) → told disc low used (entry_at h index page 0).1 ≡ false → h.held ≤ countless
      → (q : Checked) → q.faults ≢ 0 → Scanned (RowSound h index c 0 (rows_of h index page) []) h.width keys used h.held s (leaves_of_row 0 (rows_of h index) (rows_of h index page)) q
  first_stops t u l disc low z m q n =
      refused_uncounted m one_fault
      (row_entry t (omega arith) (leaf_sound x _ _ _ _ refl refl refl refl (entry_refused h.width keys used countless s x.0 x.1 u free)) one_fault) q n
    where
      x : Ref
      x = entry_at h index page 0

      go : (a b : Bool) → eqb x.1 65535 ≡ a → in_use used x.1 ≡ b → (a || b) ≡ false → pointer_fits h.width (key_at keys) (in_use used) s.disc s.trail x.0 (record_of 65535 x.1) ≡ false
      go true b e f k = absurd (true≢false k)
      go false true e f k = absurd (true≢false k)
      go false false e f k = sym (record_free h.width (key_at keys) (in_use used) s.disc s.trail x.0 x.1 (eqb-false x.1 65535 e) f)

      either : (a b : Bool) → (a || b) ≡ false → b ≡ false
      either true b e = absurd (true≢false e)
      either false b e = e

      free : entry_fits h.width (key_at keys) (in_use used) s.disc s.trail s.dummy x.0 (record_of 65535 x.1) ≡ false
      free =
          rw (
            go (eqb x.1 65535) (in_use used x.1) refl refl (either (ltb low disc) (eqb x.1 65535 || in_use used x.1) z),
            and-false (not s.dummy || ltb s.trail x.0),
            and-false (eqb x.0 0 || not (bit_at h.width x.0 s.disc)),
            and-false (leb x.0 h.width),
          )

  module _ {pass : Pass} {i : ℕ} (t : PassTurn h index keys used page c count s pass i) where
    -- What the next entry takes.
    pass_pre : h.width ≤ 64 → PassPre h.width pass
    pass_pre l =
        let k : h.width - max c (cond t.scan.dummy t.scan.trail 0) ≤ h.width = omega arith in
        record { width = l; disc = rw t.disc t.turn.turned.carried.disc; limit = omega (arith, t.meets.limit, pow_mono k) }

    -- What is carried behind the entries, as the pass tells it.
    pub pass_ends : {most : ℕ} → suc most ≡ 2 ^ (h.width - c) → {r : Scan} → r ≡ scan_behind h index page most s i pass → RowTurn (uncounted h) index keys used page c 0 count [] s [] r i
    pass_ends {most} b {r} e = subst (λ (x : Scan). RowTurn (uncounted h) index keys used page c 0 count [] s [] x i) (go (eqb i 0) refl ∙ sym e) t.turn
      where
        dummies : (dummy : Bool) → t.scan.dummy ≡ dummy → c < t.scan.trail → dummy ≡ ltb pass.limit most
        dummies true z l =
            let m : suc pass.limit ≡ 2 ^ (h.width - max c (cond true t.scan.trail 0)) = rw z at t.meets.limit in
            let k : h.width - max c t.scan.trail < h.width - c = omega (arith, t.meets.trail) in
            sym (lt-ltb pass.limit most (omega (arith, m, pow-lt k)))
        dummies false z l =
            let m : suc pass.limit ≡ 2 ^ (h.width - max c (cond false t.scan.trail 0)) = rw z at t.meets.limit in
            let k : max c 0 ≡ c = omega arith in
            sym (le-ltb pass.limit most (omega (arith, rw k at m)))

        go : (k : Bool) → eqb i 0 ≡ k → t.scan ≡ scan_behind h index page most s i pass
        go true z = rw z (t.first (eqb-true i 0 z))
        go false z =
            let l : 0 < i = (let n : i ≢ 0 = eqb-false i 0 z in omega arith) in
            rw z (scan_same (sym t.disc) (t.trail l).0 (dummies t.scan.dummy refl (t.trail l).1) (omega (arith, t.counted)) t.unclosed)

    -- Another entry that is not the last.
    module _ (l : i + 1 < count) {most below p : ℕ} (a : h.width ≤ 64) (b : suc most ≡ 2 ^ (h.width - c)) (e : BitsBehind h.width (entry_at h index page i).0 below) (f : p ≡ (entry_at h index page i).1) {r : Option Pass} (z : Passed keys most pass below p r) (g : NarrowRegister h.width keys used) where
      abbrev x : Ref
      x = entry_at h index page i

      abbrev Fits : Bool
      Fits = entry_fits h.width (key_at keys) (in_use used) t.scan.disc t.scan.trail t.scan.dummy x.0 (record_of 65535 x.1)

      said : PassedEntry h.width keys used c pass t.scan.trail t.scan.dummy x.0 x.1 r
      said = subst (λ (q : ℕ). Passed keys most pass below q r) f z h.width x.0 (pass_pre a) e used g t.told c b t.scan.trail t.scan.dummy t.meets

      answer : is_some r ≡ (ltb c x.0 && Fits)
      answer = said.verdict ∙ rw t.disc

      -- It is refused.
      pub pass_stops : is_some r ≡ false → h.held ≤ countless → (q : Checked) → q.faults ≢ 0
          → Scanned (RowSound h index c 0 (rows_of h index page) []) h.width keys used h.held s (leaves_of_row 0 (rows_of h index) (rows_of h index page)) q
      pass_stops o m q n = go (ltb c x.0) refl (sym answer ∙ o)
        where
          go : (k : Bool) → ltb c x.0 ≡ k → (k && Fits) ≡ false
              → Scanned (RowSound h index c 0 (rows_of h index page) []) h.width keys used h.held s (leaves_of_row 0 (rows_of h index) (rows_of h index page)) q
          go false k v =
              refused_uncounted m one_fault (row_depth t.turn (omega arith) x.0 refl (rw (ne_eqb (i + 1) count (λ y. omega arith)) k) (record { faults = 1; scan = s }) one_fault) q n
          go true k v =
              refused_uncounted m one_fault
              (row_entry t.turn (omega arith) (leaf_sound x _ _ _ _ refl refl refl refl (entry_refused h.width keys used countless t.scan x.0 x.1 t.unclosed v)) one_fault) q n

      -- It is in order.
      module _ (q : Pass) (o : r ≡ Some q) (room : s.live + i < countless) where
        on : PassedOn h.width c pass x.0 x.1 q
        on = (subst (PassedEntry h.width keys used c pass t.scan.trail t.scan.dummy x.0 x.1) o said).carried

        above : c < x.0
        above = ltb-true c x.0 (both (ltb c x.0) Fits (sym answer ∙ ap is_some o)).0

        abbrev next : Scan
        next = record { disc = q.disc; trail = x.0; dummy = eqb x.1 65535; live = cond (eqb x.1 65535) t.scan.live (suc t.scan.live); closed = false }

        one : Scanned (Unit {0}) h.width keys used countless t.scan (entry x.0 (record_of 65535 x.1) ∷ []) (record { faults = 0; scan = next })
        one =
            entry_next h.width keys used countless t.scan x.0 x.1 t.unclosed (both (ltb c x.0) Fits (sym answer ∙ ap is_some o)).1
            (rw (lt-leb countless t.scan.live (omega (arith, t.counted))) (and-false (not (eqb x.1 65535)))) t.turn.turned.carried _ refl (λ y. omega (arith, above)) q.disc
            (on.disc ∙ ap (set_bit_at h.width x.0) t.disc) (on.bound)

        pub pass_goes : PassTurn h index keys used page c count s q (i + 1)
        pass_goes =
            record {
              scan = next;
              turn = row_more t.turn (omega arith) (leaf_sound x _ _ _ _ refl refl refl refl one) refl x.0 refl (rw (ne_eqb (i + 1) count (λ y. omega arith)) (lt-ltb c x.0 above)) [] (leaf_marks _ _);
              unclosed = refl;
              disc = refl;
              meets = on.meets;
              counted = rw (on.dummies) (counted_one (eqb x.1 65535) t.scan.live pass.dummies (s.live + i) t.counted ∙ omega arith);
              told = rw (lt-ltb q.low q.disc (on.above));
              few = rw (on.dummies) (few_one (eqb x.1 65535) pass.dummies i t.few);
              first = λ y. absurd (omega arith);
              trail = λ y. (ap (λ (k : ℕ). (entry_at h index page k).0) (let k : i ≡ i + 1 - 1 = omega arith in k), above);
            }
