-- One call on tables that hold a map: it answers as the map does, and leaves tables that hold the map behind it. Assumes nothing.
use mathlib.Core.Path.{◌≡◌, refl, ap, ap₂, sym, subst, ◌∙◌}
use mathlib.Core.Bool.{Bool, true, false, cond}
use mathlib.Core.Option.{Option, none, some}
use mathlib.Core.List.{List}
use Prim.Native.Nat.{ℕ}
use native.Mathlib.Omega.{arith}
use lib.Dec.{leb, eqb}
use lib.ListN.{length, set, length-set}
use borrow.Author.Tests.{eqb-true, eqb-false, leb-false}
use Rattle.leaf_list.specs.Herd.{Herd, lookup, add, remove}
use Rattle.leaf_list.specs.Register.{in_use, herd_of}
use Rattle.index_table.specs.Header.{width_of, root_of, HeaderFrom}
use Rattle.index_table.specs.Soundness.{Sound}
use Rattle.table_find.specs.declared.answer.Answer.{Answer}
use Rattle.table_find.specs.Answers.{plain}
use Rattle.table_format.specs.Format.{FormatDoes}
use Rattle.table_format.proofs.EmptySound.{format_sound, format_lengths, format_width, format_empties}
use Rattle.table_change.specs.Changes.{too_wide, is_some, is_held, on_row, on_row_of, off_row_of, row_eight, row_seven}
use Rattle.table_change.proofs.SoundAfter.{herd_on, herd_off}
use Rattle.tag_index.specs.Changing.{OnDoes, OffDoes, row_behind}
use Rattle.tag_index.specs.Reading.{Judged, FindDoes, ListDoes}
use Rattle.tag_index.specs.Tables.{Tables}
use Rattle.tag_index.specs.Histories.{Call, format, on, off, find, list, check, Reply, answered, sliced, said, OrderedMap, Sizes, sizes_of, late_of, Feed, on_fed, formats, empty_map, map_on_row, map_off_row, map_reply, map_after}
use Rattle.tag_index.proofs.RecordKeys.{record_taken}
use Rattle.tag_index.proofs.Runs.{Formats, Ons, Offs, Finds, Lists, Checks, formats_does, ons_does, offs_does, finds_does, lists_does, checks_does}

-- What the tables hold between calls: they are sound, and their width and held keys are the map's.
pub record Holds (z : Sizes) (m : OrderedMap) (t : Tables) : Type 0 where
  pub sizes : sizes_of t ≡ z
  pub sound : Sound t.index t.keys t.used
  pub width : width_of t.index ≡ m.width
  pub herd : herd_of t.keys t.used ≡ m.herd

-- A call is done as the map does it: its reply is the map's, and so is what it leaves.
pub record Step (z : Sizes) (f : Feed) (m : OrderedMap) (c : Call) (x : Reply) (u : Tables) : Type 0 where
  pub reply : x ≡ map_reply z f m c
  pub holds : Holds z (map_after z f m c) u

-- Sound tables are judged sound.
pub judged_sound : {index keys used : List ℕ} → Sound index keys used → (j : Judged index keys used) → j.sound ≡ true
judged_sound s j = j.decides.1 s

-- Tables that are as they were hold what they held.
holds_same : {z : Sizes} {m : OrderedMap} {t u : Tables} → Holds z m t → u.index ≡ t.index → u.keys ≡ t.keys → u.used ≡ t.used → Holds z m u
holds_same h index keys used = record {
  sizes = (λ i. record { table = length (index i); keys = length (keys i); used = length (used i) }) ∙ h.sizes;
  sound = rw (index, keys, used) h.sound;
  width = rw index h.width;
  herd = rw (keys, used) h.herd;
}

-- ---- the calls that only read

pub find_does_step : {z : Sizes} {f : Feed} {m : OrderedMap} {t : Tables} {key : ℕ} {r : Answer} → Holds z m t → FindDoes t.index t.keys t.used key r
    → Step z f m (find key) (answered r) t
find_does_step h does =
    record { reply = ap answered (rw (← h.width, ← h.herd) (rw (judged_sound h.sound does.judged) at does.answer)); holds = h }

pub finds_step : {z : Sizes} {f : Feed} {m : OrderedMap} {t : Tables} {key : ℕ} {r : Answer} → Holds z m t → Finds key t r → Step z f m (find key) (answered r) t
finds_step h s = find_does_step h (finds_does s)

pub checks_step : {z : Sizes} {f : Feed} {m : OrderedMap} {t : Tables} {r : Bool} → Holds z m t → Checks t r → Step z f m check (said r) t
checks_step h s = record { reply = ap said ((checks_does s).1 h.sound); holds = h }

pub list_does_step : {z : Sizes} {f : Feed} {m : OrderedMap} {t : Tables} {a b : ℕ} {out out₁ : List ℕ} {r : Answer} → Holds z m t
    → ListDoes t.index t.keys t.used a b out out₁ r → Step z f m (list a b out) (sliced r out₁) t
list_does_step h does =
    let j = judged_sound h.sound does.judged in
    record { reply = ap₂ sliced (rw (← h.width, ← h.herd) (rw j at does.answer)) (rw (← h.width, ← h.herd) (rw j at does.slice)); holds = h }

pub lists_step : {z : Sizes} {f : Feed} {m : OrderedMap} {t : Tables} {a b : ℕ} {out out₁ : List ℕ} {r : Answer} → Holds z m t → Lists a b out out₁ t r
    → Step z f m (list a b out) (sliced r out₁) t
lists_step h s = list_does_step h (lists_does s)

-- ---- format

module _ {m : OrderedMap} {t u : Tables} {w e p : ℕ} {r : Answer} (h : Holds (sizes_of t) m t) (does : FormatDoes w e p t.index t.keys t.used u.index u.keys u.used r) where
  format_done : formats (sizes_of t) w e p ≡ true → Holds (sizes_of t) (empty_map w) u
  format_done f = record {
    sizes = λ i. record { table = (format_lengths does f).0 i; keys = (format_lengths does f).1 i; used = (format_lengths does f).2 i };
    sound = format_sound does f;
    width = format_width does f;
    herd = format_empties does f;
  }

  format_behind : (b : Bool) → formats (sizes_of t) w e p ≡ b → Holds (sizes_of t) (cond b (empty_map w) m) u
  format_behind true f = format_done f
  format_behind false f = holds_same h (rw f at does.index) (rw f at does.keys) (rw f at does.used)

pub formats_step : {z : Sizes} {f : Feed} {m : OrderedMap} {t u : Tables} {w e p : ℕ} {r : Answer} → Holds z m t → Formats w e p t u r
    → Step z f m (format w e p) (answered r) u
formats_step {z} {f} {m} {t} {u} {w} {e} {p} {r} h s =
    subst (λ (y : Sizes). Step y f m (format w e p) (answered r) u) h.sizes
    (record {
      reply = ap answered (formats_does s).answer;
      holds =
          format_behind (record { sizes = refl; sound = h.sound; width = h.width; herd = h.herd }) (formats_does s) (formats (sizes_of t) w e p) refl;
    })

-- ---- tables that on and off leave

-- Where no row applies, the key fits, the record is one of the register and free, and the key is not held.
on_passes : (wide past taken held eight seven : Bool) → on_row wide past taken held eight seven ≡ 0
    → (wide ≡ false) × (past ≡ false) × (taken ≡ false) × (held ≡ false)
on_passes true past taken held eight seven e = absurd (omega (arith, e))
on_passes false true taken held eight seven e = absurd (omega (arith, e))
on_passes false false true held eight seven e = absurd (omega (arith, e))
on_passes false false false true eight seven e = absurd (omega (arith, e))
on_passes false false false false eight seven e = (refl, refl, refl, refl)

not_held : (o : Option ℕ) → is_some o ≡ false → o ≡ none
not_held none e = refl
not_held (some r) e = absurd (let z : ◌≡◌ {A = ℕ} 0 1 = cc in omega arith)

-- The tables after a change hold the map with the herd after it.
module _ {z : Sizes} {m : OrderedMap} {t u : Tables} (h : Holds z m t) (r key byte held : ℕ)
    (header : HeaderFrom t.index u.index (root_of u.index) held) (keys : u.keys ≡ set t.keys r key) (used : u.used ≡ set t.used r byte)
    (sound : Sound u.index u.keys u.used) where
  table_kept : length u.index ≡ length t.index
  table_kept = sound.lengths.table ∙ (rw (header.entries, header.pages) refl ∙ sym h.sound.lengths.table)

  holds_changed : (s : Herd) → herd_of (set t.keys r key) (set t.used r byte) ≡ s → Holds z (record { width = m.width; herd = s }) u
  holds_changed s e = record {
    sizes =
        (λ i. record { table = table_kept i; keys = (ap length keys ∙ length-set t.keys r key) i; used = (ap length used ∙ length-set t.used r byte) i })
        ∙ h.sizes;
    sound = sound;
    width = header.width ∙ h.width;
    herd = rw (keys, used) e;
  }

-- ---- on

module _ {z : Sizes} {m : OrderedMap} {t u : Tables} {key r : ℕ} {a : Answer} (h : Holds z m t) (does : OnDoes t.index t.keys t.used key r u.index u.keys u.used a) where
  -- The row that applies to the tables is the row that applies to the map.
  on_row_lem : row_behind does.judged (on_row_of t.index t.keys t.used key r) ≡ map_on_row z (late_of t key r) m key r
  on_row_lem =
      rw (judged_sound h.sound does.judged, record_taken t.keys t.used r, h.width, h.herd, ap (λ (y : Sizes). y.used) h.sizes) refl

  on_done : row_behind does.judged (on_row_of t.index t.keys t.used key r) ≡ 0 → Holds z (record { width = m.width; herd = add key r m.herd }) u
  on_done e =
      let o = does.done e in
      let row : on_row_of t.index t.keys t.used key r ≡ 0 = rw (judged_sound h.sound does.judged) at e in
      let q = on_passes (too_wide (width_of t.index) key) (leb (length t.used) r) (in_use t.used r) (is_held key (herd_of t.keys t.used))
      (row_eight t.index t.keys key r) (row_seven t.index t.keys key r) row in
      holds_changed h r key 1 _ o.header o.key_set o.byte_set o.sound (add key r m.herd)
      (herd_on h.sound key r (leb-false (length t.used) r q.1) q.2 (not_held (lookup key (herd_of t.keys t.used)) q.3) ∙ ap (add key r) h.herd)

  on_behind : (b : Bool) → eqb (row_behind does.judged (on_row_of t.index t.keys t.used key r)) 0 ≡ b
      → Holds z (cond b (record { width = m.width; herd = add key r m.herd }) m) u
  on_behind true e = on_done (eqb-true (row_behind does.judged (on_row_of t.index t.keys t.used key r)) 0 e)
  on_behind false e =
      let o = does.refused (eqb-false (row_behind does.judged (on_row_of t.index t.keys t.used key r)) 0 e) in
      holds_same h o.0 o.1 o.2

pub on_does_step : {z : Sizes} {m : OrderedMap} {t u : Tables} {key r : ℕ} {a : Answer} → Holds z m t
    → OnDoes t.index t.keys t.used key r u.index u.keys u.used a → Step z (on_fed t key r) m (on key r) (answered a) u
on_does_step {t = t} {key = key} {r = r} h does =
    record {
      reply = ap answered (does.answer ∙ ap plain (on_row_lem h does));
      holds = rw (on_row_lem h does) at (on_behind h does (eqb (row_behind does.judged (on_row_of t.index t.keys t.used key r)) 0) refl);
    }

pub ons_step : {z : Sizes} {m : OrderedMap} {t u : Tables} {key r : ℕ} {a : Answer} → Holds z m t → Ons key r t u a
    → Step z (on_fed t key r) m (on key r) (answered a) u
ons_step h s = on_does_step h (ons_does s)

-- ---- off

module _ {z : Sizes} {m : OrderedMap} {t u : Tables} {key : ℕ} {a : Answer} (h : Holds z m t) (does : OffDoes t.index t.keys t.used key u.index u.keys u.used a) where
  off_row_lem : row_behind does.judged (off_row_of t.index t.keys t.used key) ≡ map_off_row m key
  off_row_lem = rw (judged_sound h.sound does.judged, h.width, h.herd) refl

  off_done : row_behind does.judged (off_row_of t.index t.keys t.used key) ≡ 0 → Holds z (record { width = m.width; herd = remove key m.herd }) u
  off_done e =
      let o = does.done e in
      holds_changed h o.«record» 0 0 _ o.header o.key_set o.byte_set o.sound (remove key m.herd)
      (herd_off h.sound key o.«record» o.found ∙ ap (remove key) h.herd)

  off_behind : (b : Bool) → eqb (row_behind does.judged (off_row_of t.index t.keys t.used key)) 0 ≡ b
      → Holds z (cond b (record { width = m.width; herd = remove key m.herd }) m) u
  off_behind true e = off_done (eqb-true (row_behind does.judged (off_row_of t.index t.keys t.used key)) 0 e)
  off_behind false e =
      let o = does.refused (eqb-false (row_behind does.judged (off_row_of t.index t.keys t.used key)) 0 e) in
      holds_same h o.0 o.1 o.2

pub off_does_step : {z : Sizes} {f : Feed} {m : OrderedMap} {t u : Tables} {key : ℕ} {a : Answer} → Holds z m t
    → OffDoes t.index t.keys t.used key u.index u.keys u.used a → Step z f m (off key) (answered a) u
off_does_step {t = t} {key = key} h does =
    record {
      reply = ap answered (does.answer ∙ ap plain (off_row_lem h does));
      holds = rw (off_row_lem h does) at (off_behind h does (eqb (row_behind does.judged (off_row_of t.index t.keys t.used key)) 0) refl);
    }

pub offs_step : {z : Sizes} {f : Feed} {m : OrderedMap} {t u : Tables} {key : ℕ} {a : Answer} → Holds z m t → Offs key t u a
    → Step z f m (off key) (answered a) u
offs_step h s = off_does_step h (offs_does s)
