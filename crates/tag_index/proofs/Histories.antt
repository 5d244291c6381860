-- Every history of format, on, off, find, list, check and load calls answers as the ordered map does, and leaves tables that agree with it. Assumes nothing.
use mathlib.Core.Path.{◌≡◌, refl, ap, ap₂, sym, ◌∙◌}
use mathlib.Core.List.{List, ◌∷◌}
use lib.ListN.{length}
use Rattle.leaf_list.specs.Herd.{Herd}
use Rattle.index_table.proofs.SoundTables.{herd_held}
use Rattle.table_format.proofs.EmptySound.{format_sound, format_lengths, format_width, format_empties}
use Rattle.tag_index.specs.Tables.{Tables}
use Rattle.tag_index.specs.Histories.{Call, format, on, off, load, Reply, OrderedMap, Sizes, sizes_of, Feed, nothing_fed, on_fed, load_fed, key_with, empty_map, map_after, map_replies, map_behind}
use Rattle.tag_index.specs.Claims.{byte_and_key, Agrees, Follows}
use Rattle.tag_index.proofs.MapSteps.{Holds, Step, formats_step, ons_step, offs_step, finds_step, lists_step, checks_step}
use Rattle.tag_index.proofs.LoadSteps.{loads_step}
use Rattle.tag_index.proofs.ReachedPages.{reached_in_use, other_zero}
use Rattle.tag_index.proofs.RecordKeys.{record_says}
use Rattle.tag_index.proofs.Runs.{Run, History, end, formats as formats_run, ons, offs, finds, lists, checks, loads, loads_does, formats_does}

-- Tables that hold a map agree with it.
pub agrees : {z : Sizes} {m : OrderedMap} {t : Tables} → Holds z m t → Agrees m t
agrees {m = m} {t = t} h = record {
  leaves = rw (← h.width, ← h.herd) h.sound.leaves;
  register = λ r. record_says h.sound r ∙ ap (λ (s : Herd). byte_and_key (key_with r s)) h.herd;
  held = sym (herd_held h.sound) ∙ ap length h.herd;
  reached = reached_in_use h.sound;
  others = other_zero h.sound;
}

-- A run from tables that hold a map: its replies are the map's, and the tables that it leaves hold the map behind it.
pub record Runs (z : Sizes) (m : OrderedMap) (cs : List Call) (fs : List Feed) (rs : List Reply) (v : Tables) : Type 0 where
  pub replies : rs ≡ map_replies z m cs fs
  pub holds : Holds z (map_behind z m cs fs) v

-- One call more before a run.
before : {z : Sizes} {f : Feed} {m : OrderedMap} {u v : Tables} {c : Call} {x : Reply} {cs : List Call} {fs : List Feed} {rs : List Reply}
    → Step z f m c x u → Runs z (map_after z f m c) cs fs rs v
    → Runs z m (c ∷ cs) (f ∷ fs) (x ∷ rs) v
before s rest = record { replies = ap₂ (λ (y : Reply) (ys : List Reply). y ∷ ys) s.reply rest.replies; holds = rest.holds }

pub runs : {z : Sizes} {m : OrderedMap} {t v : Tables} {cs : List Call} {fs : List Feed} {rs : List Reply} → Holds z m t → Run t cs fs rs v → Runs z m cs fs rs v
runs h end = record { replies = refl; holds = h }
runs {z = z} {m = m} h (formats_run {w = w} {e = e} {p = p} s run) =
    let step = formats_step h s in
    before step (runs {m = map_after z nothing_fed m (format w e p)} step.holds run)
runs {z = z} {m = m} {t = t} h (ons {key = key} {r = r} s run) =
    let step = ons_step h s in
    before step (runs {m = map_after z (on_fed t key r) m (on key r)} step.holds run)
runs {z = z} {m = m} h (offs {key = key} s run) =
    let step = offs_step h s in
    before step (runs {m = map_after z nothing_fed m (off key)} step.holds run)
runs h (finds s run) = before (finds_step h s) (runs h run)
runs h (lists s run) = before (lists_step h s) (runs h run)
runs h (checks s run) = before (checks_step h s) (runs h run)
runs {z = z} {m = m} {t = t} h (loads {xs = xs} {answers = answers} s run) =
    let step = loads_step h s in
    before step (runs {m = map_after z (load_fed t xs (loads_does s).between) m (load xs answers)} step.holds run)

module _ {calls : List Call} {feeds : List Feed} {replies : List Reply} {left : Tables} (h : History calls feeds replies left) where
  pub history_runs : Runs (sizes_of h.given) (empty_map h.width) calls feeds replies left
  history_runs =
      let does = formats_does h.begun in
      let long = format_lengths does h.done in
      runs
      (record {
        sizes = λ i. record { table = long.0 i; keys = long.1 i; used = long.2 i };
        sound = format_sound does h.done;
        width = format_width does h.done;
        herd = format_empties does h.done;
      })
      h.run

  -- "After every history, each answer and each list slice is the map's", and the tables agree with it.
  pub every_history : Follows (sizes_of h.given) (empty_map h.width) calls feeds replies left
  every_history = record { answers = history_runs.replies; tables = agrees history_runs.holds }
