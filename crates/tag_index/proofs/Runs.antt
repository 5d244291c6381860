-- Runs of the calls, each step by the contract of the function that runs. Assumes nothing.
use mathlib.Core.Path.{◌≡◌, sym}
use mathlib.Core.Logic.{◌↔◌}
use mathlib.Core.Bool.{Bool, true}
use mathlib.Core.List.{List, [], ◌∷◌}
use Prim.Native.Nat.{ℕ}
use contract.Lifetimes.{Lfts}
use denote.Bor.{Bor}
use denote.MutBor.{MutBor}
use Rattle.index_table.specs.Soundness.{Sound}
use Rattle.table_find.specs.declared.answer.Answer.{Answer}
use Rattle.table_format.specs.Format.{FormatDoes}
use Rattle.tag_index.specs.Changing.{OnDoes, OffDoes}
use Rattle.tag_index.specs.Reading.{FindDoes, ListDoes}
use Rattle.tag_index.specs.declared.load.Movement.{Movement}
use Rattle.tag_index.specs.Tables.{Tables}
use Rattle.tag_index.specs.Loads.{LoadDoes}
use Rattle.tag_index.specs.Histories.{Call, format, on, off, find, list, check, load, Reply, answered, sliced, said, OrderedMap, sizes_of, Feed, nothing_fed, on_fed, load_fed, formats as fits, empty_map, map_behind}
use Rattle.tag_index.proofs.c.tag_index_format.Reads as format_reads
use Rattle.tag_index.proofs.c.tag_index_on.Reads as on_reads
use Rattle.tag_index.proofs.c.tag_index_off.Reads as off_reads
use Rattle.tag_index.proofs.c.tag_index_find.Reads as find_reads
use Rattle.tag_index.proofs.c.tag_index_list.Reads as list_reads
use Rattle.tag_index.proofs.c.tag_index_check.Reads as check_reads
use Rattle.tag_index.proofs.LoadReads as load_reads

-- Three slices that are lent to be changed, and hold the tables.
pub record Lent (t : Tables) : Type 0 where
  pub index : MutBor (List ℕ)
  pub keys : MutBor (List ℕ)
  pub used : MutBor (List ℕ)
  pub index_is : index.now ≡ t.index
  pub keys_is : keys.now ≡ t.keys
  pub used_is : used.now ≡ t.used

-- Three slices that are lent to be read, and hold the tables.
pub record Shown (t : Tables) : Type 0 where
  pub index : Bor (List ℕ)
  pub keys : Bor (List ℕ)
  pub used : Bor (List ℕ)
  pub index_is : index.now ≡ t.index
  pub keys_is : keys.now ≡ t.keys
  pub used_is : used.now ≡ t.used

-- What the contract of each call says of tables that it was run on.
pub record Formats (w e p : ℕ) (t u : Tables) (r : Answer) : Type 0 where
  pub κs : Lfts 3
  pub before : Lent t
  pub after : Lent u
  pub post : format_reads.Post κs (before.index, (before.keys, (before.used, (w, (e, (p, tt)))))) r (after.index, (after.keys, (after.used, (w, (e, (p, tt))))))

pub record Ons (key r : ℕ) (t u : Tables) (a : Answer) : Type 0 where
  pub κs : Lfts 3
  pub before : Lent t
  pub after : Lent u
  pub post : on_reads.Post κs (before.index, (before.keys, (before.used, (key, (r, tt))))) a (after.index, (after.keys, (after.used, (key, (r, tt)))))

pub record Offs (key : ℕ) (t u : Tables) (a : Answer) : Type 0 where
  pub κs : Lfts 3
  pub before : Lent t
  pub after : Lent u
  pub post : off_reads.Post κs (before.index, (before.keys, (before.used, (key, tt)))) a (after.index, (after.keys, (after.used, (key, tt))))

pub record Finds (key : ℕ) (t : Tables) (r : Answer) : Type 0 where
  pub κs : Lfts 3
  pub lent : Shown t
  pub post : find_reads.Post κs (lent.index, (lent.keys, (lent.used, (key, tt)))) r (lent.index, (lent.keys, (lent.used, (key, tt))))

pub record Lists (a b : ℕ) (out out₁ : List ℕ) (t : Tables) (r : Answer) : Type 0 where
  pub κs : Lfts 4
  pub lent : Shown t
  pub slice : MutBor (List ℕ)
  pub slice_is : slice.now ≡ out
  pub slice₁ : MutBor (List ℕ)
  pub slice₁_is : slice₁.now ≡ out₁
  pub post : list_reads.Post κs (lent.index, (lent.keys, (lent.used, (a, (b, (slice, tt)))))) r (lent.index, (lent.keys, (lent.used, (a, (b, (slice₁, tt))))))

pub record Checks (t : Tables) (r : Bool) : Type 0 where
  pub κs : Lfts 3
  pub lent : Shown t
  pub post : check_reads.Post κs (lent.index, (lent.keys, (lent.used, tt))) r (lent.index, (lent.keys, (lent.used, tt)))

pub record Loads (xs : List Movement) (answers answers₁ : List ℕ) (t u : Tables) (a : Answer) : Type 0 where
  pub κs : Lfts 5
  pub before : Lent t
  pub after : Lent u
  pub movements : Bor (List Movement)
  pub movements_is : movements.now ≡ xs
  pub slice : MutBor (List ℕ)
  pub slice_is : slice.now ≡ answers
  pub slice₁ : MutBor (List ℕ)
  pub slice₁_is : slice₁.now ≡ answers₁
  pub post : load_reads.Post κs (before.index, (before.keys, (before.used, (movements, (slice, tt))))) a (after.index, (after.keys, (after.used, (movements, (slice₁, tt)))))

-- In words of the tables.
pub loads_does : {xs : List Movement} {answers answers₁ : List ℕ} {t u : Tables} {a : Answer} → Loads xs answers answers₁ t u a → LoadDoes t xs answers u answers₁ a
loads_does s =
    rw (sym s.before.index_is, sym s.before.keys_is, sym s.before.used_is, sym s.after.index_is, sym s.after.keys_is, sym s.after.used_is, sym s.movements_is, sym s.slice_is, sym s.slice₁_is)
    s.post

-- A run of calls from tables to tables, each call on the tables as the last one left them; with what the map is fed of each, and what each gives back.
pub data Run : Tables → List Call → List Feed → List Reply → Tables → Type 0 where
  end : {t : Tables} → Run t [] [] [] t
  formats : {w e p : ℕ} {t u v : Tables} {a : Answer} {cs : List Call} {fs : List Feed} {rs : List Reply} → Formats w e p t u a → Run u cs fs rs v
      → Run t (format w e p ∷ cs) (nothing_fed ∷ fs) (answered a ∷ rs) v
  ons : {key r : ℕ} {t u v : Tables} {a : Answer} {cs : List Call} {fs : List Feed} {rs : List Reply} → Ons key r t u a → Run u cs fs rs v
      → Run t (on key r ∷ cs) (on_fed t key r ∷ fs) (answered a ∷ rs) v
  offs : {key : ℕ} {t u v : Tables} {a : Answer} {cs : List Call} {fs : List Feed} {rs : List Reply} → Offs key t u a → Run u cs fs rs v
      → Run t (off key ∷ cs) (nothing_fed ∷ fs) (answered a ∷ rs) v
  finds : {key : ℕ} {t v : Tables} {a : Answer} {cs : List Call} {fs : List Feed} {rs : List Reply} → Finds key t a → Run t cs fs rs v
      → Run t (find key ∷ cs) (nothing_fed ∷ fs) (answered a ∷ rs) v
  lists : {a b : ℕ} {out out₁ : List ℕ} {t v : Tables} {r : Answer} {cs : List Call} {fs : List Feed} {rs : List Reply} → Lists a b out out₁ t r → Run t cs fs rs v
      → Run t (list a b out ∷ cs) (nothing_fed ∷ fs) (sliced r out₁ ∷ rs) v
  checks : {t v : Tables} {r : Bool} {cs : List Call} {fs : List Feed} {rs : List Reply} → Checks t r → Run t cs fs rs v
      → Run t (check ∷ cs) (nothing_fed ∷ fs) (said r ∷ rs) v
  loads : {xs : List Movement} {answers answers₁ : List ℕ} {t u v : Tables} {a : Answer} {cs : List Call} {fs : List Feed} {rs : List Reply}
      → (s : Loads xs answers answers₁ t u a) → Run u cs fs rs v
      → Run t (load xs answers ∷ cs) (load_fed t xs (loads_does s).between ∷ fs) (sliced a answers₁ ∷ rs) v

-- A history: "It starts from what a done format leaves, whatever the tables held before."
pub record History (calls : List Call) (feeds : List Feed) (replies : List Reply) (left : Tables) : Type 0 where
  pub width : ℕ
  pub entries : ℕ
  pub pages : ℕ
  pub given : Tables
  pub made : Tables
  pub answer : Answer
  pub begun : Formats width entries pages given made answer
  pub done : fits (sizes_of given) width entries pages ≡ true
  pub run : Run made calls feeds replies left

-- The map behind a history.
abbrev pub map_of : {calls : List Call} {feeds : List Feed} {replies : List Reply} {left : Tables} → History calls feeds replies left → OrderedMap
map_of {calls} {feeds} h = map_behind (sizes_of h.given) (empty_map h.width) calls feeds

-- The contracts in words of the tables.
module _ {t : Tables} where
  pub formats_does : {w e p : ℕ} {u : Tables} {r : Answer} → Formats w e p t u r → FormatDoes w e p t.index t.keys t.used u.index u.keys u.used r
  formats_does s =
      rw (sym s.before.index_is, sym s.before.keys_is, sym s.before.used_is, sym s.after.index_is, sym s.after.keys_is, sym s.after.used_is) s.post

  pub ons_does : {key r : ℕ} {u : Tables} {a : Answer} → Ons key r t u a → OnDoes t.index t.keys t.used key r u.index u.keys u.used a
  ons_does s =
      rw (sym s.before.index_is, sym s.before.keys_is, sym s.before.used_is, sym s.after.index_is, sym s.after.keys_is, sym s.after.used_is) s.post

  pub offs_does : {key : ℕ} {u : Tables} {a : Answer} → Offs key t u a → OffDoes t.index t.keys t.used key u.index u.keys u.used a
  offs_does s =
      rw (sym s.before.index_is, sym s.before.keys_is, sym s.before.used_is, sym s.after.index_is, sym s.after.keys_is, sym s.after.used_is) s.post

  pub finds_does : {key : ℕ} {r : Answer} → Finds key t r → FindDoes t.index t.keys t.used key r
  finds_does s = rw (sym s.lent.index_is, sym s.lent.keys_is, sym s.lent.used_is) s.post

  pub lists_does : {a b : ℕ} {out out₁ : List ℕ} {r : Answer} → Lists a b out out₁ t r → ListDoes t.index t.keys t.used a b out out₁ r
  lists_does s = rw (sym s.lent.index_is, sym s.lent.keys_is, sym s.lent.used_is, sym s.slice_is, sym s.slice₁_is) s.post

  pub checks_does : {r : Bool} → Checks t r → (r ≡ true) ↔ Sound t.index t.keys t.used
  checks_does s = rw (sym s.lent.index_is, sym s.lent.keys_is, sym s.lent.used_is) s.post
