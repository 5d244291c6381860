-- What a pass over the entries of a page of level 0 carries and says. Assumes nothing.
use Rattle.std.specs.Prelude.{◌≡◌, ℕ, suc, ◌+◌, ◌-◌, ◌^◌, ◌<◌, ◌≤◌, max, Bool, true, false, cond, ◌&&◌, ◌||◌, List, ◌==◌, nat_lt, Option, is_some, IfSome}
use Rattle.leaf_list.specs.Keys.{set_bit_at}
use Rattle.leaf_list.specs.Register.{key_at, in_use}
use Rattle.leaf_list.specs.Conditions.{entry_fits}
use Rattle.index_table.specs.Layout.{layout_of, page_bytes, ref_at}
use Rattle.index_table.specs.Pages.{record_of}
use Rattle.index_table.specs.declared.header.Index.{Index}
use Rattle.leaf_check.specs.DepthTable.{BitsBehind}
use Rattle.leaf_check.specs.Leaves.{NarrowRegister}
use Rattle.leaf_check.specs.declared.entries.Scan.{Scan}
use Rattle.leaf_check.specs.declared.passes.Pass.{Pass}

-- What a pass carries in a page that c closes, behind an entry of depth τ that was a dummy or not.
pub record Meets (w c : ℕ) (s : Pass) (τ : ℕ) (dummy : Bool) : Type 0 where
  pub trail : τ ≤ w
  pub low : suc s.low ≡ 2 ^ (w - τ)
  pub limit : suc s.limit ≡ 2 ^ (w - max c (cond dummy τ 0))

-- A pass begins behind what is carried from page to page.
pub record Begun (w c : ℕ) (s : Scan) (r : Pass) : Type 0 where
  pub disc : r.disc ≡ s.disc
  pub dummies : r.dummies ≡ 0
  pub meets : Meets w c r s.trail s.dummy

-- What a pass over keys of w bits stays within.
pub record PassPre (w : ℕ) (s : Pass) : Type 0 where
  pub width : w ≤ 64
  pub disc : s.disc < 2 ^ w
  pub limit : s.limit < 2 ^ w

-- A free record's key 0 differs from the discriminator in more than the bits of low; or an entry has no record, or one in use.
abbrev pub told : ℕ → ℕ → List ℕ → ℕ → Bool
told disc low used p = nat_lt low disc || (p == 65535 || in_use used p)

-- What is carried behind an entry that passed.
pub record PassedOn (w c : ℕ) (s : Pass) (d p : ℕ) (q : Pass) : Type 0 where
  pub disc : q.disc ≡ set_bit_at w d s.disc
  pub bound : q.disc < 2 ^ w
  pub above : q.low < q.disc
  pub meets : Meets w c q d (p == 65535)
  pub dummies : q.dummies ≡ cond (p == 65535) (suc s.dummies) s.dummies

-- One entry behind another: some exactly if it is above c and fits, and then what is carried behind it.
pub record PassedEntry (w : ℕ) (keys used : List ℕ) (c : ℕ) (s : Pass) (τ : ℕ) (dummy : Bool) (d p : ℕ) (r : Option Pass) : Type 0 where
  pub verdict : is_some r ≡ (nat_lt c d && entry_fits w (key_at keys) (in_use used) s.disc τ dummy d (record_of 65535 p))
  pub carried : IfSome r (PassedOn w c s d p)

-- The same for whatever depth has the bits `below` behind it, whatever bytes make a register with the keys, in a page with the bits `most`
-- behind its last depth, and behind whatever entry the pass stands for.
abbrev pub Passed : List ℕ → ℕ → Pass → ℕ → ℕ → Option Pass → Type 0
Passed keys most s below p r =
    (w d : ℕ) → PassPre w s → BitsBehind w d below → (used : List ℕ) → NarrowRegister w keys used → told s.disc s.low used p ≡ true → (c : ℕ) → suc most ≡ 2 ^ (w - c) → (τ : ℕ) (dummy : Bool) → Meets w c s τ dummy
    → PassedEntry w keys used c s τ dummy d p r

-- What is carried behind the first n entries of a page, as far as the pass over them tells it.
abbrev pub scan_behind : Index → List ℕ → ℕ → ℕ → Scan → ℕ → Pass → Scan
scan_behind h index page most s n pass =
    cond (n == 0) s
    (record {
      disc = pass.disc;
      trail = (ref_at (layout_of h.entries) (page_bytes (layout_of h.entries) index page) (n - 1)).0;
      dummy = nat_lt pass.limit most;
      live = s.live + n - pass.dummies;
      closed = false;
    })
