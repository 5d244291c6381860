-- What a visit makes of one entry, case by case. Assumes nothing.
use mathlib.Core.Path.{◌≡◌, sym, ap, ◌∙◌}
use mathlib.Core.Logic.{◌≢◌}
use mathlib.Core.List.{List}
use Prim.Native.Nat.{ℕ, ◌+◌, ◌≤◌, ◌<◌}
use native.Mathlib.Numerals.{add-one}
use lib.ListN.{length, set}
use borrow.Author.Tests.{lt-ltb, le-ltb}
use Rattle.leaf_list.specs.Register.{key_at}
use Rattle.index_table.specs.Pages.{record_of}
use Rattle.index_table.proofs.Pointers.{record_nil, record_live}
use Rattle.table_list.specs.Listings.{going, ended, full, met, visited, VisitPre}

module _ (keys : List ℕ) (a b : ℕ) (out : List ℕ) (n : ℕ) (stored : ℕ) (pre : VisitPre keys stored) where
  -- A dummy is passed.
  pub visited_dummy : stored ≡ 65535 → (out, going n) ≡ visited keys a b (out, going n) (record_of 65535 stored)
  unfolding visited
  visited_dummy h = rw (record_nil h)

  module _ (r : ℕ) (live : (stored ≢ 65535) × (stored ≡ r)) where
    -- It is met with its key.
    visited_met : met a b (key_at keys r) out r n ≡ visited keys a b (out, going n) (record_of 65535 stored)
    unfolding visited
    visited_met = rw (record_live live.0, live.1)

    -- A key below a is passed.
    pub visited_below : key_at keys r < a → (out, going n) ≡ visited keys a b (out, going n) (record_of 65535 stored)
    visited_below h = sym (rw (lt-ltb (key_at keys r) a h)) ∙ visited_met

    module _ (low : a ≤ key_at keys r) where
      -- A key above b ends the list.
      pub visited_ended : b < key_at keys r → (out, ended n) ≡ visited keys a b (out, going n) (record_of 65535 stored)
      visited_ended h = sym (rw (le-ltb (key_at keys r) a low, lt-ltb b (key_at keys r) h)) ∙ visited_met

      -- One more, and the slice is full.
      pub visited_full : key_at keys r ≤ b → length out ≤ n → (out, full n) ≡ visited keys a b (out, going n) (record_of 65535 stored)
      visited_full h f = sym (rw (le-ltb (key_at keys r) a low, le-ltb b (key_at keys r) h, le-ltb n (length out) f)) ∙ visited_met

      -- One more, which is written.
      pub visited_written : key_at keys r ≤ b → n < length out
          → (set out n r, going (n + 1)) ≡ visited keys a b (out, going n) (record_of 65535 stored)
      visited_written h f =
          ap (λ (m : ℕ). (set out n r, going m)) (add-one n)
          ∙ sym (rw (le-ltb (key_at keys r) a low, le-ltb b (key_at keys r) h, lt-ltb n (length out) f)) ∙ visited_met
