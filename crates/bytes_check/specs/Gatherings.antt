-- What a pass over the register's records gathers. Assumes nothing.
use Rattle.std.specs.Prelude.{◌≡◌, ℕ, ◌+◌, ◌^◌, ◌<◌, ◌≤◌, ◌↔◌, List, length, take, bit_or, slice_index}
use Rattle.leaf_list.specs.Register.{count_in_use}
use Rattle.bytes_check.specs.Scans.{SmallBytes}
use Rattle.bytes_check.specs.declared.register.Gathering.{Gathering}

-- The bytes from one place up to another are all 1: these records are in use.
abbrev pub UsedBetween : ℕ → ℕ → List ℕ → Type 0
UsedBetween from to used = (k : ℕ) → from ≤ k → k < to → slice_index used k ≡ 1

-- The bits of four keys from place i on, and those gathered before.
abbrev pub four_keys : List ℕ → ℕ → ℕ → ℕ
four_keys keys i before = bit_or (bit_or (bit_or (bit_or before (slice_index keys i)) (slice_index keys (i + 1))) (slice_index keys (i + 2))) (slice_index keys (i + 3))

-- A key for each byte, and every byte 0 or 1.
pub record Paired (keys used : List ℕ) : Type 0 where
  pub lengths : length keys ≡ length used
  pub bytes : SmallBytes (length used) used

-- What a pass has gathered of the records before i: bits as wide as the widest key, odd ones exactly if a free record has a key, and how many are in use.
pub record Gathered (keys used : List ℕ) (i : ℕ) (g : Gathering) : Type 0 where
  pub widths : (m : ℕ) → (g.keys < 2 ^ m) ↔ ((r : ℕ) → r < i → slice_index keys r < 2 ^ m)
  pub records : (g.odd ≡ 0) ↔ ((r : ℕ) → r < i → slice_index used r ≡ 0 → slice_index keys r ≡ 0)
  pub count : g.held ≡ count_in_use (take i used)
  pub small : g.held ≤ i
