-- The bits behind each depth, as a table. Assumes nothing.
use Rattle.std.specs.Prelude.{◌≡◌, ℕ, suc, ◌-◌, ◌^◌, ◌<◌, ◌≤◌, List, length, slice_index}

-- The bits behind depth d of a key of w bits; a depth above w is given more than any.
pub record BitsBehind (w d below : ℕ) : Type 0 where
  pub within : d ≤ w → suc below ≡ 2 ^ (w - d)
  pub beyond : w < d → suc below ≡ 2 ^ 64

-- A table of them for every depth that a byte has.
pub record DepthMasks (w : ℕ) (masks : List ℕ) : Type 0 where
  pub long : length masks ≡ 256
  pub behind : (d : ℕ) → d < 256 → BitsBehind w d (slice_index masks d)

-- The table before its depths are set.
pub record AllOnes (masks : List ℕ) : Type 0 where
  pub long : length masks ≡ 256
  pub ones : (d : ℕ) → d < 256 → suc (slice_index masks d) ≡ 2 ^ 64
