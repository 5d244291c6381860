-- The table of the bits behind each depth, as it is set from depth 0 on. Assumes nothing.
use Rattle.std.proofs.Common.{◌≡◌, ℕ, zero, suc, ◌+◌, ◌-◌, ◌/◌, ◌^◌, ◌<◌, ◌≤◌, Bool, true, false, eqb, List, length, get_or, set, replicate, refl, arith, get_or-set_other, get_or-set_same, eqb-true}
use lib.ListN.{length-replicate, get_or-replicate}
use borrow.Author.Rules.{set_long}
use borrow.Author.Tests.{eqb-false}
use Rattle.leaf_check.specs.DepthTable.{BitsBehind, DepthMasks, AllOnes}

-- The depths before n are set, and all others keep all ones.
pub record SetBefore (w : ℕ) (masks : List ℕ) (n : ℕ) : Type 0 where
  pub long : length masks ≡ 256
  pub done : (d : ℕ) → d < n → suc (get_or masks d 0) ≡ 2 ^ (w - d)
  pub ones : (d : ℕ) → n ≤ d → d < 256 → suc (get_or masks d 0) ≡ 2 ^ 64

-- A table of ones only.
abbrev ones : ℕ
ones = 18446744073709551615

pub all_ones : AllOnes (replicate 256 ones)
all_ones = record { long = length-replicate 256 ones; ones = λ d l. rw (get_or-replicate 256 d ones 0 l) refl }

pub set_none : (w : ℕ) {masks : List ℕ} → AllOnes masks → SetBefore w masks 0
set_none w a = record { long = a.long; done = λ d l. absurd (omega arith); ones = λ d l m. a.ones d m }

-- Half of the bits behind a depth are those behind the next.
pub half : (w d below : ℕ) → suc below ≡ 2 ^ (w - d) → suc (below / 2) ≡ 2 ^ (w - (d + 1))
half w d below e = go (w - d) (w - (d + 1)) (omega arith) e
  where
    go : (n m : ℕ) → m ≡ n - 1 → suc below ≡ 2 ^ n → suc (below / 2) ≡ 2 ^ m
    go zero m f e =
        let z : m ≡ 0 = omega arith in
        rw z (omega arith)
    go (suc n) m f e =
        let z : m ≡ n = omega arith in
        rw z (omega arith)

pub set_more : (w d below : ℕ) {masks : List ℕ} → d < 256 → suc below ≡ 2 ^ (w - d) → SetBefore w masks d → SetBefore w (set masks d below) (d + 1)
set_more w d below {masks} l e b =
    record {
      long = set_long ℕ masks d 256 below b.long;
      done = λ k h. go k h (eqb k d) refl;
      ones = λ k h m. rw (get_or-set_other masks d k below 0 (λ z. omega arith)) (b.ones k (omega arith) m);
    }
  where
    go : (k : ℕ) → k < d + 1 → (t : Bool) → eqb k d ≡ t → suc (get_or (set masks d below) k 0) ≡ 2 ^ (w - k)
    go k h true q =
        let z : k ≡ d = eqb-true k d q in
        rw (z, get_or-set_same masks d below 0 (omega (arith, b.long))) e
    go k h false q =
        let z : k ≡ d → ⊥ = eqb-false k d q in
        rw (get_or-set_other masks d k below 0 z) (b.done k (omega arith))

pub set_all : (w : ℕ) {masks : List ℕ} → SetBefore w masks (w + 1) → DepthMasks w masks
set_all w b =
    record {
      long = b.long;
      behind = λ d l. record { within = λ k. b.done d (omega arith); beyond = λ k. b.ones d (omega arith) l };
    }

-- What the table has for a depth, by the names that the code has for it.
pub masked : {w d e k : ℕ} {masks : List ℕ} → DepthMasks w masks → k ≡ d → k ≤ 255 → d ≡ e → BitsBehind w e (get_or masks k 0)
masked m h l f = rw (← f, ← h) (m.behind _ (omega arith))
