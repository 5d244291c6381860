-- D(i) is the discriminator of the i-th bounding node. Assumes nothing.
use mathlib.Core.Path.{◌≡◌, ap, refl, ◌∙◌}
use mathlib.Core.Bool.{true, Bool, false}
use mathlib.Core.List.{List, [], ◌∷◌, ◌++◌, map, append-nil}
use Prim.Native.Nat.{ℕ, suc, zero}
use native.Mathlib.Omega.{arith}
use lib.ListN.{length}
use Rattle.leaf_list.specs.Keys.{Key, set_bit, zero_bits}
use Rattle.leaf_list.specs.LeafList.{discriminator, Item, item}
use Rattle.leaf_list.specs.Trie.{zero_side, one_side}
use Rattle.leaf_list.proofs.Bits.{set_bit_length, zero_bits_length}
use Rattle.leaf_list.proofs.Stems.{bounding_stems, bounding_stems_suc, count_one, bounding_stems_nil, count_zero, bounding_stems_single, bounding_stem_two, bounding_stem_both}

-- Setting bit by bit gives the discriminators of the stems.
abbrev pub StemChain : ℕ → Key → List Key → Type 0
StemChain n lo [] = Unit {0}
StemChain n lo (p ∷ ps) = (set_bit (suc (length p)) lo ≡ discriminator n (p ++ (true ∷ []))) × StemChain n (set_bit (suc (length p)) lo) ps

-- With a first bit in common.
pub chain_cons : (b : Bool) (n : ℕ) (lo : Key) (ps : List Key) → StemChain n lo ps → StemChain (suc n) (b ∷ lo) (map (λ v. b ∷ v) ps)
chain_cons b n lo [] h = tt
chain_cons b n lo (p ∷ ps) h = (ap (λ (x : Key). b ∷ x) h.0, chain_cons b n (set_bit (suc (length p)) lo) ps h.1)

-- Through the string 1.
pub chain_middle : (n : ℕ) (lo : Key) (ps qs : List Key) → length lo ≡ n → StemChain n lo ps → StemChain (suc n) (true ∷ zero_bits n) qs
    → StemChain (suc n) (false ∷ lo) (map (λ v. false ∷ v) ps ++ ([] ∷ qs))
chain_middle n lo [] qs e h g = rw e (refl, g)
chain_middle n lo (p ∷ ps) qs e h g =
    (ap (λ (x : Key). false ∷ x) h.0, chain_middle n (set_bit (suc (length p)) lo) ps qs (set_bit_length (suc (length p)) lo ∙ e) h.1 g)

-- One bit of the chain, by which sides have keys.
module _ (n : ℕ) (s : List Item) (cz : StemChain n (zero_bits n) (bounding_stems n (zero_side s)))
    (co : StemChain n (zero_bits n) (bounding_stems n (one_side s))) where
  chain_sides : (z o : List Item) → zero_side s ≡ z → one_side s ≡ o → StemChain (suc n) (zero_bits (suc n)) (bounding_stems (suc n) s)
  chain_sides z [] ez eo =
      rw (bounding_stems_suc n s, count_one [] s, eo, bounding_stems_nil n, append-nil) (chain_cons false n (zero_bits n) (bounding_stems n (zero_side s)) cz)
  chain_sides [] (item k r ∷ []) ez eo = rw (bounding_stems_suc n s, count_one [] s, count_zero [] s, ez, eo, bounding_stems_nil n, bounding_stems_single n k r) tt
  chain_sides [] (x ∷ y ∷ o) ez eo =
      rw (bounding_stems_suc n s, bounding_stem_two s (rw eo (omega arith)))
      (chain_middle n (zero_bits n) (bounding_stems n (zero_side s)) _ (zero_bits_length n) cz (chain_cons true n (zero_bits n) (bounding_stems n (one_side s)) co))
  chain_sides (x ∷ z) (y ∷ o) ez eo =
      rw (bounding_stems_suc n s, bounding_stem_both s (rw eo (omega arith)) (rw ez (omega arith)))
      (chain_middle n (zero_bits n) (bounding_stems n (zero_side s)) _ (zero_bits_length n) cz (chain_cons true n (zero_bits n) (bounding_stems n (one_side s)) co))

-- The bounding nodes of keys of n bits.
pub chain_stems : (n : ℕ) (s : List Item) → StemChain n (zero_bits n) (bounding_stems n s)
chain_stems zero s = tt
chain_stems (suc n) s = chain_sides n s (chain_stems n (zero_side s)) (chain_stems n (one_side s)) (zero_side s) (one_side s) refl refl
