-- Figure 6 stops at the first entry whose discriminator exceeds the key. Assumes nothing.
use mathlib.Core.Path.{◌≡◌, refl, ap, ◌∙◌, sym}
use mathlib.Core.Bool.{cond, ◌||◌, false, true, Bool}
use mathlib.Core.Option.{Option, some, none}
use mathlib.Core.List.{List, [], ◌∷◌, reverse_aux}
use Prim.Native.Nat.{ℕ, zero, suc, ◌<◌, ◌^◌}
use native.Mathlib.Omega.{arith}
use lib.Dec.{eqb}
use lib.ListN.{length}
use borrow.Author.Tests.{ne_eqb}
use Rattle.leaf_list.specs.Depths.{DepthsWithin}
use Rattle.leaf_list.specs.Keys.{Key, below, set_bit, zero_bits, value, bits}
use Rattle.leaf_list.specs.Entries.{Entry, entry}
use Rattle.leaf_list.specs.Herd.{Herd}
use Rattle.leaf_list.specs.LeafList.{items}
use Rattle.leaf_list.specs.Trie.{Trie, leaf, zero_only, one_only, fork, write, write_all, trie_list, trie_of}
use Rattle.leaf_list.specs.Search.{Place, first_exceeding, search, positions}
use Rattle.leaf_list.proofs.Bits.{zero_bits_length, below_zero_bits, set_bit_number, below_value, set_bit_length, bits_length, value_number, value_zero_bits}
use Rattle.leaf_list.proofs.Paths.{below_path, set_bit_here}
use Rattle.leaf_list.proofs.Tries.{Sized, last_record, Given, sized_reaches}
use Rattle.leaf_list.proofs.Places.{pass_front, passed, remaining, stops_shallow, search_node}
use Rattle.leaf_list.proofs.TrieOf.{trie_of_sized}
use Rattle.leaf_list.proofs.HerdItems.{items_lengths}
use Rattle.leaf_list.proofs.Depths.{depths_within_write_all}

-- The first entry whose discriminator is above the key K, by bits; the depth 0 stands above every key.
abbrev pub first_above : Key → List Entry → Key → List Entry → Place
first_above K before D [] = (before, [])
first_above K before D (entry d p ∷ es) = cond (eqb d 0 || below K (set_bit d D)) (before, entry d p ∷ es) (first_above K (entry d p ∷ before) (set_bit d D) es)

-- The bits of the discriminator before the last entry of a node, from the node on.
abbrev pub disc_at_last : ℕ → Trie → Key
disc_at_last n (leaf k r) = zero_bits n
disc_at_last zero (zero_only t) = []
disc_at_last zero (one_only t) = []
disc_at_last zero (fork a b) = []
disc_at_last (suc n) (zero_only t) = false ∷ disc_at_last n t
disc_at_last (suc n) (one_only t) = true ∷ disc_at_last n t
disc_at_last (suc n) (fork a b) = true ∷ disc_at_last n b

-- They are as many as the node's.
pub disc_at_last_length : (t : Trie) (n : ℕ) → length (disc_at_last n t) ≡ n
disc_at_last_length (leaf k r) n = zero_bits_length n
disc_at_last_length (zero_only t) zero = refl
disc_at_last_length (one_only t) zero = refl
disc_at_last_length (fork a b) zero = refl
disc_at_last_length (zero_only t) (suc n) = ap suc (disc_at_last_length t n)
disc_at_last_length (one_only t) (suc n) = ap suc (disc_at_last_length t n)
disc_at_last_length (fork a b) (suc n) = ap suc (disc_at_last_length b n)

-- Every discriminator with the path v is at most K.
abbrev pub AtMost : Key → Key → Type 0
AtMost K v = (e : Key) → below K (reverse_aux v e) ≡ false

-- A key that goes on with 1 lies above the 0-side.
pub at_most_zero : (u k : Key) → AtMost (reverse_aux u (true ∷ k)) (false ∷ u)
at_most_zero u k e = below_path u (true ∷ k) (false ∷ e)

-- The closing depth c lies above all keys with the path u.
abbrev pub Closes : ℕ → Key → Type 0
Closes c u = (k e : Key) → (eqb c 0 || below (reverse_aux u k) (set_bit c (reverse_aux u e))) ≡ true

-- The depth of the 1-side closes the 0-side.
pub closes_zero : (u : Key) → Closes (suc (length u)) (false ∷ u)
closes_zero u k e = rw (ne_eqb (suc (length u)) 0 (omega arith), set_bit_here u false e (length e) refl, below_path u (false ∷ k) (true ∷ zero_bits (length e)))

-- An entry of the next depth is passed if its discriminator does not exceed the key.
pub passes_at_most : (K u : Key) (x : Bool) (e : Key) (n : ℕ) (p : Option ℕ) (before rest : List Entry) → length e ≡ n
    → below K (reverse_aux (true ∷ u) (zero_bits n)) ≡ false
    → first_above K before (reverse_aux u (x ∷ e)) (entry (suc (length u)) p ∷ rest)
    ≡ first_above K (entry (suc (length u)) p ∷ before) (reverse_aux (true ∷ u) (zero_bits n)) rest
passes_at_most K u x e n p before rest h b = rw (ne_eqb (suc (length u)) 0 (omega arith), set_bit_here u x e n h, b)

-- A closing entry stops the search.
pub stops_closing : (u k e : Key) (c : ℕ) (p : Option ℕ) (before rest : List Entry) → Closes c u
    → first_above (reverse_aux u k) before (reverse_aux u e) (entry c p ∷ rest) ≡ (before, entry c p ∷ rest)
stops_closing u k e c p before rest h = rw (h k e)

-- The entries of a node below the key, but its last, are passed.
pub passes_front_at_most : (t : Trie) (K v : Key) (n c : ℕ) (before rest : List Entry) → Sized n t → AtMost K v
    → first_above K before (reverse_aux v (zero_bits n)) (write (length v) t c rest)
    ≡ first_above K (pass_front (length v) t before) (reverse_aux v (disc_at_last n t)) (entry c (some (last_record t)) ∷ rest)
passes_front_at_most (leaf k r) K v n c before rest f o = refl
passes_front_at_most (zero_only t) K v zero c before rest f o = absurd f
passes_front_at_most (one_only t) K v zero c before rest f o = absurd f
passes_front_at_most (fork a b) K v zero c before rest f o = absurd f
passes_front_at_most (zero_only t) K v (suc n) c before rest f o = passes_front_at_most t K (false ∷ v) n c before rest f (λ e. o (false ∷ e))
passes_front_at_most (one_only t) K v (suc n) c before rest f o =
    passes_at_most K v false (zero_bits n) n none before (write (suc (length v)) t c rest) (zero_bits_length n) (o (true ∷ zero_bits n))
    ∙ passes_front_at_most t K (true ∷ v) n c (entry (suc (length v)) none ∷ before) rest f (λ e. o (true ∷ e))
passes_front_at_most (fork a b) K v (suc n) c before rest f o =
    passes_front_at_most a K (false ∷ v) n (suc (length v)) before (write (suc (length v)) b c rest) f.0 (λ e. o (false ∷ e))
    ∙ passes_at_most K v false (disc_at_last n a) n (some (last_record a)) (pass_front (suc (length v)) a before) (write (suc (length v)) b c rest)
    (disc_at_last_length a n) (o (true ∷ zero_bits n))
    ∙ passes_front_at_most b K (true ∷ v) n c (entry (suc (length v)) (some (last_record a)) ∷ pass_front (suc (length v)) a before) rest f.1
    (λ e. o (true ∷ e))

-- The first exceeding entry of a node stands at the place that figure 6 finds.
pub first_above_node : (t : Trie) (u k : Key) (n c : ℕ) (before rest : List Entry) → Sized n t → length k ≡ n → Closes c u
    → first_above (reverse_aux u k) before (reverse_aux u (zero_bits n)) (write (length u) t c rest)
    ≡ (passed (length u) t k before, remaining (length u) t k c rest)
first_above_node (leaf k' r) u k n c before rest f h o = stops_closing u k (zero_bits n) c (some r) before rest o
first_above_node (zero_only t) u k zero c before rest f h o = absurd f
first_above_node (one_only t) u k zero c before rest f h o = absurd f
first_above_node (fork a b) u k zero c before rest f h o = absurd f
first_above_node (zero_only t) u [] (suc n) c before rest f h o = absurd (omega arith)
first_above_node (one_only t) u [] (suc n) c before rest f h o = absurd (omega arith)
first_above_node (fork a b) u [] (suc n) c before rest f h o = absurd (omega arith)
first_above_node (zero_only t) u (false ∷ k) (suc n) c before rest f h o =
    first_above_node t (false ∷ u) k n c before rest f (omega arith) (λ k e. o (false ∷ k) (false ∷ e))
first_above_node (zero_only t) u (true ∷ k) (suc n) c before rest f h o =
    passes_front_at_most t (reverse_aux u (true ∷ k)) (false ∷ u) n c before rest f (at_most_zero u k)
    ∙ stops_closing u (true ∷ k) (false ∷ disc_at_last n t) c (some (last_record t)) (pass_front (suc (length u)) t before) rest o
first_above_node (one_only t) u (false ∷ k) (suc n) c before rest f h o =
    stops_closing (false ∷ u) k (zero_bits n) (suc (length u)) none before (write (suc (length u)) t c rest) (closes_zero u)
first_above_node (one_only t) u (true ∷ k) (suc n) c before rest f h o =
    passes_at_most (reverse_aux u (true ∷ k)) u false (zero_bits n) n none before (write (suc (length u)) t c rest) (zero_bits_length n)
    (below_path u (true ∷ k) (true ∷ zero_bits n) ∙ below_zero_bits k n)
    ∙ first_above_node t (true ∷ u) k n c (entry (suc (length u)) none ∷ before) rest f (omega arith) (λ k e. o (true ∷ k) (true ∷ e))
first_above_node (fork a b) u (false ∷ k) (suc n) c before rest f h o =
    first_above_node a (false ∷ u) k n (suc (length u)) before (write (suc (length u)) b c rest) f.0 (omega arith) (closes_zero u)
first_above_node (fork a b) u (true ∷ k) (suc n) c before rest f h o =
    passes_front_at_most a (reverse_aux u (true ∷ k)) (false ∷ u) n (suc (length u)) before (write (suc (length u)) b c rest) f.0 (at_most_zero u k)
    ∙ passes_at_most (reverse_aux u (true ∷ k)) u false (disc_at_last n a) n (some (last_record a)) (pass_front (suc (length u)) a before)
    (write (suc (length u)) b c rest) (disc_at_last_length a n)
    (below_path u (true ∷ k) (true ∷ zero_bits n) ∙ below_zero_bits k n)
    ∙ first_above_node b (true ∷ u) k n c (entry (suc (length u)) (some (last_record a)) ∷ pass_front (suc (length u)) a before) rest f.1
    (omega arith) (λ k e. o (true ∷ k) (true ∷ e))

-- By numbers and by bits the same entry is found.
pub first_exceeding_bits : (w : ℕ) (K : Key) (before : List Entry) (D : Key) (es : List Entry) → length K ≡ w → length D ≡ w → DepthsWithin w es
    → first_exceeding w (value K) before (value D) es ≡ first_above K before D es
first_exceeding_bits w K before D [] h_k h_d h = refl
first_exceeding_bits w K before D (entry zero p ∷ es) h_k h_d h = refl
first_exceeding_bits w K before D (entry (suc d) p ∷ es) h_k h_d h =
    rw (
      ne_eqb (suc d) 0 (omega arith),
      ← (set_bit_number w d D h_d h.0),
      below_value K (set_bit (suc d) D) (h_k ∙ sym (set_bit_length (suc d) D ∙ h_d)),
      first_exceeding_bits w K (entry (suc d) p ∷ before) (set_bit (suc d) D) es h_k (set_bit_length (suc d) D ∙ h_d) h.1,
    )

-- By bits, the first exceeding entry is the one that figure 6 finds.
pub first_above_search : (n : ℕ) (o : Option Trie) (k : Key) → Given (Sized n) o → length k ≡ n
    → first_above k [] (zero_bits n) (write_all o) ≡ search [] (positions 0 k) (write_all o)
first_above_search n none k f h = sym (stops_shallow k 0 0 none [] [] (omega arith))
first_above_search n (some t) k f h =
    first_above_node t [] k n 0 [] [] f h (λ k e. refl) ∙ sym (search_node t k 0 0 [] [] (sized_reaches t n k f h) (omega arith))

-- Figure 6 in the entries of a herd stops at the first entry whose discriminator exceeds the key.
pub search_trie_list : (w x : ℕ) (s : Herd) → x < 2 ^ w → search [] (positions 0 (bits w x)) (trie_list w s) ≡ first_exceeding w x [] 0 (trie_list w s)
search_trie_list w x s h =
    sym (first_above_search w (trie_of w (items w s)) (bits w x) f (bits_length w x))
    ∙ sym
    (first_exceeding_bits w (bits w x) [] (zero_bits w) (trie_list w s) (bits_length w x) (zero_bits_length w) (depths_within_write_all w (trie_of w (items w s)) f))
    ∙ rw (value_number w x h, value_zero_bits w)
  where
    f : Given (Sized w) (trie_of w (items w s))
    f = trie_of_sized w (items w s) (items_lengths w s)
