-- A list that fits is the leaf list of its live records, and a leaf list fits. Assumes nothing.
use mathlib.Core.Path.{◌≡◌, ap, sym, ◌∙◌, subst, refl}
use mathlib.Core.Bool.{Bool, true, false, true≢false}
use mathlib.Core.Option.{none, some, Option}
use mathlib.Core.List.{List, [], ◌∷◌, reverse_aux}
use Prim.Native.Nat.{ℕ, ◌<◌, ◌^◌, ◌≤◌, zero, suc}
use native.Mathlib.Omega.{arith}
use native.Mathlib.Nat.{zero-add}
use borrow.Author.Tests.{ltb-true}
use Rattle.leaf_list.specs.Keys.{Key, bits, zero_bits}
use Rattle.leaf_list.specs.Entries.{Entry, live_records, entry}
use Rattle.leaf_list.specs.Herd.{Herd, Narrow, Above, Sorted, KeysOf, records_of}
use Rattle.leaf_list.specs.LeafList.{items, item}
use Rattle.leaf_list.specs.Trie.{Trie, leaf, zero_only, one_only, fork, trie_list, write_all, write, trie_of}
use Rattle.leaf_list.proofs.Lists.{All}
use Rattle.leaf_list.proofs.Bits.{below_bits, bits_length}
use Rattle.leaf_list.proofs.Tries.{KeysIn, Pruned, Sized, Given, at_leaf}
use Rattle.leaf_list.proofs.Items.{Least, Ordered}
use Rattle.leaf_list.proofs.TrieOf.{trie_of_nil, trie_of_pruned, trie_of_sized, trie_of_keys}
use Rattle.leaf_list.proofs.LiveRecords.{trie_records, live_records_write, option_records, trie_of_records}
use Rattle.leaf_list.proofs.HerdItems.{items_lengths, items_keys, items_ordered, records_herd}
use Rattle.leaf_list.proofs.Fitting.{RecordsFit, NodeRead, FittingAfter, Opens, Fitting, read_node, fitting_node}
use Rattle.leaf_list.proofs.Leaves.{leaves, trie_of_leaves, ordered_leaves}

-- Records with their keys.
abbrev pub herd_with : (ℕ → ℕ) → List ℕ → Herd
herd_with key_of [] = []
herd_with key_of (r ∷ rs) = (key_of r, r) ∷ herd_with key_of rs

-- Every record is in use.
abbrev pub AllInUse : (ℕ → Bool) → List ℕ → Type 0
AllInUse used = All (λ r. used r ≡ true)

-- The key of a record, as w bits.
abbrev pub bits_of : ℕ → (ℕ → ℕ) → ℕ → Key
bits_of w key_of r = bits w (key_of r)

module _ (w : ℕ) (key_of : ℕ → ℕ) (used : ℕ → Bool) where
  -- The keys of a trie whose records fit are its records' keys.
  leaves_items : (t : Trie) (u : Key) (rs : List ℕ) → RecordsFit (bits_of w key_of) used u t
      → leaves (reverse_aux u) t (items w (herd_with key_of rs)) ≡ items w (herd_with key_of (trie_records t rs))
  leaves_items (leaf k r) u rs h = ap (λ (x : Key). item x r ∷ items w (herd_with key_of rs)) (sym h.1)
  leaves_items (zero_only t) u rs h = leaves_items t (false ∷ u) rs h
  leaves_items (one_only t) u rs h = leaves_items t (true ∷ u) rs h
  leaves_items (fork a b) u rs h =
      ap (leaves (reverse_aux (false ∷ u)) a) (leaves_items b (true ∷ u) rs h.1) ∙ leaves_items a (false ∷ u) (trie_records b rs) h.0

  -- Its records are in use.
  records_in_use : (t : Trie) (u : Key) (rs : List ℕ) → RecordsFit (bits_of w key_of) used u t → AllInUse used rs → AllInUse used (trie_records t rs)
  records_in_use (leaf k r) u rs h a = (h.0, a)
  records_in_use (zero_only t) u rs h a = records_in_use t (false ∷ u) rs h a
  records_in_use (one_only t) u rs h a = records_in_use t (true ∷ u) rs h a
  records_in_use (fork p q) u rs h a = records_in_use p (false ∷ u) (trie_records q rs) h.0 (records_in_use q (true ∷ u) rs h.1 a)

  -- Records in use with the keys that the trie says fit.
  records_fit : (t : Trie) (u : Key) (rs : List ℕ) → KeysIn (bits_of w key_of) u t → AllInUse used (trie_records t rs)
      → RecordsFit (bits_of w key_of) used u t × AllInUse used rs
  records_fit (leaf k r) u rs h a = ((a.0, h), a.1)
  records_fit (zero_only t) u rs h a = records_fit t (false ∷ u) rs h a
  records_fit (one_only t) u rs h a = records_fit t (true ∷ u) rs h a
  records_fit (fork p q) u rs h a =
      let x = records_fit p (false ∷ u) (trie_records q rs) h.0 a in
      let y = records_fit q (true ∷ u) rs h.1 x.1 in
      ((x.0, y.0), y.1)

  -- A key below all others as bits is so as a number.
  least_above : (k : ℕ) (s : Herd) → k < 2 ^ w → Narrow w s → Least (bits w k) (items w s) → Above k s
  least_above k [] h q o = tt
  least_above k (x ∷ s) h q o = (ltb-true k x.0 (sym (below_bits w k x.0 h q.0) ∙ o.0), least_above k s h q.1 o.1)

  -- Keys that rise as bits make a sorted herd.
  ordered_sorted : (s : Herd) → Narrow w s → Ordered (items w s) → Sorted s
  ordered_sorted [] q o = tt
  ordered_sorted (x ∷ s) q o = (least_above x.0 s q.0 q.1 o.0, ordered_sorted s q.1 o.1)

  module _ (narrow : (r : ℕ) → used r ≡ true → key_of r < 2 ^ w) where
    -- Records in use have no key of more than w bits.
    narrow_with : (rs : List ℕ) → AllInUse used rs → Narrow w (herd_with key_of rs)
    narrow_with [] a = tt
    narrow_with (r ∷ rs) a = (narrow r a.0, narrow_with rs a.1)

    -- The list is the leaf list of its live records, which are in use and in key order.
    abbrev pub OwnList : List Entry → Type 0
    OwnList es = (es ≡ trie_list w (herd_with key_of (live_records es))) × Sorted (herd_with key_of (live_records es)) × AllInUse used (live_records es)

    -- The sole entry.
    own_sole : OwnList (entry 0 none ∷ [])
    own_sole = (ap write_all (sym (trie_of_nil w)), tt, tt)

    -- The entries of a trie.
    own_trie : (t : Trie) → Pruned t → Sized w t → RecordsFit (bits_of w key_of) used [] t → OwnList (write 0 t 0 [])
    own_trie t g f h =
        let e : live_records (write 0 t 0 []) ≡ trie_records t [] = live_records_write t 0 0 [] in
        let i : leaves (λ k. k) t [] ≡ items w (herd_with key_of (trie_records t [])) = leaves_items t [] [] h in
        rw e (
          sym (ap write_all (ap (trie_of w) (sym i) ∙ trie_of_leaves t w f g)),
          ordered_sorted (herd_with key_of (trie_records t [])) (narrow_with (trie_records t []) (records_in_use t [] [] h tt))
              (subst Ordered i (ordered_leaves t (λ k. k) [] (λ k k'. refl) tt (λ k. tt))),
          records_in_use t [] [] h tt,
        )

    -- The entries that a node is read off.
    own_node : (es : List Entry) → NodeRead w (bits_of w key_of) used [] w es → OwnList es
    own_node es N = go N.c N.low N.after N.written
      where
        go : (c : ℕ) → c ≤ 0 → FittingAfter w (bits_of w key_of) used (zero_bits w) c N.rest → es ≡ write 0 N.trie c N.rest → OwnList es
        go zero h q e = subst OwnList (sym (e ∙ ap (write 0 N.trie 0) q)) (own_trie N.trie N.pruned N.sized N.fit)
        go (suc c) h q e = absurd (omega arith)

    -- Entries that open a node at the root.
    own_root : (es : List Entry) → Opens 0 0 es → Fitting w (bits_of w key_of) used (zero_bits w) 0 false es → OwnList es
    own_root es o s = own_node es (read_node w (bits_of w key_of) used (λ r. bits_length w (key_of r)) w [] 0 false es (zero-add w) (omega arith) o s)

    -- A list that fits is such a list.
    pub fitting_own : (es : List Entry) → Fitting w (bits_of w key_of) used (zero_bits w) 0 false es → OwnList es
    fitting_own [] s = absurd s
    fitting_own (entry zero none ∷ rest) s = subst (λ (x : List Entry). OwnList (entry 0 none ∷ x)) (sym s.0) own_sole
    fitting_own (entry (suc d) none ∷ rest) s = own_root (entry (suc d) none ∷ rest) (omega arith) s
    fitting_own (entry d (some r) ∷ rest) s = own_root (entry d (some r) ∷ rest) (omega arith) s

  -- A leaf list fits.
  pub own_fitting : (s : Herd) → KeysOf key_of s → AllInUse used (records_of s) → Narrow w s → Sorted s
      → Fitting w (bits_of w key_of) used (zero_bits w) 0 false (trie_list w s)
  own_fitting s k a q o =
      go (trie_of w (items w s)) (trie_of_pruned w (items w s)) (trie_of_sized w (items w s) (items_lengths w s))
      (trie_of_keys (bits_of w key_of) w [] (items w s) (items_keys w key_of s k)) b
    where
      b : AllInUse used (option_records (trie_of w (items w s)) [])
      b = rw (trie_of_records w (items w s) [] (items_lengths w s) (items_ordered w s q o), records_herd w s) a

      go : (t : Option Trie) → Given Pruned t → Given (Sized w) t → Given (KeysIn (bits_of w key_of) []) t → AllInUse used (option_records t [])
          → Fitting w (bits_of w key_of) used (zero_bits w) 0 false (write_all t)
      go none g f r a = (refl, refl, λ i. absurd (i refl))
      go (some t) g f r a =
          fitting_node w (bits_of w key_of) used t [] w 0 0 false [] g f (records_fit t [] [] r a).0 (zero-add w) (omega arith) (omega arith)
          (at_leaf _ t (omega arith, λ i. absurd (true≢false (sym i)))) refl
