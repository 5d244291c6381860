-- Lists whose entries fit one by one, and the tries that such a list is written from. Assumes nothing.
use mathlib.Core.Path.{◌≡◌, refl, ◌∙◌, sym, ap, subst, ap₂}
use mathlib.Core.Logic.{◌≢◌}
use mathlib.Core.Bool.{Bool, true, false, true≢false}
use mathlib.Core.Option.{Option, none, some}
use mathlib.Core.List.{List, [], ◌∷◌, reverse_aux}
use Prim.Native.Nat.{ℕ, ◌<◌, max, zero, suc, ◌≤◌, ◌+◌}
use native.Mathlib.Omega.{arith}
use lib.Dec.{eqb, leb}
use lib.ListN.{take, length, drop, length-drop}
use borrow.Author.Tests.{eqb-true, eqb-false, leb-true, leb-false}
use Rattle.leaf_list.specs.Keys.{Key, bit_of, set_bit, zero_bits}
use Rattle.leaf_list.specs.Entries.{Entry, entry, is_nil}
use Rattle.leaf_list.specs.Trie.{Trie, write, leaf, zero_only, one_only, fork}
use Rattle.leaf_list.proofs.Bits.{zero_bits_length}
use Rattle.leaf_list.proofs.Paths.{bit_of_within, set_bit_within, take_path, bit_of_here, set_bit_here, path_agrees}
use Rattle.leaf_list.proofs.Tries.{EachLeaf, Branching, Pruned, Sized, AtLeaf, at_branching, at_leaf}

-- What the pointer of an entry of depth d is asked, after the discriminator D and the depth τ.
abbrev pub PointerFits : (ℕ → Key) → (ℕ → Bool) → Key → ℕ → ℕ → Option ℕ → Type 0
PointerFits key_of used D τ d none = τ ≢ 0 → τ < d
PointerFits key_of used D τ d (some r) = (used r ≡ true) × (take (max τ d) (key_of r) ≡ take (max τ d) D)

-- The entries from here on fit, and the depth 0 is their last; dummy says that the entry before is one.
abbrev pub Fitting : ℕ → (ℕ → Key) → (ℕ → Bool) → Key → ℕ → Bool → List Entry → Type 0
Fitting w key_of used D τ dummy [] = ⊥
Fitting w key_of used D τ dummy (entry zero p ∷ rest) = (rest ≡ []) × (dummy ≡ false) × PointerFits key_of used D τ zero p
Fitting w key_of used D τ dummy (entry (suc d) p ∷ rest) =
    (suc d ≤ w) × (bit_of (suc d) D ≡ false) × (dummy ≡ true → τ < suc d) × PointerFits key_of used D τ (suc d) p × Fitting w key_of used
    (set_bit (suc d) D) (suc d) (is_nil p) rest

-- The records of the trie are in use and have the keys that it says.
abbrev pub RecordsFit : (ℕ → Key) → (ℕ → Bool) → Key → Trie → Type 0
RecordsFit key_of used = EachLeaf (λ u k r. (used r ≡ true) × (key_of r ≡ reverse_aux u k))

-- A leaf fits after the depth τ, closed by c at the node's depth l.
abbrev pub LeafFits : ℕ → ℕ → ℕ → Bool → Type 0
LeafFits τ c l dummy = (max τ c ≡ l) × (dummy ≡ true → τ < c)

-- The first entry is deeper than l.
abbrev pub StartsDeeper : ℕ → List Entry → Type 0
StartsDeeper l [] = ⊥
StartsDeeper l (entry d p ∷ rest) = l < d

-- A node of depth l starts here, after the depth τ.
abbrev pub Opens : ℕ → ℕ → List Entry → Type 0
Opens l τ [] = ⊥
Opens l τ (entry d none ∷ rest) = l < d
Opens l τ (entry d (some r) ∷ rest) = l ≤ max τ d

-- A node that starts deeper than the depth that closes it branches.
pub branching_deeper : (t : Trie) (l l' c : ℕ) (rest : List Entry) → c ≤ l → StartsDeeper l (write l' t c rest) → Branching t
branching_deeper (leaf k r) l l' c rest h q = absurd (omega arith)
branching_deeper (zero_only t) l l' c rest h q = tt
branching_deeper (one_only t) l l' c rest h q = tt
branching_deeper (fork a b) l l' c rest h q = tt

-- What is not true is false.
pub not_then_false : (b : Bool) → (b ≡ true → ⊥) → b ≡ false
not_then_false true h = absurd (h refl)
not_then_false false h = refl

module _ (w : ℕ) (key_of : ℕ → Key) (used : ℕ → Bool) where
  -- What is asked after a node with the discriminator D whose last entry has the depth c.
  abbrev pub FittingAfter : Key → ℕ → List Entry → Type 0
  FittingAfter D zero rest = rest ≡ []
  FittingAfter D (suc c) rest = (bit_of (suc c) D ≡ false) × Fitting w key_of used (set_bit (suc c) D) (suc c) false rest

  -- The bits past the path do not count there.
  after_path : (u e e' : Key) (c : ℕ) (rest : List Entry) → length e ≡ length e' → c ≤ length u → FittingAfter (reverse_aux u e) c rest
      → FittingAfter (reverse_aux u e') c rest
  after_path u e e' zero rest l h q = q
  after_path u e e' (suc c) rest l h q = (bit_of_within u e' e c h ∙ q.0, rw (set_bit_within u e' e c (sym l) h) q.1)

  -- A record at its leaf.
  pointer_here : (u k e : Key) (r τ c : ℕ) → max τ c ≡ length u → used r ≡ true → key_of r ≡ reverse_aux u k
      → PointerFits key_of used (reverse_aux u e) τ c (some r)
  pointer_here u k e r τ c h g q = (g, rw (h, q, take_path u k, take_path u e))

  -- The entries of a node fit.
  pub fitting_node : (t : Trie) (u : Key) (n τ c : ℕ) (dummy : Bool) (rest : List Entry)
      → Pruned t → Sized n t → RecordsFit key_of used u t → length u + n ≡ w → c ≤ length u → τ ≤ length u → AtLeaf (LeafFits τ c (length u) dummy) t
      → FittingAfter (reverse_aux u (zero_bits n)) c rest → Fitting w key_of used (reverse_aux u (zero_bits n)) τ dummy (write (length u) t c rest)
  fitting_node (leaf k r) u n τ zero dummy rest g f h e hc hτ s q =
      (q, not_then_false dummy (λ i. omega (arith, s.1 i)), pointer_here u k (zero_bits n) r τ 0 s.0 h.0 h.1)
  fitting_node (leaf k r) u n τ (suc c) dummy rest g f h e hc hτ s q =
      (omega arith, q.0, s.1, pointer_here u k (zero_bits n) r τ (suc c) s.0 h.0 h.1, q.1)
  fitting_node (zero_only t) u zero τ c dummy rest g f h e hc hτ s q = absurd f
  fitting_node (one_only t) u zero τ c dummy rest g f h e hc hτ s q = absurd f
  fitting_node (fork a b) u zero τ c dummy rest g f h e hc hτ s q = absurd f
  fitting_node (zero_only t) u (suc n) τ c dummy rest g f h e hc hτ s q =
      fitting_node t (false ∷ u) n τ c dummy rest g.1 f h (omega arith) (omega arith) (omega arith) (at_branching _ t g.0) q
  fitting_node (one_only t) u (suc n) τ c dummy rest g f h e hc hτ s q = (
    omega arith,
    bit_of_here u false (zero_bits n),
    (λ i. omega arith),
    (λ i. omega arith),
    rw (set_bit_here u false (zero_bits n) n (zero_bits_length n))
        (fitting_node t (true ∷ u) n (suc (length u)) c true rest g.1 f h (omega arith) (omega arith) (omega arith) (at_branching _ t g.0)
        (after_path u (false ∷ zero_bits n) (true ∷ zero_bits n) c rest refl hc q)),
  )
  fitting_node (fork a b) u (suc n) τ c dummy rest g f h e hc hτ s q =
      fitting_node a (false ∷ u) n τ (suc (length u)) dummy (write (suc (length u)) b c rest) g.0 f.0 h.0 (omega arith) (omega arith) (omega arith)
      (at_leaf _ a (omega arith, λ i. omega arith)) (
        bit_of_here u false (zero_bits n),
        rw (set_bit_here u false (zero_bits n) n (zero_bits_length n))
            (fitting_node b (true ∷ u) n (suc (length u)) c false rest g.1 f.1 h.1 (omega arith) (omega arith) (omega arith)
            (at_leaf _ b (omega arith, λ i. absurd (true≢false (sym i)))) (after_path u (false ∷ zero_bits n) (true ∷ zero_bits n) c rest refl hc q)),
      )

  -- A node of n bits, of the path u, read off the entries es: they are its trie's, closed by the depth c, and the rest.
  pub record NodeRead (u : Key) (n : ℕ) (es : List Entry) : Type 0 where
    pub trie : Trie
    pub c : ℕ
    pub rest : List Entry
    pub written : es ≡ write (length u) trie c rest
    pub pruned : Pruned trie
    pub sized : Sized n trie
    pub fit : RecordsFit key_of used u trie
    pub low : c ≤ length u
    pub after : FittingAfter (reverse_aux u (zero_bits n)) c rest

  -- Every node of n bits can be read.
  abbrev pub Reads : ℕ → Type 0
  Reads n = (u : Key) (τ : ℕ) (dummy : Bool) (es : List Entry) → length u + n ≡ w → τ ≤ length u → Opens (length u) τ es
      → Fitting w key_of used (reverse_aux u (zero_bits n)) τ dummy es → NodeRead u n es

  -- After an entry of depth suc l starts a node of that depth.
  opens_one : (D : Key) (l : ℕ) (dummy : Bool) (es : List Entry) → Fitting w key_of used D (suc l) dummy es → Opens (suc l) (suc l) es
  opens_one D l dummy [] s = s
  opens_one D l dummy (entry zero none ∷ rest) s = s.2 (omega arith)
  opens_one D l dummy (entry (suc d) none ∷ rest) s = s.3 (omega arith)
  opens_one D l dummy (entry d (some r) ∷ rest) s = omega arith

  -- After a dummy stands a deeper entry.
  fitting_deeper : (D : Key) (τ : ℕ) (es : List Entry) → Fitting w key_of used D τ true es → StartsDeeper τ es
  fitting_deeper D τ [] s = s
  fitting_deeper D τ (entry zero p ∷ rest) s = absurd (true≢false s.1)
  fitting_deeper D τ (entry (suc d) p ∷ rest) s = s.2 refl

  -- The 1-side is closed by a depth at most the node's.
  closing_depth : (u : Key) (n c : ℕ) (rest : List Entry) → c ≤ suc (length u) → FittingAfter (reverse_aux (true ∷ u) (zero_bits n)) c rest → c ≤ length u
  closing_depth u n zero rest h q = omega arith
  closing_depth u n (suc c) rest h q = go (eqb c (length u)) refl
    where
      go : (b : Bool) → eqb c (length u) ≡ b → suc c ≤ length u
      go true e =
          let set : bit_of (suc c) (reverse_aux u (true ∷ zero_bits n)) ≡ true = rw (eqb-true c (length u) e) (bit_of_here u true (zero_bits n)) in
          absurd (true≢false (sym set ∙ q.0))
      go false e =
          let z : c ≢ length u = eqb-false c (length u) e in
          omega arith

  module _ (lengths : (r : ℕ) → length (key_of r) ≡ w) where
    -- A live entry whose leaf stands at the node.
    read_record : (u : Key) (n τ d r : ℕ) (rest : List Entry) → length u + n ≡ w → τ ≤ length u → d ≤ length u → length u ≤ max τ d
        → PointerFits key_of used (reverse_aux u (zero_bits n)) τ d (some r) → FittingAfter (reverse_aux u (zero_bits n)) d rest
        → NodeRead u n (entry d (some r) ∷ rest)
    read_record u n τ d r rest e hτ hd hm f q =
        let z : max τ d ≡ length u = omega arith in
        record {
          trie = leaf (drop (length u) (key_of r)) r;
          c = d;
          rest = rest;
          written = refl;
          pruned = tt;
          sized = length-drop (length u) (key_of r) ∙ omega (arith, lengths r);
          fit = (f.0, path_agrees u (zero_bits n) (key_of r) (rw z at f.1));
          low = hd;
          after = q;
        }

    -- An entry no deeper than the node is its only one.
    read_leaf : (u : Key) (n τ d : ℕ) (dummy : Bool) (p : Option ℕ) (rest : List Entry) → length u + n ≡ w → τ ≤ length u → d ≤ length u
        → Opens (length u) τ (entry d p ∷ rest)
        → Fitting w key_of used (reverse_aux u (zero_bits n)) τ dummy (entry d p ∷ rest) → NodeRead u n (entry d p ∷ rest)
    read_leaf u n τ d dummy none rest e hτ hd o s = absurd (omega arith)
    read_leaf u n τ zero dummy (some r) rest e hτ hd o s = read_record u n τ 0 r rest e hτ hd o s.2 s.0
    read_leaf u n τ (suc d) dummy (some r) rest e hτ hd o s = read_record u n τ (suc d) r rest e hτ hd o s.3 (s.1, s.4)

    -- A dummy of the next depth: all keys go on with 1.
    read_one_only : (n : ℕ) → Reads n → (u : Key) (τ : ℕ) (dummy : Bool) (rest : List Entry) → length u + suc n ≡ w → τ ≤ length u
        → Fitting w key_of used (reverse_aux u (zero_bits (suc n))) τ dummy (entry (suc (length u)) none ∷ rest)
        → NodeRead u (suc n) (entry (suc (length u)) none ∷ rest)
    read_one_only n ih u τ dummy rest e hτ s =
        go (ih (true ∷ u) (suc (length u)) true rest (omega arith) (omega arith) (opens_one (reverse_aux (true ∷ u) (zero_bits n)) (length u) true rest s') s')
      where
        s' : Fitting w key_of used (reverse_aux (true ∷ u) (zero_bits n)) (suc (length u)) true rest
        s' = rw (set_bit_here u false (zero_bits n) n (zero_bits_length n)) at s.4

        go : NodeRead (true ∷ u) n rest → NodeRead u (suc n) (entry (suc (length u)) none ∷ rest)
        go N =
            let h : N.c ≤ length u = closing_depth u n N.c N.rest N.low N.after in
            let deep : StartsDeeper (suc (length u)) rest = fitting_deeper (reverse_aux (true ∷ u) (zero_bits n)) (suc (length u)) rest s' in
            record {
              trie = one_only N.trie;
              c = N.c;
              rest = N.rest;
              written = ap (λ (x : List Entry). entry (suc (length u)) none ∷ x) N.written;
              pruned = (
                branching_deeper N.trie (suc (length u)) (suc (length u)) N.c N.rest N.low
                    (subst (StartsDeeper (suc (length u))) N.written deep),
                N.pruned,
              );
              sized = N.sized;
              fit = N.fit;
              low = h;
              after = after_path u (true ∷ zero_bits n) (false ∷ zero_bits n) N.c N.rest refl h N.after;
            }

    -- A node whose first entry is deeper than it, and no dummy of the next depth: the 0-side first.
    read_zero_side : (n : ℕ) → Reads n → (u : Key) (τ : ℕ) (dummy : Bool) (es : List Entry)
        → length u + suc n ≡ w → τ ≤ length u → Opens (suc (length u)) τ es → StartsDeeper (length u) es
        → Fitting w key_of used (reverse_aux u (zero_bits (suc n))) τ dummy es → NodeRead u (suc n) es
    read_zero_side n ih u τ dummy es e hτ o q s = go (ih (false ∷ u) τ dummy es (omega arith) (omega arith) o s)
      where
        both : (N : NodeRead (false ∷ u) n es) → N.c ≡ suc (length u) → NodeRead (true ∷ u) n N.rest → NodeRead u (suc n) es
        both N z M =
            let h : M.c ≤ length u = closing_depth u n M.c M.rest M.low M.after in
            record {
              trie = fork N.trie M.trie;
              c = M.c;
              rest = M.rest;
              written = N.written ∙ ap₂ (write (suc (length u)) N.trie) z M.written;
              pruned = (N.pruned, M.pruned);
              sized = (N.sized, M.sized);
              fit = (N.fit, M.fit);
              low = h;
              after = after_path u (true ∷ zero_bits n) (false ∷ zero_bits n) M.c M.rest refl h M.after;
            }

        one_side_lem : (N : NodeRead (false ∷ u) n es) → N.c ≡ suc (length u)
            → Fitting w key_of used (reverse_aux (true ∷ u) (zero_bits n)) (suc (length u)) false N.rest
        one_side_lem N z =
            let y : FittingAfter (reverse_aux (false ∷ u) (zero_bits n)) (suc (length u)) N.rest = rw z at N.after in
            rw (set_bit_here u false (zero_bits n) n (zero_bits_length n)) at y.1

        side : (N : NodeRead (false ∷ u) n es) (b : Bool) → leb N.c (length u) ≡ b → NodeRead u (suc n) es
        side N true z =
            let h : N.c ≤ length u = leb-true N.c (length u) z in
            record {
              trie = zero_only N.trie;
              c = N.c;
              rest = N.rest;
              written = N.written;
              pruned = (branching_deeper N.trie (length u) (suc (length u)) N.c N.rest h (subst (StartsDeeper (length u)) N.written q), N.pruned);
              sized = N.sized;
              fit = N.fit;
              low = h;
              after = N.after;
            }
        side N false z =
            let h : N.c ≡ suc (length u) = omega (arith, leb-false N.c (length u) z, N.low) in
            let s' = one_side_lem N h in
            both N h
            (ih (true ∷ u) (suc (length u)) false N.rest (omega arith) (omega arith) (opens_one (reverse_aux (true ∷ u) (zero_bits n)) (length u) false N.rest s') s')

        go : NodeRead (false ∷ u) n es → NodeRead u (suc n) es
        go N = side N (leb N.c (length u)) refl

    -- A node whose first entry is deeper than it.
    read_deeper : (n : ℕ) → Reads n → (u : Key) (τ d : ℕ) (dummy : Bool) (p : Option ℕ) (rest : List Entry) → length u + suc n ≡ w → τ ≤ length u → length u < d
        → Fitting w key_of used (reverse_aux u (zero_bits (suc n))) τ dummy (entry d p ∷ rest) → NodeRead u (suc n) (entry d p ∷ rest)
    read_deeper n ih u τ d dummy (some r) rest e hτ h s = read_zero_side n ih u τ dummy (entry d (some r) ∷ rest) e hτ (omega arith) h s
    read_deeper n ih u τ d dummy none rest e hτ h s = go (eqb d (suc (length u))) refl
      where
        go : (b : Bool) → eqb d (suc (length u)) ≡ b → NodeRead u (suc n) (entry d none ∷ rest)
        go true z =
            let y : d ≡ suc (length u) = eqb-true d (suc (length u)) z in
            rw y (read_one_only n ih u τ dummy rest e hτ (rw y at s))
        go false z =
            let y : d ≢ suc (length u) = eqb-false d (suc (length u)) z in
            read_zero_side n ih u τ dummy (entry d none ∷ rest) e hτ (omega arith) h s

    -- No depth is above w.
    fitting_depth : (D : Key) (τ d : ℕ) (dummy : Bool) (p : Option ℕ) (rest : List Entry) → Fitting w key_of used D τ dummy (entry d p ∷ rest) → d ≤ w
    fitting_depth D τ zero dummy p rest s = omega arith
    fitting_depth D τ (suc d) dummy p rest s = s.0

    -- With no bits left stands a leaf.
    read_no_bits : Reads zero
    read_no_bits u τ dummy [] e hτ o s = absurd o
    read_no_bits u τ dummy (entry d p ∷ rest) e hτ o s =
        read_leaf u zero τ d dummy p rest e hτ (omega (arith, fitting_depth (reverse_aux u []) τ d dummy p rest s)) o s

    -- One bit more.
    read_bit : (n : ℕ) → Reads n → Reads (suc n)
    read_bit n ih u τ dummy [] e hτ o s = absurd o
    read_bit n ih u τ dummy (entry d p ∷ rest) e hτ o s = go (leb d (length u)) refl
      where
        go : (b : Bool) → leb d (length u) ≡ b → NodeRead u (suc n) (entry d p ∷ rest)
        go true z = read_leaf u (suc n) τ d dummy p rest e hτ (leb-true d (length u) z) o s
        go false z = read_deeper n ih u τ d dummy p rest e hτ (leb-false d (length u) z) s

    -- Entries that fit are those of a node, and the rest.
    pub read_node : (n : ℕ) → Reads n
    read_node zero = read_no_bits
    read_node (suc n) = read_bit n (read_node n)
