-- The depths of a written trie: those of a node but its last are deeper than the node. Assumes nothing.
use mathlib.Core.Path.{◌≡◌, refl, ap, ◌∙◌, sym}
use mathlib.Core.Logic.{◌≢◌}
use mathlib.Core.Bool.{true, true≢false}
use mathlib.Core.Option.{none, some, Option}
use mathlib.Core.List.{List, [], ◌∷◌, ◌++◌, append_assoc}
use Prim.Native.Nat.{ℕ, suc, ◌<◌, ◌≤◌, ◌+◌, zero}
use native.Mathlib.Omega.{arith}
use Rattle.leaf_list.specs.Entries.{Entry, entry, depth_of, is_nil, pointer_of}
use Rattle.leaf_list.specs.Depths.{DepthsWithin}
use Rattle.leaf_list.specs.Trie.{Trie, leaf, zero_only, one_only, fork, write, write_all}
use Rattle.leaf_list.proofs.Lists.{All, all_weaker, all_append}
use Rattle.leaf_list.proofs.Tries.{last_record, Sized, Given, Pruned, AtLeaf, at_branching, at_leaf, leaf_or_branching}

-- The entries of a node but its last.
abbrev pub front_of : ℕ → Trie → List Entry
front_of l (leaf k r) = []
front_of l (zero_only t) = front_of (suc l) t
front_of l (one_only t) = entry (suc l) none ∷ front_of (suc l) t
front_of l (fork a b) = front_of (suc l) a ++ entry (suc l) (some (last_record a)) ∷ front_of (suc l) b

-- Every entry is deeper than l.
abbrev pub Deeper : ℕ → List Entry → Type 0
Deeper l = All (λ e. l < depth_of e)

-- Deeper than less.
pub deeper_less : (l : ℕ) (es : List Entry) → Deeper (suc l) es → Deeper l es
deeper_less l es h = all_weaker (λ e. suc l < depth_of e) (λ e. l < depth_of e) es (λ e g. omega arith) h

-- The entries of a node are its front and the closing one.
pub write_front : (t : Trie) (l c : ℕ) (rest : List Entry) → write l t c rest ≡ front_of l t ++ entry c (some (last_record t)) ∷ rest
write_front (leaf k r) l c rest = refl
write_front (zero_only t) l c rest = write_front t (suc l) c rest
write_front (one_only t) l c rest = ap (λ (x : List Entry). entry (suc l) none ∷ x) (write_front t (suc l) c rest)
write_front (fork a b) l c rest = write_front a (suc l) (suc l) (write (suc l) b c rest) ∙ rw (write_front b (suc l) c rest, append_assoc)

-- All entries of a node but its last are deeper than the node.
pub front_deeper : (t : Trie) (l : ℕ) → Deeper l (front_of l t)
front_deeper (leaf k r) l = tt
front_deeper (zero_only t) l = deeper_less l (front_of (suc l) t) (front_deeper t (suc l))
front_deeper (one_only t) l = (omega arith, deeper_less l (front_of (suc l) t) (front_deeper t (suc l)))
front_deeper (fork a b) l =
    all_append (λ e. l < depth_of e) (front_of (suc l) a) (entry (suc l) (some (last_record a)) ∷ front_of (suc l) b)
    (deeper_less l (front_of (suc l) a) (front_deeper a (suc l)))
    (omega arith, deeper_less l (front_of (suc l) b) (front_deeper b (suc l)))

-- The depths of a node of n bits at depth l.
pub depths_within_write : (t : Trie) (n w l c : ℕ) (rest : List Entry) → Sized n t → l + n ≤ w → c ≤ w → DepthsWithin w rest → DepthsWithin w (write l t c rest)
depths_within_write (leaf k r) n w l c rest f h hc h_r = (hc, h_r)
depths_within_write (zero_only t) zero w l c rest f h hc h_r = absurd f
depths_within_write (one_only t) zero w l c rest f h hc h_r = absurd f
depths_within_write (fork a b) zero w l c rest f h hc h_r = absurd f
depths_within_write (zero_only t) (suc n) w l c rest f h hc h_r = depths_within_write t n w (suc l) c rest f (omega arith) hc h_r
depths_within_write (one_only t) (suc n) w l c rest f h hc h_r = (omega arith, depths_within_write t n w (suc l) c rest f (omega arith) hc h_r)
depths_within_write (fork a b) (suc n) w l c rest f h hc h_r =
    depths_within_write a n w (suc l) (suc l) (write (suc l) b c rest) f.0 (omega arith) (omega arith)
    (depths_within_write b n w (suc l) c rest f.1 (omega arith) hc h_r)

-- The depths of a whole trie.
pub depths_within_write_all : (n : ℕ) (o : Option Trie) → Given (Sized n) o → DepthsWithin n (write_all o)
depths_within_write_all n none f = (omega arith, tt)
depths_within_write_all n (some t) f = depths_within_write t n n 0 0 [] f (omega arith) (omega arith) tt

-- A row of things with a depth is closed by c: its last depth is c, and all others are above c.
module _ {A : Type 0} (depth : A → ℕ) where
  abbrev pub Closed : ℕ → List A → Type 0
  Closed c [] = ⊥
  Closed c (x ∷ []) = depth x ≡ c
  Closed c (x ∷ y ∷ xs) = (c < depth x) × Closed c (y ∷ xs)

  -- One more in front.
  pub closed_cons : (c : ℕ) (x : A) (xs : List A) → c < depth x → Closed c xs → Closed c (x ∷ xs)
  closed_cons c x [] h g = absurd g
  closed_cons c x (y ∷ xs) h g = (h, g)

-- The entries of a node before a closed row.
pub closed_write : (t : Trie) (l b c : ℕ) (rest : List Entry) → b ≤ l → Closed depth_of b (entry c (some (last_record t)) ∷ rest)
    → Closed depth_of b (write l t c rest)
closed_write (leaf k r) l b c rest h g = g
closed_write (zero_only t) l b c rest h g = closed_write t (suc l) b c rest (omega arith) g
closed_write (one_only t) l b c rest h g =
    closed_cons depth_of b (entry (suc l) none) (write (suc l) t c rest) (omega arith) (closed_write t (suc l) b c rest (omega arith) g)
closed_write (fork a d) l b c rest h g =
    closed_write a (suc l) b (suc l) (write (suc l) d c rest) (omega arith)
    (closed_cons depth_of b (entry (suc l) (some (last_record a))) (write (suc l) d c rest) (omega arith) (closed_write d (suc l) b c rest (omega arith) g))

-- "a last depth 0 closes the list": no other is 0.
pub closed_write_all : (o : Option Trie) → Closed depth_of 0 (write_all o)
closed_write_all none = refl
closed_write_all (some t) = closed_write t 0 0 0 [] (omega arith) refl

-- Two entries that stand side by side: the depths differ, and where one is a dummy the second is deeper.
pub record Beside (e f : Entry) : Type 0 where
  pub differ : depth_of e ≢ depth_of f
  pub after_dummy : is_nil (pointer_of e) ≡ true → depth_of e < depth_of f
  pub before_dummy : is_nil (pointer_of f) ≡ true → depth_of e < depth_of f

-- So for all neighbours of a list.
abbrev pub Neighbours : List Entry → Type 0
Neighbours [] = Unit {0}
Neighbours (e ∷ []) = Unit {0}
Neighbours (e ∷ f ∷ es) = Beside e f × Neighbours (f ∷ es)

-- A deeper entry may follow any.
pub beside_deeper : (e f : Entry) → depth_of e < depth_of f → Beside e f
beside_deeper e f h = record { differ = omega arith; after_dummy = λ i. h; before_dummy = λ i. h }

-- The neighbours in the entries of a node, after an entry of depth τ.
pub neighbours_write : (t : Trie) (l c τ : ℕ) (p : Option ℕ) (rest : List Entry) → Pruned t → c ≤ l → τ ≤ l → AtLeaf ((τ ≢ c) × (is_nil p ≡ true → τ < c)) t
    → Neighbours (entry c (some (last_record t)) ∷ rest) → Neighbours (entry τ p ∷ write l t c rest)
neighbours_write (leaf k r) l c τ p rest g hc hτ m n = (record { differ = m.0; after_dummy = m.1; before_dummy = λ i. absurd (true≢false (sym i)) }, n)
neighbours_write (zero_only t) l c τ p rest g hc hτ m n =
    neighbours_write t (suc l) c τ p rest g.1 (omega arith) (omega arith) (at_branching _ t g.0) n
neighbours_write (one_only t) l c τ p rest g hc hτ m n = (
  beside_deeper (entry τ p) (entry (suc l) none) (omega arith),
  neighbours_write t (suc l) c (suc l) none rest g.1 (omega arith) (omega arith) (at_branching _ t g.0) n,
)
neighbours_write (fork a b) l c τ p rest g hc hτ m n =
    neighbours_write a (suc l) (suc l) τ p (write (suc l) b c rest) g.0 (omega arith) (omega arith) (at_leaf _ a (omega arith, λ i. omega arith))
    (neighbours_write b (suc l) c (suc l) (some (last_record a)) rest g.1 (omega arith) (omega arith) (at_leaf _ b (omega arith, λ i. absurd (true≢false (sym i)))) n)

-- The neighbours of a list without its first entry.
pub neighbours_tail : (e : Entry) (es : List Entry) → Neighbours (e ∷ es) → Neighbours es
neighbours_tail e [] n = tt
neighbours_tail e (f ∷ es) n = n.1

-- The neighbours in the entries of a whole trie; a sole entry has none.
pub neighbours_write_all : (o : Option Trie) → Given Pruned o → Neighbours (write_all o)
neighbours_write_all none g = tt
neighbours_write_all (some t) g =
    leaf_or_branching (λ t. Pruned t → Neighbours (write 0 t 0 [])) (λ k r g. tt)
    (λ t m g. neighbours_tail (entry 0 none) (write 0 t 0 []) (neighbours_write t 0 0 0 none [] g (omega arith) (omega arith) (at_branching _ t m) tt)) t g
